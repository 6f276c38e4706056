-- Chains that are read side by side: which links come next, and what the map has so far.
use Rattle.std.proofs.Common.{◌≡◌, ℕ, ◌+◌, ◌<◌, ◌⊎◌, inl, inr, List, [], ◌∷◌, ◌++◌, None, length, set, Contains, slice_index, refl, sym, subst, ◌∙◌, ap, arith, below_more}
use Rattle.std.specs.BTreeMap.{BTreeMap, get}
use Rattle.std.specs.Ordering.{nat_cmp}
use Rattle.std.proofs.lemmas.Bool.{cases_eq, cond_both}
use Rattle.std.proofs.lemmas.List.{get_or-set_same, get_or-set_other}
use Rattle.std.proofs.lemmas.List.Elements.{Contains-append_left, Contains-push}
use Rattle.std.specs.Prelude.{nat_eq, IsSome}
use Rattle.heap_model.specs.declared.block.Block.{Block}
use Rattle.heap_model.specs.Geometry.{root_word}
use Rattle.heap_model.specs.Image.{Image}
use Rattle.heap_model.proofs.MemberLemmas.{in_none, head_or_rest}
use Rattle.dict_model.specs.Nodes.{buckets, shard_of, key_in, IsNode, find}
use Rattle.dict_model.specs.Shards.{Map, Leading, LeadsOnce, LeadsAstray, HasTable, HasChains, IsPath, IsNext, link_behind, but, map_of, IsMap, is_empty, has_table, at_link}
use Rattle.dict_model.proofs.ShardLemmas.{no_bad_place}
use Rattle.dict_model.proofs.FoundLemmas.{with_same, with_other}
use Rattle.dictionary.specs.Reading.{AddsNode}
use Rattle.dictionary.proofs.WalkLemmas.{path-push, link_behind-push, at_key, further, more_means, no_node, no_new_key}

-- one more bucket begins: its link is the word of the table, and its chain is to be read
pub links_begin : (links : List ℕ) (from b : ℕ) → b < length links → ((k : ℕ) → k < b → slice_index links k ≡ from + k)
    → (k : ℕ) → k < b + 1 → slice_index (set links b (from + b)) k ≡ from + k
links_begin links from b within first = below_more (λ k. slice_index (set links b (from + b)) k ≡ from + k) b
    (λ k below. get_or-set_other links b k (from + b) 0 (λ e. omega arith) ∙ first k below) (get_or-set_same links b (from + b) 0 within)

pub unread_begin : (unread : List ℕ) (b : ℕ) → ((k : ℕ) → k < b → Contains unread k) → (k : ℕ) → k < b + 1 → Contains (unread ++ b ∷ []) k
unread_begin unread b all = below_more (λ k. Contains (unread ++ b ∷ []) k) b (λ k below. Contains-append_left unread (b ∷ []) k (all k below))
    (Contains-push unread b)

-- each link lies in the image, also that of one more node
pub links_inside : (links : List ℕ) (b at total : ℕ) → b < length links → at < total → ((k : ℕ) → k < buckets → slice_index links k < total)
    → (k : ℕ) → k < buckets → slice_index (set links b at) k < total
links_inside links b at total within low inside k below = elim (cases_eq k b) as (λ _. slice_index (set links b at) k < total) [
  | inl same ↦ let is = get_or-set_same links b at 0 within in subst (λ j. slice_index (set links b at) j < total) (sym same) (omega arith)
  | inr apart ↦ let is = get_or-set_other links b k at 0 apart in let was = inside k below in omega arith
]

module _ (leads : Leading) (image : Image) (shard : ℕ) (table : Block) where
  -- a part of each bucket's chain has been read, up to its link, which is null where the bucket is read
  pub record IsMapAlong (links unread : List ℕ) (map : Map) : Type 0 where
    pub nodes : ℕ → List Block
    pub paths : (k : ℕ) → k < buckets → IsPath (but table leads) image shard k (table.first_word + k) (nodes k)
    pub links_are : (k : ℕ) → k < buckets → slice_index links k ≡ link_behind (table.first_word + k) (nodes k)
    pub ended : (k : ℕ) → k < buckets → Contains unread k ⊎ (image (slice_index links k) ≡ 0)
    pub means : (key : ℕ) → map key ≡ map_of image shard nodes key

  -- nothing has been read yet
  pub along_begins : (links unread : List ℕ) (map : Map) → ((k : ℕ) → k < buckets → slice_index links k ≡ table.first_word + k)
      → ((k : ℕ) → k < buckets → Contains unread k) → ((key : ℕ) → map key ≡ None) → IsMapAlong links unread map
  along_begins links unread map first all none = record {
    nodes = λ _. [];
    paths = λ k below. tt;
    links_are = first;
    ended = λ k below. inl (all k below);
    means = λ key. none key ∙ cond_both (nat_eq (shard_of key) shard) None None (λ found. None ≡ found) (λ _. refl) (λ _. refl);
  }

  -- all has been read
  pub along_ends : (links : List ℕ) (map : Map) → HasTable leads image shard table → IsMapAlong links [] map → IsMap leads image shard map
  along_ends links map there along = has_table table along.nodes there
      (λ k below. record {
        path = along.paths k below;
        ends = elim (along.ended k below) as (λ _. image (link_behind (table.first_word + k) (along.nodes k)) ≡ 0) [
          | inl unread ↦ absurd (in_none k unread)
          | inr null ↦ subst (λ at. image at ≡ 0) (along.links_are k below) null
        ];
      })
      along.means

  -- where a link leads to no next node, the shard is no map
  module _ (once : LeadsOnce leads) (b : ℕ) (links unread : List ℕ) (read : Map) (there : HasTable leads image shard table) (below : b < buckets)
      (along : IsMapAlong links unread read) where
    no_next : (map : Map) → LeadsAstray (but table leads) (IsNext image shard b (along.nodes b)) (image (slice_index links b))
        → IsMap leads image shard map → ⊥
    no_next map astray (is_empty null none) = once.null table (subst (λ w. leads w table) null there.leads_there)
    no_next map astray (has_table other nodes found chains means) =
        let same : other ≡ table = once.one (image (root_word shard)) other table found.leads_there there.leads_there in
        no_bad_place leads once image shard map (slice_index links b) (has_table other nodes found chains means)
        (at_link table nodes b (slice_index links b) (along.nodes b) there below
        (λ k low. subst (λ (t : Block). HasChains leads image shard t buckets nodes) same chains k (omega arith))
        (along.paths b below) (along.links_are b below) astray)

    pub astray_no_map : LeadsAstray (but table leads) (IsNode image shard b) (image (slice_index links b)) → (map : Map)
        → IsMap leads image shard map → ⊥
    astray_no_map astray map = no_next map (no_node leads image shard table b (image (slice_index links b)) along.nodes astray)

    pub met_no_map : (node : Block) → but table leads (image (slice_index links b)) node → IsNode image shard b node → IsSome (read (key_in image node))
        → (map : Map) → IsMap leads image shard map → ⊥
    met_no_map node to is met map = no_next map (no_new_key leads image shard table b once
        (image (slice_index links b)) along.nodes read node along.means to is met)

  module _ (b : ℕ) (links unread : List ℕ) where
    -- a chain ends
    pub along_null : (map : Map) → image (slice_index links b) ≡ 0 → IsMapAlong links (b ∷ unread) map → IsMapAlong links unread map
    along_null map null along = record {
      nodes = along.nodes;
      paths = along.paths;
      links_are = along.links_are;
      ended = λ k below. elim (along.ended k below) as (λ _. Contains unread k ⊎ (image (slice_index links k) ≡ 0)) [
        | inl is ↦ elim (head_or_rest b k unread is) as (λ _. Contains unread k ⊎ (image (slice_index links k) ≡ 0)) [
          | inl same ↦ inr (subst (λ j. image (slice_index links j) ≡ 0) same null)
          | inr rest ↦ inl rest
        ]
        | inr ends ↦ inr ends
      ];
      means = along.means;
    }

    -- one more node of a chain
    module _ (old new : BTreeMap ℕ (List ℕ)) (node : Block) (along : IsMapAlong links (b ∷ unread) (get nat_cmp old)) (below : b < buckets)
        (within : b < length links) (to : but table leads (image (slice_index links b)) node) (is : IsNode image shard b node)
        (adds : AddsNode image node old new) where
      abbrev more_nodes : ℕ → List Block
      more_nodes = further leads image shard table b along.nodes node

      none : find image (key_in image node) (along.nodes b) ≡ None
      none = sym (at_key leads image shard table b along.nodes node is) ∙ sym (along.means (key_in image node)) ∙ adds.was_new

      path_at : (k : ℕ) → k < buckets → IsPath (but table leads) image shard k (table.first_word + k) (more_nodes k)
      unfolding further
      path_at k low = elim (cases_eq k b) as (λ _. IsPath (but table leads) image shard k (table.first_word + k) (more_nodes k)) [
        | inl same ↦ subst (λ j. IsPath (but table leads) image shard j (table.first_word + j) (more_nodes j)) (sym same)
            (subst (λ bs. IsPath (but table leads) image shard b (table.first_word + b) bs) (sym (with_same along.nodes b (along.nodes b ++ node ∷ [])))
            (path-push image node (but table leads) shard b (table.first_word + b) (along.nodes b) (along.paths b below)
            (subst (λ at. but table leads (image at) node) (along.links_are b below) to) is none))
        | inr apart ↦ subst (λ bs. IsPath (but table leads) image shard k (table.first_word + k) bs)
            (sym (with_other along.nodes b (along.nodes b ++ node ∷ []) k apart)) (along.paths k low)
      ]

      link_at : (k : ℕ) → k < buckets → slice_index (set links b node.first_word) k ≡ link_behind (table.first_word + k) (more_nodes k)
      unfolding further
      link_at k low = elim (cases_eq k b) as (λ _. slice_index (set links b node.first_word) k ≡ link_behind (table.first_word + k) (more_nodes k)) [
        | inl same ↦ subst (λ j. slice_index (set links b node.first_word) j ≡ link_behind (table.first_word + j) (more_nodes j)) (sym same)
            (get_or-set_same links b node.first_word 0 within ∙ sym (link_behind-push image node (table.first_word + b) (along.nodes b))
            ∙ ap (λ bs. link_behind (table.first_word + b) bs) (sym (with_same along.nodes b (along.nodes b ++ node ∷ []))))
        | inr apart ↦ get_or-set_other links b k node.first_word 0 apart ∙ along.links_are k low
            ∙ ap (λ bs. link_behind (table.first_word + k) bs) (sym (with_other along.nodes b (along.nodes b ++ node ∷ []) k apart))
      ]

      ended_at : (k : ℕ) → k < buckets → Contains (unread ++ b ∷ []) k ⊎ (image (slice_index (set links b node.first_word) k) ≡ 0)
      ended_at k low = elim (cases_eq k b) as (λ _. Contains (unread ++ b ∷ []) k ⊎ (image (slice_index (set links b node.first_word) k) ≡ 0)) [
        | inl same ↦ inl (subst (λ j. Contains (unread ++ b ∷ []) j) (sym same) (Contains-push unread b))
        | inr apart ↦ elim (along.ended k low) as (λ _. Contains (unread ++ b ∷ []) k ⊎ (image (slice_index (set links b node.first_word) k) ≡ 0)) [
          | inl was ↦ elim (head_or_rest b k unread was) as (λ _. Contains (unread ++ b ∷ []) k ⊎
              (image (slice_index (set links b node.first_word) k) ≡ 0)) [
                | inl same ↦ absurd (apart (sym same))
                | inr rest ↦ inl (Contains-append_left unread (b ∷ []) k rest)
              ]
          | inr null ↦ inr (subst (λ at. image at ≡ 0) (sym (get_or-set_other links b k node.first_word 0 apart)) null)
        ]
      ]

      pub along_step : IsMapAlong (set links b node.first_word) (unread ++ b ∷ []) (get nat_cmp new)
      unfolding further
      along_step = record {
        nodes = more_nodes;
        paths = path_at;
        links_are = link_at;
        ended = ended_at;
        means = more_means leads image shard table b along.nodes node old new is none along.means adds.has;
      }
