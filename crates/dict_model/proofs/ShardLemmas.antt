-- A shard of an image has one map or one first bad place, where each word leads to one block and null to none.
use Rattle.std.proofs.Common.{◌≡◌, ◌≢◌, ℕ, ◌+◌, ◌*◌, ◌<◌, ◌⊎◌, inl, inr, List, [], ◌∷◌, None, Some, cond, refl, ap, subst, sym, ◌∙◌, arith}
use Rattle.std.specs.Prelude.{nat_eq, ◌/◌}
use Rattle.std.proofs.Math.Nat.{mod-lt}
use Rattle.std.proofs.lemmas.Bool.{cond-true, cond-false, ne_eqb, eq-eqb, cases_order}
use Rattle.heap_model.specs.declared.block.Block.{Block}
use Rattle.heap_model.specs.Image.{Image}
use Rattle.heap_model.specs.Geometry.{root_word}
use Rattle.heap_model.specs.Pointers.{Leads}
use Rattle.heap_model.proofs.ReachLemmas.{one_block, not_null}
use Rattle.dict_model.specs.Nodes.{buckets, shard_of, bucket_of, key_in, value_in, find}
use Rattle.dict_model.specs.Shards.{Map, Leading, link_behind, IsPath, IsBucketChain, HasTable, HasChains, but, map_of, IsMap, is_empty, has_table, LeadsAstray, IsNext, IsBadAt, at_root, at_link, LeadsOnce, LeadsAlone, MapOf, BadShard, at_kind, in_table}

-- a key is found in the first node if that has it, and else behind
pub find_first : (image : Image) (key : ℕ) (b : Block) (bs : List Block) → key_in image b ≡ key → find image key (b ∷ bs) ≡ Some (value_in image b)
find_first image key b bs is = cond-true (nat_eq (key_in image b) key) (Some (value_in image b)) (find image key bs) (eq-eqb (key_in image b) key is)

pub find_behind : (image : Image) (key : ℕ) (b : Block) (bs : List Block) → key_in image b ≢ key → find image key (b ∷ bs) ≡ find image key bs
find_behind image key b bs other = cond-false (nat_eq (key_in image b) key) (Some (value_in image b)) (find image key bs)
    (ne_eqb (key_in image b) key other)

-- a key that no node has isn't the first one's, and no node behind has it
pub not_first : (image : Image) (key : ℕ) (b : Block) (bs : List Block) → find image key (b ∷ bs) ≡ None → key_in image b ≢ key
not_first image key b bs none is = let e : Some (value_in image b) ≡ None = sym (find_first image key b bs is) ∙ none in absurd (cc)

pub not_behind : (image : Image) (key : ℕ) (b : Block) (bs : List Block) → find image key (b ∷ bs) ≡ None → find image key bs ≡ None
not_behind image key b bs none = sym (find_behind image key b bs (not_first image key b bs none)) ∙ none

module _ (leads : Leading) (once : LeadsOnce leads) (image : Image) (shard bucket : ℕ) where
  -- the node behind `bs` on the path, if there is one: its key is none of those that the path hasn't
  record Follows (at : ℕ) (bs ys : List Block) : Type 0 where
    next : Block
    leads_there : leads (image (link_behind at bs)) next
    is_next : IsNext image shard bucket bs next
    own : (key : ℕ) → find image key ys ≡ None → key_in image next ≢ key

  -- of two paths from one link, they are one, or one goes on where the other ends
  compare : (at : ℕ) (bs ys : List Block) → IsPath leads image shard bucket at bs → IsPath leads image shard bucket at ys
      → (bs ≡ ys) ⊎ (Follows at bs ys ⊎ Follows at ys bs)
  compare at [] [] p q = inl refl
  compare at [] (y ∷ ys) p q = inr (inl (record {
    next = y;
    leads_there = q.0;
    is_next = record { node = q.1; new = refl };
    own = λ key none. not_first image key y ys none;
  }))
  compare at (b ∷ bs) [] p q = inr (inr (record {
    next = b;
    leads_there = p.0;
    is_next = record { node = p.1; new = refl };
    own = λ key none. not_first image key b bs none;
  }))
  compare at (b ∷ bs) (y ∷ ys) p q =
      let same : b ≡ y = once.one (image at) b y p.0 q.0 in
      let rest : IsPath leads image shard bucket b.first_word ys = subst (λ (x : Block). IsPath leads image shard bucket x.first_word ys)
      (sym same) q.3 in
      let own_b = p.2 in
      let own_y : find image (key_in image b) ys ≡ None = subst (λ (x : Block). find image (key_in image x) ys ≡ None) (sym same) q.2 in
      elim (compare b.first_word bs ys p.3 rest) as (λ _. ((b ∷ bs) ≡ (y ∷ ys)) ⊎ (Follows at (b ∷ bs) (y ∷ ys) ⊎ Follows at (y ∷ ys) (b ∷ bs))) [
        | inl one ↦ inl (cc)
        | inr two ↦ elim two as (λ _. ((b ∷ bs) ≡ (y ∷ ys)) ⊎ (Follows at (b ∷ bs) (y ∷ ys) ⊎ Follows at (y ∷ ys) (b ∷ bs))) [
          | inl f ↦ inr (inl (further b y bs ys same own_y f))
          | inr f ↦ inr (inr (subst (λ (x : Block). Follows at (x ∷ ys) (b ∷ bs)) same (further b b ys bs refl own_b f)))
        ]
      ] where
        further : (b y : Block) (bs ys : List Block) → b ≡ y → find image (key_in image b) ys ≡ None → Follows b.first_word bs ys
            → Follows at (b ∷ bs) (y ∷ ys)
        further b y bs ys same none f = record {
          next = f.next;
          leads_there = f.leads_there;
          is_next = record {
            node = f.is_next.node;
            new = find_behind image (key_in image f.next) b bs (λ e. f.own (key_in image b) none (sym e)) ∙ f.is_next.new;
          };
          own = λ key missing. f.own key (not_behind image key y ys missing);
        }

  -- a chain is the only one
  pub one_chain : (at : ℕ) (bs ys : List Block) → IsBucketChain leads image shard bucket at bs → IsBucketChain leads image shard bucket at ys → bs ≡ ys
  one_chain at bs ys p q = elim (compare at bs ys p.path q.path) as (λ _. bs ≡ ys) [
    | inl one ↦ one
    | inr two ↦ elim two as (λ _. bs ≡ ys) [
      | inl f ↦ absurd (once.null f.next (subst (λ w. leads w f.next) p.ends f.leads_there))
      | inr f ↦ absurd (once.null f.next (subst (λ w. leads w f.next) q.ends f.leads_there))
    ]
  ]

  -- where a path leads astray there is no chain
  pub no_chain : (at : ℕ) (bs ys : List Block) → IsPath leads image shard bucket at bs
      → LeadsAstray leads (IsNext image shard bucket bs) (image (link_behind at bs)) → IsBucketChain leads image shard bucket at ys → ⊥
  no_chain at bs ys p astray q = elim (compare at bs ys p q.path) as (λ _. ⊥) [
    | inl one ↦ astray.not_null (subst (λ (xs : List Block). image (link_behind at xs) ≡ 0) (sym one) q.ends)
    | inr two ↦ elim two as (λ _. ⊥) [
      | inl f ↦ astray.nowhere f.next f.leads_there f.is_next
      | inr f ↦ once.null f.next (subst (λ w. leads w f.next) q.ends f.leads_there)
    ]
  ]

  -- two paths that lead astray are one
  pub one_astray : (at : ℕ) (bs ys : List Block) → IsPath leads image shard bucket at bs → IsPath leads image shard bucket at ys
      → LeadsAstray leads (IsNext image shard bucket bs) (image (link_behind at bs))
      → LeadsAstray leads (IsNext image shard bucket ys) (image (link_behind at ys)) → bs ≡ ys
  one_astray at bs ys p q a b = elim (compare at bs ys p q) as (λ _. bs ≡ ys) [
    | inl one ↦ one
    | inr two ↦ elim two as (λ _. bs ≡ ys) [
      | inl f ↦ absurd (a.nowhere f.next f.leads_there f.is_next)
      | inr f ↦ absurd (b.nowhere f.next f.leads_there f.is_next)
    ]
  ]

-- a table apart, each word still leads to one block
but_once : (leads : Leading) (table : Block) → LeadsOnce leads → LeadsOnce (but table leads)
but_once leads table once = record { one = λ word a b p q. once.one word a b p.0 q.0; null = λ b p. once.null b p.0 }

module _ (leads : Leading) (once : LeadsOnce leads) (image : Image) (shard : ℕ) where
  not_empty : (table : Block) → HasTable leads image shard table → image (root_word shard) ≡ 0 → ⊥
  not_empty table there null = once.null table (subst (λ w. leads w table) null there.leads_there)

  one_table : (a b : Block) → HasTable leads image shard a → HasTable leads image shard b → a ≡ b
  one_table a b p q = once.one (image (root_word shard)) a b p.leads_there q.leads_there

  -- chains of one table
  moved : (a b : Block) (limit : ℕ) (nodes : ℕ → List Block) → a ≡ b → HasChains leads image shard a limit nodes
      → HasChains leads image shard b limit nodes
  moved a b limit nodes same chains = subst (λ (t : Block). HasChains leads image shard t limit nodes) same chains

  same_maps : (table : Block) (nodes others : ℕ → List Block) → HasChains leads image shard table buckets nodes
      → HasChains leads image shard table buckets others
      → (key : ℕ) → map_of image shard nodes key ≡ map_of image shard others key
  same_maps table nodes others p q key =
      let below : bucket_of key < buckets = mod-lt (key / 8) (omega arith) in
      let same : nodes (bucket_of key) ≡ others (bucket_of key) =
      one_chain (but table leads) (but_once leads table once) image shard (bucket_of key) (table.first_word + bucket_of key)
      (nodes (bucket_of key)) (others (bucket_of key))
      (p (bucket_of key) below) (q (bucket_of key) below) in
      ap (λ (bs : List Block). cond (nat_eq (shard_of key) shard) (find image key bs) None) same

  -- a shard is one map
  pub one_map : (a b : Map) → IsMap leads image shard a → IsMap leads image shard b → (key : ℕ) → a key ≡ b key
  one_map a b (is_empty null none) (is_empty null' none') key = none key ∙ sym (none' key)
  one_map a b (is_empty null none) (has_table table nodes there chains means) key = absurd (not_empty table there null)
  one_map a b (has_table table nodes there chains means) (is_empty null none) key = absurd (not_empty table there null)
  one_map a b (has_table table nodes there chains means) (has_table table' nodes' there' chains' means') key =
      means key ∙ same_maps table nodes nodes' chains (moved table' table buckets nodes' (one_table table' table there' there) chains') key
      ∙ sym (means' key)

  no_chain_at : (table : Block) (k : ℕ) (before ys : List Block) → IsPath (but table leads) image shard k (table.first_word + k) before
      → LeadsAstray (but table leads) (IsNext image shard k before) (image (link_behind (table.first_word + k) before))
      → IsBucketChain (but table leads) image shard k (table.first_word + k) ys → ⊥
  no_chain_at table k before ys = no_chain (but table leads) (but_once leads table once) image shard k (table.first_word + k) before ys

  -- a shard that is a map has no bad place
  pub no_bad_place : (map : Map) (at : ℕ) → IsMap leads image shard map → IsBadAt leads image shard at → ⊥
  no_bad_place map at (is_empty null none) (at_root astray) = astray.not_null null
  no_bad_place map at (is_empty null none) (at_link table nodes k _ before there below chains path is astray) = not_empty table there null
  no_bad_place map at (has_table table nodes there chains means) (at_root astray) = astray.nowhere table there.leads_there there.size
  no_bad_place map at (has_table table nodes there chains means) (at_link table' nodes' k _ before there' below chains' path is astray) =
      no_chain_at table' k before (nodes k) path (subst (λ w. LeadsAstray (but table' leads) (IsNext image shard k before) (image w)) is astray)
      (moved table table' buckets nodes (one_table table table' there there') chains k below)

  -- of two bad places in one bucket of one table, and of two in different ones
  one_in_bucket : (table : Block) (k at at' : ℕ) (before before' : List Block) → IsPath (but table leads) image shard k (table.first_word + k) before
      → IsPath (but table leads) image shard k (table.first_word + k) before' → at ≡ link_behind (table.first_word + k) before
      → at' ≡ link_behind (table.first_word + k) before'
      → LeadsAstray (but table leads) (IsNext image shard k before) (image at)
      → LeadsAstray (but table leads) (IsNext image shard k before') (image at') → at ≡ at'
  one_in_bucket table k at at' before before' path path' is is' astray astray' =
      is ∙ ap (link_behind (table.first_word + k))
      (one_astray (but table leads) (but_once leads table once) image shard k (table.first_word + k) before before' path path'
      (subst (λ w. LeadsAstray (but table leads) (IsNext image shard k before) (image w)) is astray)
      (subst (λ w. LeadsAstray (but table leads) (IsNext image shard k before') (image w)) is' astray'))
      ∙ sym is'

  one_of_table : (table : Block) (nodes nodes' : ℕ → List Block) (k k' at at' : ℕ) (before before' : List Block)
      → k < buckets → k' < buckets → HasChains leads image shard table k nodes → HasChains leads image shard table k' nodes'
      → IsPath (but table leads) image shard k (table.first_word + k) before → IsPath (but table leads) image shard k' (table.first_word + k') before'
      → at ≡ link_behind (table.first_word + k) before → at' ≡ link_behind (table.first_word + k') before'
      → LeadsAstray (but table leads) (IsNext image shard k before) (image at)
      → LeadsAstray (but table leads) (IsNext image shard k' before') (image at') → at ≡ at'
  one_of_table table nodes nodes' k k' at at' before before' below below' chains chains' path path' is is' astray astray' =
      elim (cases_order k k') as (λ _. at ≡ at') [
        | inl same ↦ one_in_bucket table k at at' before before' path
            (subst (λ j. IsPath (but table leads) image shard j (table.first_word + j) before') (sym same) path') is
            (subst (λ j. at' ≡ link_behind (table.first_word + j) before') (sym same) is') astray
            (subst (λ j. LeadsAstray (but table leads) (IsNext image shard j before') (image at')) (sym same) astray')
        | inr two ↦ elim two as (λ _. at ≡ at') [
          | inl less ↦ absurd (no_chain_at table k before (nodes' k) path
              (subst (λ w. LeadsAstray (but table leads) (IsNext image shard k before) (image w)) is astray) (chains' k less))
          | inr more ↦ absurd (no_chain_at table k' before' (nodes k') path'
              (subst (λ w. LeadsAstray (but table leads) (IsNext image shard k' before') (image w)) is' astray') (chains k' more))
        ]
      ]

  -- a shard has one first bad place
  pub one_bad_place : (at at' : ℕ) → IsBadAt leads image shard at → IsBadAt leads image shard at' → at ≡ at'
  one_bad_place _ _ (at_root astray) (at_root astray') = refl
  one_bad_place _ at' (at_root astray) (at_link table nodes k _ before there below chains path is astray') =
      absurd (astray.nowhere table there.leads_there there.size)
  one_bad_place at _ (at_link table nodes k _ before there below chains path is astray') (at_root astray) =
      absurd (astray.nowhere table there.leads_there there.size)
  one_bad_place at at' (at_link table nodes k _ before there below chains path is astray)
      (at_link table' nodes' k' _ before' there' below' chains' path' is' astray') =
      let same = one_table table' table there' there in
      one_of_table table nodes nodes' k k' at at' before before' below below' chains (moved table' table k' nodes' same chains') path
      (subst (λ (t : Block). IsPath (but t leads) image shard k' (t.first_word + k') before') same path') is
      (subst (λ (t : Block). at' ≡ link_behind (t.first_word + k') before') same is') astray
      (subst (λ (t : Block). LeadsAstray (but t leads) (IsNext image shard k' before') (image at')) same astray')

-- of an image, each word leads to one block, with or without regard to other roots
pub leads_once : (image : Image) → LeadsOnce (Leads image)
leads_once image = record { one = one_block image; null = λ b leads. not_null 0 (8 * b.first_word) leads.pointer refl }

pub alone_once : (image : Image) (shard : ℕ) → LeadsOnce (LeadsAlone image shard)
alone_once image shard = record {
  one = λ word a b p q. one_block image word a b p.0 q.0;
  null = λ b leads. not_null 0 (8 * b.first_word) leads.0.pointer refl;
}

-- a shard has one map, or one first bad place, and not both
pub one_map_of : (image : Image) (shard : ℕ) (a b : Map) → MapOf image shard a → MapOf image shard b → (key : ℕ) → a key ≡ b key
one_map_of image shard a b is_a is_b = one_map (LeadsAlone image shard) (alone_once image shard) image shard a b is_a.is_map is_b.is_map

pub one_bad_shard : (image : Image) (shard at other : ℕ) → BadShard image shard at → BadShard image shard other → at ≡ other
one_bad_shard image shard _ _ (at_kind not) (at_kind _) = refl
one_bad_shard image shard _ other (at_kind not) (in_table _ kind bad) = absurd (not kind)
one_bad_shard image shard at _ (in_table _ kind bad) (at_kind not) = absurd (not kind)
one_bad_shard image shard at other (in_table _ _ bad) (in_table _ _ too) =
    one_bad_place (LeadsAlone image shard) (alone_once image shard) image shard at other bad too

pub no_bad_shard : (image : Image) (shard at : ℕ) (map : Map) → MapOf image shard map → BadShard image shard at → ⊥
no_bad_shard image shard _ map is (at_kind not) = not is.kind_is
no_bad_shard image shard at map is (in_table _ _ bad) = no_bad_place (LeadsAlone image shard) (alone_once image shard) image shard map at is.is_map bad
