-- What a shard's root reaches in an image is what its map stands on.
use Rattle.std.proofs.Common.{◌≡◌, ◌≢◌, ℕ, ◌+◌, ◌*◌, ◌<◌, inl, inr, List, [], ◌∷◌, Contains, refl, subst, sym, ◌∙◌, arith}
use Rattle.heap_model.specs.declared.block.Block.{Block}
use Rattle.heap_model.specs.Geometry.{root_word}
use Rattle.heap_model.specs.Image.{Image}
use Rattle.heap_model.specs.Header.{kinds_of}
use Rattle.heap_model.specs.Pointers.{Leads}
use Rattle.heap_model.specs.Reach.{words_in, ReachFrom, by_start, by_link}
use Rattle.heap_model.proofs.ImageLemmas.{length-words_from}
use Rattle.heap_model.proofs.MemberLemmas.{in_none, in_head, in_rest, head_or_rest}
use Rattle.heap_model.proofs.ReachLemmas.{not_null, one_block, closure_least}
use Rattle.dict_model.specs.Links.{shards, table_kind, node_kind, dict_links, IsLink, in_table, in_node}
use Rattle.dict_model.specs.Nodes.{buckets}
use Rattle.dict_model.specs.Shards.{Map, LeadsAlone, MapOf, IsMap, is_empty, has_table, HasTable, HasChains, IsPath, but, link_behind}
use Rattle.dict_model.proofs.ChainLemmas.{in_path}
use Rattle.dict_model.proofs.MapLemmas.{IsUsed, as_table, as_node}
use Rattle.dict_requests.proofs.GrownLemmas.{link_inside, link_to}
use Rattle.dict_model.proofs.LinkLemmas.{link_in_block, link_listed, at_first}

pub block_lists : (image : Image) (a : Block) (from position kind : ℕ) → IsLink from a.words position kind
    → Contains (dict_links from (words_in image a)) (position, kind)
block_lists image a from position kind is = link_listed from a.words position kind is (words_in image a) (length-words_from image a.first_word a.words)

module _ (image : Image) (shard : ℕ) (small : shard < shards) (is_table : kinds_of image shard ≡ table_kind) where
  -- the shard's root reaches the block
  abbrev FromRoot : Block → ℕ → Type 0
  FromRoot b kind = ReachFrom image (λ root. root ≡ shard) (kinds_of image) dict_links b kind

  -- the nodes of a path are reached where what the first link leads to is
  path_reach : (table : Block) (k at : ℕ) (bs : List Block) → ((b : Block) → Contains bs b → 0 < b.words)
      → IsPath (but table (LeadsAlone image shard)) image shard k at bs
      → ((c : Block) → Leads image (image at) c → FromRoot c node_kind) → (b : Block) → Contains bs b → FromRoot b node_kind
  path_reach table k at [] some path start b h = absurd (in_none b h)
  path_reach table k at (c ∷ cs) some path start b h =
      let first = start c path.0.0.0 in
      elim (head_or_rest c b cs h) as (λ _. FromRoot b node_kind) [
        | inl same ↦ subst (λ (x : Block). FromRoot x node_kind) same first
        | inr rest ↦ path_reach table k c.first_word cs (λ d hd. some d (in_rest c d cs hd)) path.3 (λ d leads.
            let at_zero : c.first_word ≡ c.first_word + 0 = omega arith in
            by_link c d node_kind node_kind first (record {
              position = 0;
              listed = block_lists image c node_kind 0 node_kind (in_node c.words (some c (in_head c cs)));
              leads = subst (λ w. Leads image (image w) d) at_zero leads;
            })) b rest
      ]

  root_reached : (table : Block) → HasTable (LeadsAlone image shard) image shard table → FromRoot table (kinds_of image shard)
  root_reached table there = by_start table (kinds_of image shard)
      (record { root = shard; below = omega arith; is_chosen = refl; kind_is = refl; leads = there.leads_there.0 })

  node_some : (table : Block) (k at : ℕ) (bs : List Block) → IsPath (but table (LeadsAlone image shard)) image shard k at bs → (b : Block)
      → Contains bs b → 0 < b.words
  node_some table k at bs path b h =
      let found = in_path (but table (LeadsAlone image shard)) image shard k at bs b path h in
      let fits = found.1.fits in omega arith

  -- what the map stands on is reached
  pub used_in_image : (b : Block) → IsUsed (LeadsAlone image shard) image shard b → (kind : ℕ)
      × ReachFrom image (λ root. root ≡ shard) (kinds_of image) dict_links b kind
  used_in_image b (as_table there) = (kinds_of image shard, root_reached b there)
  used_in_image b (as_node table nodes k there chains below h) = (
    node_kind,
    path_reach table k (table.first_word + k) (nodes k) (node_some table k (table.first_word + k) (nodes k) (chains k below).path) (chains k below).path
        (λ c leads.
        let is : IsLink (kinds_of image shard) table.words k node_kind =
        subst (λ kind. IsLink kind table.words k node_kind) (sym is_table) (in_table table.words k (omega (arith, there.size))) in
        by_link table c (kinds_of image shard) node_kind (root_reached table there)
        (record { position = k; listed = block_lists image table (kinds_of image shard) k node_kind is; leads = leads })) b h,
  )

  -- the link of a chain leads to its first node, and a node to the next
  chain_head : (table : Block) (k at : ℕ) (bs : List Block) → IsPath (but table (LeadsAlone image shard)) image shard k at bs
      → image (link_behind at bs) ≡ 0
      → (b : Block) → Leads image (image at) b → Contains bs b
  chain_head table k at [] path ends b leads = absurd (not_null (image at) (8 * b.first_word) leads.pointer ends)
  chain_head table k at (c ∷ cs) path ends b leads = subst (Contains (c ∷ cs)) (one_block image (image at) c b path.0.0.0 leads) (in_head c cs)

  chain_next : (table : Block) (k at : ℕ) (bs : List Block) → IsPath (but table (LeadsAlone image shard)) image shard k at bs
      → image (link_behind at bs) ≡ 0
      → (a b : Block) → Contains bs a → Leads image (image a.first_word) b → Contains bs b
  chain_next table k at [] path ends a b h leads = absurd (in_none a h)
  chain_next table k at (c ∷ cs) path ends a b h leads = in_rest c b cs (elim (head_or_rest c a cs h) as (λ _. Contains cs b) [
    | inl same ↦ chain_head table k c.first_word cs path.3 ends b (subst (λ (x : Block). Leads image (image x.first_word) b) (sym same) leads)
    | inr rest ↦ chain_next table k c.first_word cs path.3 ends a b rest leads
  ])

  module _ (table : Block) (nodes : ℕ → List Block) (there : HasTable (LeadsAlone image shard) image shard table)
      (chains : HasChains (LeadsAlone image shard) image shard table buckets nodes) where
    -- the table, or a node of a chain
    data IsInMap (b : Block) (kind : ℕ) : Type 0 where
      the_table : b ≡ table → kind ≡ table_kind → IsInMap b kind
      a_node : (k : ℕ) → k < buckets → Contains (nodes k) b → kind ≡ node_kind → IsInMap b kind

    link_on : (a b : Block) (from kind position : ℕ) → IsInMap a from → IsLink from a.words position kind → position < a.words
        → Leads image (image (a.first_word + position)) b → IsInMap b kind
    link_on a b from kind position (the_table same is_table) is inside leads =
        let words : a.words ≡ buckets = subst (λ (x : Block). x.words ≡ buckets) (sym same) there.size in
        let below : position < buckets = omega arith in
        let here = subst (λ (x : Block). Leads image (image (x.first_word + position)) b) same leads in
        a_node position below (chain_head table position (table.first_word + position) (nodes position) (chains position below).path
        (chains position below).ends b here)
        (link_to from a.words position kind is)
    link_on a b from kind position (a_node k below h is_node) is inside leads =
        let at_zero : a.first_word + position ≡ a.first_word = let e = at_first from a.words position kind is is_node in omega arith in
        a_node k below (chain_next table k (table.first_word + k) (nodes k) (chains k below).path (chains k below).ends a b h
        (subst (λ w. Leads image (image w) b) at_zero leads))
        (link_to from a.words position kind is)

    in_map : (b : Block) (kind : ℕ) → ReachFrom image (λ root. root ≡ shard) (kinds_of image) dict_links b kind → IsInMap b kind
    in_map = closure_least IsInMap
        (λ b kind start.
        let leads = subst (λ root. Leads image (image (root_word root)) b) start.is_chosen start.leads in
        let kind_is : kind ≡ kinds_of image shard = subst (λ root. kind ≡ kinds_of image root) start.is_chosen start.kind_is in
        the_table (one_block image (image (root_word shard)) b table leads there.leads_there.0) (kind_is ∙ is_table))
        (λ a b from kind reached has link.
        let is = link_in_block image a from link.position kind link.listed in
        link_on a b from kind link.position has is (link_inside from a.words link.position kind is) link.leads)

    alone_in_map : (b : Block) (kind other : ℕ) → IsInMap b kind → ReachFrom image (λ root. root ≢ shard) (kinds_of image) dict_links b other → ⊥
    alone_in_map b kind other (the_table same is) reach =
        there.leads_there.1 other (subst (λ (x : Block). ReachFrom image (λ root. root ≢ shard) (kinds_of image) dict_links x other) same reach)
    alone_in_map b kind other (a_node k below h is) reach =
        let found = in_path (but table (LeadsAlone image shard)) image shard k (table.first_word + k) (nodes k) b (chains k below).path h in
        found.0.1.0.1 other reach

  -- no other root reaches what a shard's root does
  reached_by_map : (map : Map) → IsMap (LeadsAlone image shard) image shard map → (b : Block) (kind other : ℕ)
      → ReachFrom image (λ root. root ≡ shard) (kinds_of image) dict_links b kind
      → ReachFrom image (λ root. root ≢ shard) (kinds_of image) dict_links b other → ⊥
  reached_by_map map (is_empty null none) b kind other reach out = closure_least (λ b kind. ⊥)
      (λ b kind start. not_null (image (root_word start.root)) (8 * b.first_word) start.leads.pointer
      (subst (λ root. image (root_word root) ≡ 0) (sym start.is_chosen) null))
      (λ a b from kind reached has link. has) b kind reach
  reached_by_map map (has_table table nodes there chains means) b kind other reach out =
      alone_in_map table nodes there chains b kind other (in_map table nodes there chains b kind reach) out

  pub reached_alone : (map : Map) → MapOf image shard map → (b : Block) (kind other : ℕ)
      → ReachFrom image (λ root. root ≡ shard) (kinds_of image) dict_links b kind
      → ReachFrom image (λ root. root ≢ shard) (kinds_of image) dict_links b other → ⊥
  reached_alone map is = reached_by_map map is.is_map
