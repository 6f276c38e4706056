-- When a shard's map stays: more blocks to lead to, other words elsewhere, and a new table.
use Rattle.std.proofs.Common.{◌≡◌, ℕ, ◌+◌, ◌<◌, List, [], ◌∷◌, Option, None, Contains, cond, refl, ap, subst, sym, ◌∙◌, arith}
use Rattle.std.specs.Prelude.{nat_eq, ◌/◌}
use Rattle.std.proofs.Math.Nat.{mod-lt}
use Rattle.std.proofs.lemmas.Bool.{cond_both}
use Rattle.heap_model.specs.declared.block.Block.{Block}
use Rattle.heap_model.specs.Image.{Image}
use Rattle.heap_model.specs.Geometry.{root_word}
use Rattle.heap_model.specs.Blocks.{IsIn}
use Rattle.heap_model.proofs.MemberLemmas.{in_head, in_rest}
use Rattle.dict_model.specs.Nodes.{buckets, shard_of, bucket_of}
use Rattle.dict_model.specs.Shards.{Map, Leading, IsPath, IsBucketChain, HasTable, HasChains, but, map_of, IsMap, is_empty, has_table}
use Rattle.dict_model.proofs.ChainLemmas.{SameNode, find_same, in_path}
use Rattle.dict_model.proofs.PlacedLemmas.{ArePlaced, path_same}

-- more to lead to, where the nodes of the path are
pub path_wider : (leads wider : Leading) (image : Image) (shard k at : ℕ) (bs : List Block)
    → ((word : ℕ) (b : Block) → Contains bs b → leads word b → wider word b) → IsPath leads image shard k at bs → IsPath wider image shard k at bs
path_wider leads wider image shard k at [] more path = tt
path_wider leads wider image shard k at (b ∷ bs) more path = (
  more (image at) b (in_head b bs) path.0,
  path.1,
  path.2,
  path_wider leads wider image shard k b.first_word bs
      (λ word c h. more word c (in_rest b c bs h)) path.3,
)

-- a block that the map stands on: its table, or a node of a chain
pub data IsUsed (leads : Leading) (image : Image) (shard : ℕ) (b : Block) : Type 0 where
  as_table : HasTable leads image shard b → IsUsed leads image shard b
  as_node : (table : Block) (nodes : ℕ → List Block) (k : ℕ) → HasTable leads image shard table → HasChains leads image shard table buckets nodes
      → k < buckets → Contains (nodes k) b → IsUsed leads image shard b

-- a map stands where each used block may be led to
pub map_wider : (leads wider : Leading) (image : Image) (shard : ℕ) (map : Map)
    → ((word : ℕ) (b : Block) → IsUsed leads image shard b → leads word b → wider word b) → IsMap leads image shard map → IsMap wider image shard map
map_wider leads wider image shard map more (is_empty null none) = is_empty null none
map_wider leads wider image shard map more (has_table table nodes there chains means) =
    has_table table nodes (record { leads_there = more (image (root_word shard)) table (as_table there) there.leads_there; size = there.size })
    (λ k below. record {
      path = path_wider (but table leads) (but table wider) image shard k (table.first_word + k) (nodes k)
          (λ word b h leads_b. (more word b (as_node table nodes k there chains below h) leads_b.0, leads_b.1)) (chains k below).path;
      ends = (chains k below).ends;
    })
    means

module _ (held : Block → Type 0) (placed : ArePlaced held) (limit : Leading) (into : (word : ℕ) (b : Block) → limit word b → held b)
    (image other : Image) (shard : ℕ)
    (root : other (root_word shard) ≡ image (root_word shard)) (alike : (b : Block) → held b → (word : ℕ) → IsIn b word → other word ≡ image word) where
  module _ (table : Block) (nodes : ℕ → List Block) (there : HasTable limit image shard table)
      (chains : HasChains limit image shard table buckets nodes) where
    held_node : (k : ℕ) (b : Block) → k < buckets → Contains (nodes k) b → held b
    held_node k b below h =
        let found = in_path (but table limit) image shard k (table.first_word + k) (nodes k) b (chains k below).path h in into found.0.0 b found.0.1.0

    chain_same : (k : ℕ) → k < buckets → IsBucketChain (but table limit) other shard k (table.first_word + k) (nodes k)
        × ((b : Block) → Contains (nodes k) b → SameNode image other b)
    chain_same k below =
        let link = alike table (into (image (root_word shard)) table there.leads_there) (table.first_word + k)
        (record { from = omega arith; until = omega (arith, there.size) }) in
        let same = path_same held placed (but table limit) (λ word b leads. into word b leads.0) image other shard k (table.first_word + k)
        (table.first_word + k) (nodes k) link
        (λ c h. alike c (held_node k c below h)) (chains k below).path in
        (record { path = same.0; ends = same.2 ∙ (chains k below).ends }, same.1)

    map_same : (key : ℕ) → map_of other shard nodes key ≡ map_of image shard nodes key
    map_same key =
        let below : bucket_of key < buckets = mod-lt (key / 8) (omega arith) in
        ap (λ f. cond (nat_eq (shard_of key) shard) f None) (find_same image other key (nodes (bucket_of key)) (chain_same (bucket_of key) below).1)

  -- a map stays where root and held blocks have the same words
  pub map_stays : (map : Map) → IsMap limit image shard map → IsMap limit other shard map
  map_stays map (is_empty null none) = is_empty (root ∙ null) none
  map_stays map (has_table table nodes there chains means) = has_table table nodes
      (record { leads_there = subst (λ w. limit w table) (sym root) there.leads_there; size = there.size })
      (λ k below. (chain_same table nodes there chains k below).0) (λ key. means key ∙ sym (map_same table nodes there chains key))

-- a table of null links is an empty map
pub table_made : (leads : Leading) (image : Image) (shard : ℕ) (table : Block) (map : Map) → leads (image (root_word shard)) table
    → table.words ≡ buckets
    → ((k : ℕ) → k < buckets → image (table.first_word + k) ≡ 0) → ((key : ℕ) → map key ≡ None) → IsMap leads image shard map
table_made leads image shard table map leads_there size zeros none = has_table table (λ k. []) (record { leads_there = leads_there; size = size })
    (λ k below. record { path = tt; ends = zeros k below })
    (λ key. none key ∙ sym (cond_both (nat_eq (shard_of key) shard) None None (λ (f : Option (List ℕ)). f ≡ None) (λ _. refl) (λ _. refl)))
