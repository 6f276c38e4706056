-- What the steps of reading a shard tell, and when its reading fails.
use Rattle.std.specs.Prelude.{◌≡◌, ℕ, ◌+◌, ◌*◌, ◌<◌, ◌≤◌, ◌^◌, List, [], length, None, Some, cond, nat_eq, slice_index, slice_get}
use Rattle.std.specs.BTreeMap.{BTreeMap, get, btree_map_len, IsOrdered}
use Rattle.std.specs.Ordering.{nat_cmp}
use Rattle.heap_model.specs.declared.block.Block.{Block}
use Rattle.heap_model.specs.Image.{Image}
use Rattle.heap_model.specs.Header.{IsWellFormed, kinds_of}
use Rattle.heap_model.specs.Blocks.{layout_of, IsBlock}
use Rattle.heap_model.specs.Reach.{IsReachedIn, IsOutsideIn}
use Rattle.heap_model.specs.Recovery.{IsRecovered}
use Rattle.super_block.specs.Division.{Divisions, Describes}
use Rattle.root_reach.specs.declared.labels.Origins.{Origins}
use Rattle.root_reach.specs.Reaching.{AreOrigins}
use Rattle.dict_model.specs.Links.{shards, dict_links}
use Rattle.dict_model.specs.Nodes.{key_in, value_in}
use Rattle.dict_model.specs.Shards.{Map, Leading, LeadsAstray, HasChains, IsPath, link_behind, but, map_of, MapOf, BadShard as IsBadShard}
use Rattle.dictionary.specs.declared.fault.MapFault.{MapFault}
use Rattle.dictionary.specs.declared.fault.MapFault.TheVariants.{BadShard, Memory}
use Rattle.dictionary.specs.declared.walk.Lead.{Lead}
use Rattle.dictionary.specs.declared.walk.Lead.TheVariants.{Null, To, Astray}

-- the words are an image's, the directory and the origins are those of its blocks, by the kinds that it stores
pub record IsRead (words : List ℕ) (directory : Divisions) (origins : Origins) : Type 0 where
  pub formed : IsWellFormed (8 * length words) (slice_index words)
  pub described : Describes directory (layout_of (slice_index words))
  pub origins_are : AreOrigins (slice_index words) (kinds_of (slice_index words)) dict_links origins

-- where a word leads among the blocks that it may lead to, if they are as is wanted
abbrev pub IsLead : Leading → (Block → Type 0) → ℕ → Lead → Type 0
IsLead leads wanted word Null = word ≡ 0
IsLead leads wanted word (To b) = leads word b × wanted b
IsLead leads wanted word Astray = LeadsAstray leads wanted word

-- the map has the key and the value of the node, which it did not have, and no other new key
pub record AddsNode (image : Image) (b : Block) (old new : BTreeMap ℕ (List ℕ)) : Type 0 where
  pub was_new : get nat_cmp old (key_in image b) ≡ None
  pub has : (key : ℕ) → get nat_cmp new key ≡ cond (nat_eq (key_in image b) key) (Some (value_in image b)) (get nat_cmp old key)
  pub longer : btree_map_len new ≡ btree_map_len old + 1
  pub small : btree_map_len new < 2 ^ 63

-- what has been read of a shard: the chains of the first buckets, and a part of the chain of the next one
pub record HasReadTo (leads : Leading) (image : Image) (shard : ℕ) (table : Block) (k : ℕ) (map : Map)
    (nodes : ℕ → List Block) : Type 0 where
  pub chains : HasChains leads image shard table k nodes
  pub path : IsPath (but table leads) image shard k (table.first_word + k) (nodes k)
  pub rest : (j : ℕ) → k < j → nodes j ≡ []
  pub means : (key : ℕ) → map key ≡ map_of image shard nodes key

-- the map of the first buckets
pub record IsMapUpTo (leads : Leading) (image : Image) (shard : ℕ) (table : Block) (k : ℕ) (map : Map) : Type 0 where
  pub nodes : ℕ → List Block
  pub chains : HasChains leads image shard table k nodes
  pub rest : (j : ℕ) → k ≤ j → nodes j ≡ []
  pub means : (key : ℕ) → map key ≡ map_of image shard nodes key

-- and with it the part of the next bucket's chain up to the link
pub record IsMapBefore (leads : Leading) (image : Image) (shard : ℕ) (table : Block) (k at : ℕ) (map : Map) : Type 0 where
  pub nodes : ℕ → List Block
  pub read : HasReadTo leads image shard table k map nodes
  pub at_is : at ≡ link_behind (table.first_word + k) (nodes k)

-- a fault tells the shard and its first bad place; of want of memory nothing is said
abbrev pub TellsBad : Image → ℕ → MapFault → Type 0
TellsBad image i (BadShard shard at) = (shard ≡ i) × IsBadShard image i at
TellsBad image i Memory = Unit {0}

-- a fault tells the lowest shard that has no map, and its first bad place
abbrev pub TellsLowest : Image → MapFault → Type 0
TellsLowest image (BadShard shard at) = (shard < shards) × IsBadShard image shard at × ((i : ℕ) → i < shard
    → (map : Map) × MapOf image i map)
TellsLowest image Memory = Unit {0}

-- the maps are those of the first shards, in order, each with its keys in order
pub record AreMaps (image : Image) (count : ℕ) (maps : List (BTreeMap ℕ (List ℕ))) : Type 0 where
  pub long : length maps ≡ count
  pub each : (i : ℕ) → i < count → (m : BTreeMap ℕ (List ℕ)) × (slice_get maps i ≡ Some m) × MapOf image i (get nat_cmp m)
      × IsOrdered nat_cmp m

-- recovery makes the one image of the other, in which no word that it looks at leads outside; what is reached there is
-- a block here, and each root keeps its kind
pub record RecoversTo (old new : Image) : Type 0 where
  pub recovered : IsRecovered old new (IsReachedIn old dict_links)
  pub inside : (at : ℕ) → IsOutsideIn old dict_links at → ⊥
  pub blocks : (b : Block) → IsReachedIn old dict_links b → IsBlock (layout_of new) b
