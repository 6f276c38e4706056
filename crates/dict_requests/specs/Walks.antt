-- A walk along the links of a key's bucket, link by link.
use Rattle.std.specs.Prelude.{◌≡◌, ◌≢◌, ℕ, ◌+◌, ◌*◌, ◌≤◌, ◌⊎◌, List, [], ◌∷◌, ◌++◌, length, Option, None, Some, IfSome, IfNone, Contains}
use Rattle.heap_model.specs.declared.block.Block.{Block}
use Rattle.heap_seat.specs.declared.spot.Spot.{Spot}
use Rattle.heap_seat.specs.View.{View, word_of}
use Rattle.heap_seat.specs.Words.{IsOwnSpot}
use Rattle.dict_model.specs.Layout.{key_index, value_index}
use Rattle.dict_model.specs.Nodes.{shard_of, bucket_of}
use Rattle.dict_model.specs.Shards.{Map, link_behind}
use Rattle.dict_requests.specs.declared.walk.Place.{Place}
use Rattle.dict_requests.specs.declared.walk.Next.{Next}
use Rattle.dict_requests.specs.declared.walk.Next.TheVariants.{End, Key, Other}
use Rattle.dict_requests.specs.Maps.{GivesMap}
use Rattle.dict_requests.specs.Trails.{pointer_to, IsSettling, HasCome, IsPast}
use Rattle.dict_requests.specs.Quiet.{IsQuiet, GoesPending}

-- the shard is a map, and a walk has come to the link `at` past nodes that don't have the key
pub record IsWalk (v : View) (key : ℕ) (table : Block) (at : ℕ) : Type 0 where
  pub map : Map
  pub gives : GivesMap v (shard_of key) map
  pub before : List Block
  pub come : HasCome IsSettling v (shard_of key) key table before
  pub past : IsPast v key before
  pub at_is : at ≡ link_behind (table.first_word + bucket_of key) before

-- the link leads to the block, which has the words of a node
pub record IsNodeAt (w : View) (at : ℕ) (b : Block) : Type 0 where
  pub held : Contains w.held b
  pub room : value_index ≤ b.words
  pub link : IsSettling w at (pointer_to b)

-- what the link leads to: nothing, a node of the key, or another node
abbrev pub LeadsOn : View → ℕ → ℕ → Next → Type 0
LeadsOn w key at End = IsSettling w at 0
LeadsOn w key at (Key b) = IsNodeAt w at b × (w.volatile (b.first_word + key_index) ≡ Some key)
LeadsOn w key at (Other b) = IsNodeAt w at b × ((x : ℕ) × (w.volatile (b.first_word + key_index) ≡ Some x) × (x ≢ key))

-- one link was followed
pub record StepsAlong (key at : ℕ) (next : Next) (v w : View) : Type 0 where
  pub goes : GoesPending v w
  pub leads : LeadsOn w key at next

-- a key's node, and the link that leads to it behind the nodes before
pub record IsFoundPlace (w : View) (key : ℕ) (place : Place) : Type 0 where
  pub table : Block
  pub before : List Block
  pub come : HasCome IsSettling w (shard_of key) key table (before ++ (place.node ∷ []))
  pub at_is : word_of place.link ≡ link_behind (table.first_word + bucket_of key) before
  pub own : IsOwnSpot w place.link
  pub room : value_index ≤ place.node.words
  pub key_seen : w.volatile (place.node.first_word + key_index) ≡ Some key

-- the shard's map has no other keys than these
pub record ListsKeys (v : View) (shard : ℕ) (keys : List ℕ) : Type 0 where
  pub map : Map
  pub gives : GivesMap v shard map
  pub all : (key : ℕ) → map key ≢ None → Contains keys key

-- a walk was done: it found the key's node, or the map hasn't the key
pub record Walks (key : ℕ) (found : Option Place) (v w : View) : Type 0 where
  pub goes : GoesPending v w
  pub some : IfSome found (IsFoundPlace w key)
  pub none : IfNone found ((map : Map) → GivesMap v (shard_of key) map → map key ≡ None)

-- quiet calls, three for each key of the shard and some more
pub record IsQuietWalk (more shard : ℕ) (v w : View) : Type 0 where
  pub small : ℕ
  pub quiet : IsQuiet small v w
  pub few : (keys : List ℕ) → ListsKeys v shard keys → small ≤ 3 * length keys + more

-- how far a walk has come since it began
pub record IsWalking (key : ℕ) (table : Block) (link : Spot) (v w : View) : Type 0 where
  pub walk : IsWalk w key table (word_of link)
  pub own : IsOwnSpot w link
  pub quiet : IsQuiet (3 * length walk.before) v w
  pub goes : (w ≡ v) ⊎ GoesPending v w
