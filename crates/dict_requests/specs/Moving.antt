-- A node on its way from shard to shard: what it has, and what the calls of a shard leave that make a table, take a node out and bring one.
use Rattle.std.specs.Prelude.{◌≡◌, ◌≢◌, ℕ, ◌+◌, ◌*◌, ◌≤◌, ◌⊎◌, ◌↔◌, Bool, IsTrue, List, length, Option, None, Some, Contains}
use Rattle.heap_model.specs.declared.block.Block.{Block}
use Rattle.heap_model.specs.Geometry.{root_word}
use Rattle.heap_model.specs.Image.{Image}
use Rattle.heap_model.specs.Blocks.{IsIn}
use Rattle.heap_model.specs.Sizes.{span_of}
use Rattle.heap_seat.specs.declared.fault.AllocFault.{AllocFault}
use Rattle.heap_seat.specs.declared.fault.AllocFault.TheVariants.{Full, Stopped}
use Rattle.heap_seat.specs.View.{View}
use Rattle.heap_seat.specs.Words.{MayBe, KeepsWord}
use Rattle.heap_seat.specs.Tickets.{Runs, Stops}
use Rattle.heap_seat.specs.Calls.{SameRefusals}
use Rattle.heap_seat.specs.Handing.{Contents}
use Rattle.heap_seat.specs.Rows.{IsRow}
use Rattle.dict_model.specs.Layout.{length_index, value_index}
use Rattle.dict_model.specs.Nodes.{largest_value, shard_of, value_words, value_in, table_bytes}
use Rattle.dict_model.specs.Requests.{without_key}
use Rattle.dict_model.specs.Shards.{Map}
use Rattle.dict_requests.specs.Maps.{GivesMap, GivesEither, KeepsTable}
use Rattle.dict_requests.specs.Reached.{MayReach, ReachesOnlyHeld, ReachesAllHeld, ReachesAllHeldBut}
use Rattle.dict_requests.specs.Removal.{IsLoose}
use Rattle.dict_requests.specs.Puts.{IsRefused, WasNull}
use Rattle.dict_requests.specs.Walks.{ListsKeys}

-- what a seat knows of words, as it goes with a block
abbrev pub known_of : View → Contents
known_of v = record { volatile = v.volatile; durable = v.durable }

-- each word of the block has one of its two values, where these are known, whatever stands elsewhere
abbrev pub MixesBlock : Contents → Block → Image → Type 0
MixesBlock c b image = (word : ℕ) → IsIn b word → MayBe (c.volatile word) (image word) ⊎ MayBe (c.durable word) (image word)

-- the block has room for the value, and has it in each mixture of what its words may have
pub record IsNodeIn (c : Contents) (b : Block) (value : List ℕ) : Type 0 where
  pub short : length value ≤ largest_value
  pub fits : value_index + value_words (length value) ≤ b.words
  pub each : (image : Image) → MixesBlock c b image → value_in image b ≡ value

-- so it is, as far as the seat knows its words
abbrev pub IsNodeOf : View → Block → List ℕ → Type 0
IsNodeOf v = IsNodeIn (known_of v)

-- a key's node was taken out: the map had this value of the key, and the block that has it, which the shard reached, is
-- held still, where no root reaches it
pub record IsTakenOut (key : ℕ) (b : Block) (v w : View) : Type 0 where
  pub value : List ℕ
  pub had : (map : Map) → GivesMap v (shard_of key) map → map key ≡ Some value
  pub gives : (map : Map) → GivesMap v (shard_of key) map → GivesMap w (shard_of key) (without_key map key)
  pub was : Contains v.held b
  pub reached : (kind : ℕ) × MayReach v (shard_of key) b kind
  pub loose : IsLoose b w
  pub node : IsNodeOf w b value

-- a search was done, and told whether the map has the key
pub record TellsKey (key : ℕ) (found : Bool) (v w : View) : Type 0 where
  pub runs : Runs v w
  pub tells : (map : Map) → GivesMap v (shard_of key) map → IsTrue found ↔ (map key ≢ None)

-- what a take answers: the key's node, which is out, or nothing where the map hasn't the key, and the map stays
abbrev pub TakesOut : ℕ → Option Block → View → View → Type 0
TakesOut key (Some b) v w = IsTakenOut key b v w
TakesOut key None v w = (map : Map) → GivesMap v (shard_of key) map → (map key ≡ None) × GivesMap w (shard_of key) map

-- where all held blocks were reached, all are but the node that was taken out
abbrev pub ReachesAllLeft : Option Block → View → View → Type 0
ReachesAllLeft (Some b) v w = ReachesAllHeld v → ReachesAllHeldBut b w
ReachesAllLeft None v w = ReachesAllHeld v → ReachesAllHeld w

-- all that other roots reach is held with its words, as after a put, and so are the blocks that no root reaches, but the one that is brought
pub record KeepsOthersBut (b : Block) (shard : ℕ) (v w : View) : Type 0 where
  pub roots : w.roots ≡ v.roots
  pub kinds : w.kinds ≡ v.kinds
  pub root_words : (root : ℕ) → Contains v.roots root → root ≢ shard → KeepsWord v w (root_word root)
  pub blocks : (a : Block) → Contains v.held a → a ≢ b → ((kind : ℕ) → MayReach v shard a kind → ⊥)
      → Contains w.held a × ((word : ℕ) → IsIn a word → KeepsWord v w word)

-- the words of a node that change as it goes to another bucket, its link and its key, as a block
abbrev pub head_of : Block → Block
head_of b = record { first_word = b.first_word; words = length_index }

-- what a bring leaves wherever it ends: every mixture gives the map before or the map after, only held blocks are reached,
-- the shard keeps its table, and what other roots have stays
-- the block is held still, and of its words only the link and the key may have been stored to: it has its value still
pub record MayBring (b : Block) (shard : ℕ) (after : Map → Map) (v w : View) : Type 0 where
  pub either : (map : Map) → GivesMap v shard map → GivesEither w shard map (after map)
  pub only : ReachesOnlyHeld w
  pub table : KeepsTable shard v w
  pub others : KeepsOthersBut b shard v w
  pub stays : Contains w.held b
  pub value : (word : ℕ) → IsIn b word → (IsIn (head_of b) word → ⊥) → KeepsWord v w word

-- at most so many small calls, four for each key of the shard, and so many large ones, which take no superblock
abbrev pub MovesFew : ℕ → ℕ → View → View → Type 0
MovesFew large shard v w = (keys : List ℕ) → ListsKeys v shard keys → IsRow (500 + 4 * length keys) large 0 v w

-- why no table was made: the request for it was refused, the root is null and every mixture gives the map as before; or the seat stopped
abbrev pub TableFails : ℕ → AllocFault → View → View → Type 0
TableFails shard (Full looks) v w =
    (w.volatile (root_word shard) ≡ Some 0) × IsRefused table_bytes 0 looks v w × ((map : Map) → GivesMap v shard map → GivesMap w shard map)
TableFails shard (Stopped stopped) v w = Stops stopped.step v w × SameRefusals v w

-- the superblocks that were taken for a table: none where the root was known to have one
pub data TableTakes (shard : ℕ) (v w : View) : Type 0 where
  for_none : w.taken ≡ v.taken → TableTakes shard v w
  for_table : WasNull v shard → w.taken ≤ v.taken + span_of table_bytes → TableTakes shard v w
