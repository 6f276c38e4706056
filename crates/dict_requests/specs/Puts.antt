-- What a put answers where it found no room, what the heap said of it, and what it asks of a key that is missing.
use Rattle.std.specs.Prelude.{◌≡◌, ◌≢◌, ℕ, ◌+◌, ◌≤◌, [], None, Some}
use Rattle.heap_model.specs.declared.block.Block.{Block}
use Rattle.heap_seat.specs.declared.fault.AllocFault.{AllocFault}
use Rattle.heap_seat.specs.declared.fault.AllocFault.TheVariants.{Full, Stopped}
use Rattle.heap_seat.specs.declared.fault.Looks.{Looks}
use Rattle.heap_model.specs.Geometry.{root_word}
use Rattle.heap_model.specs.Sizes.{span_of}
use Rattle.heap_seat.specs.View.{View}
use Rattle.heap_seat.specs.Words.{KeepsOwn}
use Rattle.heap_seat.specs.Tickets.{Runs, Stops}
use Rattle.heap_seat.specs.Calls.{SameRefusals}
use Rattle.heap_seat.specs.Looks.{FoundNoRoom}
use Rattle.dict_model.specs.Nodes.{shard_of, table_bytes}
use Rattle.dict_model.specs.Shards.{Map}
use Rattle.dict_requests.specs.Maps.{GivesMap}
use Rattle.dict_requests.specs.Trails.{IsSettling, HasCome}

-- the table has no node of the key
pub record IsMissing (v : View) (key : ℕ) (table : Block) : Type 0 where
  pub come : HasCome IsSettling v (shard_of key) key table []
  pub none : (map : Map) → GivesMap v (shard_of key) map → map key ≡ None

-- a request of so many bytes was refused in this call, the only one: it is the last refusal, and had these looks; the
-- call took at most so many superblocks
pub record IsRefused (bytes most : ℕ) (looks : Looks) (v w : View) : Type 0 where
  pub runs : Runs v w
  pub found : FoundNoRoom bytes looks v w
  pub count : w.refusals ≡ v.refusals + 1
  pub bytes_are : w.refused_bytes ≡ bytes
  pub looks_are : w.refused_looks ≡ looks
  pub taken : w.taken ≤ v.taken + most

-- within a call from s to t the heap turned a request of so many bytes down: what has_none says of a heap's seat was so
-- before and after it; and before and behind that all was kept that each call keeps
pub record WasTurnedDown {S : Type 0} (keeps : S → S → Type 0) (has_none : S → S → ℕ → Looks → Type 0) (bytes : ℕ) (looks : Looks)
    (s t : S) : Type 0 where
  pub before : S
  pub after : S
  pub kept_before : keeps s before
  pub none : has_none before after bytes looks
  pub kept_after : keeps after t

-- why a put was not done: this request was refused, and no word was stored to; or the seat stopped
abbrev pub PutFails : ℕ → AllocFault → View → View → Type 0
PutFails bytes (Full looks) v w = IsRefused bytes 0 looks v w × KeepsOwn v w
PutFails bytes (Stopped stopped) v w = Stops stopped.step v w × SameRefusals v w

-- as far as loads' view of the shard's root was known, it was null
abbrev pub WasNull : View → ℕ → Type 0
WasNull v shard = (x : ℕ) → v.volatile (root_word shard) ≡ Some x → x ≡ 0

-- the shard's root isn't null
pub record RootIsSet (w : View) (shard : ℕ) : Type 0 where
  pub value : ℕ
  pub seen : w.volatile (root_word shard) ≡ Some value
  pub some : value ≢ 0

-- which request a put had refused: its node's, where the shard had a table or just behind one that was made; or that for a missing table
pub data PutRefused (bytes shard : ℕ) (looks : Looks) (v w : View) : Type 0 where
  of_node : RootIsSet w shard → IsRefused bytes 0 looks v w → PutRefused bytes shard looks v w
  of_node_behind_table : WasNull v shard → RootIsSet w shard → IsRefused bytes (span_of table_bytes) looks v w
      → PutRefused bytes shard looks v w
  of_table : w.volatile (root_word shard) ≡ Some 0 → IsRefused table_bytes 0 looks v w → PutRefused bytes shard looks v w

-- why a put answers a fault: a request was refused, and every mixture gives the map as before; or the seat stopped
abbrev pub PutAnswers : ℕ → ℕ → AllocFault → View → View → Type 0
PutAnswers bytes shard (Full looks) v w =
    PutRefused bytes shard looks v w × ((map : Map) → GivesMap v shard map → GivesMap w shard map)
PutAnswers bytes shard (Stopped stopped) v w = Stops stopped.step v w × SameRefusals v w

-- the superblocks that a put took: for its node, and for a table where there was none
pub data PutTakes (bytes shard : ℕ) (v w : View) : Type 0 where
  for_node : w.taken ≤ v.taken + span_of bytes → PutTakes bytes shard v w
  for_both : WasNull v shard → w.taken ≤ v.taken + span_of bytes + span_of table_bytes → PutTakes bytes shard v w
