-- Tables that are made before requests: which shards have one then, and why one has none.
use Rattle.std.specs.Prelude.{◌≡◌, ℕ, ◌+◌, ◌<◌, ◌≤◌, Bool, true, false, List, get_or, count_by, Some}
use Rattle.heap_model.specs.Geometry.{root_word}
use Rattle.heap_model.specs.Image.{words_from}
use Rattle.heap_model.specs.Sizes.{span_of}
use Rattle.heap_seat.specs.declared.fault.Looks.{Looks}
use Rattle.heap_seat.specs.Looks.{KnowsNoLess}
use Rattle.heap_seat.specs.View.{View}
use Rattle.dict_model.specs.Links.{shards}
use Rattle.dict_model.specs.Nodes.{table_bytes}
use Rattle.dict_requests.specs.Puts.{RootIsSet, WasNull, WasTurnedDown}

-- whether the shard's flag is set
abbrev pub is_flagged : List Bool → ℕ → Bool
is_flagged flags shard = get_or flags shard false

-- how many flags of shards are set
abbrev pub flag_count : List Bool → ℕ
flag_count flags = count_by (is_flagged flags) (words_from (λ i. i) 0 shards)

-- when the mark of taken superblocks was last read none was left for a table, and none was taken since
pub record HadNoTableRoom (w : View) : Type 0 where
  pub past : w.capacity < w.used_look.seen + span_of table_bytes
  pub now : w.used_look.taken ≡ w.taken

-- loads see that the shard's root is null: it has no table
abbrev pub RootIsNull : View → ℕ → Type 0
RootIsNull w shard = w.volatile (root_word shard) ≡ Some 0

-- At a moment from the one state to the other the shard had no table, and there was no room for one. The heap had turned down a request for a
-- table's block until then, and nothing was forgotten of the mark since.
pub record WasRefusedTable {S : Type 0} (view : S → View) (keeps : S → S → Type 0) (has_none : S → S → ℕ → Looks → Type 0) (shard : ℕ)
    (s t : S) : Type 0 where
  pub at : S
  pub before : keeps s at
  pub behind : keeps at t
  pub null : RootIsNull (view at) shard
  pub knows : KnowsNoLess (view at) (view t)
  pub until : (view at).taken ≤ (view t).taken
  pub room : HadNoTableRoom (view at)
  pub looks : Looks
  pub none : WasTurnedDown keeps has_none table_bytes looks s at

-- what is told of a shard: that it has a table; or that it has none, as it had none before, since there was no room for one when it was asked for
abbrev pub TellsTable : {S : Type 0} → (S → View) → (S → S → Type 0) → (S → S → ℕ → Looks → Type 0) → ℕ → Bool → S → S → Type 0
TellsTable view keeps has_none shard true s t = RootIsSet (view t) shard
TellsTable view keeps has_none shard false s t =
    WasNull (view s) shard × RootIsNull (view t) shard × WasRefusedTable view keeps has_none shard s t
