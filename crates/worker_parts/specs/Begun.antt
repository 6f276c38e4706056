-- A worker's seat as it was opened, and once the tables of its shards are made that values are moved to.
use Rattle.std.specs.Prelude.{◌≡◌, ◌≢◌, ℕ, ◌+◌, ◌*◌, ◌<◌, ◌≤◌, ◌↔◌, Bool, true, false, [], count_by, slice_index, None, Contains}
use Rattle.heap_model.specs.Geometry.{roots}
use Rattle.heap_model.specs.Image.{Image, words_from}
use Rattle.core_model.specs.Opening.{HasDoneNothing}
use Rattle.core_model.specs.View.{View, role}
use Rattle.heap_seat.specs.Rows.{IsRow}
use Rattle.heap_table.specs.Rule.{Opening, opened_view_of}
use Rattle.dict_model.specs.Links.{shards}
use Rattle.dict_requests.specs.Reached.{ReachesAllHeld}
use Rattle.seat_costs.specs.Idle.{HasShortCaches, IsIdle}
use Rattle.seat_model.specs.CacheState.{CacheState, heap_view}
use Rattle.run_model.specs.Opened.{IsOpenedOver}
use Rattle.run_model.specs.Progress.{HasAnswered}
use Rattle.run_model.specs.Spending.{tables_made, tables_missing}
use Rattle.run_model.specs.Workers.{root_owner}
use Rattle.shard_moves.specs.Tables.{TellsTable}
use Rattle.worker_parts.specs.Going.{GoesOn, TurnsAway}

-- a seat of a heap that was opened for so many workers, as it was opened: it has the roots of one of them, and holds what these reach
pub record IsOpenedFor (opening : Opening) (workers worker : ℕ) (v : View) : Type 0 where
  pub view_is : v ≡ opened_view_of opening worker
  pub nothing : HasDoneNothing v.setup v
  pub idle : IsIdle v
  pub short : HasShortCaches v
  pub roots_own : (root : ℕ) → root < roots → Contains v.roots root ↔ (root_owner workers root ≡ worker)
  pub opened : (s : CacheState) → s.view ≡ v → IsOpenedOver (slice_index v.setup.opened) (heap_view s)

-- From the one state to the other tables were made for the wanted shards, as far as there was room, and it is told of
-- each whether it has one, unless it was stopped in
-- that. The maps are as before, wherever that ended.
pub record IsBegun (image : Image) (wanted tables : ℕ → Bool) (stopped : Bool) (s t : CacheState) : Type 0 where
  pub answered : HasAnswered image [] (heap_view t)
  pub told : stopped ≡ false → (shard : ℕ) → shard < shards → wanted shard ≡ true → TellsTable heap_view GoesOn TurnsAway shard (tables shard) s t
  pub taken : stopped ≡ false → t.view.taken ≤ s.view.taken + tables_made wanted (heap_view s) (heap_view t)
  pub most : t.view.taken ≤ s.view.taken + tables_missing wanted (heap_view s)
  pub calls : IsRow (512 * count_by wanted (words_from (λ i. i) 0 shards)) (count_by wanted (words_from (λ i. i) 0 shards))
      (count_by wanted (words_from (λ i. i) 0 shards))
      (heap_view s) (heap_view t)
  pub roots_are : t.view.roots ≡ s.view.roots
  pub role_is : role t.view ≡ role s.view
  pub goes_on : GoesOn s t
  pub stops : (stopped ≡ true) ↔ (t.view.stopped ≢ None)
  pub exact : stopped ≡ false → ReachesAllHeld (heap_view t)
