-- What a request may take of an open heap, wherever it ends.
use Rattle.std.specs.Prelude.{◌+◌, ◌≤◌}
use Rattle.heap_seat.specs.View.{View}
use Rattle.dict_model.specs.Requests.{Request}
use Rattle.dict_requests.specs.Puts.{WasNull}
use Rattle.run_model.specs.Needs.{node_span}
use Rattle.run_model.specs.Workers.{shard_asked}
use Rattle.run_model.specs.Spending.{IsPut}

-- it took superblocks for its put's node at most, and one for a table where its shard had none
pub data MayTake (request : Request) (v w : View) : Type 0 where
  for_node : w.taken ≤ v.taken + node_span request → MayTake request v w
  with_table : IsPut request → WasNull v (shard_asked request) → w.taken ≤ v.taken + node_span request + 1 → MayTake request v w
