-- Nodes on their way from shard to shard: what an outbox has when one more was sent.
use Rattle.std.specs.Prelude.{ℕ, List, ◌∷◌}
use Rattle.std.specs.List.Sorted.{IsPermutation}
use Rattle.heap_model.specs.declared.block.Block.{Block}
use Rattle.heap_seat.specs.View.{View}
use Rattle.dict_requests.specs.Moving.{IsNodeOf}
use Rattle.run_model.specs.Sending.{Sent}

-- the node was sent with the value that it has: it is one more of those that were sent, in whatever order they are told
pub record AddsNode (number key : ℕ) (node : Block) (v : View) (old new : List Sent) : Type 0 where
  pub added : (value : List ℕ) → IsNodeOf v node value → IsPermutation (record { number = number; key = key; value = value } ∷ old) new
