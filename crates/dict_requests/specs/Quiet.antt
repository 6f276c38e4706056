-- Calls that store nothing: what they leave, and what a link that was followed is from then on.
use Rattle.std.specs.Prelude.{◌≡◌, ℕ, Contains}
use Rattle.heap_model.specs.declared.block.Block.{Block}
use Rattle.heap_seat.specs.View.{View}
use Rattle.heap_seat.specs.Words.{IsOwn, KeepsWord, KeepsOwn}
use Rattle.heap_seat.specs.Tickets.{Runs}
use Rattle.heap_seat.specs.Calls.{SameRefusals}
use Rattle.heap_seat.specs.Rows.{IsRow}
use Rattle.dict_requests.specs.Trails.{IsSettling}

-- at most so many small calls that store nothing
pub record IsQuiet (small : ℕ) (v w : View) : Type 0 where
  pub unchanged : KeepsOwn v w
  pub calls : IsRow small 0 0 v w
  pub refusals : SameRefusals v w

-- calls that were done, after which the pending write-backs are pending still
pub record GoesPending (v w : View) : Type 0 where
  pub runs : Runs v w
  pub pending : (other : ℕ) → Contains v.pending other → Contains w.pending other

-- the word was loaded, and it is durable with the next fence
pub record FollowsLink (at word : ℕ) (v w : View) : Type 0 where
  pub goes : GoesPending v w
  pub settling : IsSettling w at word

-- blocks may have come, and no word that was own was stored to
pub record Grown (v w : View) : Type 0 where
  pub keeps : (b : Block) → Contains v.held b → Contains w.held b
  pub roots : w.roots ≡ v.roots
  pub words : (word : ℕ) → IsOwn v.held v.roots word → KeepsWord v w word
