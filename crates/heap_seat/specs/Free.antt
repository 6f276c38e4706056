-- What freeing a block does.
use Rattle.std.specs.Prelude.{◌≡◌, ◌≢◌, ℕ, Contains}
use Rattle.heap_model.specs.declared.block.Block.{Block}
use Rattle.heap_model.specs.Blocks.{IsIn}
use Rattle.heap_seat.specs.View.{View}
use Rattle.heap_seat.specs.Words.{IsOwn, KeepsWord, KeepsPending}
use Rattle.heap_seat.specs.Tickets.{Runs}
use Rattle.heap_seat.specs.Calls.{SameRefusals}

-- at most this block is held no more, and no own word outside it is stored to
pub record MayHaveFreed (b : Block) (v w : View) : Type 0 where
  pub only : (a : Block) → Contains w.held a → Contains v.held a
  pub keeps : (a : Block) → Contains v.held a → a ≢ b → Contains w.held a
  pub roots : w.roots ≡ v.roots
  pub words : (word : ℕ) → IsOwn v.held v.roots word → (IsIn b word → ⊥) → KeepsWord v w word
  pub refusals : SameRefusals v w

-- the block was freed
pub record Frees (b : Block) (v w : View) : Type 0 where
  pub runs : Runs v w
  pub gone : Contains w.held b → ⊥
  pub pending : (word : ℕ) → IsOwn v.held v.roots word → (IsIn b word → ⊥) → KeepsPending v w word
