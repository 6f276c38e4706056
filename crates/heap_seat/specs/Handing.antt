-- What passing a block from one seat to another does.
use Rattle.std.specs.Prelude.{◌≡◌, ℕ, Option}
use Rattle.heap_model.specs.declared.block.Block.{Block}
use Rattle.heap_model.specs.Blocks.{IsIn}
use Rattle.heap_seat.specs.View.{View}
use Rattle.heap_seat.specs.Words.{IsOwn, KeepsWord, KeepsPending}
use Rattle.heap_seat.specs.Tickets.{Runs}
use Rattle.heap_seat.specs.Alloc.{Adds}

-- an offer that was done: those held before are those left and this block, and no word that is left is stored to
pub record Offers (b : Block) (v w : View) : Type 0 where
  pub runs : Runs v w
  pub blocks : Adds b w v
  pub words : (word : ℕ) → IsOwn w.held w.roots word → KeepsWord v w word
  pub pending : (word : ℕ) → IsOwn w.held w.roots word → KeepsPending v w word

-- an accept that was done: the block is held now, beside those from before, and no word that was the seat's is stored to
pub record Accepts (b : Block) (v w : View) : Type 0 where
  pub runs : Runs v w
  pub blocks : Adds b v w
  pub words : (word : ℕ) → IsOwn v.held v.roots word → KeepsWord v w word
  pub pending : (word : ℕ) → IsOwn v.held v.roots word → KeepsPending v w word

-- What is known of a block on its way: of each of its words what loads saw last, and what a crash leaves.
pub record Contents : Type 0 where
  pub volatile : ℕ → Option ℕ
  pub durable : ℕ → Option ℕ

-- the block goes with what the seat that offered it knew: none of its words is stored to
pub record GoesWith (b : Block) (c : Contents) (v : View) : Type 0 where
  pub words : (word : ℕ) → IsIn b word → KeepsWord v (record v { volatile = c.volatile; durable = c.durable }) word

-- the seat that accepted the block knows of it what came with it
pub record ComesWith (b : Block) (c : Contents) (w : View) : Type 0 where
  pub volatile : (word : ℕ) → IsIn b word → w.volatile word ≡ c.volatile word
  pub durable : (word : ℕ) → IsIn b word → w.durable word ≡ c.durable word
