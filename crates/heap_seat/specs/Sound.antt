-- What is so of every seat at every moment.
use Rattle.std.specs.Prelude.{◌≡◌, ℕ, ◌+◌, ◌*◌, ◌^◌, ◌<◌, ◌≤◌, Some, Contains}
use Rattle.heap_model.specs.declared.block.Block.{Block}
use Rattle.heap_model.specs.Geometry.{fixed_words, roots}
use Rattle.heap_model.specs.Blocks.{AreOneOrApart}
use Rattle.heap_seat.specs.View.{View}

-- a block lies behind the roots, has words, and its byte offset fits a pointer
pub record IsPlaced (b : Block) : Type 0 where
  pub behind : fixed_words ≤ b.first_word
  pub some : 1 ≤ b.words
  pub short : 8 * (b.first_word + b.words) < 2 ^ 48

-- two held blocks are one or apart, and a seat that has stopped drew a ticket that the budget doesn't allow
pub record IsSeat (v : View) : Type 0 where
  pub placed : (b : Block) → Contains v.held b → IsPlaced b
  pub apart : (a b : Block) → Contains v.held a → Contains v.held b → AreOneOrApart a b
  pub roots_are : (i : ℕ) → Contains v.roots i → i < roots
  pub stopping : (ticket : ℕ) → v.stopped ≡ Some ticket → (v.budget ≤ ticket) × (v.next ≡ ticket + 1)
