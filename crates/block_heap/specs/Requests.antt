-- What a heap for one thread answers to a request, before it counts refusals, and what a drain gives.
use Rattle.std.specs.Prelude.{◌≡◌, ◌≢◌, ℕ, ◌*◌, ◌⊎◌, List, None, Some, Contains, AllPairs}
use Rattle.heap_model.specs.declared.block.Block.{Block}
use Rattle.heap_model.specs.Sizes.{words_of_class}
use Rattle.heap_at_rest.specs.Draining.{IsDrainable, IsToDrain}
use Rattle.heap_seat.specs.Calls.{SameRefusals}
use Rattle.heap_seat.specs.Words.{IsOwn, KeepsWord, KeepsPending}
use Rattle.heap_seat.specs.View.{View}
use Rattle.block_heap.specs.Parts.{image_of, held_in}
use Rattle.block_heap.specs.SeqState.{SeqState, seat_of}
use Rattle.heap_seat.specs.Tickets.{Stops}

-- own words, roots and refusals stay
pub record KeepsWords (v w : View) : Type 0 where
  pub roots : w.roots ≡ v.roots
  pub words : (word : ℕ) → IsOwn v.held v.roots word → KeepsWord v w word
  pub pending : (word : ℕ) → IsOwn v.held v.roots word → KeepsPending v w word
  pub refusals : SameRefusals v w

-- no superblock without a part of a held block is elsewhere than in the free list, but those of the class
abbrev pub IsDrainableFor : ℕ → SeqState → Type 0
IsDrainableFor class s = IsDrainable s.parts.capacity (image_of s.parts) (held_in s.parts) class

-- a block that draining the class gives
abbrev pub IsDrainedOf : ℕ → SeqState → Block → Type 0
IsDrainedOf class s = IsToDrain s.parts.capacity (image_of s.parts) (held_in s.parts) class

-- the byte offsets of exactly these blocks, each once
pub record Drains (class : ℕ) (offsets : List ℕ) (s : SeqState) : Type 0 where
  pub sound : (offset : ℕ) → Contains offsets offset → (b : Block) × (offset ≡ 8 * b.first_word) × IsDrainedOf class s b
  pub complete : (b : Block) → IsDrainedOf class s b → Contains offsets (8 * b.first_word)
  pub once : AllPairs (λ x y. x ≢ y) offsets

-- a row of requests: the blocks that were held still are, and own words, roots and refusals stay
pub record KeepsHeld (s t : SeqState) : Type 0 where
  pub held : (b : Block) → Contains (held_in s.parts) b → Contains (held_in t.parts) b
  pub words : KeepsWords (seat_of s) (seat_of t)

-- the byte offset of a block of the class that is held now, and was not
pub record IsNewAt (class offset : ℕ) (s t : SeqState) : Type 0 where
  pub block : Block
  pub at : offset ≡ 8 * block.first_word
  pub size : block.words ≡ words_of_class class
  pub holds : Contains (held_in t.parts) block
  pub new : Contains (held_in s.parts) block → ⊥

-- a drain was done: the held blocks are those from before and exactly the blocks of the offsets
pub record HoldsDrained (class : ℕ) (offsets : List ℕ) (s t : SeqState) : Type 0 where
  pub ran : s.stopped ≡ None
  pub running : t.stopped ≡ None
  pub each : (offset : ℕ) → Contains offsets offset → IsNewAt class offset s t
  pub only : (b : Block) → Contains (held_in t.parts) b → Contains (held_in s.parts) b ⊎ Contains offsets (8 * b.first_word)

-- a drain answered this ticket in place of being done; where the heap had stopped before, nothing changes
pub record StopsDrain (ticket : ℕ) (s t : SeqState) : Type 0 where
  pub stops : Stops ticket (seat_of s) (seat_of t)
  pub idle : (at : ℕ) → s.stopped ≡ Some at → t ≡ s
