-- Writing a node: what its parts leave of the seat's other words, and when all of it is on its way to be durable.
use Rattle.std.specs.Prelude.{◌≡◌, ◌≢◌, ℕ, ◌+◌, ◌*◌, ◌<◌, ◌≤◌, ◌⊎◌, List, length, Contains}
use Rattle.heap_model.specs.declared.block.Block.{Block}
use Rattle.heap_model.specs.Image.{image_of_bytes}
use Rattle.heap_model.specs.Blocks.{IsIn}
use Rattle.heap_seat.specs.View.{View}
use Rattle.heap_seat.specs.Words.{IsOwn, IsDurable, KeepsWord}
use Rattle.heap_seat.specs.Tickets.{Runs}
use Rattle.heap_seat.specs.Calls.{SameRefusals}
use Rattle.heap_seat.specs.Rows.{IsRow, Settles}
use Rattle.dict_model.specs.Layout.{next_index, key_index, length_index, value_index}
use Rattle.dict_model.specs.Nodes.{value_words}
use Rattle.dict_requests.specs.Moving.{IsNodeOf, head_of}
use Rattle.dict_requests.specs.Reached.{Reading}
use Rattle.dict_requests.specs.Trails.{IsDurableAt, IsSettling}

-- at most so many small calls, which store to words of the block alone
pub record StoresWithin (b : Block) (small : ℕ) (v w : View) : Type 0 where
  pub held : w.held ≡ v.held
  pub roots : w.roots ≡ v.roots
  pub outside : (word : ℕ) → IsOwn v.held v.roots word → (IsIn b word → ⊥) → KeepsWord v w word
  pub calls : IsRow small 0 0 v w
  pub refusals : SameRefusals v w

-- they were done, and leave the pending write-backs of other words
pub record KeepsPendingBut (b : Block) (v w : View) : Type 0 where
  pub runs : Runs v w
  pub pending : (word : ℕ) → (IsIn b word → ⊥) → Contains v.pending word → Contains w.pending word

-- a word was stored and written back
pub record Writes (word value : ℕ) (v w : View) : Type 0 where
  pub runs : Runs v w
  pub pending : (other : ℕ) → other ≢ word → Contains v.pending other → Contains w.pending other
  pub settling : IsSettling w word value

-- the words of the value from the first on, so many
abbrev pub HasWords : Reading → Block → List ℕ → ℕ → Type 0
HasWords reads b value count = (i : ℕ) → i < count → reads (b.first_word + (value_index + i)) (image_of_bytes value i)

-- the block is a node of the key with this value, and leads on to this word
pub record IsWrittenNode (reads : Reading) (b : Block) (key next : ℕ) (value : List ℕ) : Type 0 where
  pub next_is : reads (b.first_word + next_index) next
  pub key_is : reads (b.first_word + key_index) key
  pub length_is : reads (b.first_word + length_index) (length value)
  pub words : HasWords reads b value (value_words (length value))

-- how far a value has been written since the call began
pub record IsWriting (b : Block) (value : List ℕ) (count : ℕ) (v w : View) : Type 0 where
  pub within : StoresWithin b (2 * count) v w
  pub done : (w ≡ v) ⊎ KeepsPendingBut b v w
  pub words : HasWords (IsSettling w) b value count

-- a value was written: in no calls at all where it is empty
pub record WritesValue (b : Block) (value : List ℕ) (v w : View) : Type 0 where
  pub done : (w ≡ v) ⊎ KeepsPendingBut b v w
  pub words : HasWords (IsSettling w) b value (value_words (length value))

-- all of a node was written
pub record WritesNode (b : Block) (key next : ℕ) (value : List ℕ) (v w : View) : Type 0 where
  pub done : KeepsPendingBut b v w
  pub written : IsWrittenNode (IsSettling w) b key next value

-- a new block became a node, all of it durable, and so is each word whose write-back was pending
pub record MakesNode (b : Block) (key next : ℕ) (value : List ℕ) (v w : View) : Type 0 where
  pub runs : Runs v w
  pub new : Contains v.held b → ⊥
  pub held : Contains w.held b
  pub only : (a : Block) → Contains w.held a → (a ≡ b) ⊎ Contains v.held a
  pub room : value_index + value_words (length value) ≤ b.words
  pub settles : Settles v w
  pub written : IsWrittenNode (IsDurableAt w) b key next value
  pub refusals : SameRefusals v w

-- a block that wasn't held is a node of the key with this value, whose link and key are durable, and so is each word whose write-back was pending
pub record HasNode (b : Block) (key next : ℕ) (value : List ℕ) (v w : View) : Type 0 where
  pub new : Contains v.held b → ⊥
  pub held : Contains w.held b
  pub only : (a : Block) → Contains w.held a → (a ≡ b) ⊎ Contains v.held a
  pub settles : Settles v w
  pub node : IsNodeOf w b value
  pub next_is : IsDurableAt w (b.first_word + next_index) next
  pub key_is : IsDurableAt w (b.first_word + key_index) key

-- the link and the key of a node were written and are durable, and so is each other word whose write-back was pending
pub record WritesHead (b : Block) (key next : ℕ) (v w : View) : Type 0 where
  pub runs : Runs v w
  pub settles : (word : ℕ) → IsOwn v.held v.roots word → (IsIn (head_of b) word → ⊥) → Contains v.pending word → IsDurable w word
  pub next_is : IsDurableAt w (b.first_word + next_index) next
  pub key_is : IsDurableAt w (b.first_word + key_index) key
