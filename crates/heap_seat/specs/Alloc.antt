-- What a request for a block does.
use Rattle.std.specs.Prelude.{◌≡◌, ℕ, ◌+◌, ◌*◌, ◌<◌, ◌⊎◌, Contains}
use Rattle.heap_model.specs.declared.block.Block.{Block}
use Rattle.heap_model.specs.Sizes.{IsLeastClassFor, largest_small, superblock_bytes, span_of, size_of}
use Rattle.heap_seat.specs.declared.fault.AllocFault.{AllocFault}
use Rattle.heap_seat.specs.declared.fault.AllocFault.TheVariants.{Full, Stopped}
use Rattle.heap_seat.specs.declared.fault.Looks.{Looks}
use Rattle.heap_seat.specs.View.{View}
use Rattle.heap_seat.specs.Words.{IsOwn, KeepsWord, KeepsPending}
use Rattle.heap_seat.specs.Tickets.{Runs, Stops}
use Rattle.heap_seat.specs.Looks.{FoundNoRoom}
use Rattle.heap_seat.specs.Calls.{SameRefusals}

-- the bytes of the block that a request gets: those of the least class that holds it, or of as many superblocks as it takes
pub data IsSizeFor (bytes : ℕ) : ℕ → Type 0 where
  of_class : (c : ℕ) → IsLeastClassFor bytes c → IsSizeFor bytes (size_of c)
  of_superblocks : largest_small < bytes → IsSizeFor bytes (superblock_bytes * span_of bytes)

-- the held blocks are those from before and this one, which is new
pub record Adds (b : Block) (v w : View) : Type 0 where
  pub new : Contains v.held b → ⊥
  pub has : Contains w.held b
  pub keeps : (a : Block) → Contains v.held a → Contains w.held a
  pub only : (a : Block) → Contains w.held a → (a ≡ b) ⊎ Contains v.held a
  pub roots : w.roots ≡ v.roots

-- the request got the block; of its words nothing is known, and no word that was the seat's is stored to
pub record Allocates (bytes : ℕ) (b : Block) (v w : View) : Type 0 where
  pub runs : Runs v w
  pub size : IsSizeFor bytes (8 * b.words)
  pub blocks : Adds b v w
  pub words : (word : ℕ) → IsOwn v.held v.roots word → KeepsWord v w word
  pub pending : (word : ℕ) → IsOwn v.held v.roots word → KeepsPending v w word
  pub refusals : SameRefusals v w

-- the request was refused for want of room: it took nothing, and it is the last refusal
pub record Refuses (bytes : ℕ) (looks : Looks) (v w : View) : Type 0 where
  pub runs : Runs v w
  pub found : FoundNoRoom bytes looks v w
  pub taken : w.taken ≡ v.taken
  pub count : w.refusals ≡ v.refusals + 1
  pub bytes_are : w.refused_bytes ≡ bytes
  pub looks_are : w.refused_looks ≡ looks
  pub pending : (word : ℕ) → IsOwn v.held v.roots word → KeepsPending v w word

-- the cause of each answer that gives no block
abbrev pub FailsBy : ℕ → AllocFault → View → View → Type 0
FailsBy bytes (Full looks) v w = Refuses bytes looks v w
FailsBy bytes (Stopped stopped) v w = Stops stopped.step v w × SameRefusals v w
