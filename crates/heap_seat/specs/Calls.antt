-- What each call counts, whatever it answers, and what the calls on words do.
use Rattle.std.specs.Prelude.{◌≡◌, ◌≢◌, ℕ, ◌+◌, ◌≤◌, Option, None, Some, Contains}
use Rattle.heap_model.specs.Blocks.{IsIn}
use Rattle.line_memory.specs.View.{line_of}
use Rattle.heap_seat.specs.declared.spot.Spot.{Spot}
use Rattle.heap_seat.specs.declared.spot.Spot.TheVariants.{InBlock, Root}
use Rattle.heap_seat.specs.View.{View, word_of}
use Rattle.heap_seat.specs.Words.{IsOwn, IsDurable}
use Rattle.heap_seat.specs.Tickets.{Runs}
use Rattle.heap_seat.specs.Looks.{KnowsNoLess, KeepsLooks}

-- one call more, unless the seat had stopped
abbrev pub counted : Option ℕ → ℕ → ℕ
counted None calls = calls + 1
counted (Some ticket) calls = calls

-- capacity, kinds and budget stay, tickets rise, and what is known of `used` doesn't fall
pub record GoesOn (v w : View) : Type 0 where
  pub capacity : w.capacity ≡ v.capacity
  pub kinds : w.kinds ≡ v.kinds
  pub budget : w.budget ≡ v.budget
  pub tickets : v.next ≤ w.next
  pub used : KnowsNoLess v w

-- no request was refused
pub record SameRefusals (v w : View) : Type 0 where
  pub count : w.refusals ≡ v.refusals
  pub bytes : w.refused_bytes ≡ v.refused_bytes
  pub looks : w.refused_looks ≡ v.refused_looks

-- a call of load, store, write_back or fence: it takes no superblock, no request is refused, and the last looks stay
pub record IsSmallCall (v w : View) : Type 0 where
  pub goes_on : GoesOn v w
  pub small : w.small_calls ≡ counted v.stopped v.small_calls
  pub large : w.large_calls ≡ v.large_calls
  pub taken : w.taken ≡ v.taken
  pub used_look : w.used_look ≡ v.used_look
  pub head_look : (list : ℕ) → w.head_look list ≡ v.head_look list
  pub refusals : SameRefusals v w

-- a call of alloc or free, which takes at most so many superblocks
pub record IsLargeCall (most : ℕ) (v w : View) : Type 0 where
  pub goes_on : GoesOn v w
  pub small : w.small_calls ≡ v.small_calls
  pub large : w.large_calls ≡ counted v.stopped v.large_calls
  pub taken : v.taken ≤ w.taken
  pub few : w.taken ≤ v.taken + most
  pub looks : KeepsLooks v w

-- a load that was done gave this value of the word; what was pending is
pub record Loads (word value : ℕ) (v w : View) : Type 0 where
  pub runs : Runs v w
  pub seen : w.volatile word ≡ Some value
  pub pending : (other : ℕ) → Contains v.pending other → Contains w.pending other

-- a store that was done: loads see the value, and the other words that were pending are
pub record Stores (word value : ℕ) (v w : View) : Type 0 where
  pub runs : Runs v w
  pub seen : w.volatile word ≡ Some value
  pub pending : (other : ℕ) → other ≢ word → Contains v.pending other → Contains w.pending other

-- the words that a write-back of the spot makes pending: those of its block that share its line, or the root itself
abbrev pub IsWrittenWith : Spot → ℕ → Type 0
IsWrittenWith (InBlock b index) word = IsIn b word × (line_of word ≡ line_of (b.first_word + index))
IsWrittenWith (Root i) word = word ≡ word_of (Root i)

-- a write-back that was done: these words are pending, beside those that were
pub record WritesBack (spot : Spot) (v w : View) : Type 0 where
  pub runs : Runs v w
  pub line : (word : ℕ) → IsWrittenWith spot word → Contains w.pending word
  pub pending : (other : ℕ) → Contains v.pending other → Contains w.pending other

-- a fence that was done: each own word that was pending is durable at what loads see
pub record Fences (v w : View) : Type 0 where
  pub runs : Runs v w
  pub durable : (word : ℕ) → IsOwn v.held v.roots word → Contains v.pending word → IsDurable w word
