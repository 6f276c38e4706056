-- What a seat read last of the words that it shares with others.
use Rattle.std.specs.Prelude.{◌≡◌, ℕ, ◌+◌, ◌<◌, ◌≤◌, ◌⊎◌, Some}
use Rattle.heap_model.specs.Words.{head_first}
use Rattle.heap_model.specs.Sizes.{IsLeastClassFor, largest_small, span_of}
use Rattle.heap_seat.specs.declared.fault.Looks.{Looks}
use Rattle.heap_seat.specs.declared.look.Look.{Look}
use Rattle.heap_seat.specs.View.{View}
use Rattle.heap_seat.specs.Tickets.{IsDrawn}

-- the last look gave this word, by a ticket of this call, and no superblock was taken since
pub record IsLastSeen (v w : View) (look : Look) (seen : ℕ) : Type 0 where
  pub is : look.seen ≡ seen
  pub ticket : ℕ
  pub by : look.ticket ≡ Some ticket
  pub drawn : IsDrawn v w ticket
  pub taken : look.taken ≡ w.taken

-- the head was read last, and its list was empty
pub record FoundEmpty (v w : View) (list head : ℕ) : Type 0 where
  pub last : IsLastSeen v w (w.head_look list) head
  pub empty : head_first head ≡ 0

-- why the request found no room: the lists that it may have a block from were empty, and too few superblocks were left
pub record FoundNoRoom (bytes : ℕ) (looks : Looks) (v w : View) : Type 0 where
  pub used : IsLastSeen v w w.used_look looks.used
  pub past : w.capacity < looks.used + span_of bytes
  pub class : (c : ℕ) → IsLeastClassFor bytes c → FoundEmpty v w c looks.class_head
  pub free : bytes ≤ largest_small → FoundEmpty v w 0 looks.free_head
  pub large : largest_small < bytes → (looks.class_head ≡ 0) × (looks.free_head ≡ 0)

-- the last look at `used` less what the seat had taken by then: this difference never falls
abbrev pub KnowsNoLess : View → View → Type 0
KnowsNoLess v w = v.used_look.seen + w.used_look.taken ≤ w.used_look.seen + v.used_look.taken

-- the look was made by one of the tickets from `from` until before `until`, when `before` to `after` superblocks had been taken
pub record IsMade (from until before after : ℕ) (look : Look) : Type 0 where
  pub ticket : ℕ
  pub by : look.ticket ≡ Some ticket
  pub since : from ≤ ticket
  pub below : ticket < until
  pub least : before ≤ look.taken
  pub most : look.taken ≤ after

-- each last look is the one from before, or was made in between
pub record KeepsLooks (v w : View) : Type 0 where
  pub used : (w.used_look ≡ v.used_look) ⊎ IsMade v.next w.next v.taken w.taken w.used_look
  pub heads : (list : ℕ) → (w.head_look list ≡ v.head_look list) ⊎ IsMade v.next w.next v.taken w.taken (w.head_look list)
