-- What a look at a list of superblocks, and a pop from it, leave of a seat.
use Rattle.std.specs.Prelude.{◌≡◌, ◌≢◌, ◌<◌, ◌+◌, ℕ, zero, suc, ◌∷◌, Bool, true, false, Option, None, Some}
use Rattle.heap_model.specs.Words.{head_first}
use Rattle.core_model.specs.Guards.{IsThere}
use Rattle.core_model.specs.View.{LastLook, Snapshot, View}
use Rattle.superblock_lists.specs.declared.pops.Pop.{Pop}
use Rattle.superblock_lists.specs.declared.pops.Pop.TheVariants.{Got, Empty}
use Rattle.heap_rule.specs.Fences.{Owns}
use Rattle.seat_costs.specs.Words.{KeepsWord}
use Rattle.seat_costs.specs.Costs.{one_loss}
use Rattle.seat_costs.specs.Rows.{Parts, ViewRow, head_look, parts, next_of}

-- the snapshot of a list's head
abbrev pub list_head : ℕ → ℕ → Option Snapshot
list_head list word = Some (record { of = list; word = word })

-- the last look at a list, by the last ticket
abbrev pub looked : ℕ → View → LastLook
looked head w = record { word = head; ticket = w.last_ticket; wins = w.wins; taken = w.taken }

-- the last looks at the mark and at the other lists stay
pub record KeepsOtherLooks (list : ℕ) (v w : View) : Type 0 where
  pub used : w.used_look ≡ v.used_look
  pub heads : (other : ℕ) → other ≢ list → head_look w other ≡ head_look v other

-- nothing was won or lost, and the seat goes on with its parts, and knows what it knew
pub record GoesOn (v w : View) : Type 0 where
  pub ran : v.stopped ≡ None
  pub going : w.stopped ≡ None
  pub room : v.draws < v.setup.budget
  pub more : v.draws < w.draws
  pub parts_are : parts w ≡ parts v
  pub wins : w.wins ≡ v.wins
  pub losses : w.losses ≡ v.losses
  pub taken : w.taken ≡ v.taken
  pub cuts : w.cuts ≡ v.cuts
  pub anchor : w.seen_anchor ≡ v.seen_anchor
  pub words : (word : ℕ) → Owns v word → KeepsWord v w word

-- the head of a list was seen, and it is the last look at it
pub record SeesHead (list head : ℕ) (v w : View) : Type 0 where
  pub goes_on : GoesOn v w
  pub is_seen : w.seen_head ≡ list_head list head
  pub look : head_look w list ≡ looked head w
  pub others : KeepsOtherLooks list v w
  pub later : next_of v < next_of w

-- the link of the first one of the list was seen too
pub record SeesLink (v w : View) : Type 0 where
  pub goes_on : GoesOn v w
  pub head : w.seen_head ≡ v.seen_head
  pub link : IsThere w.seen_link
  pub others : (list : ℕ) → KeepsOtherLooks list v w

-- superblock d was seen to be the first of the list, and so was its link
pub record SeesFirst (list d : ℕ) (v : View) : Type 0 where
  pub head : ℕ
  pub is_seen : v.seen_head ≡ list_head list head
  pub first : head_first head ≡ d + 1
  pub link : IsThere v.seen_link

-- superblock d is claimed too: without a class, or with that of the list
abbrev pub with_claim : ℕ → ℕ → Parts → Parts
with_claim zero d p = record p { raw = d ∷ p.raw }
with_claim (suc class) d p = record p { classed = record { descriptor = d; class = suc class } ∷ p.classed }

-- it is the seat's, and no crash forgets that it was taken
pub record HasPopped (list d : ℕ) (v w : View) : Type 0 where
  pub ran : v.stopped ≡ None
  pub going : w.stopped ≡ None
  pub room : v.draws < v.setup.budget
  pub more : v.draws < w.draws
  pub parts_are : parts w ≡ with_claim list d (parts v)
  pub durable : d < w.floor
  pub wins : w.wins ≡ v.wins + 1
  pub others : KeepsOtherLooks list v w

-- another seat was faster
pub record HasLost (list draws : ℕ) (v w : View) : Type 0 where
  pub ran : v.stopped ≡ None
  pub going : w.stopped ≡ None
  pub room : v.draws < v.setup.budget
  pub more : v.draws < w.draws
  pub parts_are : parts w ≡ parts v
  pub wins : w.wins ≡ v.wins
  pub losses : w.losses ≡ v.losses + 1
  pub taken : w.taken ≡ v.taken
  pub cuts : w.cuts ≡ v.cuts
  pub others : KeepsOtherLooks list v w
  pub row : ViewRow (record one_loss { draws = draws }) v w
  pub unseen : w.seen_head ≡ None

-- the exchange of a head that was seen was won, or lost
abbrev pub Exchanges : ℕ → ℕ → Bool → View → View → Type 0
Exchanges list d true v w = HasPopped list d v w
Exchanges list d false v w = HasLost list 1 v w

-- the list was empty, as its head said at the last step; nothing was won
pub record IsEmptyList (list head : ℕ) (v w : View) : Type 0 where
  pub ran : v.stopped ≡ None
  pub going : w.stopped ≡ None
  pub parts_are : parts w ≡ parts v
  pub wins : w.wins ≡ v.wins
  pub taken : w.taken ≡ v.taken
  pub cuts : w.cuts ≡ v.cuts
  pub is_seen : w.seen_head ≡ list_head list head
  pub none : head_first head ≡ 0
  pub look : head_look w list ≡ looked head w
  pub others : KeepsOtherLooks list v w
  pub later : next_of v < next_of w

-- a pop got a superblock, or found the list empty
abbrev pub Pops : ℕ → Pop → View → View → Type 0
Pops list (Got d) v w = HasPopped list d v w
Pops list (Empty head) v w = IsEmptyList list head v w

-- the same of one try
abbrev pub TriesPop : ℕ → Option Pop → View → View → Type 0
TriesPop list None v w = HasLost list 3 v w
TriesPop list (Some pop) v w = Pops list pop v w
