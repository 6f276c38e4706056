-- What giving a batch back to its superblock leaves of a seat.
use Rattle.std.specs.Prelude.{◌≡◌, ◌<◌, ◌≤◌, ◌+◌, ℕ, Bool, true, false, nat_eq, length, Option, None, Some}
use Rattle.heap_model.specs.Words.{full_anchor}
use Rattle.core_model.specs.Cells.{data_cell}
use Rattle.core_model.specs.Effects.{last_of, seen_word}
use Rattle.core_model.specs.View.{View, no_batch}
use Rattle.heap_rule.specs.Shown.{Shows}
use Rattle.superblock_lists.specs.Pops.{with_claim}
use Rattle.seat_costs.specs.Costs.{one_loss}
use Rattle.seat_costs.specs.Rows.{Parts, ViewRow, parts}

-- a batch of superblock d, of the class, with this last block
pub record IsBatchOf (d class last : ℕ) (v : View) : Type 0 where
  pub descriptor : v.batch.descriptor ≡ d
  pub class_is : v.batch.class ≡ class
  pub some : 1 ≤ length v.batch.blocks
  pub last_is : last_of v.batch.blocks ≡ last

-- the last block leads to another, by which no block may come behind it any more
abbrev pub with_linked : Bool → Parts → Parts
with_linked linked p = record p { batch = record p.batch { linked = linked } }

-- the last block leads to this one, and the anchor is seen still
pub record HasLinkedLast (last first : ℕ) (v w : View) : Type 0 where
  pub ran : v.stopped ≡ None
  pub going : w.stopped ≡ None
  pub room : v.draws < v.setup.budget
  pub more : v.draws < w.draws
  pub parts_are : parts w ≡ with_linked false (parts v)
  pub anchor : w.seen_anchor ≡ v.seen_anchor
  pub link : Shows w (data_cell last) first

-- the batch is gone, by the one exchange that was won; where no block of the superblock was free before, it is claimed with the class
abbrev pub given_parts : Bool → ℕ → ℕ → Parts → Parts
given_parts true d class p = with_claim class d (record p { batch = no_batch })
given_parts false d class p = record p { batch = no_batch }

-- the batch was given
pub record HasGiven (d class : ℕ) (full : Bool) (v w : View) : Type 0 where
  pub going : w.stopped ≡ None
  pub gave : v.gives < w.gives
  pub wins : w.wins ≡ v.wins + 1
  pub parts_are : parts w ≡ given_parts full d class (parts v)
  pub durable : full ≡ true → d < w.floor

-- another seat was faster: the batch is as it was, but that its last block may lead elsewhere
pub record HasNotGiven (draws : ℕ) (v w : View) : Type 0 where
  pub ran : v.stopped ≡ None
  pub going : w.stopped ≡ None
  pub room : v.draws < v.setup.budget
  pub more : v.draws < w.draws
  pub linked : Bool
  pub parts_are : parts w ≡ with_linked linked (parts v)
  pub row : ViewRow (record one_loss { draws = draws }) v w

-- the exchange of an anchor that was seen was won, or lost
abbrev pub GivesSeen : ℕ → Bool → View → View → Type 0
GivesSeen d true v w = HasGiven d v.batch.class (nat_eq (seen_word v.seen_anchor) full_anchor) v w
GivesSeen d false v w = HasNotGiven 1 v w

-- a try to give tells whether the superblock had no free block, or that another seat was faster
abbrev pub Gives : ℕ → ℕ → ℕ → Option Bool → View → View → Type 0
Gives d class draws None v w = HasNotGiven draws v w
Gives d class draws (Some full) v w = HasGiven d class full v w
