-- What the taking of all free blocks of a superblock leaves of a seat.
use Rattle.std.specs.Prelude.{◌≡◌, ◌<◌, ◌≤◌, ℕ, Bool, true, false, List, length, set, Option, None, Some}
use Rattle.heap_model.specs.Sizes.{blocks_of}
use Rattle.core_model.specs.Effects.{without_claim}
use Rattle.core_model.specs.View.{View}
use Rattle.heap_rule.specs.Shown.{ShowsEmpty}
use Rattle.seat_costs.specs.Costs.{one_draw, one_loss}
use Rattle.seat_costs.specs.Rows.{Parts, ViewRow, parts}

-- the blocks are in the cache of the class, and the superblock is claimed no more
abbrev pub with_taken : ℕ → ℕ → List ℕ → Parts → Parts
with_taken d class blocks p = record p { caches = set p.caches class blocks; classed = without_claim d p.classed }

-- some blocks of the superblock were free, and not all
pub record HasTakenFree (d class : ℕ) (v w : View) : Type 0 where
  pub going : w.stopped ≡ None
  pub blocks : List ℕ
  pub some : 1 ≤ length blocks
  pub few : length blocks < blocks_of class
  pub parts_are : parts w ≡ with_taken d class blocks (parts v)

-- all blocks of the superblock are free, as was seen just now
pub record IsAllFree (d : ℕ) (v w : View) : Type 0 where
  pub going : w.stopped ≡ None
  pub parts_are : parts w ≡ parts v
  pub empty : ShowsEmpty w d
  pub row : ViewRow one_draw v w

-- another seat gave blocks to it in between
pub record HasNotTaken (draws : ℕ) (v w : View) : Type 0 where
  pub ran : v.stopped ≡ None
  pub going : w.stopped ≡ None
  pub room : v.draws < v.setup.budget
  pub more : v.draws < w.draws
  pub parts_are : parts w ≡ parts v
  pub row : ViewRow (record one_loss { draws = draws }) v w

-- the exchange of an anchor that was seen was won, or lost
abbrev pub TakesSeen : ℕ → ℕ → Bool → View → View → Type 0
TakesSeen d class true v w = HasTakenFree d class v w
TakesSeen d class false v w = HasNotTaken 1 v w

-- the free blocks were taken, or all blocks of the superblock are free
abbrev pub TakesFree : ℕ → ℕ → Bool → View → View → Type 0
TakesFree d class true v w = HasTakenFree d class v w
TakesFree d class false v w = IsAllFree d v w

-- the same of one try
abbrev pub TriesFree : ℕ → ℕ → Option Bool → View → View → Type 0
TriesFree d class None v w = HasNotTaken 2 v w
TriesFree d class (Some taken) v w = TakesFree d class taken v w
