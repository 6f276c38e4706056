-- What the filling of an empty cache leaves of a seat.
use Rattle.std.specs.Prelude.{◌≡◌, ◌≢◌, ◌<◌, ◌≤◌, ◌+◌, ◌-◌, ℕ, List, length, set, Option, None, Some}
use Rattle.heap_model.specs.Geometry.{lists}
use Rattle.heap_model.specs.Sizes.{blocks_of}
use Rattle.heap_model.specs.Words.{head_first}
use Rattle.core_model.specs.View.{LastLook, View}
use Rattle.heap_seat.specs.declared.fault.Looks.{Looks}
use Rattle.cache_fill.specs.declared.refills.Found.{Found}
use Rattle.cache_fill.specs.declared.refills.Found.TheVariants.{Got, Nothing}
use Rattle.cache_fill.specs.declared.refills.FromClass.{FromClass}
use Rattle.cache_fill.specs.declared.refills.FromClass.TheVariants.{Filled as FilledFromClass, Empty}
use Rattle.cache_fill.specs.declared.refills.Filling.{Filling}
use Rattle.cache_fill.specs.declared.refills.Filling.TheVariants.{Filled, Full}
use Rattle.superblock_lists.specs.Pops.{with_claim}
use Rattle.seat_costs.specs.Costs.{Costs, no_costs}
use Rattle.seat_costs.specs.Rows.{IsMade, ViewRow, head_look, next_of, parts}

-- so many draws and exchanges that are won, whatever superblocks are moved to the list of the free ones
abbrev pub fill_costs : ℕ → ℕ → View → View → Costs
fill_costs draws wins v w = record no_costs { draws = draws; wins = wins; moves = w.moves - v.moves }

-- the last look said this word, by some ticket, and no exchange was won and no superblock taken since
pub record IsLook (look : LastLook) (word : ℕ) (w : View) : Type 0 where
  pub ticket : ℕ
  pub by : look.ticket ≡ Some ticket
  pub word_is : look.word ≡ word
  pub wins : look.wins ≡ w.wins
  pub taken : look.taken ≡ w.taken

-- some blocks are in the cache of the class; where a superblock was cut, all of its blocks
pub record HasFilled (class : ℕ) (v w : View) : Type 0 where
  pub going : w.stopped ≡ None
  pub blocks : List ℕ
  pub some : 1 ≤ length blocks
  pub most : length blocks ≤ blocks_of class
  pub whole : v.cuts < w.cuts → length blocks ≡ blocks_of class
  pub parts_are : parts w ≡ record (parts v) { caches = set v.caches class blocks }

-- the list of the class was empty, as its head said at the last step
pub record IsNoneOfClass (class head : ℕ) (v w : View) : Type 0 where
  pub ran : v.stopped ≡ None
  pub going : w.stopped ≡ None
  pub parts_are : parts w ≡ parts v
  pub none : head_first head ≡ 0
  pub look : IsLook (head_look w class) head w
  pub since : next_of v ≤ look.ticket
  pub last : next_of w ≡ look.ticket + 1
  pub row : ViewRow (fill_costs 3 0 v w) v w

-- with its blocks the seat won two exchanges at most, and drew five tickets
pub record HasFilledFrom (class : ℕ) (v w : View) : Type 0 where
  pub filled : HasFilled class v w
  pub row : ViewRow (fill_costs 5 2 v w) v w

-- filling a cache from the list of its class filled it, or found the list empty
abbrev pub FillsFrom : ℕ → FromClass → View → View → Type 0
FillsFrom class FilledFromClass v w = HasFilledFrom class v w
FillsFrom class (Empty head) v w = IsNoneOfClass class head v w

-- a superblock of the class had no held block any more, and is in the list of the free ones
pub record HasMoved (v w : View) : Type 0 where
  pub ran : v.stopped ≡ None
  pub going : w.stopped ≡ None
  pub room : v.draws < v.setup.budget
  pub more : v.draws < w.draws
  pub parts_are : parts w ≡ parts v
  pub row : ViewRow (fill_costs 0 0 v w) v w

-- the same of one try, which may have moved a superblock instead
abbrev pub TriesFrom : ℕ → Option FromClass → View → View → Type 0
TriesFrom class None v w = HasMoved v w
TriesFrom class (Some from) v w = FillsFrom class from v w

-- the last look at a list was made in between, before any superblock was taken that never was before; it found the list empty
pub record HasSeenEmpty (list : ℕ) (v w : View) : Type 0 where
  pub made : IsMade (next_of v) (next_of w) v.taken v.taken (head_look w list)
  pub empty : head_first (head_look w list).word ≡ 0

-- the last looks at the lists of the classes stay
abbrev pub KeepsClassLooks : View → View → Type 0
KeepsClassLooks v w = (list : ℕ) → list < lists → list ≢ 0 → head_look w list ≡ head_look v list

-- both lists were found empty, that of the class first
pub record HasSeenNone (class : ℕ) (v w : View) : Type 0 where
  pub of_class : HasSeenEmpty class v w
  pub free : HasSeenEmpty 0 v w
  pub order : of_class.made.ticket < free.made.ticket

-- a superblock is cut only where the list of the class had none, and since then one exchange was won, by which it was
-- claimed; one that was never taken is taken to be cut alone, and only where neither list had one
pub record IsFilledInOrder (class : ℕ) (v w : View) : Type 0 where
  pub cut : v.cuts < w.cuts → HasSeenEmpty class v w
  pub claimed : v.cuts < w.cuts → w.wins ≡ (head_look w class).wins + 1
  pub uncut : w.cuts ≡ v.cuts → w.taken ≡ v.taken
  pub fresh : v.taken < w.taken → HasSeenNone class v w

-- a superblock is claimed without a class, and no crash forgets that it was taken
pub record HasFound (d : ℕ) (v w : View) : Type 0 where
  pub going : w.stopped ≡ None
  pub parts_are : parts w ≡ with_claim 0 d (parts v)
  pub durable : d < w.floor
  pub wins : w.wins ≡ v.wins + 1

-- the list of the free ones was empty and the mark past, as the last looks at them say; nothing was won
pub record IsNothingFree (free_head used : ℕ) (v w : View) : Type 0 where
  pub going : w.stopped ≡ None
  pub parts_are : parts w ≡ parts v
  pub wins : w.wins ≡ v.wins
  pub taken : w.taken ≡ v.taken
  pub none : head_first free_head ≡ 0
  pub past : v.setup.capacity < used + 1
  pub free_look : IsLook (head_look w 0) free_head w
  pub used_look : IsLook w.used_look used w
  pub since : next_of v ≤ free_look.ticket
  pub order : free_look.ticket < used_look.ticket
  pub last : next_of w ≡ used_look.ticket + 1
  pub others : KeepsClassLooks v w
  pub row : ViewRow (record no_costs { draws = 6 }) v w

-- a superblock was found, or none is free
abbrev pub Finds : Found → View → View → Type 0
Finds (Got d) v w = HasFound d v w
Finds (Nothing free_head used) v w = IsNothingFree free_head used v w

-- the seat has what it had; its last looks, in this order, said that the list of the class is empty, that of the free
-- ones too, and that the mark is past; from the first of these on it won no exchange
pub record IsFull (class : ℕ) (looks : Looks) (v w : View) : Type 0 where
  pub going : w.stopped ≡ None
  pub parts_are : parts w ≡ parts v
  pub cuts : w.cuts ≡ v.cuts
  pub taken : w.taken ≡ v.taken
  pub class_look : IsLook (head_look w class) looks.class_head w
  pub free_look : IsLook (head_look w 0) looks.free_head w
  pub used_look : IsLook w.used_look looks.used w
  pub since : next_of v ≤ class_look.ticket
  pub class_first : class_look.ticket < free_look.ticket
  pub free_second : free_look.ticket < used_look.ticket
  pub last : next_of w ≡ used_look.ticket + 1
  pub class_empty : head_first looks.class_head ≡ 0
  pub free_empty : head_first looks.free_head ≡ 0
  pub past : v.setup.capacity < looks.used + 1

-- a refill filled the cache, or the heap is full
abbrev pub Refills : ℕ → Filling → View → View → Type 0
Refills class Filled v w = HasFilled class v w
Refills class (Full looks) v w = IsFull class looks v w
