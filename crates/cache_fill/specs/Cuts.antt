-- What the making of a superblock's blocks leaves of a seat.
use Rattle.std.specs.Prelude.{◌≡◌, ◌≢◌, ◌<◌, ℕ, ◌+◌, ◌-◌, ◌*◌, ◌∷◌, None, set}
use Rattle.heap_model.specs.Counting.{without}
use Rattle.heap_model.specs.Geometry.{anchor_word, start_word}
use Rattle.heap_model.specs.Sizes.{blocks_of, words_of_class}
use Rattle.core_model.specs.Cells.{data_cell, info_cell}
use Rattle.core_model.specs.Effects.{class_blocks}
use Rattle.core_model.specs.View.{View}
use Rattle.heap_rule.specs.Fences.{Owns}
use Rattle.heap_rule.specs.Shown.{Shows, ShowsDurable}
use Rattle.seat_costs.specs.Rows.{Parts, SameLooks, parts}
use Rattle.seat_costs.specs.Words.{KeepsWord}

-- loads see this number in the superblock's info, and a crash leaves it
pub record HasDurableInfo (d info : ℕ) (v : View) : Type 0 where
  pub seen : Shows v (info_cell d) info
  pub left : ShowsDurable v (info_cell d) info

-- n words a step apart lead each to the next
abbrev pub Leads : View → ℕ → ℕ → ℕ → Type 0
Leads v from apart n = (j : ℕ) → j < n → Shows v (data_cell (from + j * apart)) (from + (j + 1) * apart)

-- the word leads to the value; of all other own words what was known is known
pub record HasLink (word value : ℕ) (v w : View) : Type 0 where
  pub going : w.stopped ≡ None
  pub parts_are : parts w ≡ parts v
  pub link : Shows w (data_cell word) value
  pub words : (k : ℕ) → k ≢ word → Owns v k → KeepsWord v w k
  pub looks : SameLooks v w

-- each block of the superblock but the last leads to the next, and its info is the class still
pub record HasLinks (d class : ℕ) (v w : View) : Type 0 where
  pub going : w.stopped ≡ None
  pub parts_are : parts w ≡ parts v
  pub info_is : HasDurableInfo d class w
  pub links : Leads w (start_word v.setup.capacity d) (words_of_class class) (blocks_of class - 1)
  pub looks : SameLooks v w

-- the superblock's anchor is full: its blocks are being made
abbrev pub with_making : ℕ → Parts → Parts
with_making d p = record p { raw = without d p.raw; split = without d p.split; cutting = d ∷ without d p.cutting }

-- the anchor is full, and of all other own words what was known is known
pub record HasFilledAnchor (d : ℕ) (v w : View) : Type 0 where
  pub going : w.stopped ≡ None
  pub parts_are : parts w ≡ with_making d (parts v)
  pub words : (k : ℕ) → k ≢ anchor_word d → Owns v k → KeepsWord v w k
  pub looks : SameLooks v w

-- all blocks of the superblock are in the cache of the class, and it is claimed no more
abbrev pub with_cut : ℕ → ℕ → Parts → Parts
with_cut d class p = record p {
  caches = set p.caches class (class_blocks p.setup.capacity class d);
  raw = without d p.raw;
  split = without d p.split;
  cutting = without d p.cutting;
}

-- the seat has the blocks in its cache, and its last looks stay
pub record HasCut (d class : ℕ) (v w : View) : Type 0 where
  pub going : w.stopped ≡ None
  pub parts_are : parts w ≡ with_cut d class (parts v)
  pub looks : SameLooks v w
