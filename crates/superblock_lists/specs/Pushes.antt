-- What a push on a list of superblocks leaves of a seat.
use Rattle.std.specs.Prelude.{◌≡◌, ◌≢◌, ◌<◌, ◌+◌, ℕ, Bool, true, false, None, cond, nat_eq, nat_lt}
use Rattle.heap_model.specs.Counting.{times, without}
use Rattle.heap_model.specs.Geometry.{link_word}
use Rattle.heap_model.specs.Sizes.{IsClass}
use Rattle.heap_model.specs.Words.{head_first}
use Rattle.core_model.specs.Cells.{link_cell}
use Rattle.core_model.specs.Effects.{claim_class, without_claim}
use Rattle.core_model.specs.View.{View, times_classed}
use Rattle.heap_rule.specs.Fences.{Owns}
use Rattle.heap_rule.specs.Shown.{CanList, Shows}
use Rattle.superblock_lists.specs.Pops.{list_head}
use Rattle.seat_costs.specs.Costs.{one_loss, one_move, one_push}
use Rattle.seat_costs.specs.Rows.{Parts, ViewRow, parts}
use Rattle.seat_costs.specs.Words.{KeepsWord}

-- a superblock that is claimed with the class
pub record IsClaimOf (class d : ℕ) (v : View) : Type 0 where
  pub is_class : IsClass class
  pub claimed : 0 < times_classed d v.classed
  pub of : claim_class d v.classed ≡ class

-- the link of a claimed superblock leads to another of the list
pub record HasSetLink (d first : ℕ) (v w : View) : Type 0 where
  pub ran : v.stopped ≡ None
  pub going : w.stopped ≡ None
  pub parts_are : parts w ≡ parts v
  pub losses : w.losses ≡ v.losses
  pub head : w.seen_head ≡ v.seen_head
  pub anchor : w.seen_anchor ≡ v.seen_anchor
  pub floor : w.floor ≡ v.floor
  pub link : Shows w (link_cell d) first
  pub words : (word : ℕ) → word ≢ link_word d → Owns v word → KeepsWord v w word

-- the head of a list was seen, and the superblock leads to its first one
pub record SeesLinked (list d : ℕ) (v : View) : Type 0 where
  pub head : ℕ
  pub is_seen : v.seen_head ≡ list_head list head
  pub link : Shows v (link_cell d) (head_first head)

-- the superblock is not claimed any more
abbrev pub without_claim_of : ℕ → Parts → Parts
without_claim_of d p = cond (nat_lt 0 (times d p.raw + times d p.split)) (record p { raw = without d p.raw; split = without d p.split })
    (record p { classed = without_claim d p.classed })

-- how many superblocks are moved to the list of the free ones: one that is claimed with a class, where it is put there
abbrev pub moved_by : ℕ → ℕ → Parts → ℕ
moved_by list d p = cond (nat_lt 0 (times d p.raw + times d p.split)) 0 (cond (nat_eq list 0) 1 0)

-- it is in the list; one that was claimed with a class and is in the list of the free ones counts as moved there
pub record HasPushed (list d draws : ℕ) (v w : View) : Type 0 where
  pub going : w.stopped ≡ None
  pub parts_are : parts w ≡ without_claim_of d (parts v)
  pub moves : w.moves ≡ v.moves + moved_by list d (parts v)
  pub row : ViewRow (record one_push { draws = draws }) v w
  pub moved : list ≡ 0 → times d v.raw + times d v.split ≡ 0 → ViewRow (record one_move { draws = draws }) v w

-- another seat was faster: the seat has its parts, and may push the superblock still
pub record HasMissed (list d draws : ℕ) (v w : View) : Type 0 where
  pub ran : v.stopped ≡ None
  pub going : w.stopped ≡ None
  pub room : v.draws < v.setup.budget
  pub more : v.draws < w.draws
  pub parts_are : parts w ≡ parts v
  pub row : ViewRow (record one_loss { draws = draws }) v w
  pub can : CanList w d list

-- one try of a push was won, or lost
abbrev pub Pushes : ℕ → ℕ → ℕ → Bool → View → View → Type 0
Pushes list d draws true v w = HasPushed list d draws v w
Pushes list d draws false v w = HasMissed list d draws v w
