-- What the splitting of a large block leaves of a seat.
use Rattle.std.specs.Prelude.{◌≡◌, ◌≢◌, ◌<◌, ◌≤◌, ◌+◌, ◌⊎◌, ◌++◌, ◌∷◌, [], ℕ, zero, suc, List, None}
use Rattle.heap_model.specs.Counting.{without}
use Rattle.core_model.specs.Cells.{anchor_cell}
use Rattle.core_model.specs.Effects.{span_count, steps, without_span}
use Rattle.core_model.specs.View.{View}
use Rattle.heap_rule.specs.Shown.{Shows}
use Rattle.seat_costs.specs.Rows.{Parts, parts}

-- the large block from d on is held no more, and its superblocks count as empty
abbrev pub with_split : ℕ → Parts → Parts
with_split d p = record p { large = without_span d p.large; split = p.split ++ steps d 1 (span_count d p.large) }

-- a superblock that counted as empty is empty
abbrev pub with_cleared : ℕ → Parts → Parts
with_cleared e p = record p { raw = e ∷ p.raw; split = without e p.split }

-- so are n of them from d on, one after the other
abbrev pub all_cleared : ℕ → ℕ → Parts → Parts
all_cleared d zero p = p
all_cleared d (suc n) p = with_cleared (d + n) (all_cleared d n p)

-- the n numbers from d on, the greatest first
abbrev pub down : ℕ → ℕ → List ℕ
down d zero = []
down d (suc n) = (d + n) ∷ down d n

-- the anchor of superblock e is 0, and those that were 0 still are
pub record HasCleared (e : ℕ) (v w : View) : Type 0 where
  pub ran : v.stopped ≡ None
  pub going : w.stopped ≡ None
  pub parts_are : parts w ≡ with_cleared e (parts v)
  pub anchor : Shows w (anchor_cell e) 0
  pub others : (i : ℕ) → i ≢ e → i < v.setup.capacity → Shows v (anchor_cell i) 0 → Shows w (anchor_cell i) 0

-- the anchors of n superblocks from d on are 0
pub record HasClearedAll (d n : ℕ) (v w : View) : Type 0 where
  pub going : w.stopped ≡ None
  pub parts_are : parts w ≡ all_cleared d n (parts v)
  pub anchors : (e : ℕ) → d ≤ e → e < d + n → Shows w (anchor_cell e) 0

-- the large block from d on is held no more: its superblocks are claimed as ones that were taken, no crash forgets that, and their anchors are 0
pub record HasSplit (d : ℕ) (v w : View) : Type 0 where
  pub going : w.stopped ≡ None
  pub durable : d + span_count d v.large ≤ w.floor
  pub parts_are : parts w ≡ record (parts v) { large = without_span d v.large; raw = down d (span_count d v.large) ++ v.raw }
  pub anchors : (e : ℕ) → d ≤ e → e < d + span_count d v.large → Shows w (anchor_cell e) 0

-- at most that block is held no more
pub record MayHaveSplit (d : ℕ) (v w : View) : Type 0 where
  pub small : w.small ≡ v.small
  pub large : (w.large ≡ v.large) ⊎ (w.large ≡ without_span d v.large)
