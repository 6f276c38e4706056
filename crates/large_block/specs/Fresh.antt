-- What the taking of superblocks that were never taken leaves of a seat.
use Rattle.std.specs.Prelude.{◌≡◌, ◌≢◌, ◌<◌, ◌≤◌, ◌+◌, ℕ, ◌++◌, Bool, true, false, get_or, length, Option, None, Some, ⊤}
use Rattle.core_model.specs.Cells.{anchor_cell, info_cell}
use Rattle.core_model.specs.Effects.{steps}
use Rattle.core_model.specs.View.{View, times_claimed, times_raw}
use Rattle.heap_rule.specs.Shown.{Shows, ShowsDurable}
use Rattle.heap_table.specs.Plays.{HasSoundState}
use Rattle.large_block.specs.declared.fresh.Take.{Take}
use Rattle.large_block.specs.declared.fresh.Take.TheVariants.{Got, Past}
use Rattle.superblock_lists.specs.Pops.{GoesOn, looked}
use Rattle.seat_costs.specs.Costs.{one_loss}
use Rattle.seat_costs.specs.Rows.{IsMade, Parts, ViewRow, next_of, parts}

-- n superblocks from d on are claimed too, without a class
abbrev pub with_fresh : ℕ → ℕ → Parts → Parts
with_fresh d n p = record p { raw = p.raw ++ steps d 1 n }

-- infos and anchors of n superblocks from d on are 0, and durably
pub record AreBlankFrom (d n : ℕ) (v : View) : Type 0 where
  pub info : (e : ℕ) → d ≤ e → e < d + n → Shows v (info_cell e) 0
  pub durable_info : (e : ℕ) → d ≤ e → e < d + n → ShowsDurable v (info_cell e) 0
  pub anchor : (e : ℕ) → d ≤ e → e < d + n → Shows v (anchor_cell e) 0
  pub durable_anchor : (e : ℕ) → d ≤ e → e < d + n → ShowsDurable v (anchor_cell e) 0

-- the mark was seen, and it is the last look at it
pub record SeesUsed (used : ℕ) (v w : View) : Type 0 where
  pub goes_on : GoesOn v w
  pub is_seen : w.seen_used ≡ Some used
  pub within : used ≤ v.setup.capacity
  pub look : w.used_look ≡ looked used w
  pub heads : w.head_looks ≡ v.head_looks
  pub taken : w.taken ≡ v.taken
  pub cuts : w.cuts ≡ v.cuts
  pub later : next_of v < next_of w

-- superblocks from the mark that was seen on are the seat's, and the mark was seen behind them
pub record HasMarked (n used : ℕ) (v w : View) : Type 0 where
  pub going : w.stopped ≡ None
  pub parts_are : parts w ≡ with_fresh used n (parts v)
  pub mark : w.seen_used ≡ Some (used + n)
  pub room : used + n ≤ v.setup.capacity
  pub blank : AreBlankFrom used n w
  pub look : w.used_look ≡ v.used_look
  pub wins : w.wins ≡ v.wins + 1
  pub taken : w.taken ≡ v.taken + n
  pub heads : w.head_looks ≡ v.head_looks
  pub later : next_of v ≤ next_of w

-- another seat was faster
pub record HasLostMark (draws : ℕ) (v w : View) : Type 0 where
  pub ran : v.stopped ≡ None
  pub going : w.stopped ≡ None
  pub room : v.draws < v.setup.budget
  pub more : v.draws < w.draws
  pub parts_are : parts w ≡ parts v
  pub wins : w.wins ≡ v.wins
  pub taken : w.taken ≡ v.taken
  pub cuts : w.cuts ≡ v.cuts
  pub heads : w.head_looks ≡ v.head_looks
  pub row : ViewRow (record one_loss { draws = draws }) v w

-- the exchange of the mark that was seen was won, or lost
abbrev pub Marks : ℕ → ℕ → Bool → View → View → Type 0
Marks n used true v w = HasMarked n used v w
Marks n used false v w = HasLostMark 1 v w

-- the mark is durable as far as it was seen
pub record HasKept (used : ℕ) (v w : View) : Type 0 where
  pub going : w.stopped ≡ None
  pub parts_are : parts w ≡ parts v
  pub durable : used ≤ w.floor
  pub blank : (d n : ℕ) → ((e : ℕ) → d ≤ e → e < d + n → 0 < times_raw e v) → AreBlankFrom d n v → AreBlankFrom d n w
  pub look : w.used_look ≡ v.used_look
  pub wins : w.wins ≡ v.wins
  pub taken : w.taken ≡ v.taken
  pub heads : w.head_looks ≡ v.head_looks
  pub later : next_of v ≤ next_of w

-- they are the seat's and counted as taken, no crash forgets that they were, and nothing is in their descriptors; the
-- last look at the mark said that there is room for them
pub record HasTakenFresh (n d : ℕ) (v w : View) : Type 0 where
  pub going : w.stopped ≡ None
  pub parts_are : parts w ≡ with_fresh d n (parts v)
  pub durable : d + n ≤ w.floor
  pub blank : AreBlankFrom d n w
  pub room : d + n ≤ v.setup.capacity
  pub seen : w.used_look.word ≡ d
  pub made : IsMade (next_of v) (next_of w) v.taken v.taken w.used_look
  pub wins : w.wins ≡ v.wins + 1
  pub taken : w.taken ≡ v.taken + n
  pub heads : w.head_looks ≡ v.head_looks

-- the mark, as read at the last step, left no room for n more; nothing was won
pub record IsPast (n used : ℕ) (v w : View) : Type 0 where
  pub going : w.stopped ≡ None
  pub parts_are : parts w ≡ parts v
  pub wins : w.wins ≡ v.wins
  pub taken : w.taken ≡ v.taken
  pub cuts : w.cuts ≡ v.cuts
  pub look : w.used_look ≡ looked used w
  pub past : v.setup.capacity < used + n
  pub heads : w.head_looks ≡ v.head_looks
  pub later : next_of v < next_of w

-- superblocks were taken, or the mark left no room
abbrev pub Takes : ℕ → Take → View → View → Type 0
Takes n (Got d) v w = HasTakenFresh n d v w
Takes n (Past used) v w = IsPast n used v w

-- the same of one try
abbrev pub TriesTake : ℕ → Option Take → View → View → Type 0
TriesTake n None v w = HasLostMark 2 v w
TriesTake n (Some take) v w = Takes n take v w

-- each superblock that was taken is claimed, and in no sound state that has the view by another seat too
abbrev pub AreInThisHandAlone : ℕ → Take → View → Type 0
AreInThisHandAlone n (Past used) w = ⊤
AreInThisHandAlone n (Got d) w = (e : ℕ) → d ≤ e → e < d + n → (0 < times_claimed e w)
    × ((s : HasSoundState w) (j : ℕ) (u : View) → j ≢ s.seat → j < length s.views → get_or s.views j u ≡ u → times_claimed e u ≡ 0)
