-- What every call of a seat that allocates by caches leaves of the heap, and what it may cost.
use Rattle.std.specs.Prelude.{◌≡◌, ◌≤◌, ℕ, ◌+◌, ◌*◌, ◌^◌, length}
use Rattle.core_model.specs.View.{View, one_if_some, role}
use Rattle.seat_costs.specs.Costs.{NoneFalls}
use Rattle.heap_rule.specs.Seated.{SeatView}
use Rattle.seat_costs.specs.Asked.{HasAsked}
use Rattle.seat_model.specs.CacheState.{CacheState, CacheValue, no_looks}

-- the most tickets that a call of alloc or free draws, but for those that losses and moves pay
abbrev pub most_draws : ℕ
most_draws = 2 ^ 17

-- the most exchanges that it wins
abbrev pub most_wins : ℕ
most_wins = 2 ^ 15

-- the most batches that it gives
abbrev pub most_gives : ℕ
most_gives = 2 ^ 14

-- and the most tickets that a light one draws
abbrev pub light_draws : ℕ
light_draws = 64

-- what pays for calls that are not light: superblocks cut and taken, batches given, blocks accepted, and a stop
abbrev pub traces : View → ℕ
traces v = v.cuts + v.gives + v.taken + v.accepts + one_if_some v.stopped

-- Between two views of a seat, with so many small and large calls by then, the setup and the owned roots stay, no count
-- falls, and what is known of the durable
-- mark does not. A small call draws one ticket at most, and any other the most; it cuts one superblock at most. To that
-- come 16 tickets for each lost exchange and
-- each move, and 2 wins for each move. A large call draws as many tickets as a light one, with the most for each trace
-- and for each large block that is held no more.
pub record KeepsCosts (v : View) (small large : ℕ) (w : View) (smalls larges : ℕ) : Type 0 where
  pub setup : w.setup ≡ v.setup
  pub roots : w.roots ≡ v.roots
  pub floor : v.floor ≤ w.floor
  pub none_falls : NoneFalls v w
  pub small_rise : small ≤ smalls
  pub large_rise : large ≤ larges
  pub draws : w.draws + small + most_draws * large + 16 * v.losses + 16 * v.moves ≤ v.draws + smalls + most_draws * larges + 16 * w.losses + 16
      * w.moves
  pub wins : w.wins + most_wins * large + 2 * v.moves ≤ v.wins + most_wins * larges + 2 * w.moves
  pub gives : w.gives + most_gives * large ≤ v.gives + most_gives * larges
  pub cuts : w.cuts + large ≤ v.cuts + larges
  pub light : w.draws + small + light_draws * large + most_draws * (traces v + length w.large) + 16 * v.losses + 16 * v.moves
      ≤ v.draws + smalls + light_draws * larges + most_draws * (traces w + length v.large) + 16 * w.losses + 16 * w.moves

-- the same between two states, by their counts of calls
abbrev pub KeepsCounts : CacheState → CacheState → Type 0
KeepsCounts s t = KeepsCosts s.view s.small_calls s.large_calls t.view t.small_calls t.large_calls

-- it is a seat of the same heap, and no block was offered or accepted
abbrev pub KeepsHeap : CacheState → CacheState → Type 0
KeepsHeap s t = (t.table ≡ s.table) × KeepsCounts s t × (role t.view ≡ role s.view)

-- and it has asked its chance for as many numbers as it drew tickets
pub record KeepsSeat {C : Type 0} (gives : C → ℕ → C → Type 0) (s t : CacheValue C) : Type 0 where
  pub heap : KeepsHeap s.state t.state
  pub asked : HasAsked gives s.state.view t.state.view s.chance t.chance

-- a seat that allocates, just made of a seat
pub record IsNew (seat : SeatView) (s : CacheState) : Type 0 where
  pub table : s.table ≡ seat.table
  pub view : s.view ≡ seat.view
  pub marks : s.marks ≡ seat.marks
  pub stores : s.stores ≡ seat.stores
  pub small : s.small_calls ≡ 0
  pub large : s.large_calls ≡ 0
  pub refusals : s.refusals ≡ 0
  pub refused_bytes : s.refused_bytes ≡ 0
  pub refused_looks : s.refused_looks ≡ no_looks
