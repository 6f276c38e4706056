-- What a call that takes or gives blocks is for a seat of a heap, besides what it does to the blocks.
use Rattle.std.proofs.Common.{◌≡◌, ◌<◌, ◌≤◌, ◌⊎◌, ℕ, ◌+◌, ◌*◌, inl, inr, length, None, refl, ap, sym, ◌∙◌, arith}
use Rattle.heap_seat.specs.Calls.{IsLargeCall, counted}
use Rattle.heap_seat.specs.Looks.{IsMade as IsMadeHeap}
use Rattle.heap_seat.specs.Words.{IsOwn, KeepsPending}
use Rattle.core_model.specs.View.{LastLook, Role, View, one_if_some, role}
use Rattle.heap_table.specs.Plays.{HasSoundState}
use Rattle.heap_rule.specs.Seated.{SeatView}
use Rattle.seat_costs.specs.Costs.{Costs}
use Rattle.seat_costs.specs.Rows.{IsKeptOrMade, Passes, Row, Stops, after_ticket, head_look, next_of}
use Rattle.seat_model.specs.CacheState.{CacheState, CallCounts, HasCounts, counts_of, heap_view, heap_view_of, look_of}
use Rattle.seat_model.proofs.HeldLemmas.{pending_at}
use Rattle.thread_cache.specs.Keeps.{KeepsCosts, light_draws, most_draws, most_gives, most_wins, traces}
use Rattle.thread_cache.proofs.CallLemmas.{CallStep, at_state, call_step, goes_on_law}

-- a state, and the seat and the counts after a call of it that counts as a large one
pub record LargeStep (s : CacheState) (x y : SeatView) (n : CallCounts) : Type 0 where
  pub call : CallStep s x y n
  pub small : n.small_calls ≡ s.small_calls
  pub large : n.large_calls ≡ s.large_calls + 1

pub large_step : (before s : CacheState) → before ≡ s → (x y : SeatView) → x.view ≡ before.view → x.marks ≡ before.marks → HasSoundState y.view
    → s.view.stopped ≡ None
    → LargeStep s x y (record (counts_of before) { large_calls = before.large_calls + 1 })
large_step before s is x y view marks has ran = record {
  call = call_step before s is x y _ view marks has ran;
  small = ap (λ (s : CacheState). s.small_calls) is;
  large = ap (λ (s : CacheState). s.large_calls + 1) is;
}

-- what a call may cost at most
pub record IsFew (costs : Costs) : Type 0 where
  pub draws : costs.draws ≤ most_draws + costs.credit
  pub wins : costs.wins ≤ most_wins + costs.refund
  pub gives : costs.gives ≤ most_gives
  pub cuts : costs.cuts ≤ 1

-- what a call drew is no more than a light one draws, or its traces pay for it
abbrev pub IsPaid : View → View → Type 0
IsPaid v w = w.draws + most_draws * (traces v + length w.large) + 16 * v.losses + 16 * v.moves
    ≤ v.draws + light_draws + most_draws * (traces w + length v.large) + 16 * w.losses + 16 * w.moves

-- of these no accept is one
abbrev left_behind : View → ℕ
left_behind v = v.cuts + v.gives + v.taken + one_if_some v.stopped

pub paid_light : (a : Costs) (v w : View) → a.draws ≤ light_draws + a.credit → Passes a v w
    → left_behind v + length w.large ≤ left_behind w + length v.large → IsPaid v w
paid_light a v w few passes left = let r = ap (λ (x : Role). x.accepts) passes.role_is in let d = passes.most.draws in
    let l = passes.more.losses in omega arith

pub paid_most : (a : Costs) (v w : View) → IsFew a → Passes a v w → left_behind v + length w.large + 1 ≤ left_behind w + length v.large → IsPaid v w
paid_most a v w few passes left = let r = ap (λ (x : Role). x.accepts) passes.role_is in let most = few.draws in let d = passes.most.draws in
    let l = passes.more.losses in omega arith

-- a last look, for the core and for the heap
look_law : (v w : View) (before now : LastLook) → IsKeptOrMade v w before now
    → (look_of now ≡ look_of before) ⊎ IsMadeHeap (next_of v) (next_of w) v.taken w.taken (look_of now)
look_law v w before now (inl same) = inl (ap look_of same)
look_law v w before now (inr made) = inr (record {
  ticket = made.ticket;
  by = made.by;
  since = made.since;
  below = made.below;
  least = made.taken_least;
  most = made.taken_most;
})

module _ {a : Costs} (s : CacheState) (x y : SeatView) (n : CallCounts) (step : LargeStep s x y n) (passed : Passes a x.view y.view) where
  passes : Passes a s.view y.view
  passes = at_state (λ v. Passes a v y.view) s x step.call.was passed

  pub large_counted : (most : ℕ) → a.taken ≤ most → IsLargeCall most (heap_view s) (heap_view_of y.view y.marks n)
  large_counted most few = record {
    goes_on = goes_on_law s.view y.view s.marks y.marks (counts_of s) n passes;
    small = step.small;
    large = step.large ∙ ap (λ o. counted o s.large_calls) (sym step.call.ran);
    taken = passes.more.taken;
    few = let t = passes.most.taken in omega arith;
    looks = record {
      used = look_law s.view y.view s.view.used_look y.view.used_look passes.looks.used;
      heads = λ list. look_law s.view y.view (head_look s.view list) (head_look y.view list) (passes.looks.heads list);
    };
  }

  pub large_keeps : IsFew a → IsPaid x.view y.view → KeepsCosts s.view s.small_calls s.large_calls y.view n.small_calls n.large_calls
      × (role y.view ≡ role s.view)
  large_keeps few paid = (
    record {
      setup = passes.setup;
      roots = passes.roots;
      floor = passes.floor;
      none_falls = passes.more;
      small_rise = let e = step.small in omega arith;
      large_rise = let e = step.large in omega arith;
      draws = let e = step.small in let f = step.large in let l = passes.more.losses in let m = passes.more.moves in
          let d = passes.most.draws in let most = few.draws in omega arith;
      wins = let f = step.large in let d = passes.most.wins in let m = passes.more.moves in let most = few.wins in omega arith;
      gives = let f = step.large in let d = passes.most.gives in let most = few.gives in omega arith;
      cuts = let f = step.large in let d = passes.most.cuts in let most = few.cuts in omega arith;
      light = let e = step.small in let f = step.large in let p : IsPaid s.view y.view = at_state (λ v. IsPaid v y.view) s x step.call.was paid in
          omega arith;
    },
    passes.role_is,
  )

  pub large_pending : Row a x y → (word : ℕ) → IsOwn (heap_view s).held s.view.roots word
      → KeepsPending (heap_view s) (heap_view_of y.view y.marks n) word
  large_pending row = pending_at s x y (heap_view_of y.view y.marks n) step.call.was refl refl refl row

-- a draw more is a ticket more
pub draws_later : {a : Costs} (v w : View) → Passes a v w → v.draws < w.draws → next_of v < next_of w
draws_later v w passes more = let t = passes.tickets in omega arith

pub stop_later : (v w : View) (step : ℕ) → v.stopped ≡ None → Stops step v w → next_of v < next_of w
stop_later v w step ran stop = let from = stop.now ran in let last = ap after_ticket stop.last in omega arith

pub large_counts_then : (small large refusals : ℕ) (v w : View) → next_of v < next_of w → HasCounts small large refusals v
    → HasCounts small (large + 1) refusals w
large_counts_then small large refusals v w later counts = (let c = counts.0 in omega arith, let c = counts.1 in omega arith)
