-- What the calls of a seat of the core are for a seat of a heap.
use Rattle.std.proofs.Common.{◌≡◌, ◌<◌, ◌≤◌, ℕ, ◌+◌, ◌^◌, get_or, length, List, Bool, Option, None, Some, Result, Ok, Err, IfErr, OnErr, refl, ap, sym, subst, ◌∙◌, arith}
use Rattle.heap_seat.specs.Calls.{GoesOn, IsSmallCall, counted}
use Rattle.heap_seat.specs.Tickets.{Runs, Stops as HeapStops}
use Rattle.heap_seat.specs.Words.{KeepsOwn}
use Rattle.line_memory.specs.declared.memory.Stopped.{Stopped}
use Rattle.core_model.specs.Effects.{seen}
use Rattle.core_model.specs.View.{LastLook, Role, Setup, View, of_class, one_if_some, role}
use Rattle.heap_table.specs.Plays.{HasSoundState}
use Rattle.heap_rule.specs.Seated.{SeatView}
use Rattle.seat_costs.specs.Asked.{HasAsked}
use Rattle.seat_costs.specs.Costs.{Costs, one_draw}
use Rattle.seat_costs.specs.Rows.{Parts, Passes, Row, SameLooks, Stops, ViewRow, after_ticket, next_of}
use Rattle.seat_costs.proofs.RowLemmas.{not_both}
use Rattle.seat_model.specs.CacheState.{CacheState, CacheValue, HasCounts, CallCounts, IsBetweenCalls, IsStateOf, counts_of, heap_view, heap_view_of, look_of, opened_kinds}
use Rattle.seat_model.proofs.HeldLemmas.{kept_at, seat_law}
use Rattle.seat_model.proofs.TakenBlocks.{held_same}
use Rattle.thread_cache.specs.Own.{Drew}
use Rattle.thread_cache.specs.Keeps.{KeepsCosts}

-- the state of a seat, and what it has asked its chance for, as its value was given
pub state_is : {C : Type 0} {s t : CacheValue C} → s ≡ t → s.state ≡ t.state
state_is same = ap (λ (s : CacheValue _). s.state) same

pub asked_at : {C : Type 0} {gives : C → ℕ → C → Type 0} {before s : CacheValue C} {w : View} {new : C} → before ≡ s
    → HasAsked gives before.state.view w before.chance new
    → HasAsked gives s.state.view w s.chance new
asked_at {C} {gives} {before} {s} {w} {new} is asked = subst (λ (x : CacheValue C). HasAsked gives x.state.view w x.chance new) is asked

-- a seat that has stopped is refused, and nothing changes
pub stop_again : (s : CacheState) (step : ℕ) → s.view.stopped ≡ Some step → HeapStops step (heap_view s) (heap_view s)
stop_again s step at = let is = (seat_law s).stopping step at in record {
  stopped = at;
  above = is.0;
  last = is.1;
  now = λ going. not_both at going;
  before = λ other had. (let e : Some step ≡ Some other = sym at ∙ had in cc, refl);
}

-- a ticket in hand is below the budget
next_below : (o : Option ℕ) (budget : ℕ) → ((ticket : ℕ) → o ≡ Some ticket → ticket < budget) → after_ticket o ≤ budget
next_below None budget less = omega arith
next_below (Some ticket) budget less = let l = less ticket refl in omega arith

view_below : (v : View) → v.stopped ≡ None → HasSoundState v → next_of v ≤ v.setup.budget
view_below v going has = next_below v.last_ticket v.setup.budget below where
  below : (ticket : ℕ) → v.last_ticket ≡ Some ticket → ticket < v.setup.budget
  below ticket is = let less = (has.sound.good.tickets has.seat v has.below has.at).state.going going (ap one_if_some is) in
      let same = ap seen is in omega arith

-- the tickets that a seat may still draw are few
pub next_low : (v : View) → HasSoundState v → v.setup.budget < 2 ^ 40 → v.stopped ≡ None → next_of v < 2 ^ 40
next_low v has low going = let most = view_below v going has in omega arith

-- a call that is done, and one that stops
pub runs_law : (v w : View) (marks marks' : List Bool) (n n' : CallCounts) → HasSoundState w → v.stopped ≡ None → w.stopped ≡ None
    → next_of v < next_of w → Runs (heap_view_of v marks n) (heap_view_of w marks' n')
runs_law v w marks marks' n n' has ran going later = record { ran = ran; running = going; drew = later; below = view_below w going has }

pub stops_law : (v w : View) (marks marks' : List Bool) (n n' : CallCounts) (step : ℕ) → v.stopped ≡ None → w.setup ≡ v.setup → Stops step v w
    → HeapStops step (heap_view_of v marks n) (heap_view_of w marks' n')
stops_law v w marks marks' n n' step ran setup stop = record {
  stopped = stop.at;
  above = let same = ap (λ (k : Setup). k.budget) setup in let b = stop.budget in omega arith;
  last = ap after_ticket stop.last;
  now = λ going. record { from = stop.now going; until = let last = ap after_ticket stop.last in omega arith };
  before = λ other had. not_both had ran;
}

-- what every call leaves: setup and tickets, and what is known of the mark
pub goes_on_law : {a : Costs} (v w : View) (marks marks' : List Bool) (n n' : CallCounts) → Passes a v w
    → GoesOn (heap_view_of v marks n) (heap_view_of w marks' n')
goes_on_law v w marks marks' n n' passes = record {
  capacity = ap (λ (k : Setup). k.capacity) passes.setup;
  kinds = ap opened_kinds passes.setup;
  budget = ap (λ (k : Setup). k.budget) passes.setup;
  tickets = passes.next;
  used = passes.looks.no_less;
}

-- a state, and the seat and the counts after a call of it that was not refused
pub record CallStep (s : CacheState) (x y : SeatView) (n : CallCounts) : Type 0 where
  pub was : IsStateOf s x
  pub has : HasSoundState y.view
  pub ran : s.view.stopped ≡ None

pub call_step : (before s : CacheState) → before ≡ s → (x y : SeatView) (n : CallCounts) → x.view ≡ before.view → x.marks ≡ before.marks
    → HasSoundState y.view → s.view.stopped ≡ None → CallStep s x y n
call_step before s is x y n view marks has ran = record {
  was = record { view = view ∙ ap (λ (s : CacheState). s.view) is; marks = marks ∙ ap (λ (s : CacheState). s.marks) is };
  has = has;
  ran = ran;
}

-- the same of a small call
pub record SmallStep (s : CacheState) (x y : SeatView) (n : CallCounts) : Type 0 where
  pub call : CallStep s x y n
  pub small : n.small_calls ≡ s.small_calls + 1
  pub large : n.large_calls ≡ s.large_calls
  pub refusals : n.refusals ≡ s.refusals
  pub bytes : n.refused_bytes ≡ s.refused_bytes
  pub refused : n.refused_looks ≡ s.refused_looks

pub small_step : (before s : CacheState) → before ≡ s → (x y : SeatView) → x.view ≡ before.view → x.marks ≡ before.marks → HasSoundState y.view
    → s.view.stopped ≡ None
    → SmallStep s x y (record (counts_of before) { small_calls = before.small_calls + 1 })
small_step before s is x y view marks has ran = record {
  call = call_step before s is x y _ view marks has ran;
  small = ap (λ (s : CacheState). s.small_calls + 1) is;
  large = ap (λ (s : CacheState). s.large_calls) is;
  refusals = ap (λ (s : CacheState). s.refusals) is;
  bytes = ap (λ (s : CacheState). s.refused_bytes) is;
  refused = ap (λ (s : CacheState). s.refused_looks) is;
}

-- what is so of the seat is so of the state
pub at_state : (P : View → Type 0) (s : CacheState) (x : SeatView) → IsStateOf s x → P x.view → P s.view
at_state P s x was is = subst P was.view is

-- own words that no call stores to are kept, at any answer or at a refusal; and a seat that stops says so
module _ (s : CacheState) (x y : SeatView) (n : CallCounts) (call : CallStep s x y n) where
  pub keeps_own : {a : Costs} → Row a x y → KeepsOwn (heap_view s) (heap_view_of y.view y.marks n)
  keeps_own {a} row = kept_at s y.view (heap_view_of y.view y.marks n) refl refl refl refl (at_state (λ v. ViewRow a v y.view) s x call.was row.view)

  pub refused_own : (a : Costs) {A E : Type 0} (result : Result A E) → OnErr result (Row a x y)
      → OnErr result (KeepsOwn (heap_view s) (heap_view_of y.view y.marks n))
  refused_own a (Ok r) row = tt
  refused_own a (Err e) row = keeps_own row

  pub call_stops : {a : Costs} → Passes a x.view y.view → {A : Type 0} (result : Result A Stopped)
      → IfErr result (λ e. Stops e.step x.view y.view) → IfErr result (λ e. HeapStops e.step (heap_view s) (heap_view_of y.view y.marks n))
  call_stops passes (Ok r) stop = tt
  call_stops {a} passes (Err e) stop =
      stops_law s.view y.view s.marks y.marks (counts_of s) n e.step call.ran (at_state (λ v. Passes a v y.view) s x call.was passes).setup
      (at_state (λ v. Stops e.step v y.view) s x call.was stop)

-- what a call that counts as a small one leaves, by what it leaves of the setup, the tickets and the mark
pub counts_small : (s : CacheState) (x y : SeatView) (n : CallCounts) → SmallStep s x y n → GoesOn (heap_view s) (heap_view_of y.view y.marks n)
    → y.view.taken ≡ s.view.taken → SameLooks x.view y.view → IsSmallCall (heap_view s) (heap_view_of y.view y.marks n)
counts_small s x y n step goes_on taken same = let looks = at_state (λ v. SameLooks v y.view) s x step.call.was same in record {
  goes_on = goes_on;
  small = step.small ∙ ap (λ o. counted o s.small_calls) (sym step.call.ran);
  large = step.large;
  taken = taken;
  used_look = ap look_of looks.used;
  head_look = λ list. ap (λ (l : LastLook). look_of (get_or y.view.head_looks list l)) looks.used
      ∙ ap (λ heads. look_of (get_or heads list s.view.used_look)) looks.heads;
  refusals = record { count = step.refusals; bytes = step.bytes; looks = step.refused };
}

module _ (s : CacheState) (x y : SeatView) (n : CallCounts) (step : SmallStep s x y n) (passed : Passes one_draw x.view y.view) where
  passes : Passes one_draw s.view y.view
  passes = at_state (λ v. Passes one_draw v y.view) s x step.call.was passed

  pub small_counted : SameLooks x.view y.view → IsSmallCall (heap_view s) (heap_view_of y.view y.marks n)
  small_counted = counts_small s x y n step (goes_on_law s.view y.view s.marks y.marks (counts_of s) n passes)
      (let least = passes.more.taken in let most = passes.most.taken in omega arith)

  pub small_keeps : y.view.large ≡ x.view.large → KeepsCosts s.view s.small_calls s.large_calls y.view n.small_calls n.large_calls
      × (role y.view ≡ role s.view)
  small_keeps same = (
    record {
      setup = passes.setup;
      roots = passes.roots;
      floor = passes.floor;
      none_falls = passes.more;
      small_rise = let e = step.small in omega arith;
      large_rise = let e = step.large in omega arith;
      draws = let e = step.small in let f = step.large in let l = passes.more.losses in let m = passes.more.moves in
          let d = passes.most.draws in omega arith;
      wins = let f = step.large in let d = passes.most.wins in let m = passes.more.moves in omega arith;
      gives = let f = step.large in let d = passes.most.gives in omega arith;
      cuts = let f = step.large in let d = passes.most.cuts in omega arith;
      light = let e = step.small in let f = step.large in let l = passes.more.losses in let d = passes.most.draws in
          let c = passes.more.cuts in let g = passes.more.gives in let t = passes.more.taken in
          let r = ap (λ (x : Role). x.accepts) passes.role_is in let ran = ap one_if_some step.call.ran in
          let spans = ap length (at_state (λ v. y.view.large ≡ v.large) s x step.call.was same) in omega arith;
    },
    passes.role_is,
  )

-- beside the table
pub kept_with : {A B C : Type 0} → A → B × C → A × B × C
kept_with a rest = (a, rest.0, rest.1)

-- the facts that a state has, after a call
pub between_then : (v w : View) → Drew v w → v.stopped ≡ None → IsBetweenCalls v → IsBetweenCalls w
between_then v w drew ran before going = let is = before ran in let same = drew.parts_are going in (
  record {
    batch = ap (λ (p : Parts). p.batch) same ∙ is.0.batch;
    raw = ap (λ (p : Parts). p.raw) same ∙ is.0.raw;
    split = ap (λ (p : Parts). p.split) same ∙ is.0.split;
    cutting = ap (λ (p : Parts). p.cutting) same ∙ is.0.cutting;
    classed = ap (λ (p : Parts). p.classed) same ∙ is.0.classed;
  },
  record {
    each = λ class is_class. let less = is.1.each class is_class in let e = ap (λ (p : Parts). length (of_class p.caches class)) same in
        omega arith;
  },
)

pub counts_then : (small large refusals : ℕ) (v w : View) → next_of v < next_of w → HasCounts small large refusals v
    → HasCounts (small + 1) large refusals w
counts_then small large refusals v w later counts = (let c = counts.0 in omega arith, counts.1)
