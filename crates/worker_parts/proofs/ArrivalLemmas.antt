-- What came is brought in, as far as it was; and what a stop or emptied caches leave.
use Rattle.std.proofs.Common.{◌≡◌, ◌≢◌, ℕ, ◌↔◌, Bool, true, false, List, [], ◌∷◌, ◌++◌, append-nil, None, Some, Result, Ok, Err, OnOk, OnErr, IfErr, inl, inr, refl, sym, ap, ◌∙◌}
use Rattle.std.specs.Bool.{⊤}
use Rattle.std.specs.Result.{is_err}
use Rattle.heap_model.specs.Image.{Image}
use Rattle.heap_seat.specs.Tickets.{Stops}
use Rattle.heap_seat.specs.View.{View}
use Rattle.line_memory.specs.declared.memory.Stopped.{Stopped}
use Rattle.dict_model.specs.Requests.{Request, Reply}
use Rattle.dict_requests.specs.Reached.{ReachesAllHeld}
use Rattle.dict_requests.proofs.ExactCallLemmas.{all_quiet}
use Rattle.seat_model.specs.CacheState.{CacheState, CacheValue, heap_view, opened_kinds}
use Rattle.seat_model.proofs.HeldLemmas.{seat_law}
use Rattle.thread_cache.specs.Quiet.{HasEmptyCaches}
use Rattle.run_model.specs.Progress.{HasAnswered}
use Rattle.run_model.specs.Runs.{answered}
use Rattle.run_model.specs.Sending.{Sent, puts_of}
use Rattle.run_model.specs.Working.{TakesRequests}
use Rattle.shard_moves.specs.Arriving.{MayArrive, StopsInOne}
use Rattle.worker_parts.specs.Going.{GoesOn, HasSettled, TurnsAway, had_stopped, is_empty, stops_now}
use Rattle.worker_parts.specs.Jobs.{AreLeftOf}
use Rattle.worker_parts.proofs.StateLemmas.{goes_none, none_of, takes_all, view_of}

-- the first of what came were brought in, all of them unless it was stopped at the next; and these are left now
pub record BringsIn (came left : List Sent) (stopped : Bool) (s t : CacheState) : Type 0 where
  pub brought : List Sent
  pub later : List Sent
  pub came_are : came ≡ brought ++ later
  pub left_are : AreLeftOf later left
  pub all : stopped ≡ false → later ≡ []
  pub behind : CacheState
  pub answered : (image : Image) (rs : List (Request × Reply)) → HasAnswered image rs (heap_view s)
      → HasAnswered image (rs ++ puts_of brought) (heap_view behind)
  pub steps : TakesRequests heap_view GoesOn TurnsAway (puts_of brought) s behind
  pub goes_on : GoesOn behind t
  pub there : stopped ≡ false → t ≡ behind
  pub next : stopped ≡ true → (next : Sent) × (others : List Sent) × (later ≡ next ∷ others) × MayArrive next (heap_view behind) (heap_view t)

-- so it is by what bringing in answers; and it keeps all that is reached, or was stopped by a ticket
pub brings_in : {C : Type 0} (goes : CacheValue C → CacheValue C → Type 0) (goes_on : (s t : CacheValue C) → goes s t → GoesOn s.state t.state)
    (result : Result ⊤ Stopped) (came after : List Sent)
    (s t : CacheValue C) → OnOk result ((image : Image) (rs : List (Request × Reply)) → HasAnswered image rs (heap_view s.state)
    → HasAnswered image (rs ++ puts_of came) (heap_view t.state))
    → OnOk result (TakesRequests view_of goes none_of (puts_of came) s t)
    → OnErr result (StopsInOne view_of goes none_of came after s t) → OnOk result (after ≡ []) → BringsIn came after (is_err result) s.state t.state
brings_in goes goes_on (Ok a) came after s t answered steps stops empty = record {
  brought = came;
  later = [];
  came_are = sym (append-nil came);
  left_are = inl empty;
  all = λ e. refl;
  behind = t.state;
  answered = answered;
  steps = takes_all goes goes_on (puts_of came) s t steps;
  goes_on = goes_none t.state;
  there = λ e. refl;
  next = λ e. let both : false ≡ true = e in absurd (cc);
}
brings_in goes goes_on (Err stopped) came after s t answered steps stops empty = record {
  brought = stops.brought;
  later = stops.next ∷ stops.others;
  came_are = stops.left_are;
  left_are = elim stops.still as (λ _. AreLeftOf (stops.next ∷ stops.others) after) [
    | inl all ↦ inl all
    | inr one ↦ inr (stops.next, ap (λ xs. stops.next ∷ xs) (sym one))
  ];
  all = λ e. let both : true ≡ false = e in absurd (cc);
  behind = stops.before.state;
  answered = stops.answered;
  steps = takes_all goes goes_on (puts_of stops.brought) s stops.before stops.steps;
  goes_on = goes_on stops.before t stops.goes_on;
  there = λ e. let both : true ≡ false = e in absurd (cc);
  next = λ e. (stops.next, stops.others, refl, stops.arrives);
}

pub arrival_exact : (result : Result ⊤ Stopped) (v w : View) → OnOk result (ReachesAllHeld v → ReachesAllHeld w) → is_err result ≡ false
    → ReachesAllHeld v → ReachesAllHeld w
arrival_exact (Ok a) v w exact e = exact
arrival_exact (Err stopped) v w exact e = let both : true ≡ false = e in absurd (cc)

pub arrival_cause : (result : Result ⊤ Stopped) (v w : View) → IfErr result (λ e. Stops e.step v w) → is_err result ≡ true → (ticket : ℕ)
    × (w.stopped ≡ Some ticket)
arrival_cause (Ok a) v w stops e = let both : false ≡ true = e in absurd (cc)
arrival_cause (Err stopped) v w stops e = (stopped.step, stops.stopped)

-- what a stop or emptied caches leave
module _ (before after : Bool) (s t : CacheState) (settled : HasSettled before after s t) where
  pub ends_stopped : (before ≡ true → (ticket : ℕ) × (s.view.stopped ≡ Some ticket)) → (after ≡ true) ↔ (t.view.stopped ≢ None)
  ends_stopped cause = by_case settled where
    some : (ticket : ℕ) → t.view.stopped ≡ Some ticket → t.view.stopped ≢ None
    some ticket at none = let e : Some ticket ≡ None = sym at ∙ none in absurd (cc)

    by_case : HasSettled before after s t → (after ≡ true) ↔ (t.view.stopped ≢ None)
    by_case (had_stopped was is same) = let at = cause was in (λ e. some at.0 (ap (λ (x : CacheState). x.view.stopped) same ∙ at.1), λ other. is)
    by_case (is_empty was is empty going quieted) = (λ e. let both : true ≡ false = sym e ∙ is in absurd (cc), λ other. absurd (other going))
    by_case (stops_now was is ticket at quieted) = (λ e. some ticket at, λ other. is)

  pub ends_exact : (before ≡ false → ReachesAllHeld (heap_view s)) → after ≡ false → ReachesAllHeld (heap_view t)
  ends_exact all going = by_case settled where
    by_case : HasSettled before after s t → ReachesAllHeld (heap_view t)
    by_case (had_stopped was is same) = let both : true ≡ false = sym is ∙ going in absurd (cc)
    by_case (is_empty was is empty on quieted) = all_quiet (heap_view s) (heap_view t) (seat_law t) quieted.own
        (ap opened_kinds quieted.kept.1.setup) (all was)
    by_case (stops_now was is ticket at quieted) = let both : true ≡ false = sym is ∙ going in absurd (cc)

  pub ends_emptied : after ≡ false → HasEmptyCaches t
  ends_emptied going = by_case settled where
    by_case : HasSettled before after s t → HasEmptyCaches t
    by_case (had_stopped was is same) = let both : true ≡ false = sym is ∙ going in absurd (cc)
    by_case (is_empty was is empty on quieted) = empty
    by_case (stops_now was is ticket at quieted) = let both : true ≡ false = sym is ∙ going in absurd (cc)
