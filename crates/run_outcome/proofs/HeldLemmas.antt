-- Each state of a run's heap is sound; and which states of a worker's seat a request lies between that was answered.
use Rattle.std.proofs.Common.{◌<◌, ℕ, Bool, true, false, List, [], ◌∷◌, Contains, refl, subst, sym, inl, inr}
use Rattle.heap_model.specs.declared.block.Block.{Block}
use Rattle.heap_model.proofs.MemberLemmas.{in_none, head_or_rest}
use Rattle.core_model.specs.Held.{AreHeldOnce}
use Rattle.core_model.specs.View.{View}
use Rattle.core_model.proofs.HeldOnceLemmas.{held_once}
use Rattle.core_model.proofs.OpenedLemmas.{opened}
use Rattle.dict_model.specs.Requests.{Request, Reply, put, full}
use Rattle.heap_table.specs.Reached.{IsReached}
use Rattle.heap_table.specs.Rule.{setup_for, state_of}
use Rattle.heap_table.proofs.ReachedLemmas.{reached_sound}
use Rattle.run_model.specs.Runs.{answered, unanswered}
use Rattle.run_model.specs.Sending.{Sent, puts_of}
use Rattle.run_model.specs.Workers.{Replies, worker_requests}
use Rattle.run_model.specs.Working.{TakesRequest, TakesRequests}
use Rattle.seat_model.specs.CacheState.{CacheState, heap_view}
use Rattle.worker_parts.specs.Ending.{HasStepped, SettlesBehind}
use Rattle.worker_parts.specs.Going.{GoesOn, TurnsAway}
use Rattle.worker_parts.proofs.SettleLemmas.{settled_costs}
use Rattle.worker_parts.proofs.StateLemmas.{goes_none, goes_then}
use Rattle.run_outcome.specs.Held.{WasTakenIn, WasTurnedDownIn}
use Rattle.run_outcome.specs.Together.{HaveWorked, opening_for}

-- what requests do goes on
takes_on : (rs : List (Request × Reply)) (s t : CacheState) → TakesRequests heap_view GoesOn TurnsAway rs s t → GoesOn s t
takes_on [] s t same = subst (GoesOn s) (sym same) (goes_none s)
takes_on (r ∷ rs) s t takes = goes_then s takes.0 t takes.1.keeps_it (takes_on rs takes.0 t takes.2)

-- and so does what is done behind the last of them
settled_on : (left : List Request) (later : List Sent) (halted after : Bool) (s t : CacheState) → SettlesBehind left later halted after s t → GoesOn s t
settled_on left later true after s t settles = let same = settles.left_as_is refl in subst (GoesOn s) (sym same.1) settles.goes_on
settled_on left later false after s t settles = goes_then s settles.worked t settles.goes_on
    (settled_costs settles.before after settles.worked t (settles.settled refl)).goes_on

-- what lies between two states lies between such that come before and behind
taken_on : (q : Request) (r : Reply) (s from to t : CacheState) → GoesOn s from → GoesOn to t → WasTakenIn q r from to → WasTakenIn q r s t
taken_on q r s from to t before behind is = record {
  before = is.before;
  after = is.after;
  goes_before = goes_then s from is.before before is.goes_before;
  takes = is.takes;
  goes_after = goes_then is.after to t is.goes_after behind;
}

-- each of the requests lies between two states on the way
taken_in : (q : Request) (r : Reply) (rs : List (Request × Reply)) (s t : CacheState) → TakesRequests heap_view GoesOn TurnsAway rs s t
    → Contains rs (q, r) → WasTakenIn q r s t
taken_in q r [] s t takes has = absurd (in_none (q, r) has)
taken_in q r (first ∷ rs) s t takes has = elim (head_or_rest first (q, r) rs has) as (λ _. WasTakenIn q r s t) [
  | inl same ↦ record {
    before = s;
    after = takes.0;
    goes_before = goes_none s;
    takes = subst (λ (x : Request × Reply). TakesRequest heap_view GoesOn TurnsAway x.0 x.1 s takes.0) same takes.1;
    goes_after = takes_on rs takes.0 t takes.2;
  }
  | inr later ↦ taken_on q r s takes.0 t t takes.1.keeps_it (goes_none t) (taken_in q r rs takes.0 t takes.2 later)
]

module _ (words : List ℕ) (held : List Block) (workers budget : ℕ) (requests : List Request) (replies : Replies) (stopped : Bool)
    (now kept left : List ℕ)
    (h : HaveWorked words held workers budget requests replies stopped now kept left) where
  pub each_held_once : (state : List ℕ) (views : List View) → IsReached (setup_for (opening_for words held h.owners workers budget))
      (state_of (opening_for words held h.owners workers budget)) state views
      → AreHeldOnce (setup_for (opening_for words held h.owners workers budget)).capacity views
  each_held_once state views reached =
      held_once (setup_for (opening_for words held h.owners workers budget)) state views
      (reached_sound (setup_for (opening_for words held h.owners workers budget)) (state_of (opening_for words held h.owners workers budget))
      (opened words held budget workers h.owners.held h.owners.roots h.ready h.by_root.fits) state views reached)

  module _ (worker : ℕ) (below : worker < workers) where
    steps : HasStepped (answered (worker_requests workers worker requests) (h.told worker)) (h.brought worker)
        (unanswered (worker_requests workers worker requests) (h.told worker)) (h.parts worker below).ended.later
        h.halted (h.stops worker) (h.first worker) (h.last worker)
    steps = (h.parts worker below).steps

    -- from the last answer on
    behind_arrivals : GoesOn steps.arrived (h.last worker)
    behind_arrivals = settled_on _ _ h.halted (h.stops worker) steps.arrived (h.last worker) steps.settles

    behind_requests : GoesOn steps.asked (h.last worker)
    behind_requests = goes_then steps.asked steps.arrived (h.last worker)
        (takes_on (puts_of (h.brought worker)) steps.asked steps.arrived steps.arrivals) behind_arrivals

    asked : (request : Request) (reply : Reply) → Contains (answered (worker_requests workers worker requests) (h.told worker)) (request, reply)
        → WasTakenIn request reply (h.first worker) (h.last worker)
    asked request reply has = taken_on request reply (h.first worker) steps.begun steps.asked (h.last worker) steps.tables behind_requests
        (taken_in request reply (answered (worker_requests workers worker requests) (h.told worker)) steps.begun steps.asked steps.requests has)

    brought : (request : Request) (reply : Reply) → Contains (puts_of (h.brought worker)) (request, reply)
        → WasTakenIn request reply (h.first worker) (h.last worker)
    brought request reply has = taken_on request reply (h.first worker) steps.asked steps.arrived (h.last worker)
        (goes_then (h.first worker) steps.begun steps.asked steps.tables
        (takes_on (answered (worker_requests workers worker requests) (h.told worker)) steps.begun steps.asked steps.requests)) behind_arrivals
        (taken_in request reply (puts_of (h.brought worker)) steps.asked steps.arrived steps.arrivals has)

    refused : (key : ℕ) (value : List ℕ) → Contains (answered (worker_requests workers worker requests) (h.told worker)) (put key value, full)
        → WasTurnedDownIn (put key value) (h.first worker) (h.last worker)
    refused key value has =
        let is = asked (put key value) full has in
        record { before = is.before; after = is.after; goes_before = is.goes_before; refused = is.takes.refused tt refl; goes_after = is.goes_after }

  pub asked_request : (worker : ℕ) (request : Request) (reply : Reply) → worker < workers
      → Contains (answered (worker_requests workers worker requests) (h.told worker)) (request, reply)
      → WasTakenIn request reply (h.first worker) (h.last worker)
  asked_request worker request reply below = asked worker below request reply

  pub brought_value : (worker : ℕ) (request : Request) (reply : Reply) → worker < workers → Contains (puts_of (h.brought worker)) (request, reply)
      → WasTakenIn request reply (h.first worker) (h.last worker)
  brought_value worker request reply below = brought worker below request reply

  pub refused_put : (worker key : ℕ) (value : List ℕ) → worker < workers
      → Contains (answered (worker_requests workers worker requests) (h.told worker)) (put key value, full)
      → WasTurnedDownIn (put key value) (h.first worker) (h.last worker)
  refused_put worker key value below = refused worker below key value
