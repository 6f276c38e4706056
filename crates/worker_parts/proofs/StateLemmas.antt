-- What is so of a seat with its chance is so of its state; and how a seat goes on goes on from step to step.
use Rattle.std.proofs.Common.{ℕ, List, [], ◌∷◌, Bool, true, false, ap, ◌∙◌}
use Rattle.core_model.specs.View.{Role}
use Rattle.heap_seat.specs.View.{View as HeapView}
use Rattle.heap_seat.specs.declared.fault.Looks.{Looks}
use Rattle.dict_model.specs.Requests.{Request, Reply}
use Rattle.dict_requests.specs.Puts.{WasTurnedDown}
use Rattle.run_model.specs.Spending.{AreFullRightly}
use Rattle.run_model.specs.Working.{TakesRequest, TakesRequests, WasRefused}
use Rattle.seat_model.specs.CacheState.{CacheState, CacheValue, heap_view}
use Rattle.shard_moves.specs.Tables.{TellsTable, WasRefusedTable}
use Rattle.thread_cache.specs.Keeps.{KeepsHeap, KeepsSeat}
use Rattle.thread_cache.specs.Laws.{costs_row, keeps_none_law}
use Rattle.thread_cache.specs.Serving.{IsTurnedAway}
use Rattle.worker_parts.specs.Going.{GoesOn, TurnsAway}

-- what a call keeps goes on
pub goes_kept : (s t : CacheState) → KeepsHeap s t → GoesOn s t
goes_kept s t kept = (kept.0, kept.1, ap (λ (r : Role). r.carries) kept.2)

pub goes_seat : {C : Type 0} (gives : C → ℕ → C → Type 0) (s t : CacheValue C) → KeepsSeat gives s t → GoesOn s.state t.state
goes_seat gives s t kept = goes_kept s.state t.state kept.heap

pub goes_none : (s : CacheState) → GoesOn s s
goes_none s = goes_kept s s (keeps_none_law s)

pub goes_then : (s t u : CacheState) → GoesOn s t → GoesOn t u → GoesOn s u
goes_then s t u p q = (q.0 ∙ p.0, costs_row s t u p.1 q.1, q.2 ∙ p.2)

-- what contracts see of a seat with its chance
abbrev pub view_of : {C : Type 0} → CacheValue C → HeapView
view_of s = heap_view s.state

abbrev pub none_of : {C : Type 0} → CacheValue C → CacheValue C → ℕ → Looks → Type 0
none_of s t bytes looks = IsTurnedAway bytes looks s.state.view t.state.view

-- over whatever goes on as the state does
module _ {C : Type 0} (goes : CacheValue C → CacheValue C → Type 0) (on : (s t : CacheValue C) → goes s t → GoesOn s.state t.state) where
  turned_down : (bytes : ℕ) (looks : Looks) (s t : CacheValue C) → WasTurnedDown goes none_of bytes looks s t
      → WasTurnedDown GoesOn TurnsAway bytes looks s.state t.state
  turned_down bytes looks s t was = record {
    before = was.before.state;
    after = was.after.state;
    kept_before = on s was.before was.kept_before;
    none = was.none;
    kept_after = on was.after t was.kept_after;
  }

  pub refused_one : (request : Request) (s t : CacheValue C) → WasRefused view_of goes none_of request s t
      → WasRefused heap_view GoesOn TurnsAway request s.state t.state
  refused_one request s t was = record { once = was.once; asked = was.asked; none = turned_down _ _ s t was.none }

  pub takes_one : (request : Request) (reply : Reply) (s t : CacheValue C) → TakesRequest view_of goes none_of request reply s t
      → TakesRequest heap_view GoesOn TurnsAway request reply s.state t.state
  takes_one request reply s t takes = record {
    answers = takes.answers;
    may = takes.may;
    runs = takes.runs;
    calls = takes.calls;
    keeps_it = on s t takes.keeps_it;
    refused = λ is_put full. refused_one request s t (takes.refused is_put full);
    granted = takes.granted;
  }

  pub takes_all : (rs : List (Request × Reply)) (s t : CacheValue C) → TakesRequests view_of goes none_of rs s t
      → TakesRequests heap_view GoesOn TurnsAway rs s.state t.state
  takes_all [] s t same = ap (λ (x : CacheValue C). x.state) same
  takes_all (r ∷ rs) s t all = (all.0.state, takes_one r.0 r.1 s all.0 all.1, takes_all rs all.0 t all.2)

  pub full_rightly : (tables : ℕ) (rs : List (Request × Reply)) (s t : CacheValue C) → AreFullRightly view_of goes tables rs s t
      → AreFullRightly heap_view GoesOn tables rs s.state t.state
  full_rightly tables rs s t full = record {
    each = λ before later key value is. let at = full.each before later key value is in (at.0.state, on s at.0 at.1, on at.0 t at.2, at.3, at.4);
  }

  refused_table : (shard : ℕ) (s t : CacheValue C) → WasRefusedTable view_of goes none_of shard s t
      → WasRefusedTable heap_view GoesOn TurnsAway shard s.state t.state
  refused_table shard s t was = record {
    at = was.at.state;
    before = on s was.at was.before;
    behind = on was.at t was.behind;
    null = was.null;
    knows = was.knows;
    until = was.until;
    room = was.room;
    looks = was.looks;
    none = turned_down _ was.looks s was.at was.none;
  }

  pub tells_table : (shard : ℕ) (has : Bool) (s t : CacheValue C) → TellsTable view_of goes none_of shard has s t
      → TellsTable heap_view GoesOn TurnsAway shard has s.state t.state
  tells_table shard true s t told = told
  tells_table shard false s t told = (told.0, told.1, refused_table shard s t told.2)
