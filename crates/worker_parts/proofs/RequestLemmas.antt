-- What requests do from one state, they do from another that is seen alike and that goes on to it.
use Rattle.std.proofs.Common.{◌≡◌, ◌+◌, List, [], ◌∷◌, refl, subst, sym, ap, ◌∙◌}
use Rattle.heap_seat.specs.View.{View as HeapView}
use Rattle.heap_seat.specs.Calls.{SameRefusals}
use Rattle.heap_seat.specs.Tickets.{Runs}
use Rattle.dict_model.specs.Requests.{Request, Reply}
use Rattle.run_model.specs.Progress.{Answers, MayAnswer}
use Rattle.run_model.specs.Working.{MakesCalls, TakesRequest, TakesRequests, WasRefused}
use Rattle.seat_model.specs.CacheState.{CacheState, heap_view}
use Rattle.worker_parts.specs.Going.{GoesOn, TurnsAway}
use Rattle.worker_parts.proofs.StateLemmas.{goes_none, goes_then}

-- a state that is seen as another one, and that goes on to it
module _ (u s : CacheState) (same : heap_view s ≡ heap_view u) (goes : GoesOn u s) where
  refused_before : (request : Request) (t : CacheState) → WasRefused heap_view GoesOn TurnsAway request s t
      → WasRefused heap_view GoesOn TurnsAway request u t
  refused_before request t was = let none = was.none in record {
    once = subst (λ (v : HeapView). (heap_view t).refusals ≡ v.refusals + 1) same was.once;
    asked = was.asked;
    none = record {
      before = none.before;
      after = none.after;
      kept_before = goes_then u s none.before goes none.kept_before;
      none = none.none;
      kept_after = none.kept_after;
    };
  }

  takes_before : (request : Request) (reply : Reply) (t : CacheState) → TakesRequest heap_view GoesOn TurnsAway request reply s t
      → TakesRequest heap_view GoesOn TurnsAway request reply u t
  takes_before request reply t takes = record {
    answers = subst (λ (v : HeapView). Answers request reply v (heap_view t)) same takes.answers;
    may = subst (λ (v : HeapView). MayAnswer request v (heap_view t)) same takes.may;
    runs = subst (λ (v : HeapView). Runs v (heap_view t)) same takes.runs;
    calls = subst (λ (v : HeapView). MakesCalls request v (heap_view t)) same takes.calls;
    keeps_it = goes_then u s t goes takes.keeps_it;
    refused = λ is_put full. refused_before request t (takes.refused is_put full);
    granted = λ not_full. subst (λ (v : HeapView). SameRefusals v (heap_view t)) same (takes.granted not_full);
  }

  -- the requests that follow may be told from it, to a state that is seen as theirs
  pub all_before : (rs : List (Request × Reply)) (t : CacheState) → TakesRequests heap_view GoesOn TurnsAway rs s t
      → (x : CacheState) × TakesRequests heap_view GoesOn TurnsAway rs u x × GoesOn x t × (heap_view t ≡ heap_view x)
  all_before [] t none = (u, refl, subst (GoesOn u) (sym none) goes, ap heap_view none ∙ same)
  all_before (r ∷ rs) t all = (t, (all.0, takes_before r.0 r.1 all.0 all.1, all.2), goes_none t, refl)
