-- What it costs a seat that its caches are emptied, and what it tells then.
use Rattle.std.proofs.Common.{◌≡◌, ℕ, ◌+◌, ◌≤◌, Bool, false, Option, None, Some, Result, Ok, Err, OnOk, IfErr, refl, subst, sym, arith}
use Rattle.std.specs.Bool.{⊤}
use Rattle.std.specs.Result.{is_err}
use Rattle.heap_seat.specs.Calls.{counted}
use Rattle.heap_seat.specs.Looks.{KnowsNoLess}
use Rattle.heap_seat.specs.Tickets.{Stops}
use Rattle.line_memory.specs.declared.memory.Stopped.{Stopped}
use Rattle.seat_model.specs.CacheState.{CacheState, heap_view}
use Rattle.thread_cache.specs.Keeps.{KeepsHeap}
use Rattle.thread_cache.specs.Quiet.{HasEmptyCaches, IsQuietCall, as_large, does_nothing, had_stopped as was_stopped}
use Rattle.worker_parts.specs.Going.{GoesOn, HasSettled, WasQuieted, had_stopped, is_empty, stops_now}
use Rattle.worker_parts.proofs.StateLemmas.{goes_kept, goes_none}

-- emptied caches cost one large call at most, take nothing and forget nothing of the mark
pub record CostsOne (s t : CacheState) : Type 0 where
  pub goes_on : GoesOn s t
  pub knows : KnowsNoLess (heap_view s) (heap_view t)
  pub taken : t.view.taken ≤ s.view.taken
  pub small : t.small_calls ≤ s.small_calls
  pub large : t.large_calls ≤ s.large_calls + 1

pub costs_none : (s t : CacheState) → t ≡ s → CostsOne s t
costs_none s t same = subst (CostsOne s) (sym same) (record {
  goes_on = goes_none s;
  knows = omega arith;
  taken = omega arith;
  small = omega arith;
  large = omega arith;
})

one_more : (stopped : Option ℕ) (calls : ℕ) → counted stopped calls ≤ calls + 1
one_more None calls = omega arith
one_more (Some ticket) calls = omega arith

costs_quiet : (s t : CacheState) → KeepsHeap s t → IsQuietCall s t → CostsOne s t
costs_quiet s t kept (does_nothing empty same) = costs_none s t same
costs_quiet s t kept (was_stopped ticket at same) = costs_none s t same
costs_quiet s t kept (as_large some call refusals) = record {
  goes_on = goes_kept s t kept;
  knows = call.goes_on.used;
  taken = let few = call.few in omega (arith, few);
  small = let same = call.small in omega (arith, same);
  large = let is = call.large in let one = one_more s.view.stopped s.large_calls in omega (arith, is, one);
}

pub settled_costs : (before after : Bool) (s t : CacheState) → HasSettled before after s t → CostsOne s t
settled_costs before after s t (had_stopped was is same) = costs_none s t same
settled_costs before after s t (is_empty was is empty going quieted) = costs_quiet s t quieted.kept quieted.quiet
settled_costs before after s t (stops_now was is ticket at quieted) = costs_quiet s t quieted.kept quieted.quiet

-- what emptying them answers
pub settles : (before : Bool) (result : Result ⊤ Stopped) (s t : CacheState) → before ≡ false → OnOk result (HasEmptyCaches t)
    → OnOk result (t.view.stopped ≡ None)
    → IfErr result (λ e. Stops e.step (heap_view s) (heap_view t)) → WasQuieted s t → HasSettled before (is_err result) s t
settles before (Ok a) s t was empty going stop quieted = is_empty was refl empty going quieted
settles before (Err e) s t was empty going stop quieted = stops_now was refl e.step stop.stopped quieted
