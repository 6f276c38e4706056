-- How a worker's seat goes on over all that a run does with it.
use Rattle.std.specs.Prelude.{◌≡◌, ℕ, Bool, true, false, None, Some}
use Rattle.core_model.specs.Opening.{HasDoneNothing}
use Rattle.heap_seat.specs.Words.{KeepsOwn}
use Rattle.heap_seat.specs.declared.fault.Looks.{Looks}
use Rattle.seat_model.specs.CacheState.{CacheState, heap_view}
use Rattle.thread_cache.specs.Keeps.{KeepsCounts, KeepsHeap}
use Rattle.thread_cache.specs.Quiet.{HasEmptyCaches, IsQuietCall}
use Rattle.thread_cache.specs.Serving.{IsTurnedAway}

-- over calls, offers and accepts: it is a seat of the same heap, no count falls, the costs are as few as its calls allow, and it is no carrier
abbrev pub GoesOn : CacheState → CacheState → Type 0
GoesOn s t = (t.table ≡ s.table) × KeepsCounts s t × (t.view.carries ≡ s.view.carries)

-- a request for so many bytes was turned away from one state of a seat to the next, with these looks
abbrev pub TurnsAway : CacheState → CacheState → ℕ → Looks → Type 0
TurnsAway = λ s t bytes looks. IsTurnedAway bytes looks s.view t.view

-- a seat of an opened heap that has made no call
pub record IsUnused (s : CacheState) : Type 0 where
  pub small : s.small_calls ≡ 0
  pub large : s.large_calls ≡ 0
  pub nothing : HasDoneNothing s.view.setup s.view

-- its caches were to be emptied
pub record WasQuieted (s t : CacheState) : Type 0 where
  pub own : KeepsOwn (heap_view s) (heap_view t)
  pub quiet : IsQuietCall s t
  pub kept : KeepsHeap s t

-- a seat that had stopped stays as it is; the caches of another are emptied, or it stops in that
pub data HasSettled (before after : Bool) (s t : CacheState) : Type 0 where
  had_stopped : before ≡ true → after ≡ true → t ≡ s → HasSettled before after s t
  is_empty : before ≡ false → after ≡ false → HasEmptyCaches t → t.view.stopped ≡ None → WasQuieted s t → HasSettled before after s t
  stops_now : before ≡ false → after ≡ true → (ticket : ℕ) → t.view.stopped ≡ Some ticket → WasQuieted s t → HasSettled before after s t
