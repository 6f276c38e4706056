-- What each call counts: it goes on from the seat as it was, with the same kinds of roots.
use Rattle.std.proofs.Common.{◌≡◌, ℕ, ◌+◌, ◌≤◌, Option, None, List, refl, ap, sym, subst, ◌∙◌, arith}
use Rattle.heap_model.specs.declared.block.Block.{Block}
use Rattle.heap_seat.specs.Calls.{IsSmallCall, IsLargeCall, counted}
use Rattle.block_heap.specs.Closing.{KeepsFixed}
use Rattle.block_heap.specs.Medium.{StoresOnly}
use Rattle.block_heap.specs.Running.{LeavesHeld}
use Rattle.block_heap.specs.SeqState.{SeqState, kinds_seen, seat_of}
use Rattle.block_heap.proofs.FixedLemmas.{kinds_stay}
use Rattle.block_heap.proofs.SeatLemmas.{small_view}
use Rattle.block_heap.proofs.RequestLemmas.{large_view}

pub small_counted : (s seen t : SeqState) (o : Option ℕ) (to : ℕ → Type 0) → s ≡ seen → seen.stopped ≡ None → StoresOnly to s.parts.words t.parts.words
    → KeepsFixed seen t → IsSmallCall (seat_of seen) (small_view s t.parts.words o)
small_counted s seen t o to same ran stores keeps =
    subst (λ m. m.stopped ≡ None → KeepsFixed m t → IsSmallCall (seat_of m) (small_view s t.parts.words o)) same (λ ran keeps. record {
      goes_on = record {
        capacity = refl;
        kinds = ap (λ n. kinds_seen n t.parts.words) (sym keeps.capacity) ∙ kinds_stay s t keeps;
        budget = stores.budget;
        tickets = stores.drawn;
        used = omega arith;
      };
      small = ap (λ stopped. counted stopped s.small_calls) (sym ran);
      large = refl;
      taken = refl;
      used_look = refl;
      head_look = λ list. refl;
      refusals = record { count = refl; bytes = refl; looks = refl };
    }) ran keeps

pub large_counted : (s seen t : SeqState) (o : Option ℕ) (held : List Block) (most : ℕ) → s ≡ seen → seen.stopped ≡ None
    → LeavesHeld held s.parts t.parts
    → t.parts.taken ≤ s.parts.taken + most → KeepsFixed seen t → IsLargeCall most (seat_of seen) (large_view s t.parts o)
large_counted s seen t o held most same ran leaves_held few keeps =
    subst (λ m. m.stopped ≡ None → KeepsFixed m t → IsLargeCall most (seat_of m) (large_view s t.parts o)) same (λ ran keeps. record {
      goes_on = record {
        capacity = leaves_held.capacity;
        kinds = kinds_stay s t keeps;
        budget = leaves_held.as_allocator.stores.budget;
        tickets = leaves_held.as_allocator.stores.drawn;
        used = let knows = leaves_held.knows in omega arith;
      };
      small = refl;
      large = ap (λ stopped. counted stopped s.large_calls) (sym ran);
      taken = leaves_held.taken;
      few = few;
      looks = record { used = leaves_held.looks.used; heads = leaves_held.looks.heads };
    }) ran keeps
