-- The laws of the two traits for seats of a shared heap: what goes on does over several calls, over each call of the
-- seat too, and a seat that is ready stays so.
use Rattle.std.proofs.Common.{◌≡◌, ℕ, ◌+◌, List, length, All, refl, ap, sym, subst, ◌∙◌}
use Rattle.atomic_table.specs.Seated.{TableId}
use Rattle.core_model.specs.View.{Role}
use Rattle.seat_costs.proofs.AskedLemmas.{asked_none, asked_then}
use Rattle.seat_model.specs.CacheState.{CacheState, CacheValue}
use Rattle.thread_cache.specs.Keeps.{KeepsHeap, KeepsSeat}
use Rattle.thread_cache.specs.Laws.{costs_row, keeps_none_law}
use Rattle.seat_parcels.specs.declared.parcel.Parcel.{Parcel}
use Rattle.seat_parcels.specs.Boxes.{BoxView, IsInStep}
use Rattle.seat_parcels.specs.Going.{AcceptsAtMost, OffersAtMost, StaysAtTable}
use Rattle.seat_parcels.specs.Parcels.{IsParcelOf}
use Rattle.seat_parcels.specs.Trays.{IsInStepWith}

-- what each call keeps of the roles
same_carries : (s t : CacheState) → KeepsHeap s t → t.view.carries ≡ s.view.carries
same_carries s t kept = ap (λ (r : Role). r.carries) kept.2

same_offers : (s t : CacheState) → KeepsHeap s t → t.view.offers ≡ s.view.offers
same_offers s t kept = ap (λ (r : Role). r.offers) kept.2

same_accepts : (s t : CacheState) → KeepsHeap s t → t.view.accepts ≡ s.view.accepts
same_accepts s t kept = ap (λ (r : Role). r.accepts) kept.2

module _ {C : Type 0} (gives : C → ℕ → C → Type 0) where
  stays_none : (s : CacheValue C) → StaysAtTable gives s s
  stays_none s = record { table = refl; costs = (keeps_none_law s.state).1; asked = asked_none s.state.view s.chance }

  stays_then : (s t u : CacheValue C) → StaysAtTable gives s t → StaysAtTable gives t u → StaysAtTable gives s u
  stays_then s t u p q = record {
    table = q.table ∙ p.table;
    costs = costs_row s.state t.state u.state p.costs q.costs;
    asked = asked_then p.asked q.asked;
  }

  stays_kept : (s t : CacheValue C) → KeepsSeat gives s t → StaysAtTable gives s t
  stays_kept s t kept = record { table = kept.heap.0; costs = kept.heap.1; asked = kept.asked }

  -- over what is sent
  pub sends_none_law : (s : CacheValue C) → OffersAtMost gives s s
  sends_none_law s = record { stays = stays_none s; carries = refl; accepts = refl }

  pub sends_then_law : (s t u : CacheValue C) → OffersAtMost gives s t → OffersAtMost gives t u → OffersAtMost gives s u
  sends_then_law s t u p q = record { stays = stays_then s t u p.stays q.stays; carries = q.carries ∙ p.carries; accepts = q.accepts ∙ p.accepts }

  pub sends_kept_law : (s t : CacheValue C) → KeepsSeat gives s t → OffersAtMost gives s t
  sends_kept_law s t kept = record {
    stays = stays_kept s t kept;
    carries = same_carries s.state t.state kept.heap;
    accepts = same_accepts s.state t.state kept.heap;
  }

  pub may_send_law : (table : TableId) (box : BoxView) (s t : CacheValue C) → KeepsSeat gives s t → IsInStep table box s.state
      → IsInStep table box t.state
  may_send_law table box s t kept step = record {
    at_table = kept.heap.0 ∙ step.at_table;
    offered = same_offers s.state t.state kept.heap ∙ step.offered;
  }

  -- and over what arrives
  pub takes_none_law : (s : CacheValue C) → AcceptsAtMost gives s s
  takes_none_law s = record { stays = stays_none s; carries = refl; offers = refl }

  pub takes_then_law : (s t u : CacheValue C) → AcceptsAtMost gives s t → AcceptsAtMost gives t u → AcceptsAtMost gives s u
  takes_then_law s t u p q = record { stays = stays_then s t u p.stays q.stays; carries = q.carries ∙ p.carries; offers = q.offers ∙ p.offers }

  pub takes_kept_law : (s t : CacheValue C) → KeepsSeat gives s t → AcceptsAtMost gives s t
  takes_kept_law s t kept = record {
    stays = stays_kept s t kept;
    carries = same_carries s.state t.state kept.heap;
    offers = same_offers s.state t.state kept.heap;
  }

  pub may_take_law : (came : ℕ) (left : List Parcel) (s t : CacheValue C) → KeepsSeat gives s t → IsInStepWith came left s.state
      → IsInStepWith came left t.state
  may_take_law came left s t kept step = record {
    each = subst (λ (table : TableId). All (IsParcelOf table) left) (sym kept.heap.0) step.each;
    counted = ap (λ n. n + length left) (same_accepts s.state t.state kept.heap) ∙ step.counted;
  }
