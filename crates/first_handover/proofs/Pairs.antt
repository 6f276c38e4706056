-- Two seats are all seats of a heap that was opened for two.
use Rattle.std.proofs.Common.{◌≡◌, ◌<◌, ℕ, zero, suc, List, [], ◌∷◌, ◌++◌, length, length-append, get_or, ap, sym, subst, ◌∙◌, arith}
use Rattle.std.specs.Prelude.{Contains}
use Rattle.heap_model.specs.declared.block.Block.{Block}
use Rattle.core_model.specs.Opening.{opened_view}
use Rattle.core_model.specs.View.{Setup, View, role}
use Rattle.heap_table.specs.AtTable.{SharedView}
use Rattle.heap_rule.specs.Seated.{IsSeatOf, SeatView}
use Rattle.heap_rule.specs.Seats.{AreOpenedSeats, AreSeatsOf}
use Rattle.seat_costs.specs.Idle.{HasShortCaches, IsIdle}
use Rattle.first_handover.specs.Handover.{IsFreshSeatOf}

-- both were taken off the list of seats, the second one first
pub both_are : (all rest fewer : List SeatView) (one other : SeatView) → all ≡ rest ++ other ∷ [] → rest ≡ fewer ++ one ∷ [] → length all ≡ 2
    → all ≡ one ∷ other ∷ []
both_are all rest [] one other split again two = split ∙ ap (λ l. l ++ other ∷ []) again
both_are all rest (x ∷ fewer) one other split again two =
    let outer = length-append rest (other ∷ []) in
    let inner = length-append (x ∷ fewer) (one ∷ []) in
    let long = ap length split in
    let longer = ap length again in
    absurd (omega (arith, two, long, outer, longer, inner))

module _ (shared : SharedView) (one other : SeatView) (two : shared.opening.seats ≡ 2) where
  of_pair : (P : SeatView → Type 0) → P one → P other → (s : SeatView) → Contains (one ∷ other ∷ []) s → P s
  of_pair P is also s p = by_index p.0 p.1 p.2 where
    by_index : (j : ℕ) → j < 2 → get_or (one ∷ other ∷ []) j s ≡ s → P s
    by_index zero less at = subst P at is
    by_index (suc zero) less at = subst P at also
    by_index (suc (suc j)) less at = absurd (omega (arith, less))

  pub pair_of : IsSeatOf shared one → IsSeatOf shared other → AreSeatsOf shared (one ∷ other ∷ [])
  pair_of is also = record { count = sym two; each = of_pair (IsSeatOf shared) is also }

-- a seat of an opened heap is fresh
pub fresh_of : (setup : Setup) (held : List Block) (block_owners root_owners : List ℕ) (shared : SharedView) (seats : List SeatView) (i : ℕ)
    (seat : SeatView)
    → AreOpenedSeats shared (opened_view setup held block_owners root_owners) seats → i < length seats → get_or seats i seat ≡ seat
    → IsIdle seat.view × HasShortCaches seat.view
    → IsFreshSeatOf shared seat
fresh_of setup held block_owners root_owners shared seats i seat opened less at idle =
    let each = opened.each i seat less at in record {
      of = each.0;
      going = ap (λ (v : View). v.stopped) each.1;
      idle = idle.0;
      short = idle.1;
      role_is = ap role each.1;
    }
