-- Two seats are all seats of a heap that was opened for two.
use Rattle.std.proofs.Common.{◌≡◌, ◌<◌, ◌+◌, ℕ, zero, suc, List, [], ◌∷◌, ◌++◌, refl, inl, inr, ◌⊎◌, length, length-append, get_or, ap, sym, subst, ◌∙◌, arith}
use Rattle.std.specs.Prelude.{slice_index, slice_set, Contains}
use Rattle.std.proofs.lemmas.List.{get_or-set_other, get_or-set_same}
use Rattle.heap_model.specs.declared.block.Block.{Block}
use Rattle.heap_model.specs.Durability.{IsClosedImage}
use Rattle.heap_model.specs.Geometry.{roots}
use Rattle.heap_model.proofs.CountingLemmas.{times_some}
use Rattle.heap_model.specs.Counting.{times}
use Rattle.core_model.specs.Opening.{opened_view}
use Rattle.core_model.specs.View.{Setup, View, no_role, role}
use Rattle.core_model.proofs.RootLemmas.{owns_root}
use Rattle.core_model.specs.Held.{IsHeld, IsHeldBy}
use Rattle.heap_table.specs.AtTable.{SharedView}
use Rattle.heap_rule.specs.Seated.{IsSeatOf, SeatView}
use Rattle.heap_rule.specs.Seats.{AreOpenedSeats, AreSeatsOf}
use Rattle.seat_costs.specs.Idle.{HasShortCaches, IsIdle}
use Rattle.first_threads.specs.Working.{IsFreshSeatOf}

-- both were taken off the list of seats, the second one first
pub both_are : (all rest fewer : List SeatView) (one other : SeatView) → all ≡ rest ++ other ∷ [] → rest ≡ fewer ++ one ∷ [] → length all ≡ 2
    → all ≡ one ∷ other ∷ []
both_are all rest [] one other split again two = split ∙ ap (λ l. l ++ other ∷ []) again
both_are all rest (x ∷ fewer) one other split again two =
    let outer = length-append rest (other ∷ []) in
    let inner = length-append (x ∷ fewer) (one ∷ []) in
    let long = ap length split in
    let longer = ap length again in
    absurd (omega (arith, two, long, outer, longer, inner))

module _ (shared : SharedView) (one other : SeatView) (two : shared.opening.seats ≡ 2) where
  of_pair : (P : SeatView → Type 0) → P one → P other → (s : SeatView) → Contains (one ∷ other ∷ []) s → P s
  of_pair P is also s p = by_index p.0 p.1 p.2 where
    by_index : (j : ℕ) → j < 2 → get_or (one ∷ other ∷ []) j s ≡ s → P s
    by_index zero less at = subst P at is
    by_index (suc zero) less at = subst P at also
    by_index (suc (suc j)) less at = absurd (omega (arith, less))

  pub pair_of : IsSeatOf shared one → IsSeatOf shared other → AreSeatsOf shared (one ∷ other ∷ [])
  pair_of is also = record { count = sym two; each = of_pair (IsSeatOf shared) is also }

  pub pair_hands_nothing : role one.view ≡ no_role → role other.view ≡ no_role → (s : SeatView) → Contains (one ∷ other ∷ []) s → role s.view ≡ no_role
  pair_hands_nothing = of_pair (λ s. role s.view ≡ no_role)

-- a seat of an opened heap is fresh, with each root that is its own
pub fresh_of : (setup : Setup) (held : List Block) (block_owners root_owners : List ℕ) (shared : SharedView) (seats : List SeatView)
    (i root : ℕ) (seat : SeatView)
    → AreOpenedSeats shared (opened_view setup held block_owners root_owners) seats → i < length seats → get_or seats i seat ≡ seat
    → IsIdle seat.view × HasShortCaches seat.view
    → root < roots → get_or root_owners root (i + 1) ≡ i → IsFreshSeatOf shared root seat
fresh_of setup held block_owners root_owners shared seats i root seat opened less at idle below owner =
    let each = opened.each i seat less at in record {
      of = each.0;
      going = ap (λ (v : View). v.stopped) each.1;
      idle = idle.0;
      short = idle.1;
      role_is = ap role each.1;
      root_is = times_some root seat.view.roots (subst (λ (v : View). 0 < times root v.roots) (sym each.1)
          ((owns_root i roots root_owners root).1 (below, owner)));
    }

-- what one of two seats holds is held by some seat
pub held_by : (v u : View) (b : Block) → IsHeld v b ⊎ IsHeld u b → IsHeldBy (v ∷ u ∷ []) b
held_by v u b (inl holds) = record { seat = 0; view = v; below = omega arith; at = refl; holds = holds }
held_by v u b (inr holds) = record { seat = 1; view = u; below = omega arith; at = refl; holds = holds }

-- the words with a clean state are the image of a close
pub is_closed : (now words : List ℕ) → now ≡ words → 3 < length now → IsClosedImage (slice_index now) (slice_index (slice_set words 3 1))
is_closed now words same long = record {
  state = get_or-set_same words 3 1 0 (subst (λ (l : List ℕ). 3 < length l) same long);
  others = λ word differs. get_or-set_other words 3 word 1 0 differs ∙ ap (λ (l : List ℕ). get_or l word 0) (sym same);
}
