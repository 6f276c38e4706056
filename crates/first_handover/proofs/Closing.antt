-- A heap of two seats is closed, with the carrier that is left.
use Rattle.std.proofs.Common.{◌≡◌, ◌<◌, ◌≤◌, ◌+◌, ℕ, zero, suc, List, [], ◌∷◌, ◌++◌, refl, length, get_or, Option, None, Some, subst, arith}
use Rattle.std.specs.Prelude.{Contains, IfSome, option_to_list}
use Rattle.heap_model.specs.declared.block.Block.{Block}
use Rattle.heap_model.specs.Image.{Image}
use Rattle.core_model.specs.Held.{AreApart, AreHeldOnce, IsHeld, IsHeldBy}
use Rattle.core_model.specs.View.{Setup, View}
use Rattle.heap_table.specs.AtTable.{IsClosedSound, SharedView}
use Rattle.heap_rule.specs.Carried.{AreAllOf, CarrierView, carried_views}
use Rattle.heap_rule.specs.Seated.{IsSeatOf, SeatView}
use Rattle.heap_rule.specs.Seats.{views_of}
use Rattle.heap_seat.proofs.CallerLemmas.{durable_in}
use Rattle.heap_seat.specs.Words.{MixesOwn, NamesAll, in_block}
use Rattle.seat_model.specs.CacheState.{CacheState, heap_view}
use Rattle.first_handover.specs.declared.hands.Received.{Received}
use Rattle.first_handover.specs.Handover.{HasBlock, HasReceived}
use Rattle.first_handover.proofs.Pairs.{pair_of}

module _ (shared : SharedView) where
  left_at_table : (left : Option CarrierView) → IfSome left (λ c. c.table ≡ shared.table) → (c : CarrierView) → Contains (option_to_list left) c
      → c.table ≡ shared.table
  left_at_table None table c there = absurd (let l = there.1 in omega arith)
  left_at_table (Some x) table c there = by_index there.0 there.1 there.2 where
    by_index : (j : ℕ) → j < 1 → get_or (x ∷ []) j c ≡ c → c.table ≡ shared.table
    by_index zero less at = subst (λ (y : CarrierView). y.table ≡ shared.table) at table
    by_index (suc j) less at = absurd (omega (arith, less))

  -- two seats and the carrier that is left are all of the heap
  pub all_of : (one other : SeatView) (left : Option CarrierView) → shared.opening.seats ≡ 2 → IsSeatOf shared one → IsSeatOf shared other
      → IfSome left (λ c. c.table ≡ shared.table)
      → length (option_to_list left) + (one.view.accepts + other.view.accepts) ≡ one.view.offers + other.view.offers
      → AreAllOf shared (one ∷ other ∷ []) (option_to_list left)
  all_of one other left two is also table none = record {
    seats_are = pair_of shared one other two is also;
    at_table = left_at_table left table;
    none_lost = omega (arith, none);
  }

-- the words are sound with the views of these seats and of this carrier
pub sound_with : (k : Setup) (now kept : List ℕ) (seats pair : List SeatView) (carriers left : List CarrierView) → seats ≡ pair → carriers ≡ left
    → IsClosedSound k now kept (views_of seats ++ carried_views carriers) → IsClosedSound k now kept (views_of pair ++ carried_views left)
sound_with k now kept seats pair carriers left same also sound =
    let first = subst (λ (l : List SeatView). IsClosedSound k now kept (views_of l ++ carried_views carriers)) same sound in
    subst (λ (l : List CarrierView). IsClosedSound k now kept (views_of pair ++ carried_views l)) also first

-- what the second seat holds is apart from what any other one of the heap does
pub apart_of : (capacity : ℕ) (one other : View) (carried : List View) → AreHeldOnce capacity (one ∷ other ∷ carried) → (a b : Block)
    → IsHeldBy (one ∷ carried) a → IsHeld other b → AreApart a b
apart_of capacity one other carried once a b by holds = by_place by.seat by.view by.below by.at by.holds where
  by_place : (n : ℕ) (v : View) → n < length (one ∷ carried) → get_or (one ∷ carried) n v ≡ v → IsHeld v a → AreApart a b
  by_place zero v less at held = once.by_two 0 1 v other (λ e. omega (arith, e)) (omega arith) at (omega arith) refl a b held holds
  by_place (suc n) v less at held = once.by_two (suc (suc n)) 1 v other (λ e. omega (arith, e)) (omega (arith, less)) at
      (omega arith) refl a b held holds

-- an image that the second seat's view tells of has the block that was received
pub has_block : (value : ℕ) (s : CacheState) (image : Image) (r : Received) → 1 ≤ r.block.words → NamesAll image (heap_view s).held
    → MixesOwn (heap_view s) image
    → HasReceived value (heap_view s) r → HasBlock value image r.block
has_block value s image r some named mixed received = record {
  named = named r.block received.held;
  first = durable_in (heap_view s) r.block.first_word value image
      (in_block r.block r.block.first_word received.held (record { from = omega arith; until = omega arith }))
      received.has.seen received.has.left mixed;
}
