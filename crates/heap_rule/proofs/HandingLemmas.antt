-- A heap whose seats have handed nothing on has no carrier.
use Rattle.std.proofs.Common.{◌≡◌, ◌<◌, List, [], ◌∷◌, get_or, length, Contains, ap, subst, sym, ◌∙◌, arith}
use Rattle.std.proofs.lemmas.List.{get_or-map, get_or_default, length-map}
use Rattle.heap_model.proofs.CountingLemmas.{total_none}
use Rattle.heap_model.proofs.MemberLemmas.{in_none}
use Rattle.core_model.specs.View.{Role, View, no_role, role}
use Rattle.heap_table.specs.AtTable.{SharedView}
use Rattle.heap_rule.specs.Carried.{AreAllOf}
use Rattle.heap_rule.specs.Seated.{SeatView}
use Rattle.heap_rule.specs.Seats.{AreSeatsOf, views_of}

first_of : (seats : List SeatView) → 0 < length seats → SeatView
first_of [] some = absurd (omega (arith, some))
first_of (seat ∷ seats) some = seat

module _ (shared : SharedView) (seats : List SeatView) (are : AreSeatsOf shared seats) (none : (seat : SeatView) → Contains seats seat
    → role seat.view ≡ no_role) where
  role_of : (v : View) → Contains (views_of seats) v → role v ≡ no_role
  role_of v there =
      let below : there.0 < length seats = subst (λ n. there.0 < n) (length-map seats (λ (seat : SeatView). seat.view)) there.1 in
      let any = first_of seats (omega (arith, below)) in
      let seat = get_or seats there.0 any in
      ap role (sym there.2 ∙ get_or-map (λ (seat : SeatView). seat.view) seats there.0 any v below)
      ∙ none seat (there.0, below, get_or_default seats there.0 seat any below)

  pub handed_none : AreAllOf shared seats []
  handed_none = record {
    seats_are = are;
    at_table = λ c there. absurd (in_none c there);
    none_lost =
        let accepts = total_none (λ (v : View). v.accepts) (views_of seats) (λ v there. ap (λ (r : Role). r.accepts) (role_of v there)) in
        let offers = total_none (λ (v : View). v.offers) (views_of seats) (λ v there. ap (λ (r : Role). r.offers) (role_of v there)) in
        omega (arith, accepts, offers);
  }
