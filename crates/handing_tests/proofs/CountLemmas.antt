-- What seats have offered and accepted in all, with one seat more.
use Rattle.std.proofs.Common.{◌≡◌, ◌+◌, ℕ, List, [], ◌∷◌, ◌++◌, ap, ◌∙◌, arith}
use Rattle.heap_model.specs.Counting.{total}
use Rattle.core_model.specs.View.{View}
use Rattle.heap_rule.specs.Seated.{SeatView}
use Rattle.heap_rule.specs.Seats.{views_of}
use Rattle.handing_tests.specs.Handing.{AreCounted, HasHanded}

one_more : (of : View → ℕ) (seats : List SeatView) (seat : SeatView)
    → total of (views_of (seats ++ seat ∷ [])) ≡ total of (views_of seats) + of seat.view
one_more of [] seat = omega arith
one_more of (s ∷ seats) seat = let rest = one_more of seats seat in omega arith

pub more_counted : (offers accepts m n : ℕ) (seats more : List SeatView) (seat : SeatView) → AreCounted offers accepts seats
    → HasHanded m n seat.view → more ≡ seats ++ seat ∷ []
    → AreCounted (offers + m) (accepts + n) more
more_counted offers accepts m n seats more seat counted handed is = record {
  offers_are = ap (λ l. total (λ (v : View). v.offers) (views_of l)) is ∙ one_more (λ (v : View). v.offers) seats seat
      ∙ (let a = counted.offers_are in let b = handed.offers_are in omega arith);
  accepts_are = ap (λ l. total (λ (v : View). v.accepts) (views_of l)) is ∙ one_more (λ (v : View). v.accepts) seats seat
      ∙ (let a = counted.accepts_are in let b = handed.accepts_are in omega arith);
}
