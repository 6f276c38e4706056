-- The seats and the carriers of a heap that is closed.
use Rattle.std.proofs.Common.{◌≡◌, ℕ, ◌+◌, List, [], ◌∷◌, ◌++◌, length, map, append_assoc, refl, ap, sym, subst, ◌∙◌, arith}
use Rattle.heap_model.specs.Counting.{total}
use Rattle.heap_model.proofs.CountingLemmas.{total_append}
use Rattle.core_model.specs.Carriers.{IsCarrier}
use Rattle.core_model.specs.View.{View}
use Rattle.heap_table.specs.AtTable.{AreAll, SharedView}
use Rattle.heap_table.specs.SeatViews.{SeatViews}
use Rattle.heap_rule.specs.Carried.{AreAllOf, AreCarriers, CarrierView, HasSeatsBefore}
use Rattle.heap_rule.specs.Seated.{SeatView}
use Rattle.heap_rule.specs.Seats.{views_of}

map_last : {A : Type 0} (f : A → View) (xs : List A) (x : A) → map f (xs ++ x ∷ []) ≡ map f xs ++ f x ∷ []
map_last f [] x = refl
map_last f (y ∷ xs) x = ap (λ vs. f y ∷ vs) (map_last f xs x)

-- the views of the last one come before those that are joined already
pub one_joined : {A : Type 0} (f : A → View) (all rest : List A) (x : A) (theirs mine both whole : SeatViews) → all ≡ rest ++ x ∷ []
    → theirs ≡ f x ∷ [] → both ≡ theirs ++ mine
    → map f all ++ mine ≡ whole → map f rest ++ both ≡ whole
one_joined f all rest x theirs mine both whole split single joined so_far =
    ap (λ vs. map f rest ++ vs) (joined ∙ ap (λ vs. vs ++ mine) single)
    ∙ sym (append_assoc (map f rest) (f x ∷ []) mine)
    ∙ ap (λ vs. vs ++ mine) (sym (map_last f rest x) ∙ ap (map f) (sym split))
    ∙ so_far

-- one seat more
pub one_seat : (n : ℕ) (before mine both : SeatViews) (v : View) → v.carries ≡ 0 → both ≡ (v ∷ []) ++ mine → HasSeatsBefore n before mine
    → HasSeatsBefore (n + 1) before both
one_seat n before mine both v seat joined so_far = subst (HasSeatsBefore (n + 1) before) (sym joined)
    (record { seats = (let s = so_far.seats in omega arith); carry = (let c = so_far.carry in omega arith) })

-- one carrier more
pub one_carrier : (n : ℕ) (mine both : SeatViews) (u : View) → IsCarrier u → both ≡ (u ∷ []) ++ mine → AreCarriers n mine → AreCarriers (n + 1) both
one_carrier n mine both u carrier joined so_far = subst (AreCarriers (n + 1)) (sym joined) (let one = carrier.is_one in
    let h = carrier.handed in let p = h.0 in let q = h.1 in record {
      carry = (let c = so_far.carry in omega arith);
      no_seats = (let s = so_far.no_seats in omega arith);
      no_offers = (let o = so_far.no_offers in omega arith);
      no_accepts = (let a = so_far.no_accepts in omega arith);
    })

-- all are there
pub all_there : (shared : SharedView) (seats : List SeatView) (carriers : List CarrierView) (carried joined : SeatViews)
    → AreAllOf shared seats carriers → AreCarriers (length carriers) carried
    → HasSeatsBefore (length seats) carried joined → joined ≡ views_of seats ++ carried → AreAll shared.opening.seats joined
all_there shared seats carriers carried joined all are before is =
    let n = all.none_lost in let count = all.seats_are.count in let a = total_append (λ (v : View). v.accepts) (views_of seats) carried in
    let o = total_append (λ (v : View). v.offers) (views_of seats) carried in
    let a' = ap (total (λ (v : View). v.accepts)) is in let o' = ap (total (λ (v : View). v.offers)) is in
    let s = before.seats in let c = before.carry in let p = are.carry in let q = are.no_seats in let r = are.no_offers in let t = are.no_accepts in
    record { seats_are = omega arith; carriers_are = omega arith }
