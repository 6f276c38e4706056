-- The seats of a heap that is opened are as many as it is opened for, and none is a carrier.
use Rattle.std.proofs.Common.{◌≡◌, ℕ, zero, suc, ◌+◌, ◌-◌, nat_eq, inl, inr, ap, sym, ◌∙◌, refl, arith}
use Rattle.heap_model.proofs.MemberLemmas.{head_or_rest, in_none}
use Rattle.heap_model.specs.Counting.{one_if}
use Rattle.core_model.specs.Carriers.{AreSeatsAndCarriers}
use Rattle.core_model.specs.Opening.{tabulate}
use Rattle.core_model.specs.View.{Setup, View, Role, role}

pub seats_counted : (k : Setup) (V : ℕ → View) → ((i : ℕ) → role (V i) ≡ record { carries = 0; offers = 0; accepts = 0 }) → (i n : ℕ)
    → AreSeatsAndCarriers (record k { seats = n }) (tabulate V i n)
seats_counted k V plain i zero = record { seats = refl; carriers = refl; each = λ v there. absurd (in_none v there) }
seats_counted k V plain i (suc n) = let rest = seats_counted k V plain (i + 1) n in let s = rest.seats in let c = rest.carriers in let p = plain i in
    let seat = ap (λ (r : Role). 1 - r.carries) p in let carrier = ap (λ (r : Role). one_if (nat_eq r.carries 1)) p in
    let offers = ap (λ (r : Role). r.offers) p in let accepts = ap (λ (r : Role). r.accepts) p in record {
      seats = omega arith;
      carriers = omega arith;
      each = λ v there. elim (head_or_rest (V i) v (tabulate V (i + 1) n) there)
          [ inl same ↦ inl (ap (λ (x : View). x.carries) (sym same) ∙ ap (λ (r : Role). r.carries) p) | inr later ↦ rest.each v later ];
    }
