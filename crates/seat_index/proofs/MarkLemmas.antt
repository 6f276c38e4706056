-- Marks of the numbers of a list, and what is owned of a range, as they are given one after the other.
use Rattle.std.proofs.Common.{◌≡◌, ◌≢◌, ℕ, zero, suc, ◌+◌, ◌<◌, inl, inr, Bool, false, List, [], ◌∷◌, get_or, set, take, length, refl, ap, sym, subst, ◌∙◌, length-set, add-one, arith}
use Rattle.std.proofs.lemmas.Bool.{cases_eq}
use Rattle.std.proofs.lemmas.List.{get_or-set_same, get_or-set_other}
use Rattle.heap_model.specs.Counting.{times}
use Rattle.core_model.proofs.TotalLemmas.{eq-eqb-one, ne-eqb-none}
use Rattle.seat_index.specs.declared.owned.Ownership.{Ownership}
use Rattle.seat_index.specs.declared.owned.Ownership.TheVariants as ownership
use Rattle.seat_index.specs.Owned.{IsMarking, HaveOwnership}

-- the first numbers of a list, and the next one
times_next : (n i : ℕ) (xs : List ℕ) (x : ℕ) → i < length xs → get_or xs i x ≡ x → times n (take (suc i) xs) ≡ times n (take i xs) + times n (x ∷ [])
times_next n i [] x less at = absurd (omega arith)
times_next n zero (y ∷ ys) x less at = let e = ap (λ z. times n (z ∷ [])) at in omega arith
times_next n (suc i) (y ∷ ys) x less at = let rest = times_next n i ys x (omega arith) at in omega arith

pub marking_step : (old new : List Bool) (xs : List ℕ) (mark : Bool) (i x : ℕ) → IsMarking old new (take i xs) mark → i < length xs
    → get_or xs i x ≡ x → x < length new
    → IsMarking old (set new x mark) (take (i + 1) xs) mark
marking_step old new xs mark i x m less at inside = subst (λ k. IsMarking old (set new x mark) (take k xs) mark) (sym (add-one i)) (record {
  long = length-set new x mark ∙ m.long;
  inside = λ n some. elim (cases_eq n x) as (λ _. get_or (set new x mark) n false ≡ mark) [
    | inl here ↦ ap (λ k. get_or (set new x mark) k false) here ∙ get_or-set_same new x mark false inside
    | inr other ↦ get_or-set_other new x n mark false other ∙ m.inside n (let t = times_next n i xs x less at in
        let z = ne-eqb-none x n (λ h. other (sym h)) in omega arith)
  ];
  outside = λ n none. let t = times_next n i xs x less at in
      get_or-set_other new x n mark false (λ here. let one = eq-eqb-one x n (sym here) in absurd (omega arith)) ∙ m.outside n (omega arith);
})

-- an entry is a member
pub entry_times : (xs : List ℕ) (i x : ℕ) → i < length xs → get_or xs i x ≡ x → 0 < times x xs
entry_times [] i x less at = absurd (omega arith)
entry_times (y ∷ ys) zero x less at = let one = eq-eqb-one y x at in omega arith
entry_times (y ∷ ys) (suc i) x less at = let rest = entry_times ys i x (omega arith) at in omega arith

pub staking_start : (ownerships : List Ownership) (from : ℕ) (x : Ownership) → HaveOwnership ownerships ownerships from 0 x
staking_start ownerships from x = record { long = refl; inside = λ d low high. absurd (omega arith); outside = λ d out. refl }

pub staking_step : (old new : List Ownership) (from n d : ℕ) (x : Ownership) → HaveOwnership old new from n x → d ≡ from + n → d < length new
    → HaveOwnership old (set new d x) from (n + 1) x
staking_step old new from n d x s at inside = record {
  long = length-set new d x ∙ s.long;
  inside = λ e low high. elim (cases_eq e d) as (λ _. get_or (set new d x) e ownership.Nothing ≡ x) [
    | inl here ↦ ap (λ k. get_or (set new d x) k ownership.Nothing) here ∙ get_or-set_same new d x ownership.Nothing inside
    | inr other ↦ get_or-set_other new d e x ownership.Nothing other ∙ s.inside e low (let h : e ≢ d = other in omega arith)
  ];
  outside = λ e out. get_or-set_other new d e x ownership.Nothing (λ here. out (omega (arith, here)) (omega (arith, here)))
      ∙ s.outside e (λ low high. out low (omega arith));
}
