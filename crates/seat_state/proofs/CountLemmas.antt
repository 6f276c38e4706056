-- Counts in lists of numbers, claims, large blocks and views.
use Rattle.std.proofs.Common.{◌≡◌, ◌≢◌, ℕ, zero, suc, ◌<◌, inl, inr, nat_eq, List, [], ◌∷◌, get_or, length, refl, sym, ◌∙◌, arith, ◌≤◌, ap, None, Some, Option}
use Rattle.std.proofs.lemmas.Bool.{cases_eq, cases_lt}
use Rattle.heap_model.specs.Counting.{times, without, total}
use Rattle.core_model.specs.View.{View, Claim, Span, times_classed, times_large, one_if_some}
use Rattle.core_model.specs.Effects.{claim_class, span_count}
use Rattle.core_model.proofs.TotalLemmas.{eq-eqb-one, ne-eqb-none}
use Rattle.core_model.proofs.FrameLemmas.{times_without, without_none}
use Rattle.core_model.proofs.PlaceLemmas.{skip, not-eq}
use Rattle.std.specs.Prelude.{Option}
use Rattle.heap_model.specs.Geometry.{lists}
use Rattle.heap_model.proofs.ListLemmas.{length_without, without_at}
use Rattle.core_model.proofs.LinkFrameLemmas.{span_covers}

-- a number that is taken out leaves the others
pub without_off : (e d : ℕ) (xs : List ℕ) → e ≢ d → times e (without d xs) ≡ times e xs
without_off e d xs other = elim (cases_lt 0 (times d xs)) [
  | inl some ↦ let t = times_without e d xs some in let none = ne-eqb-none d e (λ h. other (sym h)) in omega arith
  | inr none ↦ without_none e d xs (omega arith)
]

pub class_absent : (d : ℕ) (claims : List Claim) → times_classed d claims ≡ 0 → claim_class d claims ≡ 0
class_absent d [] none = refl
class_absent d (claim ∷ claims) none = elim (cases_eq claim.descriptor d) [
  | inl here ↦ absurd (let one = eq-eqb-one claim.descriptor d here in omega arith)
  | inr other ↦ skip (nat_eq claim.descriptor d) claim.class (claim_class d claims) (not-eq claim.descriptor d other)
      ∙ class_absent d claims (omega arith)
]

-- where no large block takes it, none begins there
pub no_span : (e : ℕ) (spans : List Span) → times_large e spans ≡ 0 → span_count e spans ≡ 0
no_span e spans none = elim (cases_lt 0 (span_count e spans)) [
  | inl some ↦ absurd (let c = span_covers e e spans some (omega arith) (omega arith) in omega arith)
  | inr zero_count ↦ omega arith
]

pub total_member : (f : ℕ → ℕ) (n : ℕ) (ns : List ℕ) → 0 < times n ns → f n ≤ total f ns
total_member f n [] some = absurd (omega arith)
total_member f n (m ∷ ns) some = elim (cases_eq m n) [
  | inl here ↦ let e = ap f here in omega arith
  | inr other ↦ let none = ne-eqb-none m n other in let rest = total_member f n ns (omega arith) in omega arith
]

-- numbers below a limit, each there once at most, are at most as many
pub short : (limit : ℕ) (bs : List ℕ) → ((b : ℕ) → 0 < times b bs → b < limit) → ((b : ℕ) → times b bs ≤ 1) → length bs ≤ limit
short zero [] low once = omega arith
short zero (b ∷ bs) low once = absurd (let l = low b (let one = eq-eqb-one b b refl in omega arith) in omega arith)
short (suc n) bs low once = let l = length_without n bs in let rest = short n (without n bs)
    (λ b some. elim (cases_eq b n) [
      | inl here ↦ absurd (let z = without_at n bs (once n) in let e = ap (λ x. times x (without n bs)) here in omega arith)
      | inr other ↦ let w = without_off b n bs other in let a = low b (omega arith) in omega arith
    ])
    (λ b. elim (cases_eq b n) [
      | inl here ↦ let z = without_at n bs (once n) in let e = ap (λ x. times x (without n bs)) here in omega arith
      | inr other ↦ let w = without_off b n bs other in let a = once b in omega arith
    ]) in omega arith

-- one of some lists has a number no more often than all of them
pub list_at_most : (b n : ℕ) (lists : List (List ℕ)) → times b (get_or lists n []) ≤ total (times b) lists
list_at_most b n [] = omega arith
list_at_most b zero (bs ∷ lists) = omega arith
list_at_most b (suc n) (bs ∷ lists) = let rest = list_at_most b n lists in omega arith

pub stopped_most : (views : List View) → total (λ (v : View). one_if_some v.stopped) views ≤ length views
stopped_most [] = omega arith
stopped_most (v ∷ views) = let rest = stopped_most views in let one = most v.stopped in omega arith where
  most : {A : Type 0} (x : Option A) → one_if_some x ≤ 1
  most None = omega arith
  most (Some a) = omega arith
