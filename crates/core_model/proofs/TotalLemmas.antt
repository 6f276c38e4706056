-- Sums and statements over the seats when one seat has another view, and sums over lists of which one changes.
use Rattle.std.proofs.Common.{◌≡◌, ◌≢◌, ℕ, zero, suc, ◌+◌, ◌<◌, ◌≤◌, inl, inr, nat_eq, List, [], ◌∷◌, get_or, set, length, eq-eqb, eqb-true, length-set, refl, ap, sym, subst, ◌∙◌, arith}
use Rattle.std.proofs.lemmas.Bool.{cases_eq, cases_lt}
use Rattle.std.proofs.lemmas.List.{get_or-set_same, get_or-set_other}
use Rattle.heap_model.proofs.CountingLemmas.{one_if_false}
use Rattle.heap_model.specs.Counting.{total, times, one_if}
use Rattle.core_model.specs.View.{View}
use Rattle.core_model.specs.Sound.{Each}

-- 1 exactly where the numbers are one
pub eq-eqb-one : (n l : ℕ) → n ≡ l → one_if (nat_eq n l) ≡ 1
eq-eqb-one n l same = ap one_if (eq-eqb n l same)

pub ne-eqb-none : (n l : ℕ) → n ≢ l → one_if (nat_eq n l) ≡ 0
ne-eqb-none n l other = one_if_false (nat_eq n l) (λ e. other (eqb-true n l e))

-- the member at an index, and its sum
pub total_set : {A : Type 0} (f : A → ℕ) (xs : List A) (i : ℕ) (v w : A) → i < length xs → get_or xs i v ≡ v
    → total f (set xs i w) + f v ≡ total f xs + f w
total_set f [] i v w below at = absurd (omega arith)
total_set f (x ∷ xs) zero v w below at = let same = ap f at in omega arith
total_set f (x ∷ xs) (suc i) v w below at = let rest = total_set f xs i v w (omega arith) at in omega arith

pub total_same : {A : Type 0} (f : A → ℕ) (xs : List A) (i : ℕ) (v w : A) → i < length xs → get_or xs i v ≡ v → f w ≡ f v
    → total f (set xs i w) ≡ total f xs
total_same f xs i v w below at same = let step = total_set f xs i v w below at in omega arith

pub total_at : {A : Type 0} (f : A → ℕ) (xs : List A) (i : ℕ) (v : A) → i < length xs → get_or xs i v ≡ v → f v ≤ total f xs
total_at f [] i v below at = absurd (omega arith)
total_at f (x ∷ xs) zero v below at = let same = ap f at in omega arith
total_at f (x ∷ xs) (suc i) v below at = let rest = total_at f xs i v (omega arith) at in omega arith

pub total_two : {A : Type 0} (f : A → ℕ) (xs : List A) (i j : ℕ) (v u : A) → j ≢ i → i < length xs → get_or xs i v ≡ v → j < length xs
    → get_or xs j u ≡ u → f v + f u ≤ total f xs
total_two f [] i j v u other below at below_j at_j = absurd (omega arith)
total_two f (x ∷ xs) zero zero v u other below at below_j at_j = absurd (other refl)
total_two f (x ∷ xs) zero (suc j) v u other below at below_j at_j = let same = ap f at in let rest = total_at f xs j u (omega arith) at_j in omega arith
total_two f (x ∷ xs) (suc i) zero v u other below at below_j at_j = let same = ap f at_j in let rest = total_at f xs i v (omega arith) at in omega arith
total_two f (x ∷ xs) (suc i) (suc j) v u other below at below_j at_j =
    let rest = total_two f xs i j v u (λ e. other (ap suc e)) (omega arith) at (omega arith) at_j in omega arith

-- a sum that is not 0 has a member that is not
pub total_where : {A : Type 0} (f : A → ℕ) (xs : List A) → 0 < total f xs → (i : ℕ) × (v : A) × (i < length xs) × (get_or xs i v ≡ v) × (0 < f v)
total_where f [] some = absurd (omega arith)
total_where f (x ∷ xs) some = elim (cases_lt 0 (f x)) [
  | inl here ↦ (0, x, omega arith, refl, here)
  | inr none ↦ let rest = total_where f xs (omega arith) in (suc rest.0, rest.1, omega (arith, rest.2), rest.3, rest.4)
]

-- two sums over one list, member by member
pub total_alike : {A : Type 0} (f g : A → ℕ) (xs : List A) → ((x : A) → f x ≡ g x) → total f xs ≡ total g xs
total_alike f g [] same = refl
total_alike f g (x ∷ xs) same = let here = same x in let rest = total_alike f g xs same in omega arith

-- where the function differs at a number that is not there, the sum is the same
pub total_unchanged : (f g : ℕ → ℕ) (l : ℕ) (ns : List ℕ) → ((n : ℕ) → n ≢ l → g n ≡ f n) → times l ns ≡ 0 → total g ns ≡ total f ns
total_unchanged f g l [] same none = refl
total_unchanged f g l (n ∷ ns) same none = elim (cases_eq n l) [
  | inl here ↦ absurd (let one = eq-eqb-one n l here in omega arith)
  | inr other ↦ let here = same n other in let rest = total_unchanged f g l ns same (omega arith) in omega arith
]

-- of a sum over numbers, one of which stands there once, where the function differs there alone
pub total_change : (f g : ℕ → ℕ) (l : ℕ) (ns : List ℕ) → ((n : ℕ) → n ≢ l → g n ≡ f n) → times l ns ≡ 1 → total g ns + f l ≡ total f ns + g l
total_change f g l [] same one = absurd (omega arith)
total_change f g l (n ∷ ns) same one = elim (cases_eq n l) [
  | inl here ↦
      let counted = eq-eqb-one n l here in
      let f_here = ap f here in
      let g_here = ap g here in
      let rest = total_unchanged f g l ns same (omega arith) in omega arith
  | inr other ↦ let zero_here = ne-eqb-none n l other in let here = same n other in let rest = total_change f g l ns same (omega arith) in omega arith
]

-- what is so of each seat, after a step of one
pub each_set : (views : List View) (i : ℕ) (w : View) (P : View → Type 0) → i < length views
    → ((j : ℕ) (u : View) → j ≢ i → j < length views → get_or views j u ≡ u → P u) → P w → Each (set views i w) P
each_set views i w P below others own = λ j u below_j at_j. elim (cases_eq j i) [
  | inl here ↦ subst P (sym (get_or-set_same views i w u below) ∙ (subst (λ n. get_or (set views i w) n u ≡ u) here at_j)) own
  | inr other ↦ others j u other (subst (λ n. j < n) (length-set views i w) below_j) (sym (get_or-set_other views i j w u other) ∙ at_j)
]
