-- Counts of what passes a test, and whether a word isn't null, as far as it is known.
use Rattle.std.proofs.Common.{◌≡◌, ◌≢◌, ℕ, ◌+◌, ◌≤◌, inl, inr, List, [], ◌∷◌, Option, None, Some, Bool, true, false, not, nat_eq, cond, Contains, refl, subst, sym, ap, arith}
use Rattle.std.specs.Prelude.{count_by}
use Rattle.std.proofs.lemmas.Bool.{eq-eqb, ne_eqb}
use Rattle.std.proofs.lemmas.List.Sums.{sum_by-cons}
use Rattle.heap_model.proofs.MemberLemmas.{in_none, in_head, in_rest, head_or_rest}
use Rattle.run_model.specs.Spending.{is_set}

-- a test that passes wherever another one does counts no less
pub one_count : (a b : Bool) → (a ≡ true → b ≡ true) → cond a 1 0 ≤ cond b 1 0
one_count true true more = let all : 1 ≤ 1 = omega arith in all
one_count true false more = let e : false ≡ true = more refl in absurd (cc)
one_count false true more = let all : 0 ≤ 1 = omega arith in all
one_count false false more = let all : 0 ≤ 0 = omega arith in all

-- where what passed still passes, no fewer do, and one more where one passes that did not
pub count_rises : (p q : ℕ → Bool) (xs : List ℕ) → ((x : ℕ) → Contains xs x → p x ≡ true → q x ≡ true) → count_by p xs ≤ count_by q xs
count_rises p q [] more = let all : 0 ≤ 0 = omega arith in all
count_rises p q (x ∷ xs) more =
    let a = sum_by-cons (λ y. cond (p y) 1 0) x xs in
    let b = sum_by-cons (λ y. cond (q y) 1 0) x xs in
    let first = one_count (p x) (q x) (more x (in_head x xs)) in
    let rest = count_rises p q xs (λ y h. more y (in_rest x y xs h)) in
    omega arith

pub count_gains : (p q : ℕ → Bool) (xs : List ℕ) (z : ℕ) → Contains xs z → p z ≡ false → q z ≡ true
    → ((x : ℕ) → Contains xs x → p x ≡ true → q x ≡ true)
    → count_by p xs + 1 ≤ count_by q xs
count_gains p q [] z h was now more = absurd (in_none z h)
count_gains p q (x ∷ xs) z h was now more =
    let a = sum_by-cons (λ y. cond (p y) 1 0) x xs in
    let b = sum_by-cons (λ y. cond (q y) 1 0) x xs in
    elim (head_or_rest x z xs h) as (λ _. count_by p (x ∷ xs) + 1 ≤ count_by q (x ∷ xs)) [
      | inl same ↦
          let first : cond (p x) 1 0 + 1 ≤ cond (q x) 1 0 =
          subst (λ y. cond (p y) 1 0 + 1 ≤ cond (q y) 1 0) (sym same) (rw (was, now) (let all : 0 + 1 ≤ 1 = omega arith in all)) in
          let rest = count_rises p q xs (λ y in_xs. more y (in_rest x y xs in_xs)) in
          omega arith
      | inr later ↦
          let first = one_count (p x) (q x) (more x (in_head x xs)) in
          let rest = count_gains p q xs z later was now (λ y in_xs. more y (in_rest x y xs in_xs)) in
          omega arith
    ]

not_zero : (x : ℕ) → not (nat_eq x 0) ≡ true → x ≢ 0
not_zero x is e = let same = eq-eqb x 0 e in let no : not true ≡ true = subst (λ b. not b ≡ true) same is in absurd (cc)

zero_not : (x : ℕ) → x ≢ 0 → not (nat_eq x 0) ≡ true
zero_not x some = ap not (ne_eqb x 0 some)

pub set_value : (o : Option ℕ) → is_set o ≡ true → (x : ℕ) × (o ≡ Some x) × (x ≢ 0)
set_value None is = absurd (cc)
set_value (Some x) is = (x, refl, not_zero x is)

pub value_set : (o : Option ℕ) (x : ℕ) → o ≡ Some x → x ≢ 0 → is_set o ≡ true
value_set o x is some = subst (λ k. is_set k ≡ true) (sym is) (zero_not x some)

pub null_unset : (o : Option ℕ) → ((x : ℕ) → o ≡ Some x → x ≡ 0) → is_set o ≡ false
null_unset None null = refl
null_unset (Some x) null = ap not (eq-eqb x 0 (null x refl))
