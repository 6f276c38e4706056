-- Facts on sums over a list, and on how often a number stands in one: nowhere, somewhere, or once in a list that ascends.
use Rattle.std.proofs.Common.{◌≡◌, ℕ, ◌+◌, ◌<◌, inl, inr, Bool, true, false, nat_eq, List, [], ◌∷◌, get_or, Contains, refl, ap, sym, subst, ◌∙◌, arith, ◌++◌}
use Rattle.std.specs.Prelude.{AllPairs}
use Rattle.std.proofs.lemmas.Bool.{cases_lt, eqb-true, eq-eqb, agree_below_at}
use Rattle.std.proofs.lemmas.List.{get_or_default}
use Rattle.heap_model.specs.Geometry.{lists}
use Rattle.heap_model.specs.Counting.{times, total, one_if}
use Rattle.heap_model.specs.Rest.{list_numbers}
use Rattle.heap_model.proofs.MemberLemmas.{in_none, in_head, in_rest, head_or_rest, order_head, order_rest}

-- a sum of nothing but 0
pub total_none : {X : Type 0} (of : X → ℕ) (xs : List X) → ((x : X) → Contains xs x → of x ≡ 0) → total of xs ≡ 0
total_none of [] none = refl
total_none of (x ∷ xs) none =
    let here = none x (in_head x xs) in
    let rest = total_none of xs (λ y p. none y (in_rest x y xs p)) in
    omega arith

-- a sum that is not 0 has a member that is not
-- the sum over two lists
pub total_append : {X : Type 0} (of : X → ℕ) (xs ys : List X) → total of (xs ++ ys) ≡ total of xs + total of ys
total_append of [] ys = omega arith
total_append of (x ∷ xs) ys = let rest = total_append of xs ys in omega arith

pub total_some : {X : Type 0} (of : X → ℕ) (xs : List X) → 0 < total of xs → (x : X) × Contains xs x × (0 < of x)
total_some of [] some = absurd (omega arith)
total_some of (x ∷ xs) some = elim (cases_lt 0 (of x)) [
  | inl here ↦ (x, in_head x xs, here)
  | inr zero_here ↦ let rest = total_some of xs (omega arith) in (rest.0, in_rest x rest.0 xs rest.1, rest.2)
]

-- of a list in order, where no two related members count, one that counts 1 is the whole sum
pub total_once : {X : Type 0} (R : X → X → Type 0) (of : X → ℕ) (xs : List X) (x : X) → AllPairs R xs
    → ((a b : X) → Contains xs a → Contains xs b → R a b → 0 < of a → 0 < of b → ⊥) → Contains xs x → of x ≡ 1 → total of xs ≡ 1
total_once R of [] x pairs alone p one = absurd (in_none x p)
total_once R of (y ∷ xs) x pairs alone p one = elim (head_or_rest y x xs p) [
  | inl same ↦
      let here : of y ≡ 1 = ap of same ∙ one in
      let rest = total_none of xs (λ z q. elim (cases_lt 0 (of z)) as (λ _. of z ≡ 0) [
        | inl counts ↦ absurd (alone y z (in_head y xs) (in_rest y z xs q) (order_head R y z xs pairs q) (omega arith) counts)
        | inr none ↦ omega arith
      ]) in
      omega arith
  | inr later ↦
      let rest = total_once R of xs x (order_rest R y xs pairs) (λ a b in_a in_b. alone a b (in_rest y a xs in_a) (in_rest y b xs in_b)) later one in
      elim (cases_lt 0 (of y)) as (λ _. of y + total of xs ≡ 1) [
        | inl counts ↦ absurd (alone y x (in_head y xs) (in_rest y x xs later) (order_head R y x xs pairs later) counts (omega arith))
        | inr none ↦ omega arith
      ]
]

-- 1 exactly where the test holds
pub one_if_true : (test : Bool) → test ≡ true → one_if test ≡ 1
one_if_true true holds = refl
one_if_true false holds = absurd (cc)

pub one_if_false : (test : Bool) → (test ≡ true → ⊥) → one_if test ≡ 0
one_if_false true fails = absurd (fails refl)
one_if_false false fails = refl

pub one_if_some : (test : Bool) → 0 < one_if test → test ≡ true
one_if_some true some = refl
one_if_some false some = absurd (omega arith)

-- a number that is no member stands nowhere
pub times_none : (n : ℕ) (xs : List ℕ) → (Contains xs n → ⊥) → times n xs ≡ 0
times_none n [] none = refl
times_none n (x ∷ xs) none =
    let here : one_if (nat_eq x n) ≡ 0 = one_if_false (nat_eq x n)
    (λ same. none (subst (λ y. Contains (x ∷ xs) y) (eqb-true x n same) (in_head x xs))) in
    let rest = times_none n xs (λ p. none (in_rest x n xs p)) in
    omega arith

-- a number that stands somewhere is a member
pub times_some : (n : ℕ) (xs : List ℕ) → 0 < times n xs → Contains xs n
times_some n [] some = absurd (omega arith)
times_some n (x ∷ xs) some = elim (cases_lt 0 (one_if (nat_eq x n))) [
  | inl here ↦ subst (λ y. Contains (x ∷ xs) y) (eqb-true x n (one_if_some (nat_eq x n) here)) (in_head x xs)
  | inr none ↦ in_rest x n xs (times_some n xs (omega arith))
]

-- a member of an ascending list stands there once
pub times_once : (n : ℕ) (xs : List ℕ) → AllPairs (λ x y. x < y) xs → Contains xs n → times n xs ≡ 1
times_once n [] pairs p = absurd (in_none n p)
times_once n (x ∷ xs) pairs p = elim (head_or_rest x n xs p) [
  | inl same ↦
      let here : one_if (nat_eq x n) ≡ 1 = one_if_true (nat_eq x n) (eq-eqb x n same) in
      let rest = times_none n xs (λ later. let less : x < n = order_head (λ a b. a < b) x n xs pairs later in omega arith) in
      omega arith
  | inr later ↦
      let less : x < n = order_head (λ a b. a < b) x n xs pairs later in
      let here : one_if (nat_eq x n) ≡ 0 = one_if_false (nat_eq x n) (λ same. let e = eqb-true x n same in omega arith) in
      let rest = times_once n xs (order_rest (λ a b. a < b) x xs pairs) later in
      omega arith
]

-- the list numbers are the numbers below the count of lists, in order
list_number : (i d : ℕ) → i < lists → get_or list_numbers i d ≡ i
list_number i d below =
    get_or_default list_numbers i d 0 below ∙ eqb-true (get_or list_numbers i 0) i
    (agree_below_at (λ k. nat_eq (get_or list_numbers k 0) k) (λ _. true) lists i refl below)

pub is_number : (list : ℕ) → list < lists → Contains list_numbers list
is_number list below = (list, below, list_number list list below)

pub number_below : (list : ℕ) → Contains list_numbers list → list < lists
number_below list p = let same : p.0 ≡ list = sym (list_number p.0 list p.1) ∙ p.2 in omega (arith, p.1)

pub numbers_ascend : AllPairs (λ a b. a < b) list_numbers
numbers_ascend = λ i j d less within. let at_i = list_number i d (omega arith) in let at_j = list_number j d within in omega arith
