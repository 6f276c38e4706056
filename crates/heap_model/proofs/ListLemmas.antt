-- How often numbers stand in lists that are joined or lose a member, the numbers side by side, and what leads to a list of superblocks.
use Rattle.std.proofs.Common.{◌≡◌, ℕ, zero, suc, ◌+◌, ◌<◌, ◌≤◌, inl, inr, Bool, true, false, cond, nat_eq, List, [], ◌∷◌, ◌++◌, length, Contains, refl, ap, subst, arith}
use Rattle.std.proofs.lemmas.Bool.{cases_eq}
use Rattle.heap_model.specs.Image.{words_from}
use Rattle.heap_model.specs.Chains.{Follows}
use Rattle.heap_model.specs.Counting.{times, one_if, without}
use Rattle.heap_model.proofs.MemberLemmas.{in_none, in_head, in_rest, head_or_rest}
use Rattle.heap_model.proofs.CountingLemmas.{one_if_true}

-- a test counts once at most
pub one_at_most : (test : Bool) → one_if test ≤ 1
one_at_most true = omega arith
one_at_most false = omega arith

-- how often a number stands in two lists together
pub times_append : (n : ℕ) (xs ys : List ℕ) → times n (xs ++ ys) ≡ times n xs + times n ys
times_append n [] ys = omega arith
times_append n (x ∷ xs) ys = let rest = times_append n xs ys in omega arith

-- a list without one of a number is shorter by one at most
pub length_without : (n : ℕ) (xs : List ℕ) → length xs ≤ length (without n xs) + 1
length_without n [] = omega arith
length_without n (x ∷ xs) = by_test (nat_eq x n) (length_without n xs) where
  by_test : (test : Bool) → length xs ≤ length (without n xs) + 1 → length (x ∷ xs) ≤ length (cond test xs (x ∷ without n xs)) + 1
  by_test true rest = omega arith
  by_test false rest = omega arith

-- no number stands more often in it
pub without_less : (m n : ℕ) (xs : List ℕ) → times m (without n xs) ≤ times m xs
without_less m n [] = omega arith
without_less m n (x ∷ xs) = by_test (nat_eq x n) (without_less m n xs) where
  by_test : (test : Bool) → times m (without n xs) ≤ times m xs → times m (cond test xs (x ∷ without n xs)) ≤ times m (x ∷ xs)
  by_test true rest = omega arith
  by_test false rest = omega arith

-- a number that stood once stands there no more
pub without_at : (n : ℕ) (xs : List ℕ) → times n xs ≤ 1 → times n (without n xs) ≡ 0
without_at n [] once = refl
without_at n (x ∷ xs) once = by_test (nat_eq x n) refl (without_at n xs (omega arith)) where
  by_test : (test : Bool) → nat_eq x n ≡ test → times n (without n xs) ≡ 0 → times n (cond test xs (x ∷ without n xs)) ≡ 0
  by_test true is rest = let here = one_if_true (nat_eq x n) is in omega arith
  by_test false is rest = let here : one_if (nat_eq x n) ≡ 0 = ap one_if is in omega arith

-- the numbers side by side from one on, so many: each stands among them, and no other does
pub in_numbers : (from count i : ℕ) → from ≤ i → i < from + count → Contains (words_from (λ n. n) from count) i
in_numbers from zero i low high = absurd (omega arith)
in_numbers from (suc count) i low high = elim (cases_eq from i) as (λ _. Contains (words_from (λ n. n) from (suc count)) i) [
  | inl same ↦ subst (λ x. Contains (from ∷ words_from (λ n. n) (from + 1) count) x) same (in_head from (words_from (λ n. n) (from + 1) count))
  | inr other ↦ in_rest from i (words_from (λ n. n) (from + 1) count) (in_numbers (from + 1) count i (omega arith) (omega arith))
]

pub numbers_below : (from count i : ℕ) → Contains (words_from (λ n. n) from count) i → i < from + count
numbers_below from zero i p = absurd (in_none i p)
numbers_below from (suc count) i p = elim (head_or_rest from i (words_from (λ n. n) (from + 1) count) p) as (λ _. i < from + suc count) [
  | inl same ↦ omega arith
  | inr later ↦ omega (arith, numbers_below (from + 1) count i later)
]

-- what leads to a list is no more than the count of superblocks
pub follows_small : (link : ℕ → ℕ) (capacity from : ℕ) (ds : List ℕ) → Follows link capacity from ds → from ≤ capacity
follows_small link capacity from [] follows = let last : from ≡ 0 = follows in omega arith
follows_small link capacity from (d ∷ ds) follows = let first : from ≡ d + 1 = follows.0 in let within = follows.1 in omega arith
