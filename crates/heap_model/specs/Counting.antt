-- Counts and sums over lists, by which "in exactly one place" is said: how often a number stands in lists, added up over their owners.
use Rattle.std.specs.Prelude.{ℕ, ◌+◌, Bool, true, false, cond, nat_eq, nat_lt, List, [], ◌∷◌}

-- 1 where the test holds
abbrev pub one_if : Bool → ℕ
one_if true = 1
one_if false = 0

-- how often a number stands in a list
abbrev pub times : ℕ → List ℕ → ℕ
times n [] = 0
times n (x ∷ xs) = one_if (nat_eq x n) + times n xs

-- the sum of a number over the members of a list
abbrev pub total : {A : Type 0} → (A → ℕ) → List A → ℕ
total of [] = 0
total of (x ∷ xs) = of x + total of xs

-- the list without the first such number
abbrev pub without : ℕ → List ℕ → List ℕ
without n [] = []
without n (x ∷ xs) = cond (nat_eq x n) xs (x ∷ without n xs)

-- 1 for the numbers below the limit
abbrev pub below : ℕ → ℕ → ℕ
below n limit = one_if (nat_lt n limit)

-- the function with another value at one number
abbrev pub put : (ℕ → ℕ) → ℕ → ℕ → ℕ → ℕ
put f at value n = cond (nat_eq n at) value (f n)
