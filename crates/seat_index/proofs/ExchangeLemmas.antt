-- What an exchange compares, and the numbers that it makes: a test of two words, a number less by one, and a chain of blocks.
use Rattle.std.proofs.Common.{◌≡◌, ◌≢◌, ℕ, cond, nat_eq, refl, ap, eq-eqb, ne_eqb, zero, suc, ◌-◌, arith, ◌≤◌, length}
use Rattle.core_model.specs.Effects.{before, chain, first_of}

-- a test that holds, and one that doesn't
pub hit : {A : Type 0} (found seen : ℕ) (x y : A) → found ≡ seen → cond (nat_eq found seen) x y ≡ x
hit found seen x y same = ap (λ b. cond b x y) (eq-eqb found seen same)

pub missed : {A : Type 0} (found seen : ℕ) (x y : A) → found ≢ seen → cond (nat_eq found seen) x y ≡ y
missed found seen x y other = ap (λ b. cond b x y) (ne_eqb found seen other)

-- the number before one, as it is subtracted
pub before_is : (n : ℕ) → before n ≡ n - 1
before_is zero = refl
before_is (suc n) = let e : n ≡ suc n - 1 = omega arith in e

-- blocks that lead along one another are so many, from the first one on
pub chain_length : (f : ℕ → ℕ) (from n : ℕ) → length (chain f from n) ≡ n
chain_length f from zero = refl
chain_length f from (suc n) = ap suc (chain_length f (f from) n)

pub chain_first : (f : ℕ → ℕ) (from n : ℕ) → 1 ≤ length (chain f from n) → first_of (chain f from n) ≡ from
chain_first f from zero some = absurd (omega arith)
chain_first f from (suc n) some = refl
