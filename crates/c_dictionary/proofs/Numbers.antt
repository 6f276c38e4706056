-- Statuses differ.
use Rattle.std.proofs.Common.{◌≡◌, ℕ, ◌⊎◌, inl, inr, false, nat_eq, sym, ◌∙◌, arith}
use Rattle.std.proofs.lemmas.Bool.{eq-eqb}

-- two numbers that a test tells apart
pub differ : (a b : ℕ) → nat_eq a b ≡ false → a ≡ b → ⊥
differ a b test same = let never = sym (eq-eqb a b same) ∙ test in absurd (cc)

pub not_zero : (r : ℕ) → (r ≡ 2) ⊎ (r ≡ 12) → r ≡ 0 → ⊥
not_zero r (inl a) e = omega arith
not_zero r (inr a) e = omega arith

pub not_one : (r : ℕ) → (r ≡ 2) ⊎ (r ≡ 12) → r ≡ 1 → ⊥
not_one r (inl a) e = omega arith
not_one r (inr a) e = omega arith

pub not_eleven : (r : ℕ) → (r ≡ 2) ⊎ (r ≡ 12) → r ≡ 11 → ⊥
not_eleven r (inl a) e = omega arith
not_eleven r (inr a) e = omega arith

pub not_three : (r : ℕ) → (r ≡ 2) ⊎ (r ≡ 12) → r ≡ 3 → ⊥
not_three r (inl a) e = omega arith
not_three r (inr a) e = omega arith

-- an answered request is not refused, and has not stopped
pub not_low : (r : ℕ) → (r ≡ 2) ⊎ (r ≡ 12) → (r ≡ 0) ⊎ (r ≡ 1) → ⊥
not_low r refused (inl e) = not_zero r refused e
not_low r refused (inr e) = not_one r refused e

pub low_goes : (r : ℕ) → (r ≡ 0) ⊎ (r ≡ 1) → r ≡ 12 → ⊥
low_goes r (inl a) e = omega arith
low_goes r (inr a) e = omega arith

pub low_not_two : (r : ℕ) → (r ≡ 0) ⊎ (r ≡ 1) → r ≡ 2 → ⊥
low_not_two r (inl a) e = omega arith
low_not_two r (inr a) e = omega arith
