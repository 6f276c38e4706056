-- The first, the last and the rest of some blocks.
use Rattle.std.proofs.Common.{◌≡◌, ℕ, ◌+◌, ◌-◌, ◌<◌, ◌≤◌, cond, nat_eq, List, [], ◌∷◌, ◌++◌, length, refl, sym, arith}
use Rattle.heap_model.specs.Counting.{times}
use Rattle.core_model.specs.Effects.{first_of, last_of, rest_of}
use Rattle.core_model.proofs.TotalLemmas.{eq-eqb-one}
use Rattle.core_model.proofs.PlaceLemmas.{skip, not-eq}
use Rattle.heap_model.specs.Chains.{Walks}

pub first_append : (bs : List ℕ) (b : ℕ) → first_of (bs ++ b ∷ []) ≡ cond (nat_eq (length bs) 0) b (first_of bs)
first_append [] b = refl
first_append (a ∷ bs) b = sym (skip (nat_eq (length (a ∷ bs)) 0) b a (not-eq (length (a ∷ bs)) 0 (λ e. omega (arith, e))))

pub last_append : (bs : List ℕ) (b : ℕ) → last_of (bs ++ b ∷ []) ≡ b
last_append [] b = refl
last_append (a ∷ []) b = refl
last_append (a ∷ n ∷ bs) b = last_append (n ∷ bs) b

pub length_append : (bs : List ℕ) (b : ℕ) → length (bs ++ b ∷ []) ≡ length bs + 1
length_append [] b = refl
length_append (a ∷ bs) b = let rest = length_append bs b in omega arith

-- the last of some blocks is one of them
pub last_there : (bs : List ℕ) → 1 ≤ length bs → 0 < times (last_of bs) bs
last_there [] some = absurd (omega arith)
last_there (a ∷ []) some = let one = eq-eqb-one a a refl in omega arith
last_there (a ∷ n ∷ bs) some = let rest = last_there (n ∷ bs) (omega arith) in omega arith

pub rest_length : (bs : List ℕ) → length (rest_of bs) ≡ length bs - 1
rest_length [] = refl
rest_length (b ∷ bs) = omega arith

pub rest_first : (f : ℕ → ℕ) (bs : List ℕ) → Walks f (first_of bs) bs → 1 ≤ length (rest_of bs) → first_of (rest_of bs) ≡ f (first_of bs)
rest_first f [] walks some = absurd (omega arith)
rest_first f (b ∷ []) walks some = absurd (omega arith)
rest_first f (b ∷ n ∷ bs) walks some = sym walks.1.0
