-- Worked examples of what is no delivery, and of what the rule refuses. A parcel is its number here.
use Rattle.std.proofs.Common.{ℕ, [], ◌∷◌, length, ap, refl, arith}
use Rattle.std.specs.Prelude.{⊤}
use Rattle.std.proofs.lemmas.List.Sorted.{length_permutation, sum_by-IsPermutation}
use Rattle.parcel_queue.specs.Delivery.{AreDelivered, IsDelivered}
use Rattle.parcel_queue.specs.Rule.{IsFair, IsIdle}
use Rattle.parcel_queue.specs.Examples.{account}

-- a parcel that was put and not taken
pub one_lost : AreDelivered {T = ℕ} ((7 ∷ 5 ∷ []) ∷ []) (7 ∷ []) → ⊥
one_lost d = let l = length_permutation (7 ∷ 5 ∷ []) (7 ∷ []) d.same in omega (arith, l)

-- one that was put once and taken twice
pub one_twice : AreDelivered {T = ℕ} ((7 ∷ []) ∷ []) (7 ∷ 7 ∷ []) → ⊥
one_twice d = let l = length_permutation (7 ∷ []) (7 ∷ 7 ∷ []) d.same in omega (arith, l)

-- one in place of another
pub another_one : AreDelivered {T = ℕ} ((7 ∷ []) ∷ []) (5 ∷ []) → ⊥
another_one d = let s = sum_by-IsPermutation (λ x. x) (7 ∷ []) (5 ∷ []) d.same in omega (arith, s)

-- an owner that left a sender's parcel in the queue
pub one_left : IsDelivered (account 1024 (7 ∷ 5 ∷ []) (7 ∷ [])) → ⊥
one_left d = let l = length_permutation (7 ∷ 5 ∷ []) (7 ∷ []) d.same in omega (arith, l)

-- a queue in which there is what nobody put
pub from_nowhere : IsFair {T = ℕ} (λ _. ⊤) (7 ∷ []) (account 1024 [] [] ∷ []) → ⊥
from_nowhere fair = let l = length_permutation [] (7 ∷ []) fair.same in omega (arith, l)

-- a pass that was left out, so that its parts are missing
pub part_missing : IsFair {T = ℕ} (λ _. ⊤) [] (account 1023 [] [] ∷ []) → ⊥
part_missing fair = let p = fair.parts in omega (arith, p)

-- a pass that put something and has no part
pub busy_without_part : IsIdle (account 0 (7 ∷ []) []) → ⊥
busy_without_part idle = let l = ap length (idle.put refl) in omega (arith, l)
