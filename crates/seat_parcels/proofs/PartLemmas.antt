-- Parcels by their workers are all parcels, and have the values that are sent to each.
use Rattle.std.proofs.Common.{◌≡◌, ℕ, zero, suc, ◌+◌, ◌<◌, ◌≤◌, Bool, true, false, cond, nat_eq, List, [], ◌∷◌, ◌++◌, inl, inr, refl, ap, arith, sym, ◌∙◌}
use Rattle.std.specs.Prelude.{filter, flat_map}
use Rattle.std.specs.List.Sorted.{IsPermutation}
use Rattle.std.proofs.lemmas.Bool.{cases_eq, eq-eqb, ne_eqb}
use Rattle.std.proofs.lemmas.List.Sorted.{IsPermutation-append_right, IsPermutation-cons, IsPermutation-middle, IsPermutation-refl, IsPermutation-sym}
use Rattle.heap_model.specs.Image.{words_from}
use Rattle.dict_model.specs.Nodes.{shard_of}
use Rattle.parcel_queue.proofs.OrderLemmas.{follow, upto}
use Rattle.run_model.specs.Sending.{Sent}
use Rattle.run_model.specs.Workers.{worker_numbers, worker_of}
use Rattle.seat_parcels.specs.declared.parcel.Parcel.{Parcel}
use Rattle.seat_parcels.specs.Boxes.{goes_to, is_for, parcels_for}
use Rattle.seat_parcels.specs.Parcels.{all_sent_of, sent_of}

-- the parcels for workers from one on
abbrev parts : ℕ → List Parcel → ℕ → ℕ → List Parcel
parts workers parcels at count = flat_map (λ worker. parcels_for workers worker parcels) (words_from (λ i. i) at count)

of_none : (workers at count : ℕ) → parts workers [] at count ≡ []
of_none workers at zero = refl
of_none workers at (suc count) = of_none workers (at + 1) count

module _ (workers : ℕ) (x : Parcel) (xs : List Parcel) where
  its_own : (worker : ℕ) → goes_to workers x ≡ worker → parcels_for workers worker (x ∷ xs) ≡ x ∷ parcels_for workers worker xs
  its_own worker is = ap (λ b. cond b (x ∷ parcels_for workers worker xs) (parcels_for workers worker xs)) (eq-eqb (goes_to workers x) worker is)

  another : (worker : ℕ) → (goes_to workers x ≡ worker → ⊥) → parcels_for workers worker (x ∷ xs) ≡ parcels_for workers worker xs
  another worker other = ap (λ b. cond b (x ∷ parcels_for workers worker xs) (parcels_for workers worker xs)) (ne_eqb (goes_to workers x) worker other)

  -- the parts behind its own are the same
  behind : (at count : ℕ) → goes_to workers x < at → parts workers (x ∷ xs) at count ≡ parts workers xs at count
  behind at zero below = refl
  behind at (suc count) below = ap (λ (l : List Parcel). l ++ parts workers (x ∷ xs) (at + 1) count) (another at (λ e. omega (arith, e, below)))
      ∙ ap (λ (l : List Parcel). parcels_for workers at xs ++ l) (behind (at + 1) count (omega (arith, below)))

  in_one : (at count : ℕ) → at ≤ goes_to workers x → goes_to workers x < at + count
      → IsPermutation (x ∷ parts workers xs at count) (parts workers (x ∷ xs) at count)
  in_one at zero low high = absurd (omega (arith, low, high))
  in_one at (suc count) low high = elim (cases_eq (goes_to workers x) at) as
      (λ _. IsPermutation (x ∷ parts workers xs at (suc count)) (parts workers (x ∷ xs) at (suc count))) [
        | inl same ↦ upto (IsPermutation-refl (x ∷ parts workers xs at (suc count)))
            (sym (ap (λ (l : List Parcel). l ++ parts workers (x ∷ xs) (at + 1) count) (its_own at same)
            ∙ ap (λ (l : List Parcel). x ∷ (parcels_for workers at xs ++ l)) (behind (at + 1) count (omega (arith, same)))))
        | inr other ↦
            let first = parcels_for workers at xs in
            let rest = parts workers xs (at + 1) count in
            upto (follow (IsPermutation-sym (first ++ x ∷ rest) (x ∷ (first ++ rest)) (IsPermutation-middle first x rest))
            (IsPermutation-append_right first (x ∷ rest) (parts workers (x ∷ xs) (at + 1) count)
            (in_one (at + 1) count (above low other) (omega (arith, high)))))
            (ap (λ (l : List Parcel). l ++ parts workers (x ∷ xs) (at + 1) count) (sym (another at other)))
      ] where
        above : at ≤ goes_to workers x → (goes_to workers x ≡ at → ⊥) → at + 1 ≤ goes_to workers x
        above low other = omega (arith, low, other)

below_all : (workers : ℕ) (x : Parcel) → 1 ≤ workers → goes_to workers x < 0 + workers
below_all workers x some = omega (arith, some)

pub all_parts : (workers : ℕ) (parcels : List Parcel) → 1 ≤ workers
    → IsPermutation parcels (flat_map (λ worker. parcels_for workers worker parcels) (worker_numbers workers))
all_parts workers [] some = upto (IsPermutation-refl []) (sym (of_none workers 0 workers))
all_parts workers (x ∷ xs) some = follow (IsPermutation-cons x xs (parts workers xs 0 workers) (all_parts workers xs some))
    (in_one workers x xs 0 workers (omega arith) (below_all workers x some))

-- the values of what is for a worker
either_way : (b : Bool) (x : Parcel) (xs : List Parcel) (ss : List Sent) → all_sent_of xs ≡ ss
    → all_sent_of (cond b (x ∷ xs) xs) ≡ cond b (sent_of x ∷ ss) ss
either_way true x xs ss same = ap (λ (l : List Sent). sent_of x ∷ l) same
either_way false x xs ss same = same

pub sent_to : (workers worker : ℕ) (parcels : List Parcel)
    → all_sent_of (parcels_for workers worker parcels) ≡ filter (λ (s : Sent). nat_eq (worker_of workers (shard_of s.key)) worker) (all_sent_of parcels)
sent_to workers worker [] = refl
sent_to workers worker (x ∷ xs) = either_way (is_for workers worker x) x (parcels_for workers worker xs)
    (filter (λ (s : Sent). nat_eq (worker_of workers (shard_of s.key)) worker) (all_sent_of xs)) (sent_to workers worker xs)
