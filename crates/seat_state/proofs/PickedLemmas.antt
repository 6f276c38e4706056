-- What is picked for a seat of the first members of a list, one member more at a time.
use Rattle.std.proofs.Common.{◌≡◌, ℕ, zero, suc, ◌+◌, ◌<◌, ◌≤◌, inl, inr, Bool, true, false, cond, nat_eq, nat_lt, List, [], ◌∷◌, ◌++◌, Contains, get_or, length, take, refl, ap, ap₂, subst, ◌&&◌, eq-eqb, eqb-true, arith}
use Rattle.std.specs.Prelude.{AllPairs}
use Rattle.std.proofs.lemmas.Bool.{cases_eq, cases_lt}
use Rattle.std.proofs.lemmas.List.{get_or_past}
use Rattle.heap_model.specs.declared.block.Block.{Block}
use Rattle.heap_model.specs.Counting.{times, total, one_if}
use Rattle.heap_model.proofs.CountingLemmas.{total_once, one_if_true, one_if_some}
use Rattle.heap_model.proofs.MemberLemmas.{in_none, in_head, in_rest, head_or_rest}
use Rattle.core_model.specs.Effects.{steps}
use Rattle.core_model.specs.Opening.{picked, is_small}
use Rattle.core_model.proofs.TotalLemmas.{eq-eqb-one, ne-eqb-none}
use Rattle.core_model.proofs.FrameLemmas.{times_steps}
use Rattle.core_model.proofs.PlaceLemmas.{and_both, and_is}
use Rattle.core_model.proofs.OpenLemmas.{small_at}
use Rattle.core_model.proofs.OpenCountLemmas.{times_total}
use Rattle.core_model.proofs.OpenedHeldLemmas.{owns_root}
use Rattle.heap_model.proofs.ListLemmas.{one_at_most}
use Rattle.seat_state.proofs.WordLemmas.{entry_is}

pub picked_more : {A : Type 0} (j : ℕ) (xs : List A) (os : List ℕ) (i : ℕ) (x : A) (o : ℕ) → i < length xs → get_or xs i x ≡ x → i < length os
    → get_or os i o ≡ o
    → picked j (take (suc i) xs) (take (suc i) os) ≡ picked j (take i xs) (take i os) ++ cond (nat_eq o j) (x ∷ []) []
picked_more j [] os i x o below at below_o at_o = absurd (omega arith)
picked_more j (y ∷ xs) [] i x o below at below_o at_o = absurd (omega arith)
picked_more j (y ∷ xs) (p ∷ os) zero x o below at below_o at_o = ap₂ (λ a b. cond (nat_eq b j) (a ∷ []) []) at at_o
picked_more {A} j (y ∷ xs) (p ∷ os) (suc i) x o below at below_o at_o =
    by_test (nat_eq p j) (picked j (take i xs) (take i os)) (cond (nat_eq o j) (x ∷ []) [])
    (picked_more j xs os i x o (omega arith) at (omega arith) at_o) where
      by_test : (t : Bool) {l : List A} (m n : List A) → l ≡ m ++ n → cond t (y ∷ l) l ≡ cond t (y ∷ m) m ++ n
      by_test true m n e = ap (λ l. y ∷ l) e
      by_test false m n e = e

-- what is picked is a part of all, and what is taken too
pub picked_most : {A : Type 0} (f : A → ℕ) (j : ℕ) (xs : List A) (os : List ℕ) → total f (picked j xs os) ≤ total f xs
picked_most f j [] os = omega arith
picked_most f j (x ∷ xs) [] = omega arith
picked_most {A} f j (x ∷ xs) (o ∷ os) = by_test (nat_eq o j) (picked_most f j xs os) where
  by_test : (t : Bool) → total f (picked j xs os) ≤ total f xs → total f (cond t (x ∷ picked j xs os) (picked j xs os)) ≤ f x + total f xs
  by_test true rest = omega arith
  by_test false rest = omega arith

pub taken_most : {A : Type 0} (f : A → ℕ) (xs : List A) (i : ℕ) (x : A) → i < length xs → get_or xs i x ≡ x → total f (take i xs) + f x ≤ total f xs
taken_most f [] i x below at = absurd (omega arith)
taken_most f (y ∷ xs) zero x below at = let same = ap f at in omega arith
taken_most f (y ∷ xs) (suc i) x below at = let rest = taken_most f xs i x (omega arith) at in omega arith

pub in_taken : {A : Type 0} (xs : List A) (i : ℕ) (x : A) → Contains (take i xs) x → Contains xs x
in_taken xs zero x there = absurd (in_none x there)
in_taken [] (suc i) x there = absurd (in_none x there)
in_taken (y ∷ xs) (suc i) x there = elim (head_or_rest y x (take i xs) there) [
  | inl same ↦ subst (Contains (y ∷ xs)) same (in_head y xs)
  | inr later ↦ in_rest y x xs (in_taken xs i x later)
]

-- of what is picked of the first members nothing counts, where a later one is all that may
pub none_before : {A : Type 0} (f : A → ℕ) (j : ℕ) (xs : List A) (os : List ℕ) (i : ℕ) (x : A) → i < length xs → get_or xs i x ≡ x
    → total f xs ≤ 1 → f x ≡ 1 → total f (picked j (take i xs) os) ≡ 0
none_before f j xs os i x below at most one = let p = picked_most f j (take i xs) os in let t = taken_most f xs i x below at in omega arith

-- in a heap at rest a small block stands once
pub small_once : (held : List Block) (p : Block) → AllPairs (λ (a b : Block). a.first_word < b.first_word) held → Contains held p
    → is_small p ≡ true → total (small_at p.first_word) held ≡ 1
small_once held p ascending there small =
    total_once (λ (a b : Block). a.first_word < b.first_word) (small_at p.first_word) held p ascending
    (λ a b in_a in_b less some_a some_b. let e = at_first a some_a in let f = at_first b some_b in omega arith) there
    (one_if_true (is_small p && nat_eq p.first_word p.first_word) (and_is (is_small p) (nat_eq p.first_word p.first_word) small
    (eq-eqb p.first_word p.first_word refl))) where
      at_first : (a : Block) → 0 < small_at p.first_word a → a.first_word ≡ p.first_word
      at_first a some = eqb-true a.first_word p.first_word (and_both (is_small a) (nat_eq a.first_word p.first_word)
          (one_if_some (is_small a && nat_eq a.first_word p.first_word) some)).1

-- a seat has the roots of which it is the owner
pub roots_of : (i count : ℕ) (os : List ℕ) → length os ≡ count → (n : ℕ)
    → times n (picked i (steps 0 1 count) os) ≡ one_if (nat_eq (get_or os n (i + 1)) i)
roots_of i count os long n =
    let own = owns_root i count os n in
    let part = picked_most (λ x. one_if (nat_eq x n)) i (steps 0 1 count) os in
    let a = times_total n (picked i (steps 0 1 count) os) in let b = times_total n (steps 0 1 count) in
    let c = times_steps n 0 count in let most = one_at_most (nat_lt n (0 + count)) in
    elim (cases_eq (get_or os n (i + 1)) i) [
      | inl is ↦ let one = eq-eqb-one (get_or os n (i + 1)) i is in let some = own.1 (in_range is, is) in omega arith
      | inr other ↦ let none = ne-eqb-none (get_or os n (i + 1)) i other in elim (cases_lt 0 (times n (picked i (steps 0 1 count) os))) [
        | inl some ↦ absurd (other (own.0 some).1)
        | inr zero_times ↦ omega arith
      ]
    ] where
      in_range : get_or os n (i + 1) ≡ i → n < count
      in_range is = elim (cases_lt n count) [ inl less ↦ less | inr past ↦ absurd (let e = get_or_past os n (i + 1) (omega arith) in omega arith) ]

-- an entry of a list that is another
pub entry_of : {A : Type 0} (items xs : List A) (i : ℕ) (d : A) → items ≡ xs → i < length items → get_or xs i (get_or items i d) ≡ get_or items i d
entry_of items xs i d same below = subst (λ l. get_or l i (get_or items i d) ≡ get_or items i d) same (entry_is items i (get_or items i d) d below)
