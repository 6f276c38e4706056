-- The links of the tests' filter: a pair has a first link, in word 0 (kind 2), which leads to such a pair again,
-- or a second, in word 2 (kind 1), which leads to a block without links (kind 0).
use Rattle.std.specs.Prelude.{◌≡◌, ℕ, zero, suc, ◌<◌, ◌≤◌, ◌^◌, List, [], ◌∷◌, Bool, true, false, cond, nat_eq, nat_lt, length, Contains}
use Rattle.std.proofs.Common.{arith, ap}
use Rattle.std.proofs.lemmas.Bool.{ltb-true}
use Rattle.heap_model.specs.Reach.{Links, AreInside}

-- one link, to a block of the kind, if the block has the word
abbrev pub one_link : ℕ → ℕ → List ℕ → List (ℕ × ℕ)
one_link at to words = cond (nat_lt at (length words)) ((at, to) ∷ []) []

-- a block of kind 1 links its third word to kind 0, one of kind 2 its first word to kind 2
abbrev pub pair_links : Links
pair_links kind words = cond (nat_eq kind 1) (one_link 2 0 words) (cond (nat_eq kind 2) (one_link 0 2 words) [])

-- the position lies in the block, and the kind is below 3
one_inside : (test : Bool) (position leads : ℕ) (words : List ℕ) (at to : ℕ) → (test ≡ true → position < length words)
    → leads < 3 → Contains {X = ℕ × ℕ} (cond test ((position, leads) ∷ []) []) (at, to) → (at < length words) × (to < 3)
one_inside false position leads words at to fits small here = let none = here.1 in absurd (omega arith)
one_inside true position leads words at to fits small (zero, below, is) =
    let inside = fits (λ _. true) in
    let same = ap (λ (l : ℕ × ℕ). l.0) is in
    let kind = ap (λ (l : ℕ × ℕ). l.1) is in
    (omega arith, omega arith)
one_inside true position leads words at to fits small (suc k, below, is) = absurd (omega arith)

cases_inside : (second first : Bool) (words : List ℕ) (at to : ℕ)
    → Contains (cond second (one_link 2 0 words) (cond first (one_link 0 2 words) [])) (at, to) → (at < length words) × (to < 3)
cases_inside true first words at to here =
    one_inside (nat_lt 2 (length words)) 2 0 words at to (ltb-true 2 (length words)) (omega arith) here
cases_inside false true words at to here =
    one_inside (nat_lt 0 (length words)) 0 2 words at to (ltb-true 0 (length words)) (omega arith) here
cases_inside false false words at to here = let none = here.1 in absurd (omega arith)

pub pair_links-inside : AreInside 3 pair_links
pair_links-inside = record {
  position = λ kind words at to here. (cases_inside (nat_eq kind 1) (nat_eq kind 2) words at to here).0;
  kind = λ kind words at to here. (cases_inside (nat_eq kind 1) (nat_eq kind 2) words at to here).1;
}

-- there is at most one
one_few : (test : Bool) (position leads : ℕ) → length {A = ℕ × ℕ} (cond test ((position, leads) ∷ []) []) ≤ 1
one_few true position leads = omega arith
one_few false position leads = omega arith

cases_few : (second first : Bool) (words : List ℕ) → length (cond second (one_link 2 0 words) (cond first (one_link 0 2 words) [])) ≤ 1
cases_few true first words = one_few (nat_lt 2 (length words)) 2 0
cases_few false true words = one_few (nat_lt 0 (length words)) 0 2
cases_few false false words = omega arith

pub pair_links-few : (kind : ℕ) (words : List ℕ) → length words < 2 ^ 32 → length (pair_links kind words) < 2 ^ 64
pair_links-few kind words short = let few = cases_few (nat_eq kind 1) (nat_eq kind 2) words in omega arith
