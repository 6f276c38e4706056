-- The sum of the parts of a row of accounts, and the one account that has all of them.
use Rattle.std.proofs.Common.{◌≡◌, ℕ, zero, suc, ◌+◌, ◌≤◌, List, [], ◌∷◌, ◌++◌, set, refl, ap, sym, ◌∙◌, append-nil, All, arith}
use Rattle.std.specs.Prelude.{flat_map, sum_by}
use Rattle.std.proofs.lemmas.List.Elements.{All-head, All-tail}
use Rattle.std.proofs.lemmas.List.Sums.{sum_by-cons}
use mathlib.Core.Option.{some, some-injective, some-ne-none}
use lib.ListN.{get_elem?}

module _ {A : Type 0} (parts : A → ℕ) where
  -- the sum after one account changes
  pub sum_set : (l : List A) (id : ℕ) (v w : A) → get_elem? l id ≡ some v → sum_by parts (set l id w) + parts v ≡ sum_by parts l + parts w
  sum_set [] id v w at = absurd (some-ne-none v (sym at))
  sum_set (x ∷ l) zero v w at = let same = ap parts (some-injective x v at) in
      let old = sum_by-cons parts x l in let new = sum_by-cons parts w l in omega arith
  sum_set (x ∷ l) (suc id) v w at = let rest = sum_set l id v w at in
      let old = sum_by-cons parts x l in let new = sum_by-cons parts x (set l id w) in omega arith

  -- one term is at most the sum
  term : (l : List A) (id : ℕ) (v : A) → get_elem? l id ≡ some v → parts v ≤ sum_by parts l
  term [] id v at = absurd (some-ne-none v (sym at))
  term (x ∷ l) zero v at = let same = ap parts (some-injective x v at) in let c = sum_by-cons parts x l in omega arith
  term (x ∷ l) (suc id) v at = let rest = term l id v at in let c = sum_by-cons parts x l in omega arith

module _ {A T : Type 0} (parts : A → ℕ) (f : A → List T) where
  -- an account without a part has an empty list
  abbrev pub IsNone : A → Type 0
  IsNone a = parts a ≡ 0 → f a ≡ []

  abbrev in_front : List A → List T → List T
  in_front l ys = ys ++ flat_map f l

  -- where none of these has a part, there is nothing
  nobody : (l : List A) → sum_by parts l ≡ 0 → All IsNone l → flat_map f l ≡ []
  nobody [] sum none = refl
  nobody (x ∷ l) sum none = let c = sum_by-cons parts x l in
      ap (in_front l) (All-head IsNone x l none (omega (arith, c, sum))) ∙ nobody l (omega (arith, c, sum)) (All-tail IsNone x l none)

  -- the one with every part has all that there is
  pub alone : (l : List A) (id : ℕ) (v : A) → get_elem? l id ≡ some v → sum_by parts l ≡ parts v → All IsNone l → flat_map f l ≡ f v
  alone [] id v at all none = absurd (some-ne-none v (sym at))
  alone (x ∷ l) zero v at all none = let same = some-injective x v at in let p = ap parts same in let c = sum_by-cons parts x l in
      ap (λ (ys : List T). f x ++ ys) (nobody l (omega (arith, p, c, all)) (All-tail IsNone x l none)) ∙ append-nil (f x) ∙ ap f same
  alone (x ∷ l) (suc id) v at all none = let least = term parts l id v at in let c = sum_by-cons parts x l in
      ap (in_front l) (All-head IsNone x l none (omega (arith, least, c, all)))
      ∙ alone l id v at (omega (arith, least, c, all)) (All-tail IsNone x l none)
