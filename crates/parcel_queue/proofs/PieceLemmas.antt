-- The lists of a row of accounts as one list, up to order: after one account changes, or two.
use Rattle.std.proofs.Common.{◌≡◌, ℕ, zero, suc, List, [], ◌∷◌, ◌++◌, set, refl, ap, sym, ◌∙◌, append_assoc}
use Rattle.std.specs.Prelude.{flat_map}
use Rattle.std.specs.List.Sorted.{IsPermutation}
use Rattle.std.proofs.lemmas.List.Sorted.{IsPermutation-refl, IsPermutation-append_right, IsPermutation-append_comm}
use mathlib.Core.Option.{some, some-injective, some-ne-none}
use lib.ListN.{get_elem?}
use Rattle.parcel_queue.proofs.OrderLemmas.{from, upto, follow, swapped}

module _ {A T : Type 0} (f : A → List T) where
  abbrev in_front : List A → List T → List T
  in_front l ys = ys ++ flat_map f l

  -- the list of one account stays
  pub unchanged : (l : List A) (id : ℕ) (v w : A) → get_elem? l id ≡ some v → f w ≡ f v
      → flat_map f (set l id w) ≡ flat_map f l
  unchanged [] id v w at same = absurd (some-ne-none v (sym at))
  unchanged (x ∷ l) zero v w at same = ap (in_front l) (same ∙ sym (ap f (some-injective x v at)))
  unchanged (x ∷ l) (suc id) v w at same = ap (λ (ys : List T). f x ++ ys) (unchanged l id v w at same)

  -- it grows
  pub grown : (l : List A) (id : ℕ) (v w : A) (xs : List T) → get_elem? l id ≡ some v → f w ≡ f v ++ xs
      → IsPermutation (flat_map f (set l id w)) (flat_map f l ++ xs)
  grown [] id v w xs at more = absurd (some-ne-none v (sym at))
  grown (x ∷ l) zero v w xs at more =
      let same = more ∙ ap (λ (y : A). f y ++ xs) (sym (some-injective x v at)) in
      from (ap (in_front l) same ∙ append_assoc (f x) xs (flat_map f l))
      (upto (IsPermutation-append_right (f x) _ _ (IsPermutation-append_comm xs (flat_map f l))) (sym (append_assoc (f x) (flat_map f l) xs)))
  grown (x ∷ l) (suc id) v w xs at more =
      upto (IsPermutation-append_right (f x) _ _ (grown l id v w xs at more)) (sym (append_assoc (f x) (flat_map f l) xs))

  -- all of it goes
  pub emptied : (l : List A) (id : ℕ) (u z : A) → get_elem? l id ≡ some u → f z ≡ []
      → IsPermutation (f u ++ flat_map f (set l id z)) (flat_map f l)
  emptied [] id u z at none = absurd (some-ne-none u (sym at))
  emptied (x ∷ l) zero u z at none =
      from (ap (λ (ys : List T). f u ++ (ys ++ flat_map f l)) none ∙ ap (λ (y : A). f y ++ flat_map f l) (sym (some-injective x u at)))
      (IsPermutation-refl (f x ++ flat_map f l))
  emptied (x ∷ l) (suc id) u z at none =
      follow (swapped (f u) (f x) (flat_map f (set l id z))) (IsPermutation-append_right (f x) _ _ (emptied l id u z at none))

  -- one account takes in the list of another, which is left with none
  pub merged : (l : List A) (id other : ℕ) (v u w z : A) → ¬ (other ≡ id)
      → get_elem? l id ≡ some v → get_elem? (set l id w) other ≡ some u → f w ≡ f v ++ f u → f z ≡ []
      → IsPermutation (flat_map f (set (set l id w) other z)) (flat_map f l)
  merged [] id other v u w z apart at there both none = absurd (some-ne-none v (sym at))
  merged (x ∷ l) zero zero v u w z apart at there both none = absurd (apart refl)
  merged (x ∷ l) zero (suc other) v u w z apart at there both none =
      let same = both ∙ ap (λ (y : A). f y ++ f u) (sym (some-injective x v at)) in
      from (ap (in_front (set l other z)) same ∙ append_assoc (f x) (f u) (flat_map f (set l other z)))
      (IsPermutation-append_right (f x) _ _ (emptied l other u z there none))
  merged (x ∷ l) (suc id) zero v u w z apart at there both none =
      let more = upto (grown l id v w (f u) at both) (ap (λ (y : A). flat_map f l ++ f y) (sym (some-injective x u there))) in
      from (ap (in_front (set l id w)) none) (follow more (IsPermutation-append_comm (flat_map f l) (f x)))
  merged (x ∷ l) (suc id) (suc other) v u w z apart at there both none =
      IsPermutation-append_right (f x) _ _ (merged l id other v u w z (λ e. apart (ap suc e)) at there both none)
