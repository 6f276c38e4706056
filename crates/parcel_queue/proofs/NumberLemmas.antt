-- Of two lists with the same members, both in the order of numbers that differ, one is the other.
use Rattle.std.proofs.Common.{◌≡◌, ◌⊎◌, ℕ, suc, ◌+◌, ◌<◌, List, [], ◌∷◌, length, map, nat_eq, All, Contains, refl, ap, sym, subst, ◌∙◌, ⊎_elim, inl, inr, arith}
use Rattle.std.proofs.lemmas.Bool.Decides.{Decides-eqb}
use Rattle.std.specs.Prelude.{⊤, get_or, slice_index}
use Rattle.std.specs.List.{IsDistinct}
use Rattle.std.specs.List.Sorted.{IsPermutation, IsNonDecreasingBy, IsNonDecreasing, IsStrictlyIncreasing}
use Rattle.std.proofs.lemmas.Cmp.{nat_eq_equiv}
use Rattle.std.proofs.lemmas.List.{get_or-map, length-map}
use Rattle.std.proofs.lemmas.List.Elements.{All-contains, All-from_get_or, Contains-push, Contains-push_cases, Contains-append_left, Contains-append_right, Contains-append_cases}
use Rattle.std.proofs.lemmas.List.Kept.{AllPairs-from_increasing}
use Rattle.std.proofs.lemmas.List.Sorted.{Contains-permutation, IsPermutation-sym, IsPermutation-map}
use Rattle.std.proofs.lemmas.Map.Keys.{IsDistinct-IsPermutation, IsStrictlyIncreasing-from_distinct}
use Rattle.std.proofs.lemmas.Map.Made.{IsDistinct-from_AllPairs}

module _ {T : Type 0} (number : T → ℕ) where
  -- each number is below all later ones
  abbrev Rises : List T → Type 0
  Rises [] = ⊤
  Rises (x ∷ xs) = All (λ y. number x < number y) xs × Rises xs

  rises_from : (xs : List T) → IsStrictlyIncreasing (map number xs) → Rises xs
  rises_from [] up = tt
  rises_from (x ∷ xs) up = (All-from_get_or (λ y. number x < number y) xs x above, rises_from xs rest) where
    above : (i : ℕ) → i < length xs → number x < number (get_or xs i x)
    above i inside = let l = length-map xs number in
        subst (λ n. number x < n) (get_or-map number xs i x (number x) inside)
        (AllPairs-from_increasing (number x ∷ map number xs) up 0 (suc i) (number x) (omega arith) (omega (arith, l, inside)))

    rest : IsStrictlyIncreasing (map number xs)
    rest k inside = let e : suc k + 1 ≡ suc (k + 1) = omega arith in
        subst (λ n. slice_index (map number xs) k < slice_index (number x ∷ map number xs) n) e (up (suc k) (omega (arith, inside)))

  no_member : (z : T) → Contains [] z → ⊥
  no_member z has = let none = has.1 in omega (arith, none)

  first_in : (x : T) (xs : List T) → Contains (x ∷ xs) x
  first_in x xs = Contains-append_left (x ∷ []) xs x (Contains-push [] x)

  later_in : (x : T) (xs : List T) (z : T) → Contains xs z → Contains (x ∷ xs) z
  later_in x xs z = Contains-append_right (x ∷ []) xs z

  -- a member of a list is its first one or one behind
  first_or_later : (x : T) (xs : List T) (z : T) → Contains (x ∷ xs) z → (x ≡ z) ⊎ Contains xs z
  first_or_later x xs z has = ⊎_elim
      (λ here. ⊎_elim (λ h. absurd (no_member z h)) (λ same. inl same) (Contains-push_cases [] x z here))
      (λ later. inr later) (Contains-append_cases (x ∷ []) xs z has)

  -- behind the first one each has another number
  another : (x : T) (xs : List T) → Rises (x ∷ xs) → (z : T) → Contains xs z → number x < number z
  another x xs up z has = All-contains (λ w. number x < number w) xs z up.0 has

  first_same : (x y : T) (xs ys : List T) → Rises (x ∷ xs) → Rises (y ∷ ys)
      → (x ≡ y) ⊎ Contains xs y → (y ≡ x) ⊎ Contains ys x → y ≡ x
  first_same x y xs ys up up' (inl same) at = sym same
  first_same x y xs ys up up' (inr later) (inl same) = same
  first_same x y xs ys up up' (inr later) (inr later') =
      absurd (let a = another x xs up y later in let b = another y ys up' x later' in omega (arith, a, b))

  -- the members behind the first ones are the same too
  rest_to : (x y : T) (xs ys : List T) → Rises (x ∷ xs) → y ≡ x
      → ((z : T) → Contains (x ∷ xs) z → Contains (y ∷ ys) z) → (z : T) → Contains xs z → Contains ys z
  rest_to x y xs ys up same to z has = ⊎_elim
      (λ e. absurd (let a = another x xs up z has in let n = ap number (sym same ∙ e) in omega (arith, a, n)))
      (λ h. h) (first_or_later y ys z (to z (later_in x xs z has)))

  one_list : (xs ys : List T) → Rises xs → Rises ys
      → ((z : T) → Contains xs z → Contains ys z) → ((z : T) → Contains ys z → Contains xs z) → ys ≡ xs
  one_list [] [] up up' to back = refl
  one_list [] (y ∷ ys) up up' to back = absurd (no_member y (back y (first_in y ys)))
  one_list (x ∷ xs) [] up up' to back = absurd (no_member x (to x (first_in x xs)))
  one_list (x ∷ xs) (y ∷ ys) up up' to back =
      let same = first_same x y xs ys up up' (first_or_later x xs y (back y (first_in y ys))) (first_or_later y ys x (to x (first_in x xs))) in
      ap (λ (z : T). z ∷ ys) same
      ∙ ap (λ (zs : List T). x ∷ zs) (one_list xs ys up.1 up'.1 (rest_to x y xs ys up same to) (rest_to y x ys xs up' (sym same) back))

  -- the numbers do not fall
  as_numbers : (ys : List T) → IsNonDecreasingBy number ys → IsNonDecreasing (map number ys)
  as_numbers [] h i j d le inside = absurd (omega (arith, inside))
  as_numbers (y ∷ ys) h i j d le inside = let long = length-map (y ∷ ys) number in
      let below = h i j y le (omega (arith, long, inside)) in
      let a = get_or-map number (y ∷ ys) i y d (omega (arith, le, long, inside)) in
      let b = get_or-map number (y ∷ ys) j y d (omega (arith, long, inside)) in omega arith

  once : (sent : List T) → IsStrictlyIncreasing (map number sent) → IsDistinct nat_eq (map number sent)
  once sent up = IsDistinct-from_AllPairs Decides-eqb (map number sent)
      (λ i j d less inside e. let a = AllPairs-from_increasing (map number sent) up i j d less inside in omega (arith, a, e))

  -- a sort of parcels whose numbers differ leaves them in the order of their numbers
  pub in_order : (sent taken : List T) → IsPermutation sent taken
      → IsStrictlyIncreasing (map number sent) → IsNonDecreasingBy number taken → taken ≡ sent
  in_order sent taken moved up up' = one_list sent taken (rises_from sent up) (rises_from taken rises)
      (λ z. Contains-permutation sent taken z moved) (λ z. Contains-permutation taken sent z (IsPermutation-sym sent taken moved)) where
        rises : IsStrictlyIncreasing (map number taken)
        rises = IsStrictlyIncreasing-from_distinct (map number taken) (as_numbers taken up')
            (IsDistinct-IsPermutation nat_eq nat_eq_equiv.symm _ _ (IsPermutation-map number sent taken moved) (once sent up))
