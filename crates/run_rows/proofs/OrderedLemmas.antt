-- What stays the same up to order: pieces of lists that stand in another order, and what belongs to workers in their turn.
use Rattle.std.proofs.Common.{◌≡◌, ℕ, zero, suc, ◌+◌, ◌<◌, Bool, true, false, cond, List, [], ◌∷◌, ◌++◌, All, length, map, get_or, set, refl, ap, arith, sym, ◌∙◌}
use Rattle.std.specs.Prelude.{filter, flat_map}
use Rattle.std.specs.List.{swap}
use Rattle.std.specs.List.Sorted.{IsPermutation}
use Rattle.std.proofs.lemmas.List.{append-nil}
use Rattle.std.proofs.lemmas.List.Concat.{flat_map-append}
use Rattle.std.proofs.lemmas.List.Edits.{swap_is}
use Rattle.std.proofs.lemmas.List.Elements.{All-append, All-head, All-nil, All-cons, All-tail}
use Rattle.std.proofs.lemmas.List.Sorted.{IsPermutation-append, IsPermutation-append_comm, IsPermutation-append_right, IsPermutation-keeps, IsPermutation-refl}
use Rattle.heap_model.specs.Image.{words_from}
use Rattle.parcel_queue.proofs.OrderLemmas.{follow, from, swapped, upto}

module _ {X Y : Type 0} (f : X → List Y) where
  -- a value stands in the place of another
  replaced : (xs : List X) (i : ℕ) (d v : X) → i < length xs → IsPermutation (f v ++ flat_map f xs) (f (get_or xs i d) ++ flat_map f (set xs i v))
  replaced [] i d v below = absurd (omega (arith, below))
  replaced (x ∷ xs) zero d v below = swapped (f v) (f x) (flat_map f xs)
  replaced (x ∷ xs) (suc i) d v below =
      follow (swapped (f v) (f x) (flat_map f xs))
      (follow (IsPermutation-append_right (f x) (f v ++ flat_map f xs) (f (get_or xs i d) ++ flat_map f (set xs i v))
      (replaced xs i d v (omega (arith, below))))
      (swapped (f x) (f (get_or xs i d)) (flat_map f (set xs i v))))

  exchanged : (xs : List X) (i j : ℕ) (d : X) → i < length xs → j < length xs
      → IsPermutation (flat_map f xs) (flat_map f (set (set xs i (get_or xs j d)) j (get_or xs i d)))
  exchanged [] i j d inside within = absurd (omega (arith, inside))
  exchanged (x ∷ xs) zero zero d inside within = IsPermutation-refl (f x ++ flat_map f xs)
  exchanged (x ∷ xs) zero (suc j) d inside within = replaced xs j d x (omega (arith, within))
  exchanged (x ∷ xs) (suc i) zero d inside within = replaced xs i d x (omega (arith, inside))
  exchanged (x ∷ xs) (suc i) (suc j) d inside within = IsPermutation-append_right (f x) (flat_map f xs)
      (flat_map f (set (set xs i (get_or xs j d)) j (get_or xs i d))) (exchanged xs i j d (omega (arith, inside)) (omega (arith, within)))

  one_swap : (xs : List X) (i j : ℕ) → i < length xs → j < length xs → IsPermutation (flat_map f xs) (flat_map f (swap xs i j))
  one_swap [] i j inside within = absurd (omega (arith, inside))
  one_swap (x ∷ xs) i j inside within = upto (exchanged (x ∷ xs) i j x inside within) (ap (flat_map f) (swap_is (x ∷ xs) i j x inside within))

  -- the pieces of values in another order
  pub flat_map_permuted : (xs ys : List X) → IsPermutation xs ys → IsPermutation (flat_map f xs) (flat_map f ys)
  flat_map_permuted xs ys order = IsPermutation-keeps xs (λ l. IsPermutation (flat_map f xs) (flat_map f l)) (IsPermutation-refl (flat_map f xs))
      (λ l i j inside within same. follow same (one_swap l i j inside within)) ys order

  -- what is so of each value of each piece
  pub all_pieces : (P : Y → Type 0) (xs : List X) → All (λ x. All P (f x)) xs → All P (flat_map f xs)
  all_pieces P [] all = All-nil P
  all_pieces P (x ∷ xs) all = All-append P (f x) (flat_map f xs) (All-head (λ y. All P (f y)) x xs all)
      (all_pieces P xs (All-tail (λ y. All P (f y)) x xs all))

  -- a part of all pieces together is the parts of each
  pub pieces_through : {Z : Type 0} (h : List Y → List Z) → h [] ≡ [] → ((a b : List Y) → h (a ++ b) ≡ h a ++ h b) → (xs : List X)
      → flat_map (λ x. h (f x)) xs ≡ h (flat_map f xs)
  pieces_through h none both [] = sym none
  pieces_through h none both (x ∷ xs) = ap (λ (l : List _). h (f x) ++ l) (pieces_through h none both xs) ∙ sym (both (f x) (flat_map f xs))

-- each piece in another order
pub flat_map_each : {X Y : Type 0} (f g : X → List Y) (xs : List X) → All (λ x. IsPermutation (f x) (g x)) xs
    → IsPermutation (flat_map f xs) (flat_map g xs)
flat_map_each f g [] all = IsPermutation-refl []
flat_map_each f g (x ∷ xs) all = IsPermutation-append (f x) (g x) (flat_map f xs) (flat_map g xs) (All-head (λ y. IsPermutation (f y) (g y)) x xs all)
    (flat_map_each f g xs (All-tail (λ y. IsPermutation (f y) (g y)) x xs all))

module _ {X : Type 0} (p : X → Bool) where
  kept_one : (b : Bool) (x : X) (xs : List X) → cond b (x ∷ xs) xs ≡ cond b (x ∷ []) [] ++ xs
  kept_one true x xs = refl
  kept_one false x xs = refl

  filter_is : (xs : List X) → filter p xs ≡ flat_map (λ x. cond (p x) (x ∷ []) []) xs
  filter_is [] = refl
  filter_is (x ∷ xs) = kept_one (p x) x (filter p xs) ∙ ap (λ (l : List X). cond (p x) (x ∷ []) [] ++ l) (filter_is xs)

  -- a part of values in another order
  pub filter_permuted : (xs ys : List X) → IsPermutation xs ys → IsPermutation (filter p xs) (filter p ys)
  filter_permuted xs ys order = from (filter_is xs) (upto (flat_map_permuted (λ (x : X). cond (p x) (x ∷ []) []) xs ys order) (sym (filter_is ys)))

words_last : (at n : ℕ) → words_from (λ i. i) at (suc n) ≡ words_from (λ i. i) at n ++ (at + n) ∷ []
words_last at zero = let e : at ≡ at + 0 = omega arith in ap (λ n. n ∷ []) e
words_last at (suc n) =
    let e : at + 1 + n ≡ at + suc n = omega arith in
    ap (λ (l : List ℕ). at ∷ l) (words_last (at + 1) n ∙ ap (λ m. words_from (λ i. i) (at + 1) n ++ m ∷ []) e)

-- what belongs to the numbers, and to those who have them, the last one first
module _ {X Y : Type 0} (number : X → ℕ) (g : ℕ → List Y) where
  pub in_turn : (xs : List X) → ((k : ℕ) (d : X) → k < length xs → number (get_or xs k d) + k + 1 ≡ length xs)
      → IsPermutation (flat_map g (words_from (λ i. i) 0 (length xs))) (flat_map (λ x. g (number x)) xs)
  in_turn [] turns = IsPermutation-refl []
  in_turn (x ∷ xs) turns =
      let first = turns 0 x (omega arith) in
      let is : 0 + length xs ≡ number x = omega (arith, first) in
      let front = flat_map g (words_from (λ i. i) 0 (length xs)) in
      let rest = flat_map (λ y. g (number y)) xs in
      from (ap (flat_map g) (words_last 0 (length xs)) ∙ flat_map-append g (words_from (λ i. i) 0 (length xs)) ((0 + length xs) ∷ [])
      ∙ ap (λ (l : List Y). front ++ l) (append-nil (g (0 + length xs))) ∙ ap (λ n. front ++ g n) is)
      (follow (IsPermutation-append_comm front (g (number x)))
      (IsPermutation-append_right (g (number x)) front rest
      (in_turn xs (λ k d below. let later = turns (suc k) d (omega (arith, below)) in omega (arith, later)))))

-- what is so of the image of each is so of each image
pub All-unmap : {X Y : Type 0} (P : Y → Type 0) (f : X → Y) (xs : List X) → All P (map f xs) → All (λ x. P (f x)) xs
All-unmap P f [] all = All-nil (λ x. P (f x))
All-unmap P f (x ∷ xs) all = All-cons (λ y. P (f y)) x xs (All-head P (f x) (map f xs) all) (All-unmap P f xs (All-tail P (f x) (map f xs) all))
