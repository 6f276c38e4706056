-- Facts on the members of a list, and of one in order.
use Rattle.std.proofs.Common.{◌≡◌, ℕ, zero, suc, ◌<◌, ◌⊎◌, inl, inr, List, [], ◌∷◌, map, length, get_or, Contains, refl, subst, arith}
use Rattle.std.specs.Prelude.{AllPairs}

-- the empty list has no member
pub in_none : {X : Type 0} (x : X) → Contains {X = X} [] x → ⊥
in_none x p = omega (arith, p.1)

-- the head is a member, and so is each of the rest
pub in_head : {X : Type 0} (x : X) (xs : List X) → Contains (x ∷ xs) x
in_head x xs = (0, omega arith, refl)

pub in_rest : {X : Type 0} (x y : X) (xs : List X) → Contains xs y → Contains (x ∷ xs) y
in_rest x y xs p = (suc p.0, omega (arith, p.1), p.2)

-- no other is
pub head_or_rest : {X : Type 0} (x y : X) (xs : List X) → Contains (x ∷ xs) y → (x ≡ y) ⊎ Contains xs y
head_or_rest {X} x y xs p = by_index p.0 p.1 p.2 where
  by_index : (k : ℕ) → k < suc (length xs) → get_or (x ∷ xs) k y ≡ y → (x ≡ y) ⊎ Contains xs y
  by_index zero within found = inl found
  by_index (suc k) within found = inr (k, omega arith, found)

-- of a list in order, the head stands in the relation to each of the rest, which is in order
pub order_head : {X : Type 0} (R : X → X → Type 0) (x y : X) (xs : List X) → AllPairs R (x ∷ xs) → Contains xs y → R x y
order_head R x y xs pairs p = subst (λ z. R x z) p.2 (pairs 0 (suc p.0) y (omega arith) (omega (arith, p.1)))

pub order_rest : {X : Type 0} (R : X → X → Type 0) (x : X) (xs : List X) → AllPairs R (x ∷ xs) → AllPairs R xs
order_rest R x xs pairs = λ i j d less within. pairs (suc i) (suc j) d (omega arith) (omega arith)

-- the image of a member is a member of the list of images
pub map_in : {X : Type 0} (f : X → ℕ) (xs : List X) (x : X) → Contains xs x → Contains (map f xs) (f x)
map_in f [] x p = absurd (in_none x p)
map_in f (y ∷ xs) x p = elim (head_or_rest y x xs p) [
  | inl same ↦ subst (λ z. Contains (f y ∷ map f xs) (f z)) same (in_head (f y) (map f xs))
  | inr later ↦ in_rest (f y) (f x) (map f xs) (map_in f xs x later)
]
