-- What a sink has taken, where it tells that, and how it grows.
use Rattle.std.specs.Prelude.{◌≡◌, ◌<◌, ℕ, List, [], ◌∷◌, ◌++◌, length, take, Option, Some, None, refl}
use Rattle.std.specs.Option.{option_map}

-- what a sink has taken once it takes these bytes too
abbrev pub taken_with : Option (List ℕ) → List ℕ → Option (List ℕ)
taken_with taken bytes = option_map (λ before. before ++ bytes) taken

-- a first part of the bytes was taken, and not all of them
abbrev pub TakesPart : List ℕ → Option (List ℕ) → Option (List ℕ) → Type 0
TakesPart bytes old new = (n : ℕ) × (n < length bytes) × (new ≡ taken_with old (take n bytes))

two_pieces : taken_with (taken_with (Some []) (1 ∷ 2 ∷ [])) (3 ∷ []) ≡ Some (1 ∷ 2 ∷ 3 ∷ [])
two_pieces = refl

untold : taken_with None (1 ∷ []) ≡ None
untold = refl
