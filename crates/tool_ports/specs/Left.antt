-- What a source has left, where it tells that, and how it gets less.
use Rattle.std.specs.Prelude.{◌≡◌, ◌≤◌, ℕ, List, [], ◌∷◌, ◌++◌, length, Option, Some, None, IfSome, refl}
use Rattle.std.specs.Option.{option_map}

-- what a source had left before it gave these bytes, by what it has left now
abbrev pub left_before : List ℕ → Option (List ℕ) → Option (List ℕ)
left_before bytes now = option_map (λ rest. bytes ++ rest) now

-- where the source tells, it has nothing left
abbrev pub IsAtEnd : Option (List ℕ) → Type 0
IsAtEnd left = IfSome left (λ bytes. bytes ≡ [])

-- the source gave so many bytes
pub record Gives (count : ℕ) (old new : Option (List ℕ)) : Type 0 where
  pub bytes : List ℕ
  pub counted : length bytes ≡ count
  pub given : old ≡ left_before bytes new

-- the source gave so many bytes, or less
pub record GivesAtMost (most : ℕ) (old new : Option (List ℕ)) : Type 0 where
  pub count : ℕ
  pub few : count ≤ most
  pub gives : Gives count old new

-- what a source gave was put behind the bytes read before
pub record ReadsOn (left_old left_new : Option (List ℕ)) (old new : List ℕ) : Type 0 where
  pub bytes : List ℕ
  pub given : left_old ≡ left_before bytes left_new
  pub appended : new ≡ old ++ bytes

first_piece : left_before (1 ∷ 2 ∷ []) (Some (3 ∷ [])) ≡ Some (1 ∷ 2 ∷ 3 ∷ [])
first_piece = refl

untold : left_before (1 ∷ []) None ≡ None
untold = refl
