-- What a store of images holds, where it tells that, and what its calls do to it.
use Rattle.std.specs.Prelude.{◌≡◌, ◌≢◌, ◌⊎◌, ℕ, List, [], ◌∷◌, take, Option, Some, None, IfSome, IsSomeAnd, is_some, refl}
use Rattle.std.specs.Option.{option_map}

-- the image under each name that has one, or nothing at all, for a store that doesn't tell
abbrev pub Contents : Type 0
Contents = Option (List ℕ → Option (List ℕ))

-- what a store tells of one name: nothing, that there is no such name, or its bytes
abbrev pub told_of : Contents → List ℕ → Option (Option (List ℕ))
told_of contents name = option_map (λ image_of. image_of name) contents

-- where the store tells, it has the name, and these are the first `most` bytes there, or all
abbrev pub HoldsFirst : Contents → List ℕ → ℕ → List ℕ → Type 0
HoldsFirst contents name most bytes =
    IfSome (told_of contents name) (λ image. IsSomeAnd image (λ held. bytes ≡ take most held))

-- where the store tells, it has no such name
abbrev pub Lacks : Contents → List ℕ → Type 0
Lacks contents name = IfSome (told_of contents name) (λ image. image ≡ None)

-- where the store tells, it has exactly these bytes under the name
abbrev pub Holds : Contents → List ℕ → List ℕ → Type 0
Holds contents name bytes = IfSome (told_of contents name) (λ image. image ≡ Some bytes)

-- the name has what it had, or these bytes
abbrev pub HoldsOldOrNew : List ℕ → List ℕ → Contents → Contents → Type 0
HoldsOldOrNew name bytes old new = (told_of new name ≡ told_of old name) ⊎ Holds new name bytes

-- the store tells exactly where it told, and every other name has what it had
pub record KeepsOthers (name : List ℕ) (old new : Contents) : Type 0 where
  pub tells : is_some new ≡ is_some old
  pub others : (other : List ℕ) → other ≢ name → told_of new other ≡ told_of old other

-- a store that holds the byte 7 under each name
told_whole : told_of (Some (λ _. Some (7 ∷ []))) [] ≡ Some (Some (7 ∷ []))
told_whole = refl

-- a store that tells nothing
told_nothing : told_of None [] ≡ None
told_nothing = refl
