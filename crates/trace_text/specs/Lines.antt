-- Texts of lines.
use Rattle.std.specs.Prelude.{◌≡◌, ℕ, ◌+◌, ◌==◌, if◌then◌else◌, List, [], ◌∷◌, ◌++◌, length, Option, Some, None}
use Rattle.std.specs.List.{onto_first}

-- the lines of a text: each ends with a line feed, which the last one may lack
abbrev pub lines_of : List ℕ → List (List ℕ)
lines_of [] = []
lines_of (c ∷ rest) = if c == 10 then [] ∷ lines_of rest else onto_first c (lines_of rest)

-- the lines write the things, each line one
abbrev pub AreWritten : {A : Type 0} → (List ℕ → A → Type 0) → List (List ℕ) → List A → Type 0
AreWritten Writes [] [] = Unit {0}
AreWritten Writes [] (thing ∷ things) = ⊥
AreWritten Writes (line ∷ lines) [] = ⊥
AreWritten Writes (line ∷ lines) (thing ∷ things) = Writes line thing × AreWritten Writes lines things

-- the line writes nothing
abbrev pub WritesNothing : {A : Type 0} → (List ℕ → A → Type 0) → List ℕ → Type 0
WritesNothing {A = A} Writes line = (thing : A) → Writes line thing → ⊥

-- what a line or a word is read as: the thing that it writes, or none
abbrev pub IsReadAs : {A : Type 0} → (List ℕ → A → Type 0) → List ℕ → Option A → Type 0
IsReadAs Writes line (Some thing) = Writes line thing
IsReadAs Writes line None = WritesNothing Writes line

-- the line of this number, counted from 1, is the first that writes nothing
pub record IsFirstOutsideOf {A : Type 0} (Writes : List ℕ → A → Type 0) (lines : List (List ℕ)) (number : ℕ) : Type 0 where
  pub before : List (List ℕ)
  pub outside : List ℕ
  pub after : List (List ℕ)
  pub lines_are : lines ≡ before ++ outside ∷ after
  pub counted : number ≡ length before + 1
  pub things : List A
  pub written : AreWritten Writes before things
  pub nothing : WritesNothing Writes outside
