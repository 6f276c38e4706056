-- What the standard error is told where the words ask for nothing.
use Rattle.std.specs.Prelude.{◌≡◌, ◌⊎◌, ℕ, List, [], ◌∷◌, ◌++◌, codes, Option}
use Rattle.tool_program.specs.declared.usage.TheConstants.{USAGE}
use Rattle.tool_run.specs.Lines.{Tells}

-- one line, that says what is wrong in the words, or nothing
abbrev pub IsComplaint : List ℕ → Type 0
IsComplaint line = (line ≡ []) ⊎ ((fault : List ℕ) × (line ≡ codes "heap_tool: " ++ fault ++ (10 ∷ [])))

-- such a line, and the whole usage behind it
pub record IsHelp (text : List ℕ) : Type 0 where
  pub line : List ℕ
  pub says : IsComplaint line
  pub is : text ≡ line ++ USAGE.now

-- the sink took such a line and the usage, whole, or it failed and took a first part of them
pub record TellsHelp (faults faults' : ℕ) (taken taken' : Option (List ℕ)) : Type 0 where
  pub text : List ℕ
  pub is_help : IsHelp text
  pub told : Tells text faults faults' taken taken'
