-- Recovery made in place, step by step: the steps in their order, and a memory that takes them.
use Rattle.std.specs.Prelude.{◌≡◌, ℕ, zero, suc, ◌+◌, ◌*◌, cond, nat_eq, List, [], ◌∷◌, ◌++◌}
use Rattle.heap_model.specs.Image.{Image}
use Rattle.line_memory.specs.View.{View}
use Rattle.line_memory.specs.Steps.{TakesBy, RefusesBy, IsStore, IsWriteBack, IsFence}

-- a step before the fence
pub data Step : Type 0 where
  store : (word value : ℕ) → Step
  write_back : (line : ℕ) → Step

-- what the step does to a memory
abbrev pub does : Step → View → View → Type 0
does (store word value) v w = IsStore word value v w
does (write_back line) v w = IsWriteBack line v w

-- the store of the new word, where it is another than the old one
abbrev pub store_of : Image → Image → ℕ → List Step
store_of old new word = cond (nat_eq (old word) (new word)) [] (store word (new word) ∷ [])

-- these stores of so many words, from the first on
abbrev pub stores_from : Image → Image → ℕ → ℕ → List Step
stores_from old new first zero = []
stores_from old new first (suc n) = stores_from old new first n ++ store_of old new (first + n)

-- the stores to a line, if any, and behind them its write-back
abbrev pub written_back : ℕ → List Step → List Step
written_back line [] = []
written_back line (first ∷ rest) = (first ∷ rest) ++ (write_back line ∷ [])

-- the steps that make the words of the first lines the new ones, line by line
abbrev pub steps_in : Image → Image → ℕ → List Step
steps_in old new zero = []
steps_in old new (suc line) = steps_in old new line ++ written_back line (stores_from old new (8 * line) 8)

-- the memory `to` is `from` after these steps, each taken with a number that was drawn then
abbrev pub TakesAll : {M : Type 0} → (M → View) → (M → M → ℕ → Type 0) → M → List Step → M → Type 0
TakesAll view draws from [] to = to ≡ from
TakesAll {M} view draws from (step ∷ steps) to =
    (next : M) × TakesBy (draws from next) (does step) (view from) (view next) × TakesAll view draws next steps to

-- it took all of these steps, and a fence behind them
pub record IsDoneBy {M : Type 0} (view : M → View) (draws : M → M → ℕ → Type 0) (steps : List Step) (from to : M) : Type 0 where
  pub last : M
  pub took : TakesAll view draws from steps last
  pub fenced : TakesBy (draws last to) IsFence (view last) (view to)

-- it took the first of these steps, perhaps all, and the next ticket was refused
pub record IsCutOffIn {M : Type 0} (view : M → View) (draws : M → M → ℕ → Type 0) (steps : List Step) (ticket : ℕ) (from to : M) : Type 0 where
  pub taken : List Step
  pub others : List Step
  pub are_first : taken ++ others ≡ steps
  pub last : M
  pub took : TakesAll view draws from taken last
  pub refused : RefusesBy (draws last to) ticket (view last) (view to)
