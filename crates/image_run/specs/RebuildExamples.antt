-- Worked examples: what the budget tells of a rebuild, done or stopped.
use Rattle.std.specs.Prelude.{◌≡◌, ℕ, ◌≤◌, ◌<◌, List, [], ◌∷◌, true, false, slice_index, refl}
use Rattle.std.proofs.Common.{arith, ap}
use Rattle.heap_model.specs.Image.{Image}
use Rattle.heap_recover.specs.InPlace.{differences, steps_between}
use Rattle.heap_recover.specs.InOrder.{Step, TakesAll}
use Rattle.line_memory.specs.View.{View, opened}
use Rattle.line_memory.specs.Plain.{Gives, view_of, DrawsBy}
use Rattle.line_memory.specs.declared.plain.PlainMemory.{PlainMemory}
use Rattle.image_run.specs.Rebuilding.{IsRebuilt, IsLeftBySteps}

-- the fence alone takes a step: with a budget of 0 none is done
never_without_a_step : (image : Image) (count : ℕ) (left : List ℕ) → IsRebuilt image count 0 false left → ⊥
never_without_a_step image count left is =
    let within : steps_between image (slice_index is.new) count ≤ 0 = is.within refl in
    omega arith

-- with a budget of 1 one is done only where recovery changes no word
changes_no_word : (image : Image) (count : ℕ) (left : List ℕ) (is : IsRebuilt image count 1 false left)
    → differences image (slice_index is.new) count ≡ 0
changes_no_word image count left is =
    let within : steps_between image (slice_index is.new) count ≤ 1 = is.within refl in
    omega arith

-- one that is stopped with a budget of 0 came to no word that recovery changes
none_without_a_step : (image : Image) (count : ℕ) (left : List ℕ) (is : IsRebuilt image count 0 true left)
    → differences image (slice_index is.new) ((is.comes refl).at) ≡ 0
none_without_a_step image count left is = let steps = (is.comes refl).steps in omega arith

-- and none is stopped with as many steps as it takes
never_with_all_steps : (image : Image) (count budget : ℕ) (left : List ℕ) (is : IsRebuilt image count budget true left)
    → steps_between image (slice_index is.new) count ≤ budget → ⊥
never_with_all_steps image count budget left is enough =
    let cause : budget < steps_between image (slice_index is.new) count = is.cause refl in
    omega arith

-- with a budget of 0 a memory takes no step
takes_none_without_a_step : {One : Type 0} (gives : Gives One) (chance : One) (image : Image) (left : List ℕ)
    (is : IsLeftBySteps gives chance image 0 true left)
    → ((is.cut_off refl).1).taken ≡ []
takes_none_without_a_step {One} gives chance image left is = none_taken ((is.cut_off refl).1).taken is.before
    ((is.cut_off refl).1).last is.is_opened ((is.cut_off refl).1).took
  where
    none_taken : (steps : List Step) (from to : PlainMemory One) → view_of from ≡ opened is.words 0
        → TakesAll view_of (DrawsBy gives) from steps to → steps ≡ []
    none_taken [] from to opens took = refl
    none_taken (step ∷ steps) from to opens took =
        let allowed = took.1.allowed in
        let drawn = ap (λ (v : View). v.drawn) opens in
        let limit = ap (λ (v : View). v.budget) opens in absurd (omega arith)
