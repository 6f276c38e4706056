-- By even numbers alone nothing becomes durable before the fence.
use Rattle.std.proofs.Common.{◌≡◌, ◌≢◌, ℕ, ◌%◌, List, [], ◌∷◌, slice_index, true, inl, inr, refl, ap, subst, ◌∙◌}
use Rattle.heap_model.specs.Geometry.{capacity_word}
use Rattle.heap_model.specs.Image.{Image}
use Rattle.heap_model.specs.Durability.{IsCrashImage, IsTransient}
use Rattle.line_memory.specs.View.{View}
use Rattle.line_memory.specs.Steps.{RefusesBy}
use Rattle.line_memory.specs.Plain.{Gives, view_of, DrawsBy}
use Rattle.line_memory.specs.declared.plain.PlainMemory.{PlainMemory}
use Rattle.line_memory.proofs.CallerLemmas.{even_settles_none}
use Rattle.heap_recover.specs.InOrder.{Step, store, write_back, TakesAll}
use Rattle.image_run.specs.Rebuilding.{IsLeftBySteps}

module _ {C : Type 0} (gives : Gives C) (even : (old new : C) (number : ℕ) → gives old number new → number % 2 ≢ 1) where
  -- stores and write-backs leave what is durable
  steps_stay : (steps : List Step) (from to : PlainMemory C) → TakesAll view_of (DrawsBy gives) from steps to
      → (view_of to).durable ≡ (view_of from).durable
  steps_stay [] from to took = ap (λ (m : PlainMemory C). (view_of m).durable) took
  steps_stay (store word value ∷ steps) from to took =
      steps_stay steps took.0 to took.2 ∙ took.1.done.durable ∙ even_settles_none took.1.number (view_of from) (even _ _ _ took.1.given)
  steps_stay (write_back line ∷ steps) from to took =
      steps_stay steps took.0 to took.2 ∙ took.1.done.durable ∙ even_settles_none took.1.number (view_of from) (even _ _ _ took.1.given)

  -- and so does a refusal
  refusal_stays : (ticket : ℕ) (from to : PlainMemory C) → RefusesBy (DrawsBy gives from to) ticket (view_of from) (view_of to)
      → (view_of to).durable ≡ (view_of from).durable
  refusal_stays ticket from to (inl had) = ap (λ (v : View). v.durable) had.unchanged
  refusal_stays ticket from to (inr stops) =
      ap (λ (v : View). v.durable) stops.done ∙ even_settles_none stops.number (view_of from) (even _ _ _ stops.given)

  -- so a crash leaves what it would have left before
  pub none_settled : (chance : C) (image : Image) (budget : ℕ) (left : List ℕ) → IsLeftBySteps gives chance image budget true left
      → IsCrashImage image (slice_index left)
  none_settled chance image budget left is = record {
    state = (is.durable refl).state;
    others = λ word other lasts.
        (is.durable refl).others word other (λ lost. lasts (subst (λ n. IsTransient n word) (same capacity_word) lost)) ∙ same word;
  } where
    stays : (view_of is.after).durable ≡ is.words
    stays =
        let cut = (is.cut_off refl).1 in
        refusal_stays _ cut.last is.after cut.refused ∙ steps_stay cut.taken is.before cut.last cut.took ∙ ap (λ (v : View). v.durable) is.is_opened

    same : (word : ℕ) → slice_index (view_of is.after).durable word ≡ image word
    same word = ap (λ (ws : List ℕ). slice_index ws word) stays ∙ is.are_old word
