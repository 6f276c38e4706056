-- What opening gives back, by the way that was taken.
use Rattle.std.specs.Prelude.{◌≡◌, ◌↔◌, ℕ, ◌*◌, Option, List, length, slice_index}
use Rattle.heap_model.specs.Geometry.{clean}
use Rattle.heap_model.specs.Header.{HasKindsBelow, state_of}
use Rattle.heap_model.specs.Reach.{Links, IsReachedIn, IsOutsideIn}
use Rattle.heap_at_rest.specs.Orderly.{IsOrderly, IsHeldByAnchors}
use Rattle.heap_recover.specs.declared.answer.Was.TheVariants.{Clean}
use Rattle.heap_recover.specs.Answer.{IsMadeOf}
use Rattle.quick_recover.specs.declared.open.Path.TheVariants.{Quick as ByAnchors, Traced}
use Rattle.quick_recover.specs.declared.open.Quick.{Quick}
use Rattle.quick_recover.specs.Reopened.{IsReopenedAs}

-- the answer is that of an image of this version with a good header
pub record IsOpenedAs (limit : Option ℕ) (words : List ℕ) (links : Links) (answer : Quick) : Type 0 where
  pub path_is : (answer.path ≡ ByAnchors) ↔ IsOrderly limit (8 * length words) (slice_index words)
  pub quick : answer.path ≡ ByAnchors → IsReopenedAs words (IsHeldByAnchors (slice_index words)) answer.recovered
  pub traced : answer.path ≡ Traced → IsMadeOf words (IsReachedIn (slice_index words) links) answer.recovered
  pub was : (answer.recovered.was ≡ Clean) ↔ (state_of (slice_index words) ≡ clean)
  pub below : HasKindsBelow limit (slice_index answer.recovered.heap.words)
  pub none : answer.path ≡ Traced → (at : ℕ) → IsOutsideIn (slice_index words) links at → ⊥
