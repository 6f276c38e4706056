-- Recovery with the kinds that an image stores.
use Rattle.std.proofs.Common.{◌≡◌, ℕ, ◌<◌, inl, inr, List, Option, Some, None, refl, sym, ◌∙◌, ap, arith}
use Rattle.heap_model.specs.declared.block.Block.{Block}
use Rattle.heap_model.specs.Geometry.{roots, capacity_word, kind_word}
use Rattle.heap_model.specs.Header.{HasKindsBelow, kinds_of}
use Rattle.heap_model.specs.Image.{Image}
use Rattle.heap_model.specs.Reach.{Links, IsOutside, IsOutsideIn}
use Rattle.heap_model.specs.Recovery.{IsRecovered, in_header}
use Rattle.heap_model.proofs.ReachLemmas.{reach_by_kinds, traced_by_kinds}
use Rattle.filter_trace.specs.declared.fault.TraceFault.{TraceFault}
use Rattle.filter_trace.specs.declared.fault.TraceFault.TheVariants.{Outside, Memory}
use Rattle.filter_trace.specs.Reached.{AreReached, TellsOutside}
use Rattle.heap_recover.specs.Fault.{of_trace, TellsOutsideIn}
use Rattle.heap_recover.proofs.UnchangedLemmas.{kinds_unchanged}

-- a trace with kinds that are the stored ones
module _ (image : Image) (kinds : ℕ → ℕ) (links : Links) (same : (i : ℕ) → i < roots → kinds i ≡ kinds_of image i) where
  pub reached_stored : (pairs : List (Block × ℕ)) → AreReached image kinds links pairs → AreReached image (kinds_of image) links pairs
  reached_stored pairs are = record {
    each = λ b kind. (
      λ p. reach_by_kinds image kinds (kinds_of image) links same b kind ((are.each b kind).0 p),
      λ reached. (are.each b kind).1 (reach_by_kinds image (kinds_of image) kinds links (λ i less. sym (same i less)) b kind reached),
    );
  }

  pub outside_stored : (at : ℕ) → IsOutside image kinds links at → IsOutsideIn image links at
  outside_stored at out = record { traced = traced_by_kinds image kinds (kinds_of image) links same at out.traced; outside = out.outside }

  pub outside_traced : (at : ℕ) → IsOutsideIn image links at → IsOutside image kinds links at
  outside_traced at out = record {
    traced = traced_by_kinds image (kinds_of image) kinds links (λ i less. sym (same i less)) at out.traced;
    outside = out.outside;
  }

  pub tells_stored : (fault : TraceFault) → TellsOutside image kinds links fault → TellsOutsideIn image links (of_trace fault)
  tells_stored (Outside at value) told = (outside_stored at told.0, told.1)
  tells_stored Memory told = tt

-- recovery leaves the kinds of roots, so they stay below a limit
pub kinds_left : (limit : Option ℕ) (old new : Image) (kept : Block → Type 0) → IsRecovered old new kept
    → HasKindsBelow limit old → HasKindsBelow limit new
kinds_left None old new kept recovered below = tt
kinds_left (Some most) old new kept recovered below = λ i less.
    let capacity = recovered.same capacity_word (in_header capacity_word (inr (inr (inl refl)))) in
    let kind = ap (λ c. new (kind_word c i)) capacity ∙ kinds_unchanged old new kept recovered i less in
    let small = below i less in
    omega (arith, kind)
