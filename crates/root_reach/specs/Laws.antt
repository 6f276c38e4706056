-- That the walk over what was found ends.
use Rattle.std.proofs.Common.{ℕ, zero, suc, ◌*◌, ◌≤◌, List, length, get_or, arith}
use Rattle.std.proofs.lemmas.List.Sums.{sum_by-le}
use Rattle.heap_model.specs.Image.{Image}
use Rattle.heap_model.specs.Reach.{Links}
use Rattle.root_reach.specs.declared.labels.Finding.{Finding}
use Rattle.root_reach.specs.Origins.{rank}
use Rattle.root_reach.specs.Steps.{AreFindings}

-- a label is 0, 1 or 2 ranks up
small_rank : (label : ℕ) → rank label ≤ 2
small_rank zero = omega arith
small_rank (suc zero) = omega arith
small_rank (suc (suc root)) = omega arith

-- no more is found than twice as much as there are labels
pub few_found : (image : Image) (kinds : ℕ → ℕ) (links : Links) (count : ℕ) (found : List Finding) (labels : List ℕ)
    → AreFindings image kinds links count found labels → length found ≤ 2 * length labels
few_found image kinds links count found labels so_far =
    let few = so_far.few in
    let most = sum_by-le rank 2 labels (λ k d below. small_rank (get_or labels k d)) in
    omega arith
