-- That a walk over pairs ends.
use Rattle.std.proofs.Common.{ℕ, ◌≤◌, Bool, List, length, arith}
use Rattle.std.proofs.lemmas.List.Sums.{count_by-le-length}
use Rattle.heap_model.specs.declared.block.Block.{Block}
use Rattle.heap_model.specs.Blocks.{Layout}
use Rattle.filter_trace.specs.Pairs.{AreMarked}

-- there are no more pairs than marks
pub few_pairs : (l : Layout) (count : ℕ) (pairs : List (Block × ℕ)) (marks : List Bool) → AreMarked l count pairs marks → length pairs ≤ length marks
few_pairs l count pairs marks marked = let some = count_by-le-length (λ (mark : Bool). mark) marks in let once = marked.once in omega arith
