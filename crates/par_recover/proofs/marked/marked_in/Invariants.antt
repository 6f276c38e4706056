use Rattle.std.proofs.Common.{◌≡◌, ◌↔◌, ℕ, ◌<◌, IsTrue, false, length, slice_index, slice_index_or}
use Rattle.heap_model.specs.Blocks.{layout_of}
use Rattle.filter_trace.specs.Reached.{IsReachedAt}
use Rattle.par_recover.proofs.marked.marked_in.Given as goal

abbrev pub invariant-loop-index : goal.invariant-loop-index
invariant-loop-index l =
    (length l.marked.items ≡ l.index)
    × ((index : ℕ) → index < length l.marked.items → IsTrue (slice_index_or l.marked.items index false) ↔ IsReachedAt
    (layout_of (slice_index l.words)) l.marks.pairs l.d index)
