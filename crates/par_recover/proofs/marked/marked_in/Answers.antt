use Rattle.std.proofs.Common.{◌≡◌, ◌↔◌, ℕ, ◌+◌, ◌<◌, IsTrue, false, length, slice_index, slice_index_or, sym, subst}
use Rattle.heap_model.specs.Blocks.{layout_of}
use Rattle.filter_trace.specs.Reached.{IsReachedAt}
use Rattle.par_recover.proofs.MarkedLemmas.{answers_push}
use Rattle.par_recover.proofs.marked.marked_in.Goals as goal

pub loop-index-preserved : goal.loop-index-preserved
loop-index-preserved c =
    let l = layout_of (slice_index c.args.words.now) in
    let pairs = c.args.marks.now.pairs in
    let one = answers_push l pairs c.args.d c.loop-index.index c.loop-index.marked.items c.holds.result c.loop-index.invariant.0
    c.loop-index.invariant.1
    (c.holds.ensures l c.requires.marked.described) in
    subst (λ xs. (length xs ≡ c.loop-index.index + 1) × ((index : ℕ) → index < length xs
    → IsTrue (slice_index_or xs index false) ↔ IsReachedAt l pairs c.args.d index))
    (sym c.in_ok-push.ensures.items) one
