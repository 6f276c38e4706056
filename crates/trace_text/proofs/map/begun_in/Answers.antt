use Rattle.std.proofs.Common.{◌≡◌, ◌+◌, ◌<◌, subst, arith}
use Rattle.std.specs.List.{AllWithin}
use Rattle.heap_model.specs.declared.block.Block.{Block}
use Rattle.heap_model.specs.Geometry.{start_word}
use Rattle.trace_text.proofs.OrderLemmas.{counts_rise, begun_between}
use Rattle.trace_text.proofs.map.begun_in.Goals as goal

pub slice_bounds-result-count : goal.slice_bounds-result-count
slice_bounds-result-count c =
    counts_rise c.args.held.now _ _ _ _ (omega arith) c.count_before-from.ensures.bound c.count_before-from.ensures.before
    c.count_before-until.ensures.behind

pub slice_bounds-result-start : goal.slice_bounds-result-start
slice_bounds-result-start c =
    counts_rise c.args.held.now _ _ _ _ (omega arith) c.count_before-from.ensures.bound c.count_before-from.ensures.before
    c.count_before-until.ensures.behind

pub returns : goal.returns
returns c =
    let start : c.start-start.result ≡ start_word c.args.geometry.capacity c.args.d = c.start-start.ensures in
    let end : c.start-start.result + 8192 ≡ start_word c.args.geometry.capacity (c.args.d + 1) = omega arith in
    begun_between c.args.geometry.capacity c.args.d c.args.held.now c.count_before-from.result c.count_before-until.result
    (counts_rise c.args.held.now _ _ _ _ (omega arith) c.count_before-from.ensures.bound c.count_before-from.ensures.before
    c.count_before-until.ensures.behind)
    c.count_before-until.ensures.bound
    (subst (λ w. AllWithin (λ (b : Block). b.first_word < w) c.args.held.now 0 c.count_before-from.result) start c.count_before-from.ensures.before)
    (λ k d low high. let h = c.count_before-from.ensures.behind k d low high in omega arith)
    (λ k d low high. let h = c.count_before-until.ensures.before k d low high in omega arith)
    (λ k d low high. let h = c.count_before-until.ensures.behind k d low high in omega arith)
