use Rattle.std.proofs.lemmas.List.Sorted.{IsNonDecreasingBy-from_sort}
use Rattle.tool_run.proofs.OffsetLemmas.{given_text}
use Rattle.tool_run.proofs.draining.heap_text.Goals as goal

pub returns : goal.returns
returns g c =
    given_text c.args.heap.words c.args.heap.held c.args.class.number c.in_ok-offsets.offsets.items c.sort_unstable.new.self.items
    c.deref.result.now c.offsets_text.result
    c.in_ok-offsets.ensures c.sort_unstable.ensures.permutation (IsNonDecreasingBy-from_sort
    (λ x. x) c.sort_unstable.new.self.items c.sort_unstable.ensures.sorted)
    c.deref.ensures.value c.offsets_text.ensures
