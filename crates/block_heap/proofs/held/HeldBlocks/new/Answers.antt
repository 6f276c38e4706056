use Rattle.std.proofs.Common.{rules, ◌≡◌, length, arith}
use Rattle.heap_model.specs.Geometry.{largest_capacity_fits}
use Rattle.block_heap.proofs.HeldLemmas.{no_blocks}
use Rattle.block_heap.proofs.held.HeldBlocks.new.Goals as goal

pub returns-clause-held : goal.returns-clause-held
returns-clause-held c = no_blocks _ _ _ _ c.in_ok-clear_marks.ensures

pub invariant_of-result-clause-short : goal.invariant_of-result-clause-short
invariant_of-result-clause-short c =
    let small = c.args.geometry.small in
    let start = c.start.ensures in
    let capacity = c.capacity-capacity.ensures in
    let long : length c.in_ok-vec.field-0.items ≡ c.capacity-capacity.result = search rules in
    omega (arith, largest_capacity_fits)
