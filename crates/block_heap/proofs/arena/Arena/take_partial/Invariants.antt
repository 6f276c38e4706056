use Rattle.std.proofs.Common.{◌-◌}
use Rattle.block_heap.specs.Parts.{parts_of}
use Rattle.block_heap.specs.MediumView.{medium_view}
use Rattle.block_heap.proofs.PartialLemmas.{Walked}
use Rattle.block_heap.proofs.arena.Arena.take_partial.Given as goal

abbrev pub invariant-loop : goal.invariant-loop
invariant-loop g l = Walked l.class.number (parts_of l.initial.self) (parts_of l.self)

abbrev pub decreases-loop : goal.decreases-loop
decreases-loop g l = (medium_view l.self.medium).budget - (medium_view l.self.medium).drawn
