use Rattle.std.proofs.Common.{◌≡◌, ◌++◌, map, take, drop}
use Rattle.crash_core.specs.Standing.{block_given}
use Rattle.crash_core.proofs.accepting.give_blocks.Given as goal

abbrev pub invariant-loop-block : goal.invariant-loop-block
invariant-loop-block l = l.owners.items ≡ map (block_given l.from l.to) (take l.block l.initial.owners.items) ++ drop l.block l.initial.owners.items
