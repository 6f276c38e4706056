use Rattle.std.proofs.Common.{◌≡◌, ◌++◌, map, take, drop}
use Rattle.crash_core.specs.Standing.{superblock_given}
use Rattle.crash_core.proofs.accepting.give_superblocks.Given as goal

abbrev pub invariant-loop-d : goal.invariant-loop-d
invariant-loop-d l = l.owners.items ≡ map (superblock_given l.from l.to) (take l.d l.initial.owners.items) ++ drop l.d l.initial.owners.items
