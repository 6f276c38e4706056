use Rattle.std.proofs.Common.{◌≡◌, ◌-◌, ◌++◌, replicate}
use Rattle.dictionary.proofs.filter.root_kinds.Given as goal

abbrev pub invariant-loop-i : goal.invariant-loop-i
invariant-loop-i l = l.kinds ≡ replicate l.i 1 ++ replicate (1024 - l.i) 0
