use Rattle.std.proofs.Common.{◌≡◌, ◌-◌, ◌++◌, replicate}
use Rattle.region_header.proofs.empty.format.Given as goal

abbrev pub invariant-loop-i : goal.invariant-loop-i
invariant-loop-i l = l.kinds ≡ replicate l.i 1 ++ replicate (1024 - l.i) 0
