use Rattle.std.proofs.Common.{ℕ, ◌<◌, slice_index}
use Rattle.region_header.proofs.check.are_below.Given as goal

abbrev pub invariant-loop-i : goal.invariant-loop-i
invariant-loop-i l = (k : ℕ) → k < l.i → slice_index l.kinds k < l.most
