use Rattle.std.proofs.Common.{◌≡◌, ◌+◌, ◌≤◌, ◌++◌, length, take}
use Rattle.std.specs.Vec.{vec_capacity}
use Rattle.region_header.specs.Empty.{words_before_kinds}
use Rattle.region_header.proofs.empty.format_with_kinds.Given as goal

abbrev pub invariant-loop-i : goal.invariant-loop-i
invariant-loop-i l =
    (l.words.items ≡ words_before_kinds l.fn.capacity ++ take l.i l.kinds)
    × (length (words_before_kinds l.fn.capacity) + length l.kinds ≤ vec_capacity l.words)
