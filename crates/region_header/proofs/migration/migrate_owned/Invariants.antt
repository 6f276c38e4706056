use Rattle.std.proofs.Common.{◌≡◌, ◌+◌, ◌≤◌, ◌++◌, length, take, slice_set}
use Rattle.std.specs.Vec.{vec_capacity}
use Rattle.heap_model.specs.Geometry.{version}
use Rattle.region_header.proofs.migration.migrate_owned.Given as goal

abbrev pub invariant-loop-i : goal.invariant-loop-i
invariant-loop-i l =
    (l.new.items ≡ slice_set l.fn.words.items 1 version ++ take l.i l.kinds)
    × (length l.fn.words.items + length l.kinds ≤ vec_capacity l.new)
