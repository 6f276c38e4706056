use Rattle.std.proofs.Common.{◌≤◌}
use Rattle.std.specs.Vec.{vec_capacity}
use Rattle.region_header.proofs.WordBytes.{AreFirstWords}
use Rattle.region_header.proofs.conversions.bytes_to_words.Given as goal

abbrev pub invariant-loop-i : goal.invariant-loop-i
invariant-loop-i l = AreFirstWords l.bytes l.words.items l.i × (l.count ≤ vec_capacity l.words)
