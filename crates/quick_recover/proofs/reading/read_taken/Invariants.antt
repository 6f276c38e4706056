use Rattle.std.proofs.Common.{slice_index}
use Rattle.quick_recover.specs.Anchored.{AreRead}
use Rattle.quick_recover.proofs.reading.read_taken.Given as goal

abbrev pub invariant-loop-d : goal.invariant-loop-d
invariant-loop-d l = AreRead (slice_index l.words) l.d l.end l.held.items l.roles.items
