use Rattle.std.proofs.Common.{slice_index}
use Rattle.quick_recover.specs.Anchored.{AreUntouched}
use Rattle.quick_recover.proofs.reading.is_untouched.Given as goal

abbrev pub invariant-loop-d : goal.invariant-loop-d
invariant-loop-d l = AreUntouched (slice_index l.words) l.d
