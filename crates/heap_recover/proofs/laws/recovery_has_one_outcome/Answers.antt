use Rattle.std.proofs.Common.{slice_index}
use Rattle.heap_model.specs.Reach.{IsReachedIn}
use Rattle.heap_recover.proofs.OutcomeLemmas.{one_outcome}
use Rattle.heap_recover.proofs.laws.recovery_has_one_outcome.Goals as goal

pub returns : goal.returns
returns c old new other links = one_outcome old new other (IsReachedIn (slice_index old) links)
