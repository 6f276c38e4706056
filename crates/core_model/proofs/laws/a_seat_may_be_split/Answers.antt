use Rattle.core_model.proofs.SplittingLemmas.{split_sound}
use Rattle.core_model.proofs.laws.a_seat_may_be_split.Goals as goal

pub returns : goal.returns
returns c = split_sound
