use Rattle.core_model.proofs.OwnerLemmas.{one_owner}
use Rattle.core_model.proofs.laws.a_word_is_own_to_at_most_one_seat.Goals as goal

pub returns : goal.returns
returns c = one_owner
