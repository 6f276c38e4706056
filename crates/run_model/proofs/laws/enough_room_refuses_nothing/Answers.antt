use Rattle.run_model.proofs.OneMapLemmas.{room_for_all}
use Rattle.run_model.proofs.laws.enough_room_refuses_nothing.Goals as goal

pub returns : goal.returns
returns c = room_for_all
