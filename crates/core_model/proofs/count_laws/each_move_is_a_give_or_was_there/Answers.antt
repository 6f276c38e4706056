use Rattle.std.proofs.Common.{arith}
use Rattle.core_model.proofs.count_laws.each_move_is_a_give_or_was_there.Goals as goal

pub returns : goal.returns
returns c k s sound = let moves = sound.good.moves in omega arith
