use Rattle.core_model.proofs.count_laws.each_loss_is_a_win_of_another_seat.Goals as goal

pub returns-clause-lost : goal.returns-clause-lost
returns-clause-lost c k s sound = sound.good.lost

pub returns-clause-tried : goal.returns-clause-tried
returns-clause-tried c k s sound = λ i v below at. (sound.good.tickets i v below at).counts

pub returns-clause-cuts : goal.returns-clause-cuts
returns-clause-cuts c k s sound = λ i v below at. (sound.good.tickets i v below at).cuts

pub returns-clause-gives : goal.returns-clause-gives
returns-clause-gives c k s sound = λ i v below at. (sound.good.tickets i v below at).gives
