use Rattle.core_model.proofs.count_laws.what_a_seat_knows_is_so.Goals as goal

pub returns-clause-floor : goal.returns-clause-floor
returns-clause-floor c k s sound = λ i v below at. (sound.good.knows i v below at).floor

pub returns-clause-volatile : goal.returns-clause-volatile
returns-clause-volatile c k s sound = λ i v below at. (sound.good.words i v below at).volatile

pub returns-clause-durable : goal.returns-clause-durable
returns-clause-durable c k s sound = λ i v below at. (sound.good.words i v below at).durable
