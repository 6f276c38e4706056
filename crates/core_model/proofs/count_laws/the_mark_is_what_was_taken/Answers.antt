use Rattle.core_model.proofs.count_laws.the_mark_is_what_was_taken.Goals as goal

pub returns-clause-taken : goal.returns-clause-taken
returns-clause-taken c k s sound = sound.good.adds.taken

pub returns-clause-looked : goal.returns-clause-looked
returns-clause-looked c k s sound = λ i v below at. (sound.good.knows i v below at).looked

pub returns-clause-looked_then : goal.returns-clause-looked_then
returns-clause-looked_then c k s sound = λ i v below at. (sound.good.tickets i v below at).looked_then
