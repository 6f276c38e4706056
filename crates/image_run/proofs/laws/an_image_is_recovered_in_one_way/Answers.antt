use Rattle.image_run.proofs.OneRecoveryLemmas.{one_held, one_free, one_recovered}
use Rattle.image_run.proofs.laws.an_image_is_recovered_in_one_way.Goals as goal

pub returns-clause-held : goal.returns-clause-held
returns-clause-held c = one_held

pub returns-clause-free : goal.returns-clause-free
returns-clause-free c = one_free

pub returns-clause-words : goal.returns-clause-words
returns-clause-words c = one_recovered
