use Rattle.core_model.proofs.HeldOnceLemmas.{free_not_held, own_once}
use Rattle.core_model.proofs.laws.a_word_is_own_at_most_once.Goals as goal

pub returns-clause-once : goal.returns-clause-once
returns-clause-once c k m views good = λ i v below at. own_once k m views good i v below at

pub returns-clause-not_held : goal.returns-clause-not_held
returns-clause-not_held c k m views good = λ i v below at. free_not_held k m views good i v below at
