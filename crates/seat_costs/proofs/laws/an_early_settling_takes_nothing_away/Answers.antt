use Rattle.seat_costs.proofs.ChanceLemmas.{can_still}
use Rattle.seat_costs.proofs.DrawLemmas.{early_rest, early_words}
use Rattle.seat_costs.proofs.laws.an_early_settling_takes_nothing_away.Goals as goal

pub returns-clause-rest : goal.returns-clause-rest
returns-clause-rest c = early_rest

pub returns-clause-words : goal.returns-clause-words
returns-clause-words c = early_words

pub returns-clause-can : goal.returns-clause-can
returns-clause-can c = λ v early event has settles can. can_still v early has settles event can
