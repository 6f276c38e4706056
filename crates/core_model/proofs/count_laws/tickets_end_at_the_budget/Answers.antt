use Rattle.core_model.proofs.count_laws.tickets_end_at_the_budget.Goals as goal

pub returns-clause-all : goal.returns-clause-all
returns-clause-all c k s sound = sound.good.adds.draws

pub returns-clause-past : goal.returns-clause-past
returns-clause-past c k s sound = sound.good.adds.stopped
