use Rattle.c_dictionary.proofs.calls.tell_least.Goals as goal

pub returns-in-None-clause-absent : goal.returns-in-None-clause-absent
returns-in-None-clause-absent c = λ _ map holds. c.in-None.ensures.none map holds.listed
