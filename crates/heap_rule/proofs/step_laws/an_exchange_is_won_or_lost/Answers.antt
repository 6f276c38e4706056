use Rattle.heap_rule.proofs.WordsLeftLemmas.{fresh_won, fresh_lost, pop_won, pop_lost, push_won, push_lost, take_all_won, take_all_lost, give_won, give_lost}
use Rattle.heap_rule.proofs.step_laws.an_exchange_is_won_or_lost.Goals as goal

pub returns-clause-taken : goal.returns-clause-taken
returns-clause-taken c n v w found e same = fresh_won n v w found e same

pub returns-clause-not_taken : goal.returns-clause-not_taken
returns-clause-not_taken c n v w found e other = fresh_lost n v w found e other

pub returns-clause-popped : goal.returns-clause-popped
returns-clause-popped c v w found e same = pop_won v w found e same

pub returns-clause-not_popped : goal.returns-clause-not_popped
returns-clause-not_popped c v w found e other = pop_lost v w found e other

pub returns-clause-pushed : goal.returns-clause-pushed
returns-clause-pushed c d v w found e same = push_won d v w found e same

pub returns-clause-not_pushed : goal.returns-clause-not_pushed
returns-clause-not_pushed c d v w found e other = push_lost d v w found e other

pub returns-clause-taken_all : goal.returns-clause-taken_all
returns-clause-taken_all c d v w found e same = take_all_won d v w found e same

pub returns-clause-not_taken_all : goal.returns-clause-not_taken_all
returns-clause-not_taken_all c d v w found e other = take_all_lost d v w found e other

pub returns-clause-given : goal.returns-clause-given
returns-clause-given c d v w found e same = give_won d v w found e same

pub returns-clause-not_given : goal.returns-clause-not_given
returns-clause-not_given c d v w found e other = give_lost d v w found e other
