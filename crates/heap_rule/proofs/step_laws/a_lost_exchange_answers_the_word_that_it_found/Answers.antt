use Rattle.std.proofs.Common.{None, refl}
use Rattle.core_model.specs.declared.event.Event.TheVariants.{TakeFresh, Pop, Push, TakeAll, Give}
use Rattle.core_model.specs.Effects.{lost, seen, seen_word}
use Rattle.heap_rule.proofs.WordsLeftLemmas.{fresh_lost, pop_lost, push_lost, take_all_lost, give_lost, told_lost}
use Rattle.heap_rule.proofs.step_laws.a_lost_exchange_answers_the_word_that_it_found.Goals as goal

pub returns-clause-taken : goal.returns-clause-taken
returns-clause-taken c n v w found result e told = told_lost (TakeFresh n) v w (record (lost v found) { seen_used = None })
    (seen v.seen_used) found result e (fresh_lost n v w found e) refl refl told

pub returns-clause-popped : goal.returns-clause-popped
returns-clause-popped c v w found result e told = told_lost Pop v w (record (lost v found) { seen_head = None })
    (seen_word v.seen_head) found result e (pop_lost v w found e) refl refl told

pub returns-clause-pushed : goal.returns-clause-pushed
returns-clause-pushed c d v w found result e told = told_lost (Push d) v w (record (lost v found) { seen_head = None })
    (seen_word v.seen_head) found result e (push_lost d v w found e) refl refl told

pub returns-clause-taken_all : goal.returns-clause-taken_all
returns-clause-taken_all c d v w found result e told = told_lost (TakeAll d) v w (record (lost v found) { seen_anchor = None })
    (seen_word v.seen_anchor) found result e (take_all_lost d v w found e) refl refl told

pub returns-clause-given : goal.returns-clause-given
returns-clause-given c d v w found result e told = told_lost (Give d) v w (record (lost v found) { seen_anchor = None })
    (seen_word v.seen_anchor) found result e (give_lost d v w found e) refl refl told
