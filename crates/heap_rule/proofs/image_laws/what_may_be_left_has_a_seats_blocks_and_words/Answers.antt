use Rattle.heap_rule.proofs.CrashLemmas.{left_fixed, left_good, left_mixes, left_named}
use Rattle.heap_rule.specs.Left.{mixed, crashed, closed}
use Rattle.heap_rule.proofs.image_laws.what_may_be_left_has_a_seats_blocks_and_words.Goals as goal

pub returns-clause-named : goal.returns-clause-named
returns-clause-named c v image is b held = left_named v image is b held

pub returns-clause-mixed : goal.returns-clause-mixed
returns-clause-mixed c v image is = left_mixes v image is

pub returns-clause-fixed : goal.returns-clause-fixed
returns-clause-fixed c v image is = left_fixed v image is

pub returns-clause-header : goal.returns-clause-header
returns-clause-header c v image is = left_good v image is

pub returns-clause-by_mixture : goal.returns-clause-by_mixture
returns-clause-by_mixture c v image is = mixed is

pub returns-clause-by_crash : goal.returns-clause-by_crash
returns-clause-by_crash c v image is = crashed is

pub returns-clause-by_close : goal.returns-clause-by_close
returns-clause-by_close c v image is = closed is
