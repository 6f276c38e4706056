use Rattle.heap_rule.proofs.CrashLemmas.{crash_durable, left_fixed, left_good, left_named}
use Rattle.heap_rule.specs.Left.{crashed}
use Rattle.heap_rule.proofs.image_laws.a_crash_leaves_a_seat_its_blocks_and_words.Goals as goal

pub returns-clause-named : goal.returns-clause-named
returns-clause-named c v image is b held = left_named v image (crashed is) b held

pub returns-clause-durable : goal.returns-clause-durable
returns-clause-durable c v image is = crash_durable v image is

pub returns-clause-fixed : goal.returns-clause-fixed
returns-clause-fixed c v image is = left_fixed v image (crashed is)

pub returns-clause-header : goal.returns-clause-header
returns-clause-header c v image is = left_good v image (crashed is)
