use Rattle.heap_rule.proofs.CrashLemmas.{close_volatile, left_fixed, left_good, left_named}
use Rattle.heap_rule.specs.Left.{closed}
use Rattle.heap_rule.proofs.image_laws.a_close_leaves_a_seat_its_blocks_and_words.Goals as goal

pub returns-clause-named : goal.returns-clause-named
returns-clause-named c v image is b held = left_named v image (closed is) b held

pub returns-clause-volatile : goal.returns-clause-volatile
returns-clause-volatile c v image is = close_volatile v image is

pub returns-clause-fixed : goal.returns-clause-fixed
returns-clause-fixed c v image is = left_fixed v image (closed is)

pub returns-clause-header : goal.returns-clause-header
returns-clause-header c v image is = left_good v image (closed is)
