use Rattle.heap_rule.proofs.HeldLemmas.{held_apart, held_placed, marks_in_order, one_block, one_large, one_root}
use Rattle.heap_rule.proofs.view_laws.held_blocks_are_placed_and_apart.Goals as goal

pub returns-clause-placed : goal.returns-clause-placed
returns-clause-placed c v has b held = held_placed v has b held

pub returns-clause-marks : goal.returns-clause-marks
returns-clause-marks c v has = marks_in_order v has

pub returns-clause-apart : goal.returns-clause-apart
returns-clause-apart c v has a b one other = held_apart v has a b one other

pub returns-clause-small : goal.returns-clause-small
returns-clause-small c v has b = one_block v has b

pub returns-clause-large : goal.returns-clause-large
returns-clause-large c v has d = one_large v has d

pub returns-clause-root : goal.returns-clause-root
returns-clause-root c v has i = one_root v has i

pub returns-clause-root_of_all : goal.returns-clause-root_of_all
returns-clause-root_of_all c v has i = has.sound.good.adds.roots i
