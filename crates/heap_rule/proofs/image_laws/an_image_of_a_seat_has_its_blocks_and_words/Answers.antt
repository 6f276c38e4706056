use Rattle.heap_rule.proofs.CrashLemmas.{left_good, left_named}
use Rattle.heap_rule.proofs.SeatImageLemmas.{image_fixed, image_mixes}
use Rattle.heap_rule.specs.Left.{mixed}
use Rattle.heap_rule.proofs.image_laws.an_image_of_a_seat_has_its_blocks_and_words.Goals as goal

pub returns-clause-named : goal.returns-clause-named
returns-clause-named c v image is b held = left_named v image (mixed is) b held

pub returns-clause-mixed : goal.returns-clause-mixed
returns-clause-mixed c v image is = image_mixes v image is

pub returns-clause-fixed : goal.returns-clause-fixed
returns-clause-fixed c v image is = image_fixed v image is

pub returns-clause-header : goal.returns-clause-header
returns-clause-header c v image is = left_good v image (mixed is)
