use Rattle.seat_model.specs.CacheState.{heap_view}
use Rattle.first_handover.proofs.Words.{loads_it}
use Rattle.first_handover.proofs.hands.read.Goals as goal

pub load-requires : goal.load-requires
load-requires c = (c.requires, ((c.a_seat_of_the_core_is_a_seat_of_a_heap.ensures.seat c.args.seat.now.state).placed c.args.block c.requires).some)

pub returns-in-Ok-clause-read : goal.returns-in-Ok-clause-read
returns-in-Ok-clause-read c = λ value has. loads_it value c.in-Ok.value c.args.block (heap_view c.args.seat.now.state) (heap_view c.load.new.self.state)
    ((c.a_seat_of_the_core_is_a_seat_of_a_heap.ensures.seat c.args.seat.now.state).placed c.args.block c.requires).some c.requires
    c.load.ensures.unchanged c.in-Ok.ensures.ok has
