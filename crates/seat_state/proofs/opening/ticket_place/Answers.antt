use Rattle.std.proofs.Common.{arith}
use Rattle.heap_model.specs.Geometry.{largest_capacity_fits}
use Rattle.seat_state.proofs.opening.ticket_place.Goals as goal

pub overflow_mul-result : goal.overflow_mul-result
overflow_mul-result c = let small = c.args.geometry.small in let fits = largest_capacity_fits in let e = c.length.ensures in omega arith
