use Rattle.std.proofs.Common.{◌<◌, subst}
use Rattle.heap_rule.specs.Seated.{SeatView}
use Rattle.heap_rule.proofs.seat.Seat.has_a_low_budget.Goals as goal

pub returns : goal.returns
returns c = subst (λ (s : SeatView). s.view.setup.budget < 1099511627776) c.self.view_is c.self.invariant.seat.low
