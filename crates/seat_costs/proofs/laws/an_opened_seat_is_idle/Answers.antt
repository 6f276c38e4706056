use Rattle.seat_costs.proofs.IdleLemmas.{opened_seats}
use Rattle.seat_costs.proofs.laws.an_opened_seat_is_idle.Goals as goal

pub returns : goal.returns
returns c = opened_seats
