use Rattle.seat_costs.proofs.FreshLemmas.{used_seat_row}
use Rattle.large_block.proofs.fresh.look_used.Goals as goal

pub returns-clause-row : goal.returns-clause-row
returns-clause-row g c =
    used_seat_row c.args.seat.now c.draw.new.seat c.in_ok-draw.ensures.drawn c.draw.ensures.row c.look_used.result c.look_used.new.self
    c.look_used.ensures.event c.look_used.ensures.stores
