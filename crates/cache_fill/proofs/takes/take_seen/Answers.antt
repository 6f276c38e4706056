use Rattle.seat_costs.proofs.EventLemmas.{take_all_row}
use Rattle.seat_costs.proofs.RowLemmas.{row_of, row_then}
use Rattle.cache_fill.proofs.TakeLemmas.{can_take, exchanged}
use Rattle.cache_fill.proofs.takes.take_seen.Goals as goal

pub try_take_all-requires-clause-can : goal.try_take_all-requires-clause-can
try_take_all-requires-clause-can g c = can_take c.args.seat.now.view c.draw.new.seat.view c.args.d c.in_ok-draw.ensures.drawn c.requires.may

pub returns-clause-done : goal.returns-clause-done
returns-clause-done g c = let e = c.try_take_all.ensures.event in λ class claim.
    exchanged c.args.seat.now.view c.draw.new.seat.view c.try_take_all.new.self.view c.args.d class e.0 c.in_ok-draw.ensures.drawn claim e.1
    c.draw.ensures.row.view c.is_ok.result c.try_take_all.result e.2 c.is_ok.ensures.value

pub returns-clause-row : goal.returns-clause-row
returns-clause-row g c = let e = c.try_take_all.ensures.event in
    row_then c.args.seat.now c.draw.new.seat c.try_take_all.new.self c.draw.ensures.row
    (row_of c.draw.new.seat c.try_take_all.new.self c.try_take_all.ensures.stores
    (take_all_row c.args.d c.draw.new.seat.view c.try_take_all.new.self.view e.0 e.1))
