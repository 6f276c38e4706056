use Rattle.seat_costs.proofs.EventLemmas.{give_row}
use Rattle.seat_costs.proofs.RowLemmas.{row_of, row_then}
use Rattle.cache_flush.proofs.GiveLemmas.{can_give, exchanged}
use Rattle.cache_flush.proofs.gives.give_seen.Goals as goal

pub try_give-requires-clause-can : goal.try_give-requires-clause-can
try_give-requires-clause-can g c =
    can_give c.args.seat.now.view c.draw.new.seat.view c.recall_soundness.ensures c.args.d c.in_ok-draw.ensures.drawn c.requires.can

pub returns-clause-done : goal.returns-clause-done
returns-clause-done g c = let e = c.try_give.ensures.event in
    exchanged c.args.seat.now.view c.draw.new.seat.view c.try_give.new.self.view c.args.d e.0 c.in_ok-draw.ensures.drawn c.draw.ensures.row.view
    e.1 c.is_ok.result c.try_give.result e.2 c.is_ok.ensures.value

pub returns-clause-row : goal.returns-clause-row
returns-clause-row g c = let e = c.try_give.ensures.event in
    row_then c.args.seat.now c.draw.new.seat c.try_give.new.self c.draw.ensures.row
    (row_of c.draw.new.seat c.try_give.new.self c.try_give.ensures.stores (give_row c.args.d c.draw.new.seat.view c.try_give.new.self.view e.0 e.1))
