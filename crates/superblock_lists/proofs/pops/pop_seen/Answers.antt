use Rattle.seat_costs.proofs.EventLemmas.{pop_row}
use Rattle.seat_costs.proofs.RowLemmas.{row_of, row_then}
use Rattle.superblock_lists.proofs.PopLemmas.{exchanged}
use Rattle.superblock_lists.proofs.pops.pop_seen.Goals as goal

pub returns-clause-done : goal.returns-clause-done
returns-clause-done g c = let e = c.try_pop.ensures.event in λ list d sees.
    exchanged c.args.seat.now.view c.draw.new.seat.view c.try_pop.new.self.view list d e.0 c.is_ok.result c.try_pop.result
    c.in_ok-draw.ensures.drawn c.draw.ensures.row.view sees e.1 e.2 c.is_ok.ensures.value

pub returns-clause-row : goal.returns-clause-row
returns-clause-row g c = let e = c.try_pop.ensures.event in
    row_then c.args.seat.now c.draw.new.seat c.try_pop.new.self c.draw.ensures.row
    (row_of c.draw.new.seat c.try_pop.new.self c.try_pop.ensures.stores (pop_row c.draw.new.seat.view c.try_pop.new.self.view e.0 e.1))
