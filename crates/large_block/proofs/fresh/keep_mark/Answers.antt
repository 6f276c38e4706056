use Rattle.seat_costs.proofs.EventLemmas.{keep_used_row}
use Rattle.seat_costs.proofs.RowLemmas.{row_of, row_then}
use Rattle.large_block.proofs.FreshLemmas.{mark_kept}
use Rattle.large_block.proofs.fresh.keep_mark.Goals as goal

pub returns-clause-kept : goal.returns-clause-kept
returns-clause-kept g c = let e = c.keep_used.ensures.event in
    λ used mark. mark_kept c.args.seat.now.view c.draw.new.seat.view c.keep_used.new.self.view used e.0 c.in_ok-draw.ensures.drawn mark e.1

pub returns-clause-row : goal.returns-clause-row
returns-clause-row g c = let e = c.keep_used.ensures.event in
    row_then c.args.seat.now c.draw.new.seat c.keep_used.new.self c.draw.ensures.row
    (row_of c.draw.new.seat c.keep_used.new.self c.keep_used.ensures.stores (keep_used_row c.draw.new.seat.view c.keep_used.new.self.view e.0 e.1))
