use Rattle.std.proofs.Common.{arith}
use Rattle.seat_costs.specs.Costs.{one_win}
use Rattle.seat_costs.proofs.FreshLemmas.{fresh_row}
use Rattle.seat_costs.proofs.RowLemmas.{row_of, row_then, row_within}
use Rattle.large_block.proofs.FreshLemmas.{exchanged}
use Rattle.large_block.proofs.fresh.take_seen.Goals as goal

pub returns-clause-done : goal.returns-clause-done
returns-clause-done g c = let e = c.try_take_fresh.ensures.event in λ used mark.
    exchanged c.args.seat.now.view c.draw.new.seat.view c.try_take_fresh.new.self.view c.args.n used e.0 c.in_ok-draw.ensures.drawn mark e.1
    c.draw.ensures.row.view c.is_ok.result c.try_take_fresh.result e.2 c.is_ok.ensures.value

pub returns-clause-row : goal.returns-clause-row
returns-clause-row g c = let e = c.try_take_fresh.ensures.event in
    row_within (record one_win { draws = 1; taken = c.args.n }) c.args.seat.now c.try_take_fresh.new.self
    (record { draws = omega arith; wins = omega arith; gives = omega arith; cuts = omega arith; taken = omega arith; moves = omega arith })
    (row_then c.args.seat.now c.draw.new.seat c.try_take_fresh.new.self c.draw.ensures.row
    (row_of c.draw.new.seat c.try_take_fresh.new.self c.try_take_fresh.ensures.stores
    (fresh_row c.args.n c.draw.new.seat.view c.try_take_fresh.new.self.view e.0 e.1)))
