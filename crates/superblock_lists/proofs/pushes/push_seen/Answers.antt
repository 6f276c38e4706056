use Rattle.seat_costs.proofs.EventLemmas.{push_row}
use Rattle.seat_costs.proofs.RowLemmas.{row_of, row_then}
use Rattle.superblock_lists.proofs.PushLemmas.{can_push, exchanged}
use Rattle.superblock_lists.proofs.pushes.push_seen.Goals as goal

pub try_push-requires-clause-can : goal.try_push-requires-clause-can
try_push-requires-clause-can g c = let l = c.requires.listed in
    can_push c.args.seat.now.view c.recall_soundness.ensures c.args.d c.draw.new.seat.view l.0 c.in_ok-draw.ensures.drawn c.requires.durable l.1 l.2

pub returns-clause-done : goal.returns-clause-done
returns-clause-done g c = let e = c.try_push.ensures.event in λ list sees can.
    exchanged c.args.seat.now.view c.recall_soundness.ensures c.args.d c.draw.new.seat.view c.try_push.new.self.view list e.0
    c.in_ok-draw.ensures.drawn c.draw.ensures.row.view sees e.1
    c.recall_soundness.ensures can c.is_ok.result c.try_push.result e.2 c.is_ok.ensures.value

pub returns-clause-row : goal.returns-clause-row
returns-clause-row g c = let e = c.try_push.ensures.event in
    row_then c.args.seat.now c.draw.new.seat c.try_push.new.self c.draw.ensures.row
    (row_of c.draw.new.seat c.try_push.new.self c.try_push.ensures.stores (push_row c.args.d c.draw.new.seat.view c.try_push.new.self.view e.0 e.1))
