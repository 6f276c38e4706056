use Rattle.seat_costs.proofs.EventLemmas.{look_link_row}
use Rattle.seat_costs.proofs.RowLemmas.{row_of, row_then}
use Rattle.superblock_lists.proofs.PopLemmas.{link_seen}
use Rattle.superblock_lists.proofs.pops.look_link.Goals as goal

pub returns-clause-row : goal.returns-clause-row
returns-clause-row g c =
    row_then c.args.seat.now c.draw.new.seat c.look_link.new.self c.draw.ensures.row
    (row_of c.draw.new.seat c.look_link.new.self c.look_link.ensures.stores
    (look_link_row c.draw.new.seat.view c.look_link.new.self.view c.look_link.result c.look_link.ensures.event))

pub returns-clause-seen : goal.returns-clause-seen
returns-clause-seen g c =
    link_seen c.args.seat.now.view c.draw.new.seat.view c.look_link.new.self.view c.look_link.result c.in_ok-draw.ensures.drawn
    c.look_link.ensures.event
