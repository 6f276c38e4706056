use Rattle.seat_costs.proofs.EventLemmas.{look_anchor_row}
use Rattle.seat_costs.proofs.RowLemmas.{row_of, row_then}
use Rattle.superblock_lists.proofs.AnchorLemmas.{anchor_looked, anchor_of_class}
use Rattle.superblock_lists.proofs.anchors.look_anchor.Goals as goal

pub returns-clause-row : goal.returns-clause-row
returns-clause-row g c =
    row_then c.args.seat.now c.draw.new.seat c.look_anchor.new.self c.draw.ensures.row
    (row_of c.draw.new.seat c.look_anchor.new.self c.look_anchor.ensures.stores
    (look_anchor_row c.args.d c.draw.new.seat.view c.look_anchor.new.self.view c.look_anchor.result c.look_anchor.ensures.event))

pub returns-clause-of_class : goal.returns-clause-of_class
returns-clause-of_class g c =
    anchor_of_class c.args.seat.now.view c.draw.new.seat.view c.look_anchor.new.self.view c.args.d c.look_anchor.result
    c.in_ok-draw.ensures.drawn c.look_anchor.ensures.event

pub returns-clause-seen : goal.returns-clause-seen
returns-clause-seen g c =
    anchor_looked c.args.seat.now.view c.draw.new.seat.view c.look_anchor.new.self.view c.args.d c.look_anchor.result c.in_ok-draw.ensures.drawn
    c.look_anchor.ensures.event
