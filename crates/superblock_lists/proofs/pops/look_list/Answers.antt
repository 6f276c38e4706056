use Rattle.seat_costs.proofs.FreshLemmas.{head_seat_row}
use Rattle.superblock_lists.proofs.PopLemmas.{head_seen}
use Rattle.superblock_lists.proofs.pops.look_list.Goals as goal

pub returns-clause-row : goal.returns-clause-row
returns-clause-row g c =
    head_seat_row c.args.seat.now c.draw.new.seat c.in_ok-draw.ensures.drawn c.draw.ensures.row c.args.list c.look_head.result
    c.look_head.new.self c.look_head.ensures.event c.look_head.ensures.stores

pub returns-clause-seen : goal.returns-clause-seen
returns-clause-seen g c =
    head_seen c.args.seat.now.view c.draw.new.seat.view c.look_head.new.self.view c.args.list c.look_head.result c.requires.list
    c.in_ok-draw.ensures.drawn c.look_head.ensures.event
