use Rattle.std.proofs.Common.{arith, ◌+◌}
use Rattle.heap_model.specs.Sizes.{blocks_of}
use Rattle.heap_model.proofs.SizeLemmas.{four_blocks}
use Rattle.seat_costs.specs.Costs.{no_costs}
use Rattle.seat_costs.proofs.AskedLemmas.{asked_then}
use Rattle.seat_costs.proofs.RowLemmas.{row_of, row_then, row_within}
use Rattle.seat_costs.proofs.ShiftLemmas.{cut_draw_row}
use Rattle.cache_fill.proofs.CutLemmas.{can_cut, cut_counted, cut_stopped, cut_told}
use Rattle.cache_fill.proofs.cuts.cut.Goals as goal

pub returns-in_err-link_blocks-clause-row : goal.returns-in_err-link_blocks-clause-row
returns-in_err-link_blocks-clause-row g c = let four = four_blocks c.args.class.number c.args.class.is in
    row_within (record no_costs { draws = blocks_of c.args.class.number + 2; cuts = 1 }) c.args.seat.now c.link_blocks.new.seat
    (record { draws = omega arith; wins = omega arith; gives = omega arith; cuts = omega arith; taken = omega arith; moves = omega arith })
    (row_then c.args.seat.now c.set_info.new.seat c.link_blocks.new.seat c.set_info.ensures.row c.link_blocks.ensures.row)

pub returns-in_err-fill_anchor-clause-row : goal.returns-in_err-fill_anchor-clause-row
returns-in_err-fill_anchor-clause-row g c = let four = four_blocks c.args.class.number c.args.class.is in
    row_within (record no_costs { draws = blocks_of c.args.class.number + 2; cuts = 1 }) c.args.seat.now c.fill_anchor.new.seat
    (record { draws = omega arith; wins = omega arith; gives = omega arith; cuts = omega arith; taken = omega arith; moves = omega arith })
    (row_then c.args.seat.now c.link_blocks.new.seat c.fill_anchor.new.seat
    (row_then c.args.seat.now c.set_info.new.seat c.link_blocks.new.seat c.set_info.ensures.row c.link_blocks.ensures.row)
    c.fill_anchor.ensures.row)

pub draw_with-requires-clause-can : goal.draw_with-requires-clause-can
draw_with-requires-clause-can g c = λ going.
    let row = row_then c.args.seat.now c.link_blocks.new.seat c.fill_anchor.new.seat
    (row_then c.args.seat.now c.set_info.new.seat c.link_blocks.new.seat c.set_info.ensures.row c.link_blocks.ensures.row)
    c.fill_anchor.ensures.row in
    can_cut c.args.seat.now.view c.recall_soundness.ensures c.args.d c.args.class.number c.args.class.is c.requires.claimed c.requires.uncached
    c.set_info.new.seat.view c.link_blocks.new.seat.view c.fill_anchor.new.seat.view c.requires.durable
    c.in_ok-set_info.ensures.set c.in_ok-link_blocks.ensures.linked c.in_ok-fill_anchor.ensures.filled row.view.passes.floor

pub returns-clause-cut : goal.returns-clause-cut
returns-clause-cut g c =
    let row = row_then c.args.seat.now c.link_blocks.new.seat c.fill_anchor.new.seat
    (row_then c.args.seat.now c.set_info.new.seat c.link_blocks.new.seat c.set_info.ensures.row c.link_blocks.ensures.row)
    c.fill_anchor.ensures.row in
    let e = c.draw_with.ensures.event c.in_ok-fill_anchor.ensures.filled.going in
    cut_told c.args.seat.now.view c.recall_soundness.ensures c.args.d c.args.class.number c.args.class.is c.requires.claimed c.requires.uncached
    c.set_info.new.seat.view c.link_blocks.new.seat.view c.fill_anchor.new.seat.view c.requires.durable
    c.in_ok-set_info.ensures.set c.in_ok-link_blocks.ensures.linked c.in_ok-fill_anchor.ensures.filled row.view.passes.floor e.0
    c.draw_with.new.seat.view e.2 e.1 e.3 c.draw_with.result c.draw_with.ensures.told

pub returns-clause-stopped : goal.returns-clause-stopped
returns-clause-stopped g c =
    let row = row_then c.args.seat.now c.link_blocks.new.seat c.fill_anchor.new.seat
    (row_then c.args.seat.now c.set_info.new.seat c.link_blocks.new.seat c.set_info.ensures.row c.link_blocks.ensures.row)
    c.fill_anchor.ensures.row in
    let e = c.draw_with.ensures.event c.in_ok-fill_anchor.ensures.filled.going in
    cut_stopped c.args.seat.now.view c.recall_soundness.ensures c.args.d c.args.class.number c.args.class.is c.requires.claimed
    c.requires.uncached c.set_info.new.seat.view c.link_blocks.new.seat.view c.fill_anchor.new.seat.view c.requires.durable
    c.in_ok-set_info.ensures.set c.in_ok-link_blocks.ensures.linked c.in_ok-fill_anchor.ensures.filled row.view.passes.floor e.0
    c.draw_with.new.seat.view e.2 e.1 e.3 row.view c.draw_with.result c.draw_with.ensures.told

pub returns-clause-row : goal.returns-clause-row
returns-clause-row g c = let four = four_blocks c.args.class.number c.args.class.is in
    let x = c.fill_anchor.new.seat in let w = c.draw_with.new.seat in
    let row = row_then c.args.seat.now c.link_blocks.new.seat x (row_then c.args.seat.now c.set_info.new.seat c.link_blocks.new.seat
    c.set_info.ensures.row c.link_blocks.ensures.row) c.fill_anchor.ensures.row in
    let going = c.in_ok-fill_anchor.ensures.filled.going in
    let e = c.draw_with.ensures.event going in
    row_within (record no_costs { draws = blocks_of c.args.class.number + 2; cuts = 1 }) c.args.seat.now w
    (record { draws = omega arith; wins = omega arith; gives = omega arith; cuts = omega arith; taken = omega arith; moves = omega arith })
    (row_then c.args.seat.now x w row (row_of x w c.draw_with.ensures.stores (cut_draw_row x.view e.0 e.1 going w.view e.2 c.args.d e.3)))

pub returns-clause-counted : goal.returns-clause-counted
returns-clause-counted g c =
    let row = row_then c.args.seat.now c.link_blocks.new.seat c.fill_anchor.new.seat
    (row_then c.args.seat.now c.set_info.new.seat c.link_blocks.new.seat c.set_info.ensures.row c.link_blocks.ensures.row)
    c.fill_anchor.ensures.row in
    let e = c.draw_with.ensures.event c.in_ok-fill_anchor.ensures.filled.going in
    cut_counted c.args.seat.now.view c.fill_anchor.new.seat.view e.0 c.draw_with.new.seat.view c.args.d e.2 row.view e.1 e.3 c.draw_with.result
    c.draw_with.ensures.told

pub returns-in_err-link_blocks-clause-asked : goal.returns-in_err-link_blocks-clause-asked
returns-in_err-link_blocks-clause-asked g c = asked_then c.set_info.ensures.asked c.link_blocks.ensures.asked

pub returns-in_err-fill_anchor-clause-asked : goal.returns-in_err-fill_anchor-clause-asked
returns-in_err-fill_anchor-clause-asked g c = asked_then (asked_then c.set_info.ensures.asked c.link_blocks.ensures.asked) c.fill_anchor.ensures.asked

pub returns-clause-asked : goal.returns-clause-asked
returns-clause-asked g c = asked_then (asked_then (asked_then c.set_info.ensures.asked c.link_blocks.ensures.asked) c.fill_anchor.ensures.asked)
    c.draw_with.ensures.numbers
