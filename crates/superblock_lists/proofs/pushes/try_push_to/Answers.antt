use Rattle.std.proofs.Common.{◌∙◌, arith}
use Rattle.seat_costs.specs.Costs.{one_push}
use Rattle.seat_costs.proofs.AskedLemmas.{asked_then}
use Rattle.seat_costs.proofs.RowLemmas.{row_then, row_within}
use Rattle.superblock_lists.proofs.PushLemmas.{can_later, freely, freely_still, pushes_later, sees_linked}
use Rattle.seat_costs.proofs.ResultLemmas.{if_ok_then}
use Rattle.superblock_lists.proofs.pushes.try_push_to.Goals as goal

pub set_link-requires-clause-claimed : goal.set_link-requires-clause-claimed
set_link-requires-clause-claimed g c =
    freely_still c.args.seat.now.view c.look_list.new.seat.view c.args.d c.in_ok-head.ensures.seen.goes_on.parts_are
    (freely c.args.seat.now.view c.recall_soundness.ensures c.args.d c.args.list c.requires.can)

pub push_seen-requires-clause-durable : goal.push_seen-requires-clause-durable
push_seen-requires-clause-durable g c = let a = c.look_list.ensures.row.view.passes.floor in let b = c.set_link.ensures.row.view.passes.floor in
    let d = c.requires.durable in omega arith

pub push_seen-requires-clause-listed : goal.push_seen-requires-clause-listed
push_seen-requires-clause-listed g c = (
  c.args.list,
  sees_linked c.args.seat.now.view c.look_list.new.seat.view c.set_link.new.seat.view c.args.list c.args.d c.in_ok-head.head c.head_first.result
      c.in_ok-head.ensures.seen c.head_first.ensures c.in_ok-set_link.ensures.linked,
  can_later c.args.seat.now.view c.look_list.new.seat.view c.set_link.new.seat.view c.recall_soundness.ensures c.args.list c.args.d
      c.in_ok-head.head c.head_first.result c.in_ok-head.ensures.seen c.in_ok-set_link.ensures.linked c.requires.can,
)

pub returns-in_err-set_link-clause-row : goal.returns-in_err-set_link-clause-row
returns-in_err-set_link-clause-row g c =
    row_within (record one_push { draws = 3 }) c.args.seat.now c.set_link.new.seat
    (record { draws = omega arith; wins = omega arith; gives = omega arith; cuts = omega arith; taken = omega arith; moves = omega arith })
    (row_then c.args.seat.now c.look_list.new.seat c.set_link.new.seat c.look_list.ensures.row c.set_link.ensures.row)

pub returns-clause-row : goal.returns-clause-row
returns-clause-row g c =
    row_then c.args.seat.now c.set_link.new.seat c.push_seen.new.seat
    (row_then c.args.seat.now c.look_list.new.seat c.set_link.new.seat c.look_list.ensures.row c.set_link.ensures.row) c.push_seen.ensures.row

pub returns-clause-done : goal.returns-clause-done
returns-clause-done g c =
    let v = c.args.seat.now.view in
    let t = c.set_link.new.seat.view in
    let w = c.push_seen.new.seat.view in
    let go = c.in_ok-head.ensures.seen.goes_on in
    let row = (row_then c.args.seat.now c.look_list.new.seat c.set_link.new.seat c.look_list.ensures.row c.set_link.ensures.row).view in
    let linked = sees_linked v c.look_list.new.seat.view t c.args.list c.args.d c.in_ok-head.head c.head_first.result c.in_ok-head.ensures.seen
    c.head_first.ensures c.in_ok-set_link.ensures.linked in
    let can = can_later v c.look_list.new.seat.view t c.recall_soundness.ensures c.args.list c.args.d c.in_ok-head.head c.head_first.result
    c.in_ok-head.ensures.seen c.in_ok-set_link.ensures.linked c.requires.can in
    if_ok_then c.push_seen.result (λ won is. pushes_later 1 won v t w c.args.list c.args.d go.ran row.passes.more.draws row.passes.setup go.room
    (c.in_ok-set_link.ensures.linked.parts_are ∙ go.parts_are) row (is c.args.list linked can)) c.push_seen.ensures.done

pub returns-in_err-set_link-clause-asked : goal.returns-in_err-set_link-clause-asked
returns-in_err-set_link-clause-asked g c = asked_then c.look_list.ensures.asked c.set_link.ensures.asked

pub returns-clause-asked : goal.returns-clause-asked
returns-clause-asked g c = asked_then (asked_then c.look_list.ensures.asked c.set_link.ensures.asked) c.push_seen.ensures.asked
