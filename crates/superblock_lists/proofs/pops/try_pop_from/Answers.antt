use Rattle.std.proofs.Common.{arith, subst, ◌∙◌, ◌-◌}
use Rattle.seat_costs.specs.Costs.{one_win}
use Rattle.seat_costs.proofs.AskedLemmas.{asked_then}
use Rattle.seat_costs.proofs.RowLemmas.{row_then, row_within}
use Rattle.superblock_lists.specs.Pops.{Exchanges}
use Rattle.superblock_lists.proofs.PopLemmas.{goes_then, lost_later, others_then, popped_later, sees_first}
use Rattle.superblock_lists.proofs.pops.try_pop_from.Goals as goal

pub pop_seen-requires-clause-seen : goal.pop_seen-requires-clause-seen
pop_seen-requires-clause-seen g c = (
  c.args.list,
  (
    c.head_first-first.result - 1,
    sees_first c.args.seat.now.view c.look_list.new.seat.view c.look_link.new.seat.view c.args.list c.in_ok-head.head c.head_first-first.result
        c.in_ok-head.ensures.seen c.in_ok-look_link.ensures.seen c.head_first-first.ensures c.if-first-eq0.false,
  ),
)

pub returns-in_err-look_link-clause-row : goal.returns-in_err-look_link-clause-row
returns-in_err-look_link-clause-row g c =
    row_within (record one_win { draws = 3 }) c.args.seat.now c.look_link.new.seat
    (record { draws = omega arith; wins = omega arith; gives = omega arith; cuts = omega arith; taken = omega arith; moves = omega arith })
    (row_then c.args.seat.now c.look_list.new.seat c.look_link.new.seat c.look_list.ensures.row c.look_link.ensures.row)

pub returns-in_err-pop_seen-clause-row : goal.returns-in_err-pop_seen-clause-row
returns-in_err-pop_seen-clause-row g c =
    row_then c.args.seat.now c.look_link.new.seat c.pop_seen.new.seat
    (row_then c.args.seat.now c.look_list.new.seat c.look_link.new.seat c.look_list.ensures.row c.look_link.ensures.row) c.pop_seen.ensures.row

pub returns-then-branch-clause-row : goal.returns-then-branch-clause-row
returns-then-branch-clause-row g c =
    row_then c.args.seat.now c.look_link.new.seat c.pop_seen.new.seat
    (row_then c.args.seat.now c.look_list.new.seat c.look_link.new.seat c.look_list.ensures.row c.look_link.ensures.row) c.pop_seen.ensures.row

pub returns-clause-row : goal.returns-clause-row
returns-clause-row g c =
    row_then c.args.seat.now c.look_link.new.seat c.pop_seen.new.seat
    (row_then c.args.seat.now c.look_list.new.seat c.look_link.new.seat c.look_list.ensures.row c.look_link.ensures.row) c.pop_seen.ensures.row

pub returns-then-branch-clause-done : goal.returns-then-branch-clause-done
returns-then-branch-clause-done g c =
    let d = c.head_first-first.result - 1 in
    let sees = sees_first c.args.seat.now.view c.look_list.new.seat.view c.look_link.new.seat.view c.args.list c.in_ok-head.head
    c.head_first-first.result
    c.in_ok-head.ensures.seen c.in_ok-look_link.ensures.seen c.head_first-first.ensures c.if-first-eq0.false in
    popped_later c.args.seat.now.view c.look_link.new.seat.view c.pop_seen.new.seat.view c.args.list d
    c.in_ok-head.ensures.seen.goes_on.ran (c.in_ok-look_link.ensures.seen.goes_on.parts_are ∙ c.in_ok-head.ensures.seen.goes_on.parts_are)
    (c.in_ok-look_link.ensures.seen.goes_on.wins ∙ c.in_ok-head.ensures.seen.goes_on.wins)
    (others_then c.args.list c.args.seat.now.view c.look_list.new.seat.view c.look_link.new.seat.view c.in_ok-head.ensures.seen.others
    (c.in_ok-look_link.ensures.seen.others c.args.list))
    (row_then c.args.seat.now c.look_list.new.seat c.look_link.new.seat c.look_list.ensures.row c.look_link.ensures.row).view
    (subst (λ won. Exchanges c.args.list d won c.look_link.new.seat.view c.pop_seen.new.seat.view) c.if-branch.true
    (c.in_ok-pop_seen.ensures.done c.args.list d sees))

pub returns-clause-done : goal.returns-clause-done
returns-clause-done g c =
    let d = c.head_first-first.result - 1 in
    let sees = sees_first c.args.seat.now.view c.look_list.new.seat.view c.look_link.new.seat.view c.args.list c.in_ok-head.head
    c.head_first-first.result
    c.in_ok-head.ensures.seen c.in_ok-look_link.ensures.seen c.head_first-first.ensures c.if-first-eq0.false in
    lost_later c.args.list c.args.seat.now.view c.look_link.new.seat.view c.pop_seen.new.seat.view
    (goes_then c.args.seat.now.view c.look_list.new.seat.view c.look_link.new.seat.view c.in_ok-head.ensures.seen.goes_on
    c.in_ok-look_link.ensures.seen.goes_on)
    (others_then c.args.list c.args.seat.now.view c.look_list.new.seat.view c.look_link.new.seat.view c.in_ok-head.ensures.seen.others
    (c.in_ok-look_link.ensures.seen.others c.args.list))
    (row_then c.args.seat.now c.look_list.new.seat c.look_link.new.seat c.look_list.ensures.row c.look_link.ensures.row).view
    (subst (λ won. Exchanges c.args.list d won c.look_link.new.seat.view c.pop_seen.new.seat.view) c.if-branch.false
    (c.in_ok-pop_seen.ensures.done c.args.list d sees))

pub returns-in_err-pop_seen-clause-asked : goal.returns-in_err-pop_seen-clause-asked
returns-in_err-pop_seen-clause-asked g c = asked_then (asked_then c.look_list.ensures.asked c.look_link.ensures.asked) c.pop_seen.ensures.asked

pub returns-then-branch-clause-asked : goal.returns-then-branch-clause-asked
returns-then-branch-clause-asked g c = asked_then (asked_then c.look_list.ensures.asked c.look_link.ensures.asked) c.pop_seen.ensures.asked

pub returns-clause-asked : goal.returns-clause-asked
returns-clause-asked g c = asked_then (asked_then c.look_list.ensures.asked c.look_link.ensures.asked) c.pop_seen.ensures.asked
