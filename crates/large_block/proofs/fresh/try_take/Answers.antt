use Rattle.std.proofs.Common.{◌+◌, subst}
use Rattle.seat_costs.proofs.AskedLemmas.{asked_then}
use Rattle.large_block.specs.Fresh.{Marks}
use Rattle.large_block.proofs.FreshLemmas.{keeping_row, lost_later, taken_then, taking_row}
use Rattle.large_block.proofs.fresh.try_take.Goals as goal

pub returns-in_err-take_seen-clause-row : goal.returns-in_err-take_seen-clause-row
returns-in_err-take_seen-clause-row g c =
    taking_row c.args.seat.now c.look_used.new.seat c.take_seen.new.seat c.args.n c.look_used.ensures.row c.take_seen.ensures.row

pub keep_mark-requires-clause-seen : goal.keep_mark-requires-clause-seen
keep_mark-requires-clause-seen g c = (
  c.in_ok-used.used + c.args.n,
  (subst (λ won. Marks c.args.n c.in_ok-used.used won c.look_used.new.seat.view c.take_seen.new.seat.view) c.if-branch.true
      (c.in_ok-take_seen.ensures.done c.in_ok-used.used c.in_ok-used.ensures.seen.is_seen)).mark,
)

pub returns-in_err-keep_mark-clause-row : goal.returns-in_err-keep_mark-clause-row
returns-in_err-keep_mark-clause-row g c =
    keeping_row c.args.seat.now c.look_used.new.seat c.take_seen.new.seat c.keep_mark.new.seat c.args.n c.look_used.ensures.row
    c.take_seen.ensures.row c.keep_mark.ensures.row

pub returns-then-branch-clause-done : goal.returns-then-branch-clause-done
returns-then-branch-clause-done g c =
    let marked = subst (λ won. Marks c.args.n c.in_ok-used.used won c.look_used.new.seat.view c.take_seen.new.seat.view) c.if-branch.true
    (c.in_ok-take_seen.ensures.done c.in_ok-used.used c.in_ok-used.ensures.seen.is_seen) in
    taken_then c.args.seat.now.view c.look_used.new.seat.view c.take_seen.new.seat.view c.keep_mark.new.seat.view c.args.n c.in_ok-used.used
    c.in_ok-used.ensures.seen marked
    (c.in_ok-keep_mark.ensures.kept (c.in_ok-used.used + c.args.n) marked.mark)

pub returns-then-branch-clause-row : goal.returns-then-branch-clause-row
returns-then-branch-clause-row g c =
    keeping_row c.args.seat.now c.look_used.new.seat c.take_seen.new.seat c.keep_mark.new.seat c.args.n c.look_used.ensures.row
    c.take_seen.ensures.row c.keep_mark.ensures.row

pub returns-clause-done : goal.returns-clause-done
returns-clause-done g c =
    lost_later c.args.seat.now.view c.look_used.new.seat.view c.take_seen.new.seat.view c.in_ok-used.used c.in_ok-used.ensures.seen
    c.look_used.ensures.row.view
    (subst (λ won. Marks c.args.n c.in_ok-used.used won c.look_used.new.seat.view c.take_seen.new.seat.view) c.if-branch.false
    (c.in_ok-take_seen.ensures.done c.in_ok-used.used c.in_ok-used.ensures.seen.is_seen))

pub returns-clause-row : goal.returns-clause-row
returns-clause-row g c =
    taking_row c.args.seat.now c.look_used.new.seat c.take_seen.new.seat c.args.n c.look_used.ensures.row c.take_seen.ensures.row

pub returns-in_err-take_seen-clause-asked : goal.returns-in_err-take_seen-clause-asked
returns-in_err-take_seen-clause-asked g c = asked_then c.look_used.ensures.asked c.take_seen.ensures.asked

pub returns-in_err-keep_mark-clause-asked : goal.returns-in_err-keep_mark-clause-asked
returns-in_err-keep_mark-clause-asked g c = asked_then (asked_then c.look_used.ensures.asked c.take_seen.ensures.asked) c.keep_mark.ensures.asked

pub returns-then-branch-clause-asked : goal.returns-then-branch-clause-asked
returns-then-branch-clause-asked g c = asked_then (asked_then c.look_used.ensures.asked c.take_seen.ensures.asked) c.keep_mark.ensures.asked

pub returns-clause-asked : goal.returns-clause-asked
returns-clause-asked g c = asked_then c.look_used.ensures.asked c.take_seen.ensures.asked
