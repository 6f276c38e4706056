use Rattle.std.proofs.Common.{inl, subst}
use Rattle.seat_costs.proofs.AskedLemmas.{asked_none, asked_then}
use Rattle.seat_costs.proofs.RowLemmas.{marks_behind}
use Rattle.superblock_lists.specs.Pushes.{Pushes}
use Rattle.superblock_lists.proofs.HandLemmas.{pushed_free}
use Rattle.superblock_lists.proofs.PushLemmas.{pushing_begins, pushing_done, pushing_on, pushing_row}
use Rattle.superblock_lists.proofs.pushes.push_to.Goals as goal

pub loop-init : goal.loop-init
loop-init g c = record {
  pushing = pushing_begins c.args.seat.now.view c.args.list c.args.d c.requires.can c.requires.durable;
  marks = λ k held marked. inl marked;
  asked = asked_none c.args.seat.now.view c.args.chance.now;
  is_of = c.requires.seat;
}

pub returns-clause-done : goal.returns-clause-done
returns-clause-done g c =
    pushing_done c.args.seat.now.view c.loop.seat.view c.try_push_to.new.seat.view c.args.list c.args.d c.loop.invariant.pushing
    (subst (λ won. Pushes c.args.list c.args.d 3 won c.loop.seat.view c.try_push_to.new.seat.view)
    c.if-not-branch.false c.in_ok-try_push_to.ensures.done)

pub returns-clause-free : goal.returns-clause-free
returns-clause-free g c =
    pushed_free c.args.seat.now.view c.try_push_to.new.seat.view c.recall_soundness.ensures c.args.d c.args.list c.requires.can
    (pushing_done c.args.seat.now.view c.loop.seat.view c.try_push_to.new.seat.view c.args.list c.args.d c.loop.invariant.pushing
    (subst (λ won. Pushes c.args.list c.args.d 3 won c.loop.seat.view c.try_push_to.new.seat.view)
    c.if-not-branch.false c.in_ok-try_push_to.ensures.done))

pub returns-in_err-try_push_to-clause-row : goal.returns-in_err-try_push_to-clause-row
returns-in_err-try_push_to-clause-row g c = record {
  view = pushing_row c.args.seat.now.view c.loop.seat.view c.try_push_to.new.seat.view c.args.list c.args.d c.loop.invariant.pushing
      c.try_push_to.ensures.row.view;
  marks = marks_behind c.args.seat.now c.loop.seat c.try_push_to.new.seat c.loop.invariant.pushing.row c.loop.invariant.marks c.try_push_to.ensures.row;
}

pub returns-clause-row : goal.returns-clause-row
returns-clause-row g c = record {
  view = pushing_row c.args.seat.now.view c.loop.seat.view c.try_push_to.new.seat.view c.args.list c.args.d c.loop.invariant.pushing
      c.try_push_to.ensures.row.view;
  marks = marks_behind c.args.seat.now c.loop.seat c.try_push_to.new.seat c.loop.invariant.pushing.row c.loop.invariant.marks c.try_push_to.ensures.row;
}

pub loop-preserved : goal.loop-preserved
loop-preserved g c = record {
  pushing = pushing_on c.args.seat.now.view c.loop.seat.view c.try_push_to.new.seat.view c.args.list c.args.d c.loop.invariant.pushing
      (subst (λ won. Pushes c.args.list c.args.d 3 won c.loop.seat.view c.try_push_to.new.seat.view)
      c.if-not-branch.true c.in_ok-try_push_to.ensures.done);
  marks = marks_behind c.args.seat.now c.loop.seat c.try_push_to.new.seat c.loop.invariant.pushing.row c.loop.invariant.marks c.try_push_to.ensures.row;
  asked = asked_then c.loop.invariant.asked c.try_push_to.ensures.asked;
  is_of = c.try_push_to.ensures.seat;
}

pub returns-in_err-try_push_to-clause-asked : goal.returns-in_err-try_push_to-clause-asked
returns-in_err-try_push_to-clause-asked g c = asked_then c.loop.invariant.asked c.try_push_to.ensures.asked

pub returns-clause-asked : goal.returns-clause-asked
returns-clause-asked g c = asked_then c.loop.invariant.asked c.try_push_to.ensures.asked
