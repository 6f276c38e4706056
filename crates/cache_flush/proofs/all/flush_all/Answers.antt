use Rattle.std.proofs.Common.{◌+◌, inl, subst, sym}
use Rattle.seat_costs.proofs.AskedLemmas.{asked_none, asked_then}
use Rattle.seat_costs.proofs.RowLemmas.{marks_behind}
use Rattle.cache_flush.proofs.AllLemmas.{FlushedBelow, all_begins, all_done, all_most, all_on, all_row}
use Rattle.cache_flush.proofs.all.flush_all.Goals as goal

pub loop-number-init : goal.loop-number-init
loop-number-init g c = record {
  flushed = all_begins c.args.seat.now.view c.requires.going;
  marks = λ k held marked. inl marked;
  asked = asked_none c.args.seat.now.view c.args.chance.now;
  is_of = c.requires.seat;
}

pub returns-in_err-flush-clause-row : goal.returns-in_err-flush-clause-row
returns-in_err-flush-clause-row g c = let v = c.args.seat.now.view in let t = c.loop-number.seat.view in record {
  view = all_most v t c.recall_soundness.ensures c.new.result.number c.new.result.is
      (subst (λ n. FlushedBelow n v t) (sym c.new.ensures) c.loop-number.invariant.flushed) c.flush.new.seat.view c.flush.ensures.row.view;
  marks = marks_behind c.args.seat.now c.loop-number.seat c.flush.new.seat c.loop-number.invariant.flushed.row c.loop-number.invariant.marks
      c.flush.ensures.row;
}

pub loop-number-preserved : goal.loop-number-preserved
loop-number-preserved g c = let v = c.args.seat.now.view in let t = c.loop-number.seat.view in record {
  flushed = subst (λ n. FlushedBelow (n + 1) v c.flush.new.seat.view) c.new.ensures
      (all_on v t c.recall_soundness.ensures c.new.result.number c.new.result.is
      (subst (λ n. FlushedBelow n v t) (sym c.new.ensures) c.loop-number.invariant.flushed)
      c.flush.new.seat.view c.in_ok-flush.ensures.flushed c.flush.ensures.row.view);
  marks = marks_behind c.args.seat.now c.loop-number.seat c.flush.new.seat c.loop-number.invariant.flushed.row c.loop-number.invariant.marks
      c.flush.ensures.row;
  asked = asked_then c.loop-number.invariant.asked c.flush.ensures.asked;
  is_of = c.flush.ensures.seat;
}

pub returns-clause-row : goal.returns-clause-row
returns-clause-row g c = record {
  view = all_row c.args.seat.now.view c.loop-number.seat.view c.loop-number.number c.loop-number.invariant.flushed;
  marks = c.loop-number.invariant.marks;
}

pub returns-clause-flushed : goal.returns-clause-flushed
returns-clause-flushed g c = all_done c.args.seat.now.view c.loop-number.seat.view c.loop-number.number c.recall_soundness-2.ensures
    c.loop-number-test.false c.loop-number.invariant.flushed

pub returns-in_err-flush-clause-asked : goal.returns-in_err-flush-clause-asked
returns-in_err-flush-clause-asked g c = asked_then c.loop-number.invariant.asked c.flush.ensures.asked
