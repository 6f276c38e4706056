use Rattle.std.proofs.Common.{inl}
use Rattle.seat_costs.proofs.AskedLemmas.{asked_none, asked_then}
use Rattle.seat_costs.proofs.RowLemmas.{marks_behind}
use Rattle.cache_flush.proofs.FlushingLemmas.{flushing_begins, flushing_most, flushing_on, flushing_row}
use Rattle.cache_flush.proofs.flushes.flush.Goals as goal

pub loop-class-init : goal.loop-class-init
loop-class-init g c = record {
  flushing = flushing_begins c.args.seat.now.view c.args.class.number c.requires.going;
  marks = λ k held marked. inl marked;
  asked = asked_none c.args.seat.now.view c.args.chance.now;
  is_of = c.requires.seat;
}

pub loop-class-preserved : goal.loop-class-preserved
loop-class-preserved g c = record {
  flushing = flushing_on c.args.seat.now.view c.loop-class.seat.view c.recall_soundness.ensures c.args.class.number c.args.class.is
      c.loop-class.invariant.flushing c.flush_prefix.new.seat.view c.in_ok-flush_prefix.ensures.flushed;
  marks = marks_behind c.args.seat.now c.loop-class.seat c.flush_prefix.new.seat c.loop-class.invariant.flushing.row
      c.loop-class.invariant.marks c.flush_prefix.ensures.row;
  asked = asked_then c.loop-class.invariant.asked c.flush_prefix.ensures.asked;
  is_of = c.flush_prefix.ensures.seat;
}

pub returns-then-count-eq0-clause-row : goal.returns-then-count-eq0-clause-row
returns-then-count-eq0-clause-row g c = record {
  view = flushing_row c.args.seat.now.view c.loop-class.seat.view c.recall_soundness.ensures c.args.class.number c.args.class.is
      c.loop-class.invariant.flushing;
  marks = c.loop-class.invariant.marks;
}

pub returns-in_err-flush_prefix-clause-row : goal.returns-in_err-flush_prefix-clause-row
returns-in_err-flush_prefix-clause-row g c = record {
  view = flushing_most c.args.seat.now.view c.loop-class.seat.view c.recall_soundness.ensures c.args.class.number c.args.class.is
      c.loop-class.invariant.flushing c.flush_prefix.new.seat.view c.flush_prefix.ensures.row.view;
  marks = marks_behind c.args.seat.now c.loop-class.seat c.flush_prefix.new.seat c.loop-class.invariant.flushing.row
      c.loop-class.invariant.marks c.flush_prefix.ensures.row;
}

pub returns-in_err-flush_prefix-clause-asked : goal.returns-in_err-flush_prefix-clause-asked
returns-in_err-flush_prefix-clause-asked g c = asked_then c.loop-class.invariant.asked c.flush_prefix.ensures.asked
