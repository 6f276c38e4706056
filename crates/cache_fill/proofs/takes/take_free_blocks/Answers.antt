use Rattle.std.proofs.Common.{inl, subst}
use Rattle.seat_costs.proofs.AskedLemmas.{asked_none, asked_then}
use Rattle.seat_costs.proofs.RowLemmas.{marks_behind}
use Rattle.cache_fill.specs.Takes.{TriesFree}
use Rattle.cache_fill.proofs.TakeLemmas.{none_row, taking_begins, taking_done, taking_on, taking_row}
use Rattle.cache_fill.proofs.takes.take_free_blocks.Goals as goal

pub loop-taken-init : goal.loop-taken-init
loop-taken-init g c = record {
  taking = taking_begins c.args.seat.now.view;
  marks = λ k held marked. inl marked;
  asked = asked_none c.args.seat.now.view c.args.chance.now;
  is_of = c.requires.seat;
}

pub loop-taken-preserved : goal.loop-taken-preserved
loop-taken-preserved g c = record {
  taking = taking_on c.args.seat.now.view c.loop-taken.seat.view c.try_take.new.seat.view c.loop-taken.invariant.taking
      (subst (λ taken. TriesFree c.args.d c.args.class.number taken c.loop-taken.seat.view c.try_take.new.seat.view)
      c.in_default.is c.in_ok-taken.ensures.done);
  marks = marks_behind c.args.seat.now c.loop-taken.seat c.try_take.new.seat c.loop-taken.invariant.taking.row c.loop-taken.invariant.marks
      c.try_take.ensures.row;
  asked = asked_then c.loop-taken.invariant.asked c.try_take.ensures.asked;
  is_of = c.try_take.ensures.seat;
}

pub returns-in_err-taken-clause-row : goal.returns-in_err-taken-clause-row
returns-in_err-taken-clause-row g c = record {
  view = taking_row c.args.seat.now.view c.loop-taken.seat.view c.try_take.new.seat.view c.loop-taken.invariant.taking c.try_take.ensures.row.view;
  marks = marks_behind c.args.seat.now c.loop-taken.seat c.try_take.new.seat c.loop-taken.invariant.taking.row c.loop-taken.invariant.marks
      c.try_take.ensures.row;
}

pub returns-in-Some-clause-row : goal.returns-in-Some-clause-row
returns-in-Some-clause-row g c = record {
  view = taking_row c.args.seat.now.view c.loop-taken.seat.view c.try_take.new.seat.view c.loop-taken.invariant.taking c.try_take.ensures.row.view;
  marks = marks_behind c.args.seat.now c.loop-taken.seat c.try_take.new.seat c.loop-taken.invariant.taking.row c.loop-taken.invariant.marks
      c.try_take.ensures.row;
}

pub returns-in-Some-clause-taken : goal.returns-in-Some-clause-taken
returns-in-Some-clause-taken g c =
    taking_done c.args.seat.now.view c.loop-taken.seat.view c.try_take.new.seat.view c.args.d c.args.class.number c.in-Some.taken
    c.loop-taken.invariant.taking
    (subst (λ taken. TriesFree c.args.d c.args.class.number taken c.loop-taken.seat.view c.try_take.new.seat.view)
    c.in-Some.is c.in_ok-taken.ensures.done)

pub returns-in-Some-clause-none : goal.returns-in-Some-clause-none
returns-in-Some-clause-none g c = λ none. record {
  view = none_row c.args.seat.now.view c.try_take.new.seat.view c.args.d c.args.class.number c.in-Some.taken
      (taking_done c.args.seat.now.view c.loop-taken.seat.view c.try_take.new.seat.view c.args.d c.args.class.number c.in-Some.taken
      c.loop-taken.invariant.taking
      (subst (λ taken. TriesFree c.args.d c.args.class.number taken c.loop-taken.seat.view c.try_take.new.seat.view)
      c.in-Some.is c.in_ok-taken.ensures.done)) none;
  marks = marks_behind c.args.seat.now c.loop-taken.seat c.try_take.new.seat c.loop-taken.invariant.taking.row c.loop-taken.invariant.marks
      c.try_take.ensures.row;
}

pub returns-in_err-taken-clause-asked : goal.returns-in_err-taken-clause-asked
returns-in_err-taken-clause-asked g c = asked_then c.loop-taken.invariant.asked c.try_take.ensures.asked

pub returns-in-Some-clause-asked : goal.returns-in-Some-clause-asked
returns-in-Some-clause-asked g c = asked_then c.loop-taken.invariant.asked c.try_take.ensures.asked
