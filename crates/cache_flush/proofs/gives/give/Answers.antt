use Rattle.std.proofs.Common.{inl, subst}
use Rattle.seat_costs.proofs.AskedLemmas.{asked_none, asked_then}
use Rattle.seat_costs.proofs.RowLemmas.{marks_behind}
use Rattle.cache_flush.specs.Gives.{Gives}
use Rattle.cache_flush.proofs.GiveLemmas.{giving_row, giving_begins, giving_on}
use Rattle.cache_flush.proofs.gives.give.Goals as goal

pub loop-full-init : goal.loop-full-init
loop-full-init g c = record {
  giving = giving_begins c.args.seat.now.view c.args.d c.args.class.number c.args.last c.requires.batch;
  marks = λ k held marked. inl marked;
  asked = asked_none c.args.seat.now.view c.args.chance.now;
  is_of = c.requires.seat;
}

pub loop-full-preserved : goal.loop-full-preserved
loop-full-preserved g c = record {
  giving = giving_on c.args.seat.now.view c.loop-full.seat.view c.try_give.new.seat.view c.args.d c.args.class.number c.args.last
      c.loop-full.invariant.giving
      (subst (λ answer. Gives c.args.d c.args.class.number 3 answer c.loop-full.seat.view c.try_give.new.seat.view)
      c.in_default.is c.in_ok-full.ensures.given);
  marks = marks_behind c.args.seat.now c.loop-full.seat c.try_give.new.seat c.loop-full.invariant.giving.row c.loop-full.invariant.marks
      c.try_give.ensures.row;
  asked = asked_then c.loop-full.invariant.asked c.try_give.ensures.asked;
  is_of = c.try_give.ensures.seat;
}

pub returns-in_err-full-clause-row : goal.returns-in_err-full-clause-row
returns-in_err-full-clause-row g c = record {
  view = giving_row c.args.seat.now.view c.loop-full.seat.view c.try_give.new.seat.view c.args.d c.args.class.number c.args.last
      c.loop-full.invariant.giving c.try_give.ensures.row.view;
  marks = marks_behind c.args.seat.now c.loop-full.seat c.try_give.new.seat c.loop-full.invariant.giving.row c.loop-full.invariant.marks
      c.try_give.ensures.row;
}

pub returns-in-Some-clause-row : goal.returns-in-Some-clause-row
returns-in-Some-clause-row g c = record {
  view = giving_row c.args.seat.now.view c.loop-full.seat.view c.try_give.new.seat.view c.args.d c.args.class.number c.args.last
      c.loop-full.invariant.giving c.try_give.ensures.row.view;
  marks = marks_behind c.args.seat.now c.loop-full.seat c.try_give.new.seat c.loop-full.invariant.giving.row c.loop-full.invariant.marks
      c.try_give.ensures.row;
}

pub returns-in_err-full-clause-asked : goal.returns-in_err-full-clause-asked
returns-in_err-full-clause-asked g c = asked_then c.loop-full.invariant.asked c.try_give.ensures.asked

pub returns-in-Some-clause-asked : goal.returns-in-Some-clause-asked
returns-in-Some-clause-asked g c = asked_then c.loop-full.invariant.asked c.try_give.ensures.asked
