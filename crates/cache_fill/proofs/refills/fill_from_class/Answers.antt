use Rattle.std.proofs.Common.{inl, subst}
use Rattle.seat_costs.proofs.AskedLemmas.{asked_none, asked_then}
use Rattle.seat_costs.proofs.RowLemmas.{marks_behind}
use Rattle.cache_fill.specs.Refills.{TriesFrom}
use Rattle.cache_fill.proofs.TakeLemmas.{uncached_still}
use Rattle.cache_fill.proofs.ClassFillLemmas.{filling_begins, filling_done, filling_less, filling_on}
use Rattle.cache_fill.proofs.FillRowLemmas.{fill_then}
use Rattle.cache_fill.proofs.refills.fill_from_class.Goals as goal

pub loop-from-init : goal.loop-from-init
loop-from-init g c = record {
  filling = filling_begins c.args.seat.now.view;
  marks = λ k held marked. inl marked;
  asked = asked_none c.args.seat.now.view c.args.chance.now;
  is_of = c.requires.seat;
}

pub loop-from-preserved : goal.loop-from-preserved
loop-from-preserved g c = record {
  filling = filling_on c.args.seat.now.view c.loop-from.seat.view c.try_fill_from_class.new.seat.view c.loop-from.invariant.filling
      (subst (λ from. TriesFrom c.args.class.number from c.loop-from.seat.view c.try_fill_from_class.new.seat.view)
      c.in_default.is c.in_ok-from.ensures.done);
  marks = marks_behind c.args.seat.now c.loop-from.seat c.try_fill_from_class.new.seat c.loop-from.invariant.filling.row
      c.loop-from.invariant.marks c.try_fill_from_class.ensures.row;
  asked = asked_then c.loop-from.invariant.asked c.try_fill_from_class.ensures.asked;
  is_of = c.try_fill_from_class.ensures.seat;
}

pub returns-in_err-from-clause-row : goal.returns-in_err-from-clause-row
returns-in_err-from-clause-row g c = record {
  view = fill_then c.args.seat.now.view c.loop-from.seat.view c.try_fill_from_class.new.seat.view c.loop-from.invariant.filling.row
      c.try_fill_from_class.ensures.row.view;
  marks = marks_behind c.args.seat.now c.loop-from.seat c.try_fill_from_class.new.seat c.loop-from.invariant.filling.row
      c.loop-from.invariant.marks c.try_fill_from_class.ensures.row;
}

pub returns-in-Some-clause-row : goal.returns-in-Some-clause-row
returns-in-Some-clause-row g c = record {
  view = fill_then c.args.seat.now.view c.loop-from.seat.view c.try_fill_from_class.new.seat.view c.loop-from.invariant.filling.row
      c.try_fill_from_class.ensures.row.view;
  marks = marks_behind c.args.seat.now c.loop-from.seat c.try_fill_from_class.new.seat c.loop-from.invariant.filling.row
      c.loop-from.invariant.marks c.try_fill_from_class.ensures.row;
}

pub returns-in-Some-clause-done : goal.returns-in-Some-clause-done
returns-in-Some-clause-done g c =
    filling_done c.args.seat.now.view c.loop-from.seat.view c.try_fill_from_class.new.seat.view c.args.class.number c.in-Some.from
    c.loop-from.invariant.filling
    (subst (λ from. TriesFrom c.args.class.number from c.loop-from.seat.view c.try_fill_from_class.new.seat.view)
    c.in-Some.is c.in_ok-from.ensures.done)

pub loop-from-smaller : goal.loop-from-smaller
loop-from-smaller g c =
    filling_less c.loop-from.seat.view c.try_fill_from_class.new.seat.view
    (subst (λ from. TriesFrom c.args.class.number from c.loop-from.seat.view c.try_fill_from_class.new.seat.view)
    c.in_default.is c.in_ok-from.ensures.done)

pub try_fill_from_class-requires-clause-uncached : goal.try_fill_from_class-requires-clause-uncached
try_fill_from_class-requires-clause-uncached g c = uncached_still c.args.seat.now.view c.loop-from.seat.view c.args.class.number
    c.loop-from.invariant.filling.parts_are c.requires.uncached

pub returns-in_err-from-clause-asked : goal.returns-in_err-from-clause-asked
returns-in_err-from-clause-asked g c = asked_then c.loop-from.invariant.asked c.try_fill_from_class.ensures.asked

pub returns-in-Some-clause-asked : goal.returns-in-Some-clause-asked
returns-in-Some-clause-asked g c = asked_then c.loop-from.invariant.asked c.try_fill_from_class.ensures.asked
