use Rattle.std.proofs.Common.{inl, subst}
use Rattle.seat_costs.proofs.AskedLemmas.{asked_none, asked_then}
use Rattle.seat_costs.proofs.RowLemmas.{marks_behind}
use Rattle.std.proofs.lemmas.Result.{err_from_is_err_and}
use Rattle.superblock_lists.specs.Pops.{TriesPop}
use Rattle.superblock_lists.proofs.TryLemmas.{tries_begin, tries_less, tries_on, tries_row, tries_stop}
use Rattle.superblock_lists.proofs.pops.pop_from.Goals as goal

pub loop-pop-init : goal.loop-pop-init
loop-pop-init g c = record {
  trying = tries_begin c.args.list c.args.seat.now.view;
  marks = λ k held marked. inl marked;
  asked = asked_none c.args.seat.now.view c.args.chance.now;
  is_of = c.requires.seat;
}

pub returns-in_err-pop-clause-stopped : goal.returns-in_err-pop-clause-stopped
returns-in_err-pop-clause-stopped g c = let p = err_from_is_err_and c.from_residual.result c.from_residual.ensures.1 in
    rw (p.1, p.2) (tries_stop c.args.list c.args.seat.now.view c.loop-pop.seat.view c.try_pop_from.new.seat.view c.in_err-pop.field-0.0.step
    c.loop-pop.invariant.trying c.in_err-pop.ensures.stopped)

pub returns-in_err-pop-clause-row : goal.returns-in_err-pop-clause-row
returns-in_err-pop-clause-row g c =
    record {
      view = tries_row c.args.list c.args.seat.now.view c.loop-pop.seat.view c.try_pop_from.new.seat.view c.loop-pop.invariant.trying
          c.try_pop_from.ensures.row.view;
      marks = marks_behind c.args.seat.now c.loop-pop.seat c.try_pop_from.new.seat c.loop-pop.invariant.trying.row c.loop-pop.invariant.marks
          c.try_pop_from.ensures.row;
    }

pub loop-pop-preserved : goal.loop-pop-preserved
loop-pop-preserved g c = record {
  trying = tries_on c.args.list c.args.seat.now.view c.loop-pop.seat.view c.try_pop_from.new.seat.view c.loop-pop.invariant.trying
      (subst (λ pop. TriesPop c.args.list pop c.loop-pop.seat.view c.try_pop_from.new.seat.view) c.in_default.is c.in_ok-pop.ensures.done);
  marks = marks_behind c.args.seat.now c.loop-pop.seat c.try_pop_from.new.seat c.loop-pop.invariant.trying.row c.loop-pop.invariant.marks
      c.try_pop_from.ensures.row;
  asked = asked_then c.loop-pop.invariant.asked c.try_pop_from.ensures.asked;
  is_of = c.try_pop_from.ensures.seat;
}

pub loop-pop-smaller : goal.loop-pop-smaller
loop-pop-smaller g c =
    tries_less c.args.list c.loop-pop.seat.view c.try_pop_from.new.seat.view
    (subst (λ pop. TriesPop c.args.list pop c.loop-pop.seat.view c.try_pop_from.new.seat.view) c.in_default.is c.in_ok-pop.ensures.done)

pub returns-in-Some-clause-row : goal.returns-in-Some-clause-row
returns-in-Some-clause-row g c = record {
  view = tries_row c.args.list c.args.seat.now.view c.loop-pop.seat.view c.try_pop_from.new.seat.view c.loop-pop.invariant.trying
      c.try_pop_from.ensures.row.view;
  marks = marks_behind c.args.seat.now c.loop-pop.seat c.try_pop_from.new.seat c.loop-pop.invariant.trying.row c.loop-pop.invariant.marks
      c.try_pop_from.ensures.row;
}

pub returns-in_err-pop-clause-asked : goal.returns-in_err-pop-clause-asked
returns-in_err-pop-clause-asked g c = asked_then c.loop-pop.invariant.asked c.try_pop_from.ensures.asked

pub returns-in-Some-clause-asked : goal.returns-in-Some-clause-asked
returns-in-Some-clause-asked g c = asked_then c.loop-pop.invariant.asked c.try_pop_from.ensures.asked
