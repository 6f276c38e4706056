use Rattle.std.proofs.Common.{inl, subst}
use Rattle.std.proofs.lemmas.Result.{err_from_is_err_and}
use Rattle.seat_costs.proofs.AskedLemmas.{asked_none, asked_then}
use Rattle.seat_costs.proofs.RowLemmas.{marks_behind}
use Rattle.large_block.specs.Fresh.{TriesTake}
use Rattle.large_block.proofs.FreshLemmas.{alone}
use Rattle.large_block.proofs.TryLemmas.{tries_begin, tries_less, tries_on, tries_row, tries_stop}
use Rattle.large_block.proofs.fresh.take_fresh.Goals as goal

pub loop-take-init : goal.loop-take-init
loop-take-init g c = record {
  trying = tries_begin c.args.seat.now.view;
  marks = λ k held marked. inl marked;
  asked = asked_none c.args.seat.now.view c.args.chance.now;
  is_of = c.requires.seat;
}

pub returns-in_err-take-clause-stopped : goal.returns-in_err-take-clause-stopped
returns-in_err-take-clause-stopped g c = let p = err_from_is_err_and c.from_residual.result c.from_residual.ensures.1 in
    rw (p.1, p.2) (tries_stop c.args.seat.now.view c.loop-take.seat.view c.try_take.new.seat.view c.in_err-take.field-0.0.step
    c.loop-take.invariant.trying c.in_err-take.ensures.stopped)

pub returns-in_err-take-clause-row : goal.returns-in_err-take-clause-row
returns-in_err-take-clause-row g c = record {
  view = tries_row c.args.seat.now.view c.loop-take.seat.view c.try_take.new.seat.view c.args.n c.loop-take.invariant.trying
      c.try_take.ensures.row.view;
  marks = marks_behind c.args.seat.now c.loop-take.seat c.try_take.new.seat c.loop-take.invariant.trying.row c.loop-take.invariant.marks
      c.try_take.ensures.row;
}

pub loop-take-preserved : goal.loop-take-preserved
loop-take-preserved g c = record {
  trying = tries_on c.args.seat.now.view c.loop-take.seat.view c.try_take.new.seat.view c.loop-take.invariant.trying
      (subst (λ take. TriesTake c.args.n take c.loop-take.seat.view c.try_take.new.seat.view) c.in_default.is c.in_ok-take.ensures.done);
  marks = marks_behind c.args.seat.now c.loop-take.seat c.try_take.new.seat c.loop-take.invariant.trying.row c.loop-take.invariant.marks
      c.try_take.ensures.row;
  asked = asked_then c.loop-take.invariant.asked c.try_take.ensures.asked;
  is_of = c.try_take.ensures.seat;
}

pub loop-take-smaller : goal.loop-take-smaller
loop-take-smaller g c =
    tries_less c.loop-take.seat.view c.try_take.new.seat.view (subst
    (λ take. TriesTake c.args.n take c.loop-take.seat.view c.try_take.new.seat.view) c.in_default.is c.in_ok-take.ensures.done)

pub returns-in-Some-clause-row : goal.returns-in-Some-clause-row
returns-in-Some-clause-row g c = record {
  view = tries_row c.args.seat.now.view c.loop-take.seat.view c.try_take.new.seat.view c.args.n c.loop-take.invariant.trying
      c.try_take.ensures.row.view;
  marks = marks_behind c.args.seat.now c.loop-take.seat c.try_take.new.seat c.loop-take.invariant.trying.row c.loop-take.invariant.marks
      c.try_take.ensures.row;
}

pub returns-in-Some-clause-alone : goal.returns-in-Some-clause-alone
returns-in-Some-clause-alone g c = alone c.a_claimed_superblock_is_in_one_hand.ensures c.loop-take.seat.view c.try_take.new.seat.view c.args.n
    c.in-Some.take
    (subst (λ take. TriesTake c.args.n take c.loop-take.seat.view c.try_take.new.seat.view) c.in-Some.is c.in_ok-take.ensures.done)

pub returns-in_err-take-clause-asked : goal.returns-in_err-take-clause-asked
returns-in_err-take-clause-asked g c = asked_then c.loop-take.invariant.asked c.try_take.ensures.asked

pub returns-in-Some-clause-asked : goal.returns-in-Some-clause-asked
returns-in-Some-clause-asked g c = asked_then c.loop-take.invariant.asked c.try_take.ensures.asked
