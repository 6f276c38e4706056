use Rattle.std.proofs.Common.{arith}
use Rattle.seat_costs.proofs.AskedLemmas.{asked_then}
use Rattle.large_block.proofs.SplitLemmas.{clearing_on, clearing_row, still_split}
use Rattle.large_block.proofs.splits.clear_anchors.Goals as goal

pub clear_anchor-requires-clause-split : goal.clear_anchor-requires-clause-split
clear_anchor-requires-clause-split g c =
    still_split c.args.seat.now c.loop-e.seat c.args.span.first c.loop-e.e c.loop-e.auto.e c.loop-e.invariant.clearing
    (c.requires.split c.loop-e.e c.loop-e.auto.e c.loop-e-test.true)

pub returns-in_err-clear_anchor-clause-row : goal.returns-in_err-clear_anchor-clause-row
returns-in_err-clear_anchor-clause-row g c =
    clearing_row c.args.seat.now c.loop-e.seat c.clear_anchor.new.seat c.args.span.first c.args.span.count c.loop-e.e c.loop-e.auto.e
    c.loop-e-test.true c.loop-e.invariant.clearing c.clear_anchor.ensures.row

pub loop-e-preserved : goal.loop-e-preserved
loop-e-preserved g c = record {
  clearing = clearing_on c.args.seat.now c.loop-e.seat c.clear_anchor.new.seat c.args.span.first c.loop-e.e c.loop-e.auto.e
      (let inside = c.requires.inside in let until = c.loop-e-test.true in omega arith)
      c.loop-e.invariant.clearing c.in_ok-clear_anchor.ensures.cleared c.clear_anchor.ensures.losses c.clear_anchor.ensures.row;
  asked = asked_then c.loop-e.invariant.asked c.clear_anchor.ensures.asked;
  is_of = c.clear_anchor.ensures.seat;
}

pub returns-in_err-clear_anchor-clause-asked : goal.returns-in_err-clear_anchor-clause-asked
returns-in_err-clear_anchor-clause-asked g c = asked_then c.loop-e.invariant.asked c.clear_anchor.ensures.asked
