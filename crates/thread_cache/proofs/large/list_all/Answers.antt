use Rattle.seat_costs.proofs.AskedLemmas.{asked_then}
use Rattle.thread_cache.proofs.SpanLemmas.{can_push, listing_on, listing_row}
use Rattle.thread_cache.proofs.large.list_all.Goals as goal

pub push-requires-clause-can : goal.push-requires-clause-can
push-requires-clause-can g c =
    can_push c.args.seat.now c.loop-d.seat c.args.span.first c.args.span.count c.loop-d.d c.loop-d.auto.d c.loop-d-test.true
    c.loop-d.invariant.listing c.requires.no_cutting

pub loop-d-preserved : goal.loop-d-preserved
loop-d-preserved g c = record {
  listing = listing_on c.args.seat.now c.loop-d.seat c.args.span.first c.args.span.count c.loop-d.d c.loop-d.auto.d c.loop-d-test.true
      c.loop-d.invariant.listing c.requires.no_cutting
      c.push.new.seat c.push.ensures.row c.requires.no_split c.in_ok-push.ensures.done;
  asked = asked_then c.loop-d.invariant.asked c.push.ensures.asked;
  is_of = c.push.ensures.seat;
}

pub returns-in_err-push-clause-row : goal.returns-in_err-push-clause-row
returns-in_err-push-clause-row g c =
    listing_row c.args.seat.now c.loop-d.seat c.args.span.first c.args.span.count c.loop-d.d c.loop-d.auto.d c.loop-d-test.true
    c.loop-d.invariant.listing c.requires.no_cutting
    c.push.new.seat c.push.ensures.row

pub returns-in_err-push-clause-asked : goal.returns-in_err-push-clause-asked
returns-in_err-push-clause-asked g c = asked_then c.loop-d.invariant.asked c.push.ensures.asked
