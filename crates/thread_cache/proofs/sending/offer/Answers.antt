use Rattle.std.proofs.Common.{subst, ap}
use Rattle.core_model.specs.View.{View}
use Rattle.heap_rule.specs.Carried.{Carries}
use Rattle.thread_cache.proofs.HandedRows.{offer_row, offer_sent}
use Rattle.seat_costs.proofs.AskedLemmas.{asked_alike}
use Rattle.thread_cache.proofs.ParcelLemmas.{holds_still, may_hand}
use Rattle.thread_cache.proofs.sending.offer.Goals as goal

pub offer-requires-clause-may : goal.offer-requires-clause-may
offer-requires-clause-may g c = may_hand c.args.seat.now.view c.draw.new.seat.view c.in_ok-draw.ensures.drawn c.recall_soundness.ensures

pub offer-requires-clause-held : goal.offer-requires-clause-held
offer-requires-clause-held g c = holds_still c.args.seat.now.view c.draw.new.seat.view c.args.block c.in_ok-draw.ensures.drawn c.requires.held

pub returns-clause-offered : goal.returns-clause-offered
returns-clause-offered g c = record {
  behind = c.draw.new.seat.view;
  drawn = c.in_ok-draw.ensures.drawn;
  has = c.recall_soundness.ensures;
  left = c.offer.ensures.view;
  at_table = c.offer.ensures.carrier_table;
  carried = c.offer.ensures.carrier;
  block = c.offer.ensures.block;
  carries = subst (λ (u : View). Carries u.setup.capacity c.offer.result.view c.args.block) c.in_ok-draw.ensures.drawn.left c.offer.ensures.carries;
}

pub returns-clause-sent : goal.returns-clause-sent
returns-clause-sent g c = offer_sent c.args.seat.now.view c.draw.new.seat.view c.args.block.first_word c.offer.result.view
    c.draw.ensures.row.view c.in_ok-draw.ensures.drawn c.offer.ensures.carrier

pub returns-clause-row : goal.returns-clause-row
returns-clause-row g c = offer_row c.args.seat.now c.draw.new.seat c.offer.new.self c.args.block c.draw.ensures.row c.in_ok-draw.ensures.drawn
    c.draw.ensures.stores c.offer.ensures.view c.offer.ensures.stores

pub returns-clause-asked : goal.returns-clause-asked
returns-clause-asked g c = asked_alike c.draw.ensures.numbers (ap (λ (x : View). x.draws) c.offer.ensures.view)
