use Rattle.seat_costs.proofs.AskedLemmas.{asked_step}
use Rattle.seat_costs.proofs.RowLemmas.{then_storing}
use Rattle.seat_costs.proofs.StoreLemmas.{storing_row}
use Rattle.thread_cache.proofs.SmallLemmas.{can_lead, way_left}
use Rattle.thread_cache.proofs.small.lead_to_cache.Goals as goal

pub store_word-requires-clause-can : goal.store_word-requires-clause-can
store_word-requires-clause-can g c = can_lead c.args.seat.now.view c.recall_soundness.ensures c.args.class.number c.args.block c.args.class.is
    c.requires.held c.draw.new.seat.view c.cache-first.result.0 c.in_ok-draw.ensures.drawn

pub returns-clause-way : goal.returns-clause-way
returns-clause-way g c = let e = c.store_word.ensures.event in
    way_left c.args.seat.now.view c.recall_soundness.ensures c.args.class.number c.args.block c.args.class.is c.requires.held
    c.draw.new.seat.view c.store_word.new.self.view c.cache-first.result.0 e.0 c.in_ok-draw.ensures.drawn c.cache-first.ensures.first e.1

pub returns-clause-row : goal.returns-clause-row
returns-clause-row g c = let e = c.store_word.ensures.event in
    then_storing c.args.block c.args.seat.now c.draw.new.seat c.store_word.new.self c.draw.ensures.row
    (storing_row c.args.block c.cache-first.result.0 c.draw.new.seat c.store_word.new.self e.0 e.1 c.store_word.ensures.stores)

pub returns-clause-asked : goal.returns-clause-asked
returns-clause-asked g c = asked_step tt c.draw.ensures.numbers c.store_word.ensures.event.1
