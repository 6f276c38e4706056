use Rattle.seat_costs.proofs.AskedLemmas.{asked_then}
use Rattle.seat_costs.proofs.ShiftLemmas.{shift_row}
use Rattle.core_model.specs.declared.event.Shift.TheVariants.{Free}
use Rattle.thread_cache.proofs.SmallLemmas.{cached_told, free_stopped, freed_row, lead_row, may_hold_less}
use Rattle.thread_cache.proofs.small.free_cached.Goals as goal

pub returns-in_err-lead_to_cache-clause-row : goal.returns-in_err-lead_to_cache-clause-row
returns-in_err-lead_to_cache-clause-row g c = lead_row c.args.seat.now c.lead_to_cache.new.seat c.args.class.number c.args.block c.args.class.is
    c.lead_to_cache.ensures.row

pub returns-clause-cached : goal.returns-clause-cached
returns-clause-cached g c = let way = c.in_ok-lead_to_cache.ensures.way in let e = c.draw_with.ensures.event way.going in
    cached_told c.args.seat.now.view c.recall_soundness.ensures c.args.class.number c.args.block c.args.class.is c.requires.held
    c.lead_to_cache.new.seat.view e.0 c.draw_with.new.seat.view e.2 way e.1 e.3 c.draw_with.result c.draw_with.ensures.told

pub returns-clause-may : goal.returns-clause-may
returns-clause-may g c = let way = c.in_ok-lead_to_cache.ensures.way in let e = c.draw_with.ensures.event way.going in
    may_hold_less c.args.seat.now.view c.recall_soundness.ensures c.args.class.number c.args.block c.args.class.is c.requires.held
    c.lead_to_cache.new.seat.view e.0 c.draw_with.new.seat.view e.2 way e.1 e.3

pub returns-clause-stopped : goal.returns-clause-stopped
returns-clause-stopped g c = let way = c.in_ok-lead_to_cache.ensures.way in let e = c.draw_with.ensures.event way.going in
    free_stopped c.args.seat.now.view c.recall_soundness.ensures c.args.class.number c.args.block c.args.class.is c.requires.held
    c.lead_to_cache.new.seat.view e.0 c.draw_with.new.seat.view e.2 way e.1 e.3
    c.lead_to_cache.ensures.row.but.passes c.draw_with.result c.draw_with.ensures.told

pub returns-clause-row : goal.returns-clause-row
returns-clause-row g c = let way = c.in_ok-lead_to_cache.ensures.way in let e = c.draw_with.ensures.event way.going in
    let v = c.args.seat.now in let t = c.lead_to_cache.new.seat in let w = c.draw_with.new.seat in
    freed_row v t w c.recall_soundness.ensures c.args.class.number c.args.block c.args.class.is c.requires.held c.lead_to_cache.ensures.row
    (shift_row t w c.draw_with.ensures.stores e.0 e.1 way.going e.2 (Free c.args.block) e.3)
    (may_hold_less v.view c.recall_soundness.ensures c.args.class.number c.args.block c.args.class.is c.requires.held t.view e.0 w.view e.2 way e.1 e.3)

pub returns-clause-asked : goal.returns-clause-asked
returns-clause-asked g c = asked_then c.lead_to_cache.ensures.asked c.draw_with.ensures.numbers
