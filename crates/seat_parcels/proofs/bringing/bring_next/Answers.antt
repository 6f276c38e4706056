use Rattle.std.proofs.Common.{ap, sym, ◌∙◌}
use Rattle.core_model.specs.View.{Role}
use Rattle.seat_model.specs.CacheState.{heap_view}
use Rattle.thread_cache.specs.Handing.{contents_of}
use Rattle.seat_parcels.specs.Parcels.{sent_of}
use Rattle.seat_parcels.proofs.TakeLemmas.{again_in_step, its_fact, still_in_step, takes_first}
use Rattle.seat_parcels.proofs.bringing.bring_next.Goals as goal

pub returns-in-Ok-clause-ok : goal.returns-in-Ok-clause-ok
returns-in-Ok-clause-ok g c =
    let tray = c.args.tray.now in
    let p = c.in-Some.parcel in
    let rest = c.pop_front.new.self.items in
    let was = sym c.tray.view_is ∙ c.in-Some.ensures.items in
    let new = heap_view c.accept.new.self.state in
    takes_first tray rest p was (heap_view c.args.seat.now.state) new c.in-Ok.block c.in-Ok.ensures.block c.in-Ok.ensures.ok
    (c.a_node_goes_with_its_value.ensures.comes new p.carrier.block (contents_of p.carrier) (sent_of p).value c.in-Ok.ensures.brought
    (its_fact tray rest p was c.args.seat.now.state g.K.ArrivalsOf.came c.requires.ready).node)

pub returns-in-Ok-clause-ready_on : goal.returns-in-Ok-clause-ready_on
returns-in-Ok-clause-ready_on g c =
    still_in_step c.args.tray.now c.pop_front.new.self.items c.in-Some.parcel (sym c.tray.view_is ∙ c.in-Some.ensures.items) c.args.seat.now.state
    c.accept.new.self.state g.K.ArrivalsOf.came c.requires.ready
    c.accept.ensures.table (ap (λ (r : Role). r.accepts) c.in-Ok.ensures.accepted)

pub returns-in-Err-clause-ready_on : goal.returns-in-Err-clause-ready_on
returns-in-Err-clause-ready_on g c =
    again_in_step c.args.tray.now c.pop_front.new.self.items c.in-Some.parcel (sym c.tray.view_is ∙ c.in-Some.ensures.items) c.args.seat.now.state
    c.accept.new.self.state g.K.ArrivalsOf.came
    c.in-Err.carrier c.push_front_reserved.new.self.items c.requires.ready
    c.accept.ensures.table (ap (λ (r : Role). r.accepts) c.in-Err.ensures.none_accepted) c.in-Err.ensures.back c.push_front_reserved.ensures.items
