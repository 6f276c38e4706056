use Rattle.std.proofs.Common.{◌<◌, ◌≤◌, None, sym, subst, arith}
use Rattle.core_model.specs.declared.event.Event.TheVariants.{Tick}
use Rattle.heap_table.specs.SeatViews.{view_in}
use Rattle.heap_rule.specs.Seated.{SeatView}
use Rattle.heap_rule.specs.Shown.{Can}
use Rattle.heap_rule.proofs.ShownLemmas.{may_of}
use Rattle.heap_rule.proofs.ChangeLemmas.{alone_owned, draw_stays}
use Rattle.heap_rule.proofs.SeatLemmas.{seat_after}
use Rattle.heap_rule.proofs.TickLemmas.{alone_fits, draw_going, draw_stopped, draw_kept, stop_kept}
use Rattle.heap_rule.proofs.seat.Seat.draw_alone.Goals as goal

pub draw-ticket-requires-clause-may : goal.draw-ticket-requires-clause-may
draw-ticket-requires-clause-may c = may_of (view_in c.self.inside.table_seat.me.0) (Tick None)
    (subst (λ (s : SeatView). Can s.view (Tick None)) (sym c.self.view_is) c.requires.can)

pub invariant_of-self : goal.invariant_of-self
invariant_of-self c =
    let past : (view_in c.self.inside.table_seat.me.0).setup.budget ≤ c.draw-ticket.result = (let b = c.self.invariant.seat.budget_is in
    let t = c.if-ticket-self.true in omega arith) in
    record {
      seat = seat_after c.self.inside.table_seat.me c.draw-ticket.new.seat.me c.self.inside.notes _ c.self.inside.geometry.capacity
          (Tick None) c.draw-ticket.result c.args.shared.now c.draw-ticket.new.seat.table_id c.self.invariant.seat c.draw-ticket.ensures.at
          c.draw-ticket.ensures.event
          (stop_kept (view_in c.self.inside.table_seat.me.0) (view_in c.draw-ticket.new.seat.me.0)
          None c.draw-ticket.result c.draw-ticket.ensures.event c.self.inside.notes c.self.invariant.seat.kept c.draw-ticket.ensures.at.has past);
      marks_long = c.self.invariant.marks_long;
      own = draw_stays c.self.inside.owned (view_in c.self.inside.table_seat.me.0)
          (view_in c.draw-ticket.new.seat.me.0) None c.draw-ticket.result c.draw-ticket.ensures.event c.self.invariant.own past;
    }

pub returns-then-ticket-self-clause-told : goal.returns-then-ticket-self-clause-told
returns-then-ticket-self-clause-told c =
    let past : (view_in c.self.inside.table_seat.me.0).setup.budget ≤ c.draw-ticket.result = (let b = c.self.invariant.seat.budget_is in
    let t = c.if-ticket-self.true in omega arith) in
    draw_stopped (view_in c.self.inside.table_seat.me.0) (view_in c.draw-ticket.new.seat.me.0)
    None c.draw-ticket.result c.draw-ticket.ensures.event past

pub invariant_of-self-2 : goal.invariant_of-self-2
invariant_of-self-2 c =
    let less : c.draw-ticket.result < (view_in c.self.inside.table_seat.me.0).setup.budget = (let b = c.self.invariant.seat.budget_is in
    let t = c.if-ticket-self.false in omega arith) in
    record {
      seat = seat_after c.self.inside.table_seat.me c.draw-ticket.new.seat.me c.self.inside.notes _ c.self.inside.geometry.capacity
          (Tick None) c.draw-ticket.result c.args.shared.now c.draw-ticket.new.seat.table_id c.self.invariant.seat c.draw-ticket.ensures.at
          c.draw-ticket.ensures.event
          (draw_kept (view_in c.self.inside.table_seat.me.0) (view_in c.draw-ticket.new.seat.me.0)
          None c.draw-ticket.result c.draw-ticket.ensures.event c.self.inside.notes
          (alone_fits c.self.inside.notes (view_in c.self.inside.table_seat.me.0) c.self.invariant.seat.kept) c.draw-ticket.ensures.at.has less);
      marks_long = c.self.invariant.marks_long;
      own = alone_owned c.self.inside.owned (view_in c.self.inside.table_seat.me.0)
          (view_in c.draw-ticket.new.seat.me.0) c.draw-ticket.result c.draw-ticket.ensures.event c.self.invariant.own less;
    }

pub returns-clause-told : goal.returns-clause-told
returns-clause-told c =
    let less : c.draw-ticket.result < (view_in c.self.inside.table_seat.me.0).setup.budget = (let b = c.self.invariant.seat.budget_is in
    let t = c.if-ticket-self.false in omega arith) in
    let can = subst (λ (s : SeatView). Can s.view (Tick None)) (sym c.self.view_is) c.requires.can in
    draw_going (view_in c.self.inside.table_seat.me.0) (view_in c.draw-ticket.new.seat.me.0)
    None c.draw-ticket.result c.draw-ticket.ensures.event can.going less
