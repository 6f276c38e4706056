use Rattle.std.proofs.Common.{◌<◌, ◌≤◌, Some, sym, subst, arith}
use Rattle.core_model.specs.declared.event.Event.TheVariants.{Tick}
use Rattle.heap_table.specs.SeatViews.{view_in}
use Rattle.heap_rule.specs.Seated.{SeatView}
use Rattle.heap_rule.specs.Shown.{Can}
use Rattle.heap_rule.proofs.ShownLemmas.{may_of}
use Rattle.seat_index.specs.Changed.{CanChange}
use Rattle.heap_rule.specs.Noted.{CanNote, FitsChange, FitsNotes, IsNoted}
use Rattle.heap_rule.proofs.ChangeLemmas.{draw_stays, draw_owned}
use Rattle.heap_rule.proofs.SeatLemmas.{seat_after}
use Rattle.heap_rule.proofs.TickLemmas.{draw_going, draw_stopped, draw_kept, stop_kept}
use Rattle.heap_rule.proofs.seat.Seat.draw_changing.Goals as goal

pub draw-ticket-requires-clause-may : goal.draw-ticket-requires-clause-may
draw-ticket-requires-clause-may c = may_of (view_in c.self.inside.table_seat.me.0) (Tick (Some c.args.shift))
    (subst (λ (s : SeatView). Can s.view (Tick (Some c.args.shift))) (sym c.self.view_is) c.requires.can)

pub invariant_of-self : goal.invariant_of-self
invariant_of-self c =
    let past : (view_in c.self.inside.table_seat.me.0).setup.budget ≤ c.draw-ticket.result = (let b = c.self.invariant.seat.budget_is in
    let t = c.if-ticket-self.true in omega arith) in
    record {
      seat = seat_after c.self.inside.table_seat.me c.draw-ticket.new.seat.me c.self.inside.notes _ c.self.inside.geometry.capacity
          (Tick (Some c.args.shift)) c.draw-ticket.result c.args.shared.now c.draw-ticket.new.seat.table_id c.self.invariant.seat
          c.draw-ticket.ensures.at c.draw-ticket.ensures.event
          (stop_kept (view_in c.self.inside.table_seat.me.0) (view_in c.draw-ticket.new.seat.me.0)
          (Some c.args.shift) c.draw-ticket.result c.draw-ticket.ensures.event c.self.inside.notes c.self.invariant.seat.kept
          c.draw-ticket.ensures.at.has past);
      marks_long = c.self.invariant.marks_long;
      own = draw_stays c.self.inside.owned (view_in c.self.inside.table_seat.me.0) (view_in c.draw-ticket.new.seat.me.0)
          (Some c.args.shift) c.draw-ticket.result c.draw-ticket.ensures.event c.self.invariant.own past;
    }

pub returns-then-ticket-self-clause-told : goal.returns-then-ticket-self-clause-told
returns-then-ticket-self-clause-told c =
    let past : (view_in c.self.inside.table_seat.me.0).setup.budget ≤ c.draw-ticket.result = (let b = c.self.invariant.seat.budget_is in
    let t = c.if-ticket-self.true in omega arith) in
    draw_stopped (view_in c.self.inside.table_seat.me.0) (view_in c.draw-ticket.new.seat.me.0)
    (Some c.args.shift) c.draw-ticket.result c.draw-ticket.ensures.event past

pub invariant_of-self-2 : goal.invariant_of-self-2
invariant_of-self-2 c =
    let less : c.draw-ticket.result < (view_in c.self.inside.table_seat.me.0).setup.budget = (let b = c.self.invariant.seat.budget_is in
    let t = c.if-ticket-self.false in omega arith) in
    record {
      seat = seat_after c.self.inside.table_seat.me c.draw-ticket.new.seat.me c.self.inside.notes _ c.self.inside.geometry.capacity
          (Tick (Some c.args.shift)) c.draw-ticket.result c.args.shared.now c.draw-ticket.new.seat.table_id c.self.invariant.seat
          c.draw-ticket.ensures.at c.draw-ticket.ensures.event
          (draw_kept (view_in c.self.inside.table_seat.me.0) (view_in c.draw-ticket.new.seat.me.0)
          (Some c.args.shift) c.draw-ticket.result c.draw-ticket.ensures.event c.note.new.notes
          (((subst (λ (s : SeatView). FitsNotes c.args.change s.view (Some c.args.shift)) (sym c.self.view_is) c.requires.notes)
          c.self.inside.notes c.self.invariant.seat.kept).1 c.note.new.notes
          (subst (λ n. IsNoted c.args.change n c.self.inside.notes c.note.new.notes) c.self.invariant.seat.capacity_is c.note.ensures))
          c.draw-ticket.ensures.at.has less);
      marks_long = c.self.invariant.marks_long;
      own = draw_owned c.self.inside.owned (view_in c.self.inside.table_seat.me.0) (view_in c.draw-ticket.new.seat.me.0)
          (Some c.args.shift) c.draw-ticket.result c.draw-ticket.ensures.event c.self.invariant.own c.change.new.self c.args.change
          c.self.inside.geometry.capacity
          (subst (λ (s : SeatView). FitsChange c.args.change s.view (Some c.args.shift)) (sym c.self.view_is) c.requires.change)
          c.self.invariant.seat.capacity_is c.change.ensures less;
    }

pub returns-clause-told : goal.returns-clause-told
returns-clause-told c =
    let less : c.draw-ticket.result < (view_in c.self.inside.table_seat.me.0).setup.budget = (let b = c.self.invariant.seat.budget_is in
    let t = c.if-ticket-self.false in omega arith) in
    let can = subst (λ (s : SeatView). Can s.view (Tick (Some c.args.shift))) (sym c.self.view_is) c.requires.can in
    draw_going (view_in c.self.inside.table_seat.me.0) (view_in c.draw-ticket.new.seat.me.0)
    (Some c.args.shift) c.draw-ticket.result c.draw-ticket.ensures.event can.going less

pub change-requires : goal.change-requires
change-requires c = subst (λ n. CanChange c.args.change n c.self.inside.owned) (sym c.self.invariant.seat.capacity_is)
    ((subst (λ (s : SeatView). FitsChange c.args.change s.view (Some c.args.shift)) (sym c.self.view_is) c.requires.change)
    c.self.invariant.seat.kept.has c.self.inside.owned c.self.invariant.own).0

pub note-requires : goal.note-requires
note-requires c = subst (λ n. CanNote c.args.change n c.self.inside.notes) (sym c.self.invariant.seat.capacity_is)
    ((subst (λ (s : SeatView). FitsNotes c.args.change s.view (Some c.args.shift)) (sym c.self.view_is) c.requires.notes)
    c.self.inside.notes c.self.invariant.seat.kept).0
