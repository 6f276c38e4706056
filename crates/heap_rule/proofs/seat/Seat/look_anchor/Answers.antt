use Rattle.std.proofs.Common.{ap, sym, subst, ◌<◌}
use Rattle.heap_table.specs.SeatViews.{view_in}
use Rattle.heap_rule.specs.Seated.{SeatView}
use Rattle.core_model.specs.declared.event.Event.TheVariants.{LookAnchor}
use Rattle.core_model.specs.Guards.{MayLookAt}
use Rattle.heap_table.proofs.TableStepLemmas.{look_below}
use Rattle.seat_index.specs.Owned.{parts_of}
use Rattle.seat_index.proofs.OwnedViews.{quiet}
use Rattle.heap_rule.proofs.SeatLemmas.{looked_anchor, seat_after}
use Rattle.heap_rule.proofs.seat.Seat.look_anchor.Goals as goal

pub anchor-requires : goal.anchor-requires
anchor-requires c = subst (λ n. c.args.d < n) (sym c.self.invariant.seat.capacity_is)
    (look_below (view_in c.self.inside.table_seat.me.0) c.args.d c.self.invariant.seat.kept.has
    (subst (λ (s : SeatView). MayLookAt s.view c.args.d) (sym c.self.view_is) c.requires.can.shown))

pub invariant_of-self : goal.invariant_of-self
invariant_of-self c = record {
  seat = seat_after c.self.inside.table_seat.me c.look-found.new.seat.me c.self.inside.notes _ c.self.inside.geometry.capacity
      (LookAnchor c.args.d) c.look-found.result c.args.shared.now c.look-found.new.seat.table_id c.self.invariant.seat c.look-found.ensures.at
      c.look-found.ensures.event
      (looked_anchor c.self.inside.notes (view_in c.self.inside.table_seat.me.0)
      (view_in c.look-found.new.seat.me.0) c.args.d c.look-found.result c.self.invariant.seat.kept c.look-found.ensures.event
      c.look-found.ensures.at.has);
  marks_long = c.self.invariant.marks_long;
  own = quiet c.self.inside.owned (view_in c.self.inside.table_seat.me.0) (view_in c.look-found.new.seat.me.0)
      (ap parts_of c.look-found.ensures.event.after) c.self.invariant.own;
}
