use Rattle.std.proofs.Common.{ap}
use Rattle.core_model.specs.declared.event.Event.TheVariants.{Load}
use Rattle.heap_table.specs.SeatViews.{view_in}
use Rattle.seat_index.specs.Owned.{parts_of}
use Rattle.seat_index.proofs.OwnedViews.{quiet}
use Rattle.heap_rule.proofs.SeatLemmas.{loaded, seat_after}
use Rattle.heap_rule.proofs.seat.Seat.load_word.Goals as goal

pub invariant_of-self : goal.invariant_of-self
invariant_of-self c = record {
  seat = seat_after c.self.inside.table_seat.me c.look-found.new.seat.me c.self.inside.notes _ c.self.inside.geometry.capacity
      (Load c.args.word) c.look-found.result c.args.shared.now c.look-found.new.seat.table_id c.self.invariant.seat c.look-found.ensures.at
      c.look-found.ensures.event
      (loaded c.self.inside.notes (view_in c.self.inside.table_seat.me.0)
      (view_in c.look-found.new.seat.me.0) c.args.word c.look-found.result c.self.invariant.seat.kept c.look-found.ensures.event
      c.look-found.ensures.at.has);
  marks_long = c.self.invariant.marks_long;
  own = quiet c.self.inside.owned (view_in c.self.inside.table_seat.me.0) (view_in c.look-found.new.seat.me.0)
      (ap parts_of c.look-found.ensures.event.after) c.self.invariant.own;
}
