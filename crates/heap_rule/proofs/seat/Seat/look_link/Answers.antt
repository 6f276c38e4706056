use Rattle.std.proofs.Common.{◌-◌, ap, sym, ◌∙◌}
use Rattle.heap_model.specs.Geometry.{link_word}
use Rattle.heap_model.specs.Words.{head_first}
use Rattle.core_model.specs.declared.event.Event.TheVariants.{LookLink}
use Rattle.core_model.specs.Effects.{seen_word}
use Rattle.seat_state.specs.Notes.{snapshot}
use Rattle.heap_table.specs.SeatViews.{view_in}
use Rattle.seat_index.specs.Owned.{parts_of}
use Rattle.seat_index.proofs.ExchangeLemmas.{before_is}
use Rattle.seat_index.proofs.OwnedViews.{quiet}
use Rattle.heap_rule.proofs.SeatLemmas.{seat_after, looked_link}
use Rattle.heap_rule.proofs.seat.Seat.look_link.Goals as goal

pub look-found-requires-clause-place : goal.look-found-requires-clause-place
look-found-requires-clause-place c = let is = ap seen_word (c.self.invariant.seat.kept.notes_are.seen_head ∙ ap snapshot c.in-Some.is) in
    c.link-place.ensures ∙ ap link_word (ap (λ n. n - 1) c.head_first.ensures ∙ ap (λ n. head_first n - 1) (sym is)
    ∙ sym (before_is (head_first (seen_word (view_in c.self.inside.table_seat.me.0).seen_head))))

pub invariant_of-self : goal.invariant_of-self
invariant_of-self c = record {
  seat = seat_after c.self.inside.table_seat.me c.look-found.new.seat.me c.self.inside.notes _ c.self.inside.geometry.capacity LookLink
      c.look-found.result c.args.shared.now c.look-found.new.seat.table_id c.self.invariant.seat c.look-found.ensures.at c.look-found.ensures.event
      (looked_link c.self.inside.notes (view_in c.self.inside.table_seat.me.0)
      (view_in c.look-found.new.seat.me.0) c.look-found.result c.self.invariant.seat.kept c.look-found.ensures.event c.look-found.ensures.at.has);
  marks_long = c.self.invariant.marks_long;
  own = quiet c.self.inside.owned (view_in c.self.inside.table_seat.me.0) (view_in c.look-found.new.seat.me.0)
      (ap parts_of c.look-found.ensures.event.after) c.self.invariant.own;
}
