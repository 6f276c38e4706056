use Rattle.std.proofs.Common.{Some, sym, subst}
use Rattle.heap_rule.specs.Noted.{FitsChange, FitsNotes}
use Rattle.heap_rule.specs.Seated.{SeatView}
use Rattle.heap_rule.proofs.seat.Seat.draw_with.Goals as goal

pub draw_changing-requires-clause-notes : goal.draw_changing-requires-clause-notes
draw_changing-requires-clause-notes c = subst (λ (s : SeatView). FitsNotes c.change_by-change.result s.view (Some c.args.shift))
    (sym c.change_by-change.ensures.same) c.change_by-change.ensures.notes

pub draw_changing-requires-clause-change : goal.draw_changing-requires-clause-change
draw_changing-requires-clause-change c = subst (λ (s : SeatView). FitsChange c.change_by-change.result s.view (Some c.args.shift))
    (sym c.change_by-change.ensures.same) c.change_by-change.ensures.change
