use Rattle.std.proofs.Common.{ap, sym, ◌∙◌}
use Rattle.heap_rule.specs.Seated.{SeatView}
use Rattle.heap_rule.proofs.DrawLemmas.{early_can, early_going}
use Rattle.heap_rule.proofs.seat.Seat.draw.Goals as goal

pub tick-requires-clause-can : goal.tick-requires-clause-can
tick-requires-clause-can g c = λ going. early_can c.draw-number.result c.args.self.now c.settle_early.new.self c.args.shift c.settle_early.ensures.early
    (c.requires.can (sym (early_going c.draw-number.result c.args.self.now c.settle_early.new.self c.settle_early.ensures.early) ∙ going))

pub returns-clause-event : goal.returns-clause-event
returns-clause-event g c = λ going.
    let done = c.tick.ensures.event (early_going c.draw-number.result c.args.self.now c.settle_early.new.self c.settle_early.ensures.early ∙ going) in
    (c.draw-number.result, c.draw-number.ensures, (c.settle_early.new.self, c.settle_early.ensures.early, done.0, done.1))

pub returns-clause-had_stopped : goal.returns-clause-had_stopped
returns-clause-had_stopped g c = λ step stopped. absurd (c.in_default.not-Some step (sym c.self.invariant.seat.kept.notes_are.stopped
    ∙ ap (λ (s : SeatView). s.view.stopped) c.self.view_is ∙ stopped))
