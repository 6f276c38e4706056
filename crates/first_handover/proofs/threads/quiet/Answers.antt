use Rattle.std.proofs.Common.{ap, ◌∙◌}
use Rattle.core_model.specs.View.{role}
use Rattle.heap_seat.proofs.CallerLemmas.{held_in}
use Rattle.seat_model.specs.CacheState.{heap_view}
use Rattle.first_handover.proofs.Working.{back_from, held_at, seat_of}
use Rattle.first_handover.proofs.threads.quiet.Goals as goal

pub returns-clause-back : goal.returns-clause-back
returns-clause-back c =
    let first = c.new-seat.result.state in
    let at = c.quiet-answer.new.self.state in
    let seat = c.into_seat-seat.result in
    let new = c.new-seat.ensures.state in
    let kept = c.quiet-answer.ensures.kept.heap in
    let back = c.into_seat-seat.ensures in
    back_from c.args.shared.now c.args.seat.view seat c.recall_soundness.ensures
    (seat_of c.args.shared.now c.args.seat first at seat c.requires.at.of new kept.0 kept.1.setup back.table back.view)
    (λ b there. held_at seat.view at.view b back.view
    (held_in (heap_view first) (heap_view at) b c.quiet-answer.ensures.unchanged.held (held_at first.view c.args.seat.view b new.view there)))

pub returns-clause-role_is : goal.returns-clause-role_is
returns-clause-role_is c = ap role c.into_seat-seat.ensures.view ∙ c.quiet-answer.ensures.kept.heap.2 ∙ ap role c.new-seat.ensures.state.view

pub new-seat-requires-clause-idle : goal.new-seat-requires-clause-idle
new-seat-requires-clause-idle c = (c.requires.at.between c.requires.going).0
