use Rattle.std.proofs.Common.{refl, sym, true≢false}
use Rattle.core_model.specs.declared.event.Event.TheVariants.{LookAnchor}
use Rattle.crash_core.proofs.StandingLemmas.{step_not, seat_is}
use Rattle.crash_core.proofs.LookSteps.{look_anchor}
use Rattle.crash_core.proofs.looks.look_anchor.Goals as goal

pub returns-then-not-may_look_at : goal.returns-then-not-may_look_at
returns-then-not-may_look_at c = λ k views v keeps below at going ticket. step_not c.args.core.now k views c.args.seat v (LookAnchor c.args.d)
    (λ may seen. true≢false (sym ((c.if-not-may_look_at.ensures.decides k views v keeps below at).1 may)))

pub returns : goal.returns
returns c = λ k views v keeps below at going ticket.
    look_anchor c.args.core.now k views c.args.seat v c.index-notes.result.now keeps below at
    (seat_is c.requires.seat (sym c.index-notes.ensures)) going ticket c.args.d c.anchor-word.result
    ((c.if-not-may_look_at.ensures.decides k views v keeps below at).0 refl) (c.if-not-may_look_at.ensures.below refl) c.anchor-word.ensures
