use Rattle.std.proofs.Common.{Some, sym, subst}
use Rattle.core_model.specs.declared.event.Shift.{Shift}
use Rattle.seat_index.specs.declared.owned.Change.TheVariants as change
use Rattle.heap_rule.specs.Noted.{FitsChange, FitsNotes}
use Rattle.heap_rule.specs.Shown.{CanShift}
use Rattle.heap_rule.proofs.ChangeLemmas.{large_change}
use Rattle.heap_rule.proofs.NoteLemmas.{large_notes}
use Rattle.heap_rule.proofs.seat.Seat.change_by.Goals as goal

pub returns-in-Cut-clause-notes : goal.returns-in-Cut-clause-notes
returns-in-Cut-clause-notes c = subst (λ (shift : Shift). FitsNotes c.cut_change.result c.args.self.now.view (Some shift))
    (sym c.in-Cut.is) c.cut_change.ensures.notes

pub returns-in-Cut-clause-change : goal.returns-in-Cut-clause-change
returns-in-Cut-clause-change c = subst (λ (shift : Shift). FitsChange c.cut_change.result c.args.self.now.view (Some shift))
    (sym c.in-Cut.is) c.cut_change.ensures.change

pub returns-in-Alloc-clause-notes : goal.returns-in-Alloc-clause-notes
returns-in-Alloc-clause-notes c = subst (λ (shift : Shift). FitsNotes c.alloc_change.result c.args.self.now.view (Some shift))
    (sym c.in-Alloc.is) c.alloc_change.ensures.notes

pub returns-in-Alloc-clause-change : goal.returns-in-Alloc-clause-change
returns-in-Alloc-clause-change c = subst (λ (shift : Shift). FitsChange c.alloc_change.result c.args.self.now.view (Some shift))
    (sym c.in-Alloc.is) c.alloc_change.ensures.change

pub returns-in-Free-clause-notes : goal.returns-in-Free-clause-notes
returns-in-Free-clause-notes c = subst (λ (shift : Shift). FitsNotes c.free_change.result c.args.self.now.view (Some shift))
    (sym c.in-Free.is) c.free_change.ensures.notes

pub returns-in-Free-clause-change : goal.returns-in-Free-clause-change
returns-in-Free-clause-change c = subst (λ (shift : Shift). FitsChange c.free_change.result c.args.self.now.view (Some shift))
    (sym c.in-Free.is) c.free_change.ensures.change

pub returns-in-Lift-clause-notes : goal.returns-in-Lift-clause-notes
returns-in-Lift-clause-notes c = subst (λ (shift : Shift). FitsNotes c.lift_change.result c.args.self.now.view (Some shift))
    (sym c.in-Lift.is) c.lift_change.ensures.notes

pub returns-in-Lift-clause-change : goal.returns-in-Lift-clause-change
returns-in-Lift-clause-change c = subst (λ (shift : Shift). FitsChange c.lift_change.result c.args.self.now.view (Some shift))
    (sym c.in-Lift.is) c.lift_change.ensures.change

pub returns-in-Large-clause-notes : goal.returns-in-Large-clause-notes
returns-in-Large-clause-notes c = subst (λ (shift : Shift). FitsNotes (change.Large c.in-Large.d c.in-Large.n) c.args.self.now.view
    (Some shift)) (sym c.in-Large.is) (large_notes c.args.self.now.view c.in-Large.d c.in-Large.n)

pub returns-in-Large-clause-change : goal.returns-in-Large-clause-change
returns-in-Large-clause-change c = subst (λ (shift : Shift). FitsChange (change.Large c.in-Large.d c.in-Large.n) c.args.self.now.view
    (Some shift)) (sym c.in-Large.is)
    (large_change c.args.self.now.view c.in-Large.d c.in-Large.n (subst
    (λ (shift : Shift). CanShift c.args.self.now.view (Some shift)) c.in-Large.is c.requires.can))

pub returns-in-Split-clause-notes : goal.returns-in-Split-clause-notes
returns-in-Split-clause-notes c = subst (λ (shift : Shift). FitsNotes c.split_change.result c.args.self.now.view (Some shift))
    (sym c.in-Split.is) c.split_change.ensures.notes

pub returns-in-Split-clause-change : goal.returns-in-Split-clause-change
returns-in-Split-clause-change c = subst (λ (shift : Shift). FitsChange c.split_change.result c.args.self.now.view (Some shift))
    (sym c.in-Split.is) c.split_change.ensures.change
