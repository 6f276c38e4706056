use Rattle.std.proofs.Common.{true, Some, sym, subst}
use Rattle.core_model.specs.ViewAfter.{shifted}
use Rattle.core_model.specs.Guards.{MayShift}
use Rattle.crash_core.specs.Standing.{Decides, Moves}
use Rattle.crash_core.proofs.TickSteps.{free_held}
use Rattle.crash_core.proofs.ticks.make_shift.Goals as goal

pub cut-requires-clause-may : goal.cut-requires-clause-may
cut-requires-clause-may c = subst (λ s. Decides c.args.core.now c.args.seat (λ m v. MayShift m v (Some s)) true) c.in-Cut.is c.requires.may

pub returns-in-Cut : goal.returns-in-Cut
returns-in-Cut c = subst (λ s. Moves c.args.core.now c.args.seat (λ m v. shifted m v (Some s)) c.cut.new.core) (sym c.in-Cut.is) c.cut.ensures

pub alloc-requires-clause-may : goal.alloc-requires-clause-may
alloc-requires-clause-may c = subst (λ s. Decides c.args.core.now c.args.seat (λ m v. MayShift m v (Some s)) true) c.in-Alloc.is c.requires.may

pub returns-in-Alloc : goal.returns-in-Alloc
returns-in-Alloc c = subst (λ s. Moves c.args.core.now c.args.seat (λ m v. shifted m v (Some s)) c.alloc.new.core) (sym c.in-Alloc.is) c.alloc.ensures

pub free-requires-clause-may : goal.free-requires-clause-may
free-requires-clause-may c = subst (λ s. Decides c.args.core.now c.args.seat (λ m v. MayShift m v (Some s)) true) c.in-Free.is c.requires.may

pub free-requires-clause-held : goal.free-requires-clause-held
free-requires-clause-held c = free_held c.args.core.now c.args.seat c.in-Free.block c.requires.core c.requires.seat
    (subst (λ s. Decides c.args.core.now c.args.seat (λ m v. MayShift m v (Some s)) true) c.in-Free.is c.requires.may)

pub returns-in-Free : goal.returns-in-Free
returns-in-Free c = subst (λ s. Moves c.args.core.now c.args.seat (λ m v. shifted m v (Some s)) c.free.new.core) (sym c.in-Free.is) c.free.ensures

pub lift-requires-clause-may : goal.lift-requires-clause-may
lift-requires-clause-may c = subst (λ s. Decides c.args.core.now c.args.seat (λ m v. MayShift m v (Some s)) true) c.in-Lift.is c.requires.may

pub returns-in-Lift : goal.returns-in-Lift
returns-in-Lift c = subst (λ s. Moves c.args.core.now c.args.seat (λ m v. shifted m v (Some s)) c.lift.new.core) (sym c.in-Lift.is) c.lift.ensures

pub hold_large-requires-clause-may : goal.hold_large-requires-clause-may
hold_large-requires-clause-may c = subst (λ s. Decides c.args.core.now c.args.seat (λ m v. MayShift m v (Some s)) true) c.in-Large.is c.requires.may

pub returns-in-Large : goal.returns-in-Large
returns-in-Large c = subst (λ s. Moves c.args.core.now c.args.seat (λ m v. shifted m v (Some s)) c.hold_large.new.core)
    (sym c.in-Large.is) c.hold_large.ensures

pub split-requires-clause-may : goal.split-requires-clause-may
split-requires-clause-may c = subst (λ s. Decides c.args.core.now c.args.seat (λ m v. MayShift m v (Some s)) true) c.in-Split.is c.requires.may

pub returns-in-Split : goal.returns-in-Split
returns-in-Split c = subst (λ s. Moves c.args.core.now c.args.seat (λ m v. shifted m v (Some s)) c.split.new.core) (sym c.in-Split.is) c.split.ensures
