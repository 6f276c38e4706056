use Rattle.std.proofs.Common.{Some, sym, subst}
use Rattle.core_model.specs.Guards.{MayShift}
use Rattle.crash_core.specs.Standing.{Decides}
use Rattle.crash_core.proofs.ticks.may_shift.Goals as goal

pub returns-in-Cut : goal.returns-in-Cut
returns-in-Cut c = subst (λ s. Decides c.args.core.now c.args.seat (λ m v. MayShift m v (Some s)) c.may_cut.result) (sym c.in-Cut.is) c.may_cut.ensures

pub returns-in-Alloc : goal.returns-in-Alloc
returns-in-Alloc c = subst (λ s. Decides c.args.core.now c.args.seat (λ m v. MayShift m v (Some s)) c.may_alloc.result)
    (sym c.in-Alloc.is) c.may_alloc.ensures

pub returns-in-Free : goal.returns-in-Free
returns-in-Free c = subst (λ s. Decides c.args.core.now c.args.seat (λ m v. MayShift m v (Some s)) c.may_free.result)
    (sym c.in-Free.is) c.may_free.ensures.decides

pub returns-in-Lift : goal.returns-in-Lift
returns-in-Lift c = subst (λ s. Decides c.args.core.now c.args.seat (λ m v. MayShift m v (Some s)) c.may_lift.result)
    (sym c.in-Lift.is) c.may_lift.ensures

pub returns-in-Large : goal.returns-in-Large
returns-in-Large c = subst (λ s. Decides c.args.core.now c.args.seat (λ m v. MayShift m v (Some s)) c.may_hold_large.result)
    (sym c.in-Large.is) c.may_hold_large.ensures

pub returns-in-Split : goal.returns-in-Split
returns-in-Split c = subst (λ s. Decides c.args.core.now c.args.seat (λ m v. MayShift m v (Some s)) c.may_split.result)
    (sym c.in-Split.is) c.may_split.ensures
