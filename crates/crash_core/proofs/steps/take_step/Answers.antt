use Rattle.std.proofs.Common.{sym, subst}
use Rattle.crash_core.specs.Standing.{Takes, HasTicketAt}
use Rattle.crash_core.proofs.steps.take_step.Goals as goal

pub returns-in-Tick : goal.returns-in-Tick
returns-in-Tick c = subst (λ e. Takes c.args.core.now c.args.seat e c.tick.result c.tick.new.core) (sym c.in-Tick.is) c.tick.ensures

pub returns-in-Load : goal.returns-in-Load
returns-in-Load c = subst (λ e. Takes c.args.core.now c.args.seat e c.load.result c.load.new.core) (sym c.in-Load.is) c.load.ensures

pub returns-in-Store : goal.returns-in-Store
returns-in-Store c = subst (λ e. Takes c.args.core.now c.args.seat e c.store.result c.store.new.core) (sym c.in-Store.is) c.store.ensures

pub returns-in-Settle : goal.returns-in-Settle
returns-in-Settle c = subst (λ e. Takes c.args.core.now c.args.seat e c.settle.result c.settle.new.core) (sym c.in-Settle.is) c.settle.ensures

pub returns-in-LookUsed : goal.returns-in-LookUsed
returns-in-LookUsed c = subst (λ e. Takes c.args.core.now c.args.seat e c.look_used.result c.look_used.new.core)
    (sym c.in-LookUsed.is) c.look_used.ensures

pub returns-in-TakeFresh : goal.returns-in-TakeFresh
returns-in-TakeFresh c = subst (λ e. Takes c.args.core.now c.args.seat e c.take_fresh.result c.take_fresh.new.core)
    (sym c.in-TakeFresh.is) c.take_fresh.ensures

pub returns-in-KeepUsed : goal.returns-in-KeepUsed
returns-in-KeepUsed c = subst (λ e. Takes c.args.core.now c.args.seat e c.keep_used.result c.keep_used.new.core)
    (sym c.in-KeepUsed.is) c.keep_used.ensures

pub returns-in-LookHead : goal.returns-in-LookHead
returns-in-LookHead c = subst (λ e. Takes c.args.core.now c.args.seat e c.look_head.result c.look_head.new.core)
    (sym c.in-LookHead.is) c.look_head.ensures

pub returns-in-LookLink : goal.returns-in-LookLink
returns-in-LookLink c = subst (λ e. Takes c.args.core.now c.args.seat e c.look_link.result c.look_link.new.core)
    (sym c.in-LookLink.is) c.look_link.ensures

pub pop-requires-clause-ticket : goal.pop-requires-clause-ticket
pop-requires-clause-ticket c = λ t at. subst (HasTicketAt t.ticket) c.in-Pop.is (c.requires.ticket t at)

pub returns-in-Pop : goal.returns-in-Pop
returns-in-Pop c = subst (λ e. Takes c.args.core.now c.args.seat e c.pop.result c.pop.new.core) (sym c.in-Pop.is) c.pop.ensures

pub returns-in-Push : goal.returns-in-Push
returns-in-Push c = subst (λ e. Takes c.args.core.now c.args.seat e c.push.result c.push.new.core) (sym c.in-Push.is) c.push.ensures

pub returns-in-LookAnchor : goal.returns-in-LookAnchor
returns-in-LookAnchor c = subst (λ e. Takes c.args.core.now c.args.seat e c.look_anchor.result c.look_anchor.new.core)
    (sym c.in-LookAnchor.is) c.look_anchor.ensures

pub returns-in-TakeAll : goal.returns-in-TakeAll
returns-in-TakeAll c = subst (λ e. Takes c.args.core.now c.args.seat e c.take_all.result c.take_all.new.core) (sym c.in-TakeAll.is) c.take_all.ensures

pub give-requires-clause-ticket : goal.give-requires-clause-ticket
give-requires-clause-ticket c = λ t at. subst (HasTicketAt t.ticket) c.in-Give.is (c.requires.ticket t at)

pub returns-in-Give : goal.returns-in-Give
returns-in-Give c = subst (λ e. Takes c.args.core.now c.args.seat e c.give.result c.give.new.core) (sym c.in-Give.is) c.give.ensures
