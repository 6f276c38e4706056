use Rattle.std.proofs.Common.{◌≡◌, None, refl, sym, subst}
use Rattle.heap_rule.specs.Noted.{forgotten}
use Rattle.heap_rule.proofs.ForgottenLemmas.{head_forgotten, anchor_forgotten, nothing_forgotten}
use Rattle.heap_rule.proofs.exchanges.forget.Goals as goal

pub returns-in-Pop : goal.returns-in-Pop
returns-in-Pop c = head_forgotten c.args.event c.args.notes.now c.in-Pop.is

pub returns-in-TakeAll : goal.returns-in-TakeAll
returns-in-TakeAll c = anchor_forgotten c.args.event c.args.notes.now c.in-TakeAll.is

pub returns-in-TakeFresh : goal.returns-in-TakeFresh
returns-in-TakeFresh c = subst (λ e. record c.args.notes.now { seen_used = None } ≡ forgotten e c.args.notes.now) (sym c.in-TakeFresh.is) refl

pub returns-in_default : goal.returns-in_default
returns-in_default c = let n = c.in_default in nothing_forgotten c.args.event c.args.notes.now n.not-TakeFresh n.not-Pop n.not-Push
    n.not-TakeAll n.not-Give
