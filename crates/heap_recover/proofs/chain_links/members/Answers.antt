use Rattle.std.proofs.Common.{◌+◌, ap, sym, subst, ◌∙◌}
use Rattle.heap_model.specs.Recovered.{AreAscending}
use Rattle.heap_recover.specs.Roles.{list_of}
use Rattle.heap_recover.proofs.ListLemmas.{IsMemberAmong, members_push, members_skip, members_all, option_is, option_not, member_here, no_member}
use Rattle.heap_recover.proofs.chain_links.members.Goals as goal
use Rattle.heap_recover.proofs.chain_links.members.Goals.{then-eq+in_ok-push, else-eq}

pub loop-d-preserved : goal.loop-d-preserved
loop-d-preserved c =
    let roles = c.args.roles.now in
    let old = c.loop-d.members.items in
    elim c.if-eq.branch [
      | then-eq+in_ok-push w ↦
          let here = member_here roles c.args.list c.loop-d.d _ c.loop-d-test.true (ap list_of (sym c.index-roles-d.is) ∙ sym c.list_of.ensures
          ∙ option_is c.list_of.result c.args.list (sym c.eq.ensures ∙ w.if-eq.true)) in
          let items = ap (λ v. v.items) w.members-is ∙ w.in_ok-push.ensures.items in
          subst (λ xs. AreAscending (λ d. d) (IsMemberAmong roles c.args.list (c.loop-d.d + 1)) xs) (sym items)
          (members_push roles c.args.list old c.loop-d.d here c.loop-d.invariant)
      | else-eq w ↦
          let away = no_member roles c.args.list c.loop-d.d _ c.loop-d-test.true
          (λ same. option_not c.list_of.result c.args.list (sym c.eq.ensures ∙ w.if-eq.false) (c.list_of.ensures
          ∙ ap list_of c.index-roles-d.is ∙ same)) in
          let items = ap (λ v. v.items) w.members-is in
          subst (λ xs. AreAscending (λ d. d) (IsMemberAmong roles c.args.list (c.loop-d.d + 1)) xs) (sym items)
          (members_skip roles c.args.list old c.loop-d.d away c.loop-d.invariant)
    ]

pub returns : goal.returns
returns c = record { ok = members_all c.args.roles.now c.args.list c.loop-d.members.items c.loop-d.d c.loop-d-test.false c.loop-d.invariant }
