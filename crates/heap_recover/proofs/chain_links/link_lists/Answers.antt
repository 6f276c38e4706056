use Rattle.std.proofs.Common.{◌<◌, All, AllPairs, slice_index, sym, subst, arith}
use Rattle.heap_model.specs.Recovered.{AreAscending}
use Rattle.heap_recover.specs.Roles.{IsMember}
use Rattle.heap_recover.proofs.ListLemmas.{listed_more, members_inside}
use Rattle.heap_recover.proofs.chain_links.link_lists.Goals as goal

pub link_list-requires-clause-inside : goal.link_list-requires-clause-inside
link_list-requires-clause-inside c =
    subst (λ xs. All (λ d. d < c.args.geometry.now.capacity) xs) (sym c.deref.ensures.value)
    (members_inside c.args.roles.now c.loop-list.list c.args.geometry.now.capacity c.in_ok-members.members.items c.requires.few
    c.in_ok-members.ensures.ok)

pub link_list-requires-clause-ascending : goal.link_list-requires-clause-ascending
link_list-requires-clause-ascending c = subst (λ xs. AllPairs (λ d e. d < e) xs) (sym c.deref.ensures.value) c.in_ok-members.ensures.ok.ascending

pub loop-list-preserved : goal.loop-list-preserved
loop-list-preserved c =
    let members = subst (λ ds. AreAscending (λ d. d) (IsMember c.args.roles.now c.loop-list.list) ds)
    (sym c.deref.ensures.value) c.in_ok-members.ensures.ok in
    listed_more (slice_index c.args.words.now) (slice_index c.loop-list.words)
    (slice_index c.link_list.new.words) c.args.geometry.now.capacity c.args.roles.now c.loop-list.list c.deref.result.now
    members c.loop-list.invariant c.link_list.ensures (omega arith)
