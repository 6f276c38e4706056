use Rattle.std.proofs.Common.{◌<◌, sym, subst, ◌∙◌}
use Rattle.seat_costs.proofs.ResultLemmas.{on_ok_then}
use Rattle.superblock_lists.proofs.PushLemmas.{inside, link_not_held, link_set, may_link}
use Rattle.superblock_lists.proofs.pushes.set_link.Goals as goal

pub link-link-requires : goal.link-link-requires
link-link-requires g c = subst (λ n. c.args.d < n) (sym (c.new.ensures ∙ c.capacity.ensures))
    (inside c.args.seat.now.view c.recall_soundness.ensures c.args.d c.requires.claimed)

pub draw_and_store-requires-clause-may : goal.draw_and_store-requires-clause-may
draw_and_store-requires-clause-may g c =
    may_link c.args.seat.now.view c.recall_soundness.ensures c.args.d c.requires.claimed c.link-link.result c.link-link.ensures c.args.first

pub returns-clause-linked : goal.returns-clause-linked
returns-clause-linked g c = on_ok_then c.draw_and_store.result
    (link_set c.args.seat.now.view c.recall_soundness.ensures c.args.d c.requires.claimed c.link-link.result c.link-link.ensures c.args.first
    c.draw_and_store.new.seat.view) c.draw_and_store.ensures.stored

pub returns-clause-row : goal.returns-clause-row
returns-clause-row g c = c.draw_and_store.ensures.not_held
    (link_not_held c.args.seat.now.view c.recall_soundness.ensures c.args.d c.requires.claimed c.link-link.result c.link-link.ensures)
