use Rattle.std.proofs.Common.{◌<◌, sym, subst, ◌∙◌}
use Rattle.seat_costs.proofs.ResultLemmas.{on_ok_then}
use Rattle.large_block.proofs.SplitLemmas.{anchor_cleared, anchor_not_held, may_clear, split_inside}
use Rattle.large_block.proofs.splits.clear_anchor.Goals as goal

pub anchor-anchor-requires : goal.anchor-anchor-requires
anchor-anchor-requires g c = subst (λ n. c.args.e < n) (sym (c.new.ensures ∙ c.capacity.ensures))
    (split_inside c.args.seat.now.view c.recall_soundness.ensures c.args.e c.requires.split)

pub draw_and_store-requires-clause-may : goal.draw_and_store-requires-clause-may
draw_and_store-requires-clause-may g c =
    may_clear c.args.seat.now.view c.recall_soundness.ensures c.args.e c.requires.split c.anchor-anchor.result c.anchor-anchor.ensures

pub returns-clause-cleared : goal.returns-clause-cleared
returns-clause-cleared g c = on_ok_then c.draw_and_store.result
    (anchor_cleared c.args.seat.now.view c.recall_soundness.ensures c.args.e c.requires.split c.anchor-anchor.result c.anchor-anchor.ensures
    c.draw_and_store.new.seat.view) c.draw_and_store.ensures.stored

pub returns-clause-row : goal.returns-clause-row
returns-clause-row g c = c.draw_and_store.ensures.not_held
    (anchor_not_held c.args.seat.now.view c.recall_soundness.ensures c.args.e c.requires.split c.anchor-anchor.result c.anchor-anchor.ensures)
