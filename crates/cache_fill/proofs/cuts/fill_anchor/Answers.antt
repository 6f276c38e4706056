use Rattle.std.proofs.Common.{◌<◌, sym, subst, ◌∙◌}
use Rattle.heap_rule.proofs.RawLemmas.{raw_inside}
use Rattle.seat_costs.proofs.ResultLemmas.{on_ok_then}
use Rattle.cache_fill.proofs.LinkLemmas.{anchor_filled, anchor_not_held, may_fill, raw_claimed}
use Rattle.cache_fill.proofs.cuts.fill_anchor.Goals as goal

pub anchor-anchor-requires : goal.anchor-anchor-requires
anchor-anchor-requires g c = subst (λ n. c.args.d < n) (sym (c.new.ensures ∙ c.capacity.ensures))
    (raw_inside c.args.seat.now.view c.recall_soundness.ensures c.args.d (raw_claimed c.args.seat.now.view c.args.d c.requires.claimed))

pub draw_and_store-requires-clause-may : goal.draw_and_store-requires-clause-may
draw_and_store-requires-clause-may g c =
    may_fill c.args.seat.now.view c.recall_soundness.ensures c.args.d c.requires.claimed c.anchor-anchor.result c.anchor-anchor.ensures
    c.anchor_after_take_all.result c.anchor_after_take_all.ensures

pub returns-clause-filled : goal.returns-clause-filled
returns-clause-filled g c = on_ok_then c.draw_and_store.result
    (anchor_filled c.args.seat.now.view c.recall_soundness.ensures c.args.d c.requires.claimed c.anchor-anchor.result c.anchor-anchor.ensures
    c.anchor_after_take_all.result c.anchor_after_take_all.ensures c.draw_and_store.new.seat.view) c.draw_and_store.ensures.stored

pub returns-clause-row : goal.returns-clause-row
returns-clause-row g c = c.draw_and_store.ensures.not_held
    (anchor_not_held c.args.seat.now.view c.recall_soundness.ensures c.args.d c.requires.claimed c.anchor-anchor.result c.anchor-anchor.ensures)
