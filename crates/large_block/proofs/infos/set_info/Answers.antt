use Rattle.std.proofs.Common.{arith}
use Rattle.heap_rule.proofs.RawLemmas.{raw_inside}
use Rattle.seat_costs.proofs.AskedLemmas.{asked_step}
use Rattle.large_block.proofs.InfoLemmas.{can_settle, info_not_held, info_row, info_set, may_info}
use Rattle.large_block.proofs.infos.set_info.Goals as goal

pub info-place-requires : goal.info-place-requires
info-place-requires g c = let inside = raw_inside c.args.seat.now.view c.recall_soundness.ensures c.args.d c.requires.claimed in
    let a = c.new.ensures in let b = c.capacity.ensures in omega arith

pub draw_and_store-requires-clause-may : goal.draw_and_store-requires-clause-may
draw_and_store-requires-clause-may g c =
    may_info c.args.seat.now.view c.recall_soundness.ensures c.args.d c.requires.claimed c.info-place.result c.info-place.ensures c.args.info

pub settle-requires-clause-can : goal.settle-requires-clause-can
settle-requires-clause-can g c =
    can_settle c.args.seat.now.view c.recall_soundness.ensures c.args.d c.requires.claimed c.info-place.result c.info-place.ensures
    c.draw_and_store.new.seat.view c.args.info c.in_ok-draw_and_store.ensures.stored

pub returns-clause-set : goal.returns-clause-set
returns-clause-set g c = let s = c.settle.ensures.event in
    info_set c.args.seat.now.view c.recall_soundness.ensures c.args.d c.requires.claimed c.info-place.result c.info-place.ensures
    c.draw_and_store.new.seat.view c.args.info c.in_ok-draw_and_store.ensures.stored c.settle.new.self.view s.0 s.1

pub returns-in_err-draw_and_store-clause-row : goal.returns-in_err-draw_and_store-clause-row
returns-in_err-draw_and_store-clause-row g c = c.draw_and_store.ensures.not_held
    (info_not_held c.args.seat.now.view c.recall_soundness.ensures c.args.d c.requires.claimed c.info-place.result c.info-place.ensures)

pub returns-clause-row : goal.returns-clause-row
returns-clause-row g c = let s = c.settle.ensures.event in
    info_row c.args.seat.now c.draw_and_store.new.seat c.settle.new.self c.info-place.result s.0 s.1 c.settle.ensures.stores
    (c.draw_and_store.ensures.not_held
    (info_not_held c.args.seat.now.view c.recall_soundness.ensures c.args.d c.requires.claimed c.info-place.result c.info-place.ensures))

pub returns-clause-losses : goal.returns-clause-losses
returns-clause-losses g c = (returns-clause-set g c).losses

pub returns-clause-asked : goal.returns-clause-asked
returns-clause-asked g c = asked_step tt c.draw_and_store.ensures.asked c.settle.ensures.event.1
