use Rattle.std.proofs.Common.{◌∙◌, ℕ, Some, ap, subst, arith}
use Rattle.std.proofs.lemmas.Result.{err_from_is_err_and}
use Rattle.core_model.specs.Effects.{span_count}
use Rattle.core_model.specs.declared.event.Shift.TheVariants.{Split}
use Rattle.heap_rule.specs.Seated.{SeatView}
use Rattle.large_block.specs.Splits.{HasClearedAll}
use Rattle.large_block.proofs.SplitLemmas.{each_split, none_split, refused_within, split_done, split_may, split_row, split_stops}
use Rattle.seat_costs.specs.Costs.{no_costs}
use Rattle.seat_costs.specs.Rows.{Row}
use Rattle.seat_costs.proofs.AskedLemmas.{asked_then}
use Rattle.seat_costs.proofs.DrawLemmas.{told_stop}
use Rattle.seat_costs.proofs.ResultLemmas.{if_err_then, on_ok_then}
use Rattle.large_block.proofs.splits.split.Goals as goal

pub returns-in_err-draw_with-clause-may : goal.returns-in_err-draw_with-clause-may
returns-in_err-draw_with-clause-may g c =
    none_split c.args.seat.now c.draw_with.new.seat c.draw_with.ensures.stores c.args.block.first_word c.draw_with.ensures.event
    c.draw_with.ensures.had_stopped c.in_err-draw_with.field-0.0.step c.in_err-draw_with.ensures.told

pub returns-in_err-draw_with-clause-stopped : goal.returns-in_err-draw_with-clause-stopped
returns-in_err-draw_with-clause-stopped g c = let p = err_from_is_err_and c.from_residual.result c.from_residual.ensures.1 in
    rw (p.1, p.2) (told_stop (Some (Split c.args.block.first_word)) c.args.seat.now.view c.draw_with.new.seat.view c.draw_with.ensures.event
    (λ step stop. ap (λ (x : SeatView). x.view) (c.draw_with.ensures.had_stopped step stop))
    c.recall_soundness.ensures c.in_err-draw_with.field-0.0.step c.in_err-draw_with.ensures.told)

pub returns-in_err-draw_with-clause-row : goal.returns-in_err-draw_with-clause-row
returns-in_err-draw_with-clause-row g c =
    refused_within c.args.seat.now c.draw_with.new.seat c.draw_with.ensures.stores c.args.block.first_word c.draw_with.ensures.event
    c.draw_with.ensures.had_stopped

pub clear_anchors-requires-clause-split : goal.clear_anchors-requires-clause-split
clear_anchors-requires-clause-split g c = λ e from until. let s = c.superblocks_of-span.ensures in
    each_split c.args.seat.now c.draw_with.new.seat c.draw_with.ensures.stores c.args.block.first_word c.draw_with.ensures.event
    c.draw_with.ensures.had_stopped c.in_ok-draw_with.ensures.told e
    (let a = s.first in omega arith)
    (let a = s.first in let b = s.count ∙ ap (λ (d : ℕ). span_count d c.args.seat.now.view.large) s.first in omega arith)

pub returns-clause-row : goal.returns-clause-row
returns-clause-row g c = let s = c.superblocks_of-span.ensures in
    split_row c.args.seat.now c.draw_with.new.seat c.draw_with.ensures.stores c.args.block.first_word c.draw_with.ensures.event
    c.draw_with.ensures.had_stopped c.clear_anchors.new.seat c.in_ok-draw_with.ensures.told
    (subst (λ (n : ℕ). Row (record no_costs { draws = n }) c.draw_with.new.seat c.clear_anchors.new.seat) (s.count
    ∙ ap (λ (d : ℕ). span_count d c.args.seat.now.view.large) s.first) c.clear_anchors.ensures.row)

pub returns-clause-may : goal.returns-clause-may
returns-clause-may g c = let s = c.superblocks_of-span.ensures in
    split_may c.args.seat.now c.draw_with.new.seat c.draw_with.ensures.stores c.args.block.first_word c.draw_with.ensures.event
    c.draw_with.ensures.had_stopped c.clear_anchors.new.seat c.in_ok-draw_with.ensures.told
    (subst (λ (n : ℕ). Row (record no_costs { draws = n }) c.draw_with.new.seat c.clear_anchors.new.seat) (s.count
    ∙ ap (λ (d : ℕ). span_count d c.args.seat.now.view.large) s.first) c.clear_anchors.ensures.row)

pub returns-clause-stopped : goal.returns-clause-stopped
returns-clause-stopped g c = let s = c.superblocks_of-span.ensures in
    if_err_then c.clear_anchors.result (λ e. split_stops c.args.seat.now c.draw_with.new.seat c.draw_with.ensures.stores c.args.block.first_word
    c.draw_with.ensures.event c.draw_with.ensures.had_stopped c.clear_anchors.new.seat c.in_ok-draw_with.ensures.told
    (subst (λ (n : ℕ). Row (record no_costs { draws = n }) c.draw_with.new.seat c.clear_anchors.new.seat) (s.count
    ∙ ap (λ (d : ℕ). span_count d c.args.seat.now.view.large) s.first) c.clear_anchors.ensures.row) e.step) c.clear_anchors.ensures.stopped

pub returns-clause-split : goal.returns-clause-split
returns-clause-split g c = let s = c.superblocks_of-span.ensures in
    let d = c.superblocks_of-span.result.first in
    let count = s.count ∙ ap (λ (d : ℕ). span_count d c.args.seat.now.view.large) s.first in
    on_ok_then c.clear_anchors.result (λ cleared. split_done c.args.seat.now c.draw_with.new.seat c.draw_with.ensures.stores c.args.block.first_word
    c.draw_with.ensures.event c.draw_with.ensures.had_stopped c.clear_anchors.new.seat c.in_ok-draw_with.ensures.told
    (subst (λ (n : ℕ). Row (record no_costs { draws = n }) c.draw_with.new.seat c.clear_anchors.new.seat) count c.clear_anchors.ensures.row)
    c.recall_soundness-2.ensures
    (subst (λ (d : ℕ). HasClearedAll d (span_count d c.args.seat.now.view.large) c.draw_with.new.seat.view c.clear_anchors.new.seat.view)
    s.first (subst (λ (n : ℕ). HasClearedAll d n c.draw_with.new.seat.view c.clear_anchors.new.seat.view) s.count cleared)))
    c.clear_anchors.ensures.cleared

pub returns-clause-asked : goal.returns-clause-asked
returns-clause-asked g c = asked_then c.draw_with.ensures.numbers c.clear_anchors.ensures.asked
