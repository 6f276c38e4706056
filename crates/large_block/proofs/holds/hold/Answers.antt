use Rattle.std.proofs.Common.{ℕ, ◌*◌, Some, subst, ap, ◌∙◌}
use Rattle.std.proofs.lemmas.Result.{err_from_is_err_and}
use Rattle.heap_model.specs.Geometry.{superblock_words, start_word}
use Rattle.core_model.specs.declared.event.Shift.TheVariants.{Large}
use Rattle.large_block.specs.Infos.{HasInfo}
use Rattle.seat_costs.proofs.AskedLemmas.{asked_then}
use Rattle.seat_costs.proofs.RowLemmas.{row_then, then_holding}
use Rattle.seat_costs.proofs.ShiftLemmas.{shift_row}
use Rattle.large_block.proofs.HoldLemmas.{can_hold, held, refused_later, refused_row}
use Rattle.seat_costs.proofs.ResultLemmas.{on_err}
use Rattle.large_block.proofs.holds.hold.Goals as goal

pub draw_with-requires-clause-can : goal.draw_with-requires-clause-can
draw_with-requires-clause-can g c =
    let info = subst (λ (i : ℕ). HasInfo c.args.d i c.args.seat.now.view c.set_info.new.seat.view) c.pack.ensures c.in_ok-set_info.ensures.set in
    λ going. record {
      going = going;
      ticket = tt;
      shown = can_hold c.args.seat.now.view c.recall_soundness.ensures c.args.d c.args.n
          c.requires.claimed c.set_info.new.seat.view info;
    }

pub returns-in_err-draw_with-clause-stopped : goal.returns-in_err-draw_with-clause-stopped
returns-in_err-draw_with-clause-stopped g c = let p = err_from_is_err_and c.from_residual-in_err-draw_with.result
    c.from_residual-in_err-draw_with.ensures.1 in
    let set = c.in_ok-set_info.ensures.set in let e = c.draw_with.ensures.event set.going in
    rw (p.1, p.2) (refused_later c.args.seat.now c.set_info.new.seat c.draw_with.new.seat e.0 e.1
    (Some (Large c.args.d c.args.n)) e.2 e.3 c.in_err-draw_with.field-0.0.step set.ran c.set_info.ensures.row set.going
    c.in_err-draw_with.ensures.told)

pub returns-in_err-draw_with-clause-none : goal.returns-in_err-draw_with-clause-none
returns-in_err-draw_with-clause-none g c =
    let set = c.in_ok-set_info.ensures.set in let e = c.draw_with.ensures.event set.going in
    on_err c.from_residual-in_err-draw_with.result (row_then c.args.seat.now c.set_info.new.seat c.draw_with.new.seat c.set_info.ensures.row
    (refused_row c.set_info.new.seat c.draw_with.new.seat e.0 e.1 (Some (Large c.args.d c.args.n))
    e.2 e.3 c.in_err-draw_with.field-0.0.step set.going c.in_err-draw_with.ensures.told c.draw_with.ensures.stores))

pub returns-in_err-draw_with-clause-row : goal.returns-in_err-draw_with-clause-row
returns-in_err-draw_with-clause-row g c = let e = c.draw_with.ensures.event c.in_ok-set_info.ensures.set.going in
    then_holding c.args.seat.now c.set_info.new.seat c.draw_with.new.seat c.set_info.ensures.row
    (shift_row c.set_info.new.seat c.draw_with.new.seat c.draw_with.ensures.stores e.0 e.1 c.in_ok-set_info.ensures.set.going e.2
    (Large c.args.d c.args.n) e.3)

pub returns-clause-row : goal.returns-clause-row
returns-clause-row g c = let e = c.draw_with.ensures.event c.in_ok-set_info.ensures.set.going in
    then_holding c.args.seat.now c.set_info.new.seat c.draw_with.new.seat c.set_info.ensures.row
    (shift_row c.set_info.new.seat c.draw_with.new.seat c.draw_with.ensures.stores e.0 e.1 c.in_ok-set_info.ensures.set.going e.2
    (Large c.args.d c.args.n) e.3)

pub returns-clause-held : goal.returns-clause-held
returns-clause-held g c = let e = c.draw_with.ensures.event c.in_ok-set_info.ensures.set.going in
    held c.args.seat.now.view c.recall_soundness.ensures c.args.d c.args.n c.requires.claimed c.set_info.new.seat.view
    (subst (λ (i : ℕ). HasInfo c.args.d i c.args.seat.now.view c.set_info.new.seat.view) c.pack.ensures c.in_ok-set_info.ensures.set)
    e.0 e.1 c.draw_with.new.seat.view e.2 e.3
    (record { first_word = c.start-first_word.result; words = superblock_words * c.args.n })
    (ap (λ (n : ℕ). record { first_word = n; words = superblock_words * c.args.n }) (c.start-first_word.ensures
    ∙ ap (λ (n : ℕ). start_word n c.args.d) (c.new.ensures ∙ c.capacity.ensures)))
    c.in_ok-draw_with.ensures.told

pub returns-in_err-draw_with-clause-asked : goal.returns-in_err-draw_with-clause-asked
returns-in_err-draw_with-clause-asked g c = asked_then c.set_info.ensures.asked c.draw_with.ensures.numbers

pub returns-clause-asked : goal.returns-clause-asked
returns-clause-asked g c = asked_then c.set_info.ensures.asked c.draw_with.ensures.numbers
