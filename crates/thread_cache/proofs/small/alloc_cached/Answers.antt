use Rattle.std.proofs.Common.{Some}
use Rattle.std.proofs.lemmas.Result.{err_from_is_err_and}
use Rattle.core_model.specs.declared.event.Shift.TheVariants.{Alloc}
use Rattle.seat_costs.proofs.DrawLemmas.{row_of_stop, stops}
use Rattle.seat_costs.proofs.RowLemmas.{row_of}
use Rattle.seat_costs.proofs.ShiftLemmas.{shift_row}
use Rattle.thread_cache.proofs.SmallLemmas.{alloc_looks, allocated}
use Rattle.seat_costs.proofs.ResultLemmas.{on_err}
use Rattle.thread_cache.proofs.small.alloc_cached.Goals as goal

pub returns-in_err-draw_with-clause-stopped : goal.returns-in_err-draw_with-clause-stopped
returns-in_err-draw_with-clause-stopped g c = let p = err_from_is_err_and c.from_residual.result c.from_residual.ensures.1 in
    let e = c.draw_with.ensures.event c.requires.going in
    rw (p.1, p.2) (stops c.args.seat.now.view e.0 e.1 (Some (Alloc c.args.class.number))
    c.draw_with.new.seat.view e.2 e.3 c.in_err-draw_with.field-0.0.step c.requires.going c.in_err-draw_with.ensures.told)

pub returns-in_err-draw_with-clause-none : goal.returns-in_err-draw_with-clause-none
returns-in_err-draw_with-clause-none g c = let e = c.draw_with.ensures.event c.requires.going in
    on_err c.from_residual.result (row_of c.args.seat.now c.draw_with.new.seat c.draw_with.ensures.stores
    (row_of_stop c.args.seat.now.view e.0 e.1 (Some (Alloc c.args.class.number))
    c.draw_with.new.seat.view e.2 e.3 c.in_err-draw_with.field-0.0.step c.requires.going c.in_err-draw_with.ensures.told))

pub returns-in_err-draw_with-clause-row : goal.returns-in_err-draw_with-clause-row
returns-in_err-draw_with-clause-row g c = let e = c.draw_with.ensures.event c.requires.going in
    shift_row c.args.seat.now c.draw_with.new.seat c.draw_with.ensures.stores e.0 e.1 c.requires.going e.2 (Alloc c.args.class.number) e.3

pub returns-clause-allocated : goal.returns-clause-allocated
returns-clause-allocated g c = let e = c.draw_with.ensures.event c.requires.going in
    allocated c.args.seat.now.view e.0 c.draw_with.new.seat.view c.args.class.number e.2 e.1 e.3 c.cache-first_word.result.0
    c.block_words.result c.requires.cached c.requires.most c.cache-first_word.ensures.first c.block_words.ensures.words
    c.in_ok-draw_with.ensures.told

pub returns-clause-row : goal.returns-clause-row
returns-clause-row g c = let e = c.draw_with.ensures.event c.requires.going in
    shift_row c.args.seat.now c.draw_with.new.seat c.draw_with.ensures.stores e.0 e.1 c.requires.going e.2 (Alloc c.args.class.number) e.3

pub returns-clause-looks : goal.returns-clause-looks
returns-clause-looks g c = let e = c.draw_with.ensures.event c.requires.going in
    alloc_looks c.args.seat.now.view e.0 c.draw_with.new.seat.view c.args.class.number e.2 e.1 e.3 c.in_ok-draw_with.ensures.told
