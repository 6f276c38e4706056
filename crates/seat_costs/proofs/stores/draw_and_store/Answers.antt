use Rattle.seat_costs.proofs.AskedLemmas.{asked_step, settled_then}
use Rattle.seat_costs.proofs.RowLemmas.{row_held, row_then, then_storing}
use Rattle.seat_costs.proofs.StoreLemmas.{row_of_store, store_row, storing_row}
use Rattle.seat_costs.proofs.StoredLemmas.{can_store, has_stored, no_loss, stored_looks}
use Rattle.heap_rule.proofs.RawLemmas.{store_durable}
use Rattle.seat_costs.specs.Words.{IsHeldWord}
use Rattle.seat_costs.proofs.stores.draw_and_store.Goals as goal

pub store_word-requires-clause-can : goal.store_word-requires-clause-can
store_word-requires-clause-can g c =
    can_store c.args.seat.now.view c.draw.new.seat.view c.in_ok-draw.ensures.drawn c.args.word c.requires.may.0 c.args.value c.requires.may.1

pub returns-clause-stored : goal.returns-clause-stored
returns-clause-stored g c = let e = c.store_word.ensures.event in
    has_stored c.args.seat.now.view c.draw.new.seat.view c.store_word.new.self.view c.args.word c.args.value e.0 c.in_ok-draw.ensures.drawn e.1
    c.requires.may.0

pub returns-clause-row : goal.returns-clause-row
returns-clause-row g c = let e = c.store_word.ensures.event in
    then_storing c.args.word c.args.seat.now c.draw.new.seat c.store_word.new.self c.draw.ensures.row
    (storing_row c.args.word c.args.value c.draw.new.seat c.store_word.new.self e.0 e.1 c.store_word.ensures.stores)

pub returns-clause-not_held : goal.returns-clause-not_held
returns-clause-not_held g c = λ free. let e = c.store_word.ensures.event in
    let v = c.args.seat.now in let u = c.draw.new.seat in let w = c.store_word.new.self in
    let still : IsHeldWord u.view c.args.word → ⊥ = λ held. free (row_held v.view u.view c.draw.ensures.row.view c.args.word held) in
    row_then v u w c.draw.ensures.row (row_of_store u w c.args.word c.store_word.ensures.stores still
    (store_row c.args.word c.args.value u.view w.view e.0 e.1 still))

pub returns-clause-looks : goal.returns-clause-looks
returns-clause-looks g c = let e = c.store_word.ensures.event in
    stored_looks c.args.seat.now.view c.draw.new.seat.view c.store_word.new.self.view c.args.word c.args.value e.0 c.in_ok-draw.ensures.drawn e.1

pub returns-clause-losses : goal.returns-clause-losses
returns-clause-losses g c = let e = c.store_word.ensures.event in
    no_loss c.args.seat.now.view c.draw.new.seat.view c.store_word.new.self.view c.args.word c.args.value e.0 c.in_ok-draw.ensures.drawn e.1

pub returns-clause-asked : goal.returns-clause-asked
returns-clause-asked g c = asked_step tt c.draw.ensures.numbers c.store_word.ensures.event.1

pub returns-clause-early : goal.returns-clause-early
returns-clause-early g c = let e = c.store_word.ensures.event in λ going.
    settled_then (c.draw.ensures.early going) (store_durable c.args.word c.args.value c.draw.new.seat.view c.store_word.new.self.view e.0 e.1)
