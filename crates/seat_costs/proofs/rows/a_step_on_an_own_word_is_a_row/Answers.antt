use Rattle.seat_costs.proofs.RowLemmas.{row_of}
use Rattle.seat_costs.proofs.StoreLemmas.{fence_row, load_row, row_of_store, settle_row, store_row, storing_row, write_back_row}
use Rattle.seat_costs.proofs.rows.a_step_on_an_own_word_is_a_row.Goals as goal

pub returns-clause-load : goal.returns-clause-load
returns-clause-load c = λ word v w found e stores. row_of v w stores (load_row word v.view w.view found e)

pub returns-clause-settle : goal.returns-clause-settle
returns-clause-settle c = λ word v w found e stores. row_of v w stores (settle_row word v.view w.view found e)

pub returns-clause-store : goal.returns-clause-store
returns-clause-store c = λ word value v w found e new not_held. row_of_store v w word new not_held (store_row word value v.view w.view found e not_held)

pub returns-clause-store_held : goal.returns-clause-store_held
returns-clause-store_held c = storing_row

pub returns-clause-write_back : goal.returns-clause-write_back
returns-clause-write_back c = write_back_row

pub returns-clause-fence : goal.returns-clause-fence
returns-clause-fence c = fence_row
