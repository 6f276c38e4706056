use Rattle.heap_rule.proofs.WordsLeftLemmas.{push_won}
use Rattle.seat_costs.proofs.EventLemmas.{give_row, move_row, pop_row, push_row, take_all_row}
use Rattle.seat_costs.proofs.FreshLemmas.{fresh_row}
use Rattle.seat_costs.proofs.RowLemmas.{row_of}
use Rattle.seat_costs.proofs.rows.an_exchange_is_a_row.Goals as goal

pub returns-clause-take_fresh : goal.returns-clause-take_fresh
returns-clause-take_fresh c = λ n v w found e stores. row_of v w stores (fresh_row n v.view w.view found e)

pub returns-clause-pop : goal.returns-clause-pop
returns-clause-pop c = λ v w found e stores. row_of v w stores (pop_row v.view w.view found e)

pub returns-clause-push : goal.returns-clause-push
returns-clause-push c = λ d v w found e stores. row_of v w stores (push_row d v.view w.view found e)

pub returns-clause-move_free : goal.returns-clause-move_free
returns-clause-move_free c = λ d v w found e stores same free none. row_of v w stores
    (move_row d v.view w.view (push_won d v.view w.view found e same) none free)

pub returns-clause-take_all : goal.returns-clause-take_all
returns-clause-take_all c = λ d v w found e stores. row_of v w stores (take_all_row d v.view w.view found e)

pub returns-clause-give : goal.returns-clause-give
returns-clause-give c = λ d v w found e stores. row_of v w stores (give_row d v.view w.view found e)
