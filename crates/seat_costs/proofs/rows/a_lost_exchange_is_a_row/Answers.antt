use Rattle.seat_costs.proofs.EventLemmas.{fresh_lost_row, give_lost_row, pop_lost_row, push_lost_row, take_all_lost_row}
use Rattle.seat_costs.proofs.RowLemmas.{row_of}
use Rattle.seat_costs.proofs.rows.a_lost_exchange_is_a_row.Goals as goal

pub returns-clause-take_fresh : goal.returns-clause-take_fresh
returns-clause-take_fresh c = λ n v w found e stores other. row_of v w stores (fresh_lost_row n v.view w.view found e other)

pub returns-clause-pop : goal.returns-clause-pop
returns-clause-pop c = λ v w found e stores other. row_of v w stores (pop_lost_row v.view w.view found e other)

pub returns-clause-push : goal.returns-clause-push
returns-clause-push c = λ d v w found e stores other. row_of v w stores (push_lost_row d v.view w.view found e other)

pub returns-clause-take_all : goal.returns-clause-take_all
returns-clause-take_all c = λ d v w found e stores other. row_of v w stores (take_all_lost_row d v.view w.view found e other)

pub returns-clause-give : goal.returns-clause-give
returns-clause-give c = λ d v w found e stores other. row_of v w stores (give_lost_row d v.view w.view found e other)
