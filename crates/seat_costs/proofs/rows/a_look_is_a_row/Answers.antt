use Rattle.seat_costs.proofs.EventLemmas.{keep_used_row, look_anchor_row, look_link_row}
use Rattle.seat_costs.proofs.FreshLemmas.{head_seat_row, used_seat_row}
use Rattle.seat_costs.proofs.RowLemmas.{row_of}
use Rattle.seat_costs.proofs.rows.a_look_is_a_row.Goals as goal

pub returns-clause-head : goal.returns-clause-head
returns-clause-head c = λ list v u w found drawn row e stores. head_seat_row v u drawn row list found w e stores

pub returns-clause-used : goal.returns-clause-used
returns-clause-used c = λ v u w found drawn row e stores. used_seat_row v u drawn row found w e stores

pub returns-clause-link : goal.returns-clause-link
returns-clause-link c = λ v w found e stores. row_of v w stores (look_link_row v.view w.view found e)

pub returns-clause-anchor : goal.returns-clause-anchor
returns-clause-anchor c = λ d v w found e stores. row_of v w stores (look_anchor_row d v.view w.view found e)

pub returns-clause-keep_used : goal.returns-clause-keep_used
returns-clause-keep_used c = λ v w found e stores. row_of v w stores (keep_used_row v.view w.view found e)
