use Rattle.seat_costs.proofs.DrawLemmas.{row_of_draw, stops}
use Rattle.seat_costs.proofs.RowLemmas.{row_of}
use Rattle.seat_costs.proofs.ShiftLemmas.{cut_draw_row, lift_draw_row, shift_row}
use Rattle.seat_costs.proofs.rows.a_draw_is_a_row.Goals as goal

pub returns-clause-shift : goal.returns-clause-shift
returns-clause-shift c = λ shift v w early found went settles e stores. shift_row v w stores early settles went found shift e

pub returns-clause-cut : goal.returns-clause-cut
returns-clause-cut c = λ d v w early found went settles e stores. row_of v w stores (cut_draw_row v.view early settles went w.view found d e)

pub returns-clause-lift : goal.returns-clause-lift
returns-clause-lift c = λ class v w early found went settles e stores. row_of v w stores (lift_draw_row v.view early settles went w.view found class e)

pub returns-clause-plain : goal.returns-clause-plain
returns-clause-plain c = λ v w early found went settles e stores. row_of v w stores (row_of_draw v.view early settles w.view found e went)

pub returns-clause-stop : goal.returns-clause-stop
returns-clause-stop c = λ shift v w early found step went settles e stop. stops v early settles shift w found e step went stop
