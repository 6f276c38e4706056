use Rattle.seat_costs.proofs.RowLemmas.{row_draws, row_draws_exact}
use Rattle.seat_costs.proofs.rows.a_row_bounds_its_draws.Goals as goal

pub returns-clause-told : goal.returns-clause-told
returns-clause-told c = λ a v w p. row_draws v w p

pub returns-clause-exact : goal.returns-clause-exact
returns-clause-exact c = λ a v w p. row_draws_exact v w p
