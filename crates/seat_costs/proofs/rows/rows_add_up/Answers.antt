use Rattle.seat_costs.proofs.RowLemmas.{holding_then, holding_within, row_moves, row_none, row_then, row_within, storing_then, then_holding, then_storing}
use Rattle.seat_costs.proofs.rows.rows_add_up.Goals as goal

pub returns-clause-none : goal.returns-clause-none
returns-clause-none c = row_none

pub returns-clause-both : goal.returns-clause-both
returns-clause-both c = λ a b u v w p q. row_then u v w p q

pub returns-clause-within : goal.returns-clause-within
returns-clause-within c = λ a b v w less p. row_within b v w less p

pub returns-clause-before : goal.returns-clause-before
returns-clause-before c = λ a b u v w p q. then_holding u v w p q

pub returns-clause-behind : goal.returns-clause-behind
returns-clause-behind c = λ a b u v w p q. holding_then u v w p q

pub returns-clause-holding : goal.returns-clause-holding
returns-clause-holding c = λ a b v w less p. holding_within b v w less p

pub returns-clause-moves : goal.returns-clause-moves
returns-clause-moves c = λ a v w p. row_moves v w p

pub returns-clause-before_store : goal.returns-clause-before_store
returns-clause-before_store c = λ word a b u v w p q. then_storing word u v w p q

pub returns-clause-behind_store : goal.returns-clause-behind_store
returns-clause-behind_store c = λ word a b u v w p q. storing_then word u v w p q
