use Rattle.heap_seat.proofs.RowLemmas.{row_none, row_small, row_large, row_more, row_then}
use Rattle.heap_seat.proofs.laws.rows_of_calls_go_together.Goals as goal

pub returns-clause-none : goal.returns-clause-none
returns-clause-none c = row_none

pub returns-clause-small : goal.returns-clause-small
returns-clause-small c = row_small

pub returns-clause-large : goal.returns-clause-large
returns-clause-large c = row_large

pub returns-clause-more : goal.returns-clause-more
returns-clause-more c = row_more

pub returns-clause-row : goal.returns-clause-row
returns-clause-row c = row_then
