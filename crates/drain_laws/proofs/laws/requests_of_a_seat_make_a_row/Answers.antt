use Rattle.drain_laws.proofs.RowLemmas.{row_granted, row_refused}
use Rattle.drain_laws.proofs.laws.requests_of_a_seat_make_a_row.Goals as goal

pub returns-clause-granted : goal.returns-clause-granted
returns-clause-granted c class v firsts s t b is before adds served = row_granted class v firsts s t b is before adds served

pub returns-clause-refused : goal.returns-clause-refused
returns-clause-refused c class v u w firsts looks is before refused = row_refused class v u w firsts looks is before refused
