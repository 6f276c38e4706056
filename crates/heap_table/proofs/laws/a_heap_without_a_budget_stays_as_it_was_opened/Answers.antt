use Rattle.heap_table.proofs.BudgetLemmas.{no_budget}
use Rattle.heap_table.proofs.laws.a_heap_without_a_budget_stays_as_it_was_opened.Goals as goal

pub returns : goal.returns
returns c = no_budget
