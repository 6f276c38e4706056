use Rattle.drain_laws.proofs.SpentLemmas.{all_held, spent_by_looks}
use Rattle.drain_laws.proofs.laws.a_full_class_is_all_held.Goals as goal

pub returns-clause-spent : goal.returns-clause-spent
returns-clause-spent c class looks m v w is full cache idle steady = spent_by_looks class looks m v w is full cache idle steady

pub returns-clause-held : goal.returns-clause-held
returns-clause-held c k m v class good is spent d less now = all_held k m v good class is spent d less now
