use Rattle.block_heap.proofs.FixedLemmas.{looks_opened, row_draws}
use Rattle.block_heap.proofs.laws.looks_and_tickets_add_up.Goals as goal

pub returns-clause-looks : goal.returns-clause-looks
returns-clause-looks c = looks_opened

pub returns-clause-draws : goal.returns-clause-draws
returns-clause-draws c = row_draws
