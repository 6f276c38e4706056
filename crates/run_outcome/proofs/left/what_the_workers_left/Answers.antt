use Rattle.run_outcome.proofs.HeaderLemmas.{leaves_header, leaves_state}
use Rattle.run_outcome.proofs.RunLeftLemmas.{leaves_others}
use Rattle.run_outcome.proofs.OrderlyLemmas.{leaves_orderly}
use Rattle.run_outcome.proofs.left.what_the_workers_left.Goals as goal

pub returns-clause-header : goal.returns-clause-header
returns-clause-header c = leaves_header

pub returns-clause-others : goal.returns-clause-others
returns-clause-others c = leaves_others

pub returns-clause-state : goal.returns-clause-state
returns-clause-state c = leaves_state

pub returns-clause-orderly : goal.returns-clause-orderly
returns-clause-orderly c = leaves_orderly
