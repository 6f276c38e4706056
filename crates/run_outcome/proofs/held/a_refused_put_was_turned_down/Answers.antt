use Rattle.run_outcome.proofs.HeldLemmas.{refused_put}
use Rattle.run_outcome.proofs.held.a_refused_put_was_turned_down.Goals as goal

pub returns : goal.returns
returns c = refused_put
