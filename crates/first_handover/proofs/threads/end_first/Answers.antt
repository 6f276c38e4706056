use Rattle.first_handover.proofs.Working.{back_from}
use Rattle.first_handover.proofs.threads.end_first.Goals as goal

pub returns-in-Some-clause-back : goal.returns-in-Some-clause-back
returns-in-Some-clause-back c = back_from c.args.shared.now c.args.seat.view c.args.seat c.recall_soundness.ensures c.requires.of (λ b there. there)
