use Rattle.std.proofs.Common.{refl}
use Rattle.first_handover.proofs.Working.{back_from}
use Rattle.first_handover.proofs.threads.end_second.Goals as goal

pub returns-in-Some : goal.returns-in-Some
returns-in-Some c = record {
  back = back_from c.args.shared.now c.args.seat.view c.args.seat c.recall_soundness.ensures c.requires.at.of (λ b there. there);
  received = λ value brings. tt;
  gets = tt;
  apart = tt;
  table = c.requires.table;
  accepted = record { accepts = refl; offers = refl; carries = refl };
}
