use Rattle.std.proofs.Common.{subst}
use Rattle.heap_table.specs.Plays.{HasSoundState}
use Rattle.heap_rule.specs.Seated.{SeatView}
use Rattle.heap_rule.proofs.seat.Seat.recall_soundness.Goals as goal

pub returns : goal.returns
returns c = subst (λ (s : SeatView). HasSoundState s.view) c.self.view_is c.self.invariant.seat.kept.has
