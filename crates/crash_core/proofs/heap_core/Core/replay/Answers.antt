use Rattle.std.proofs.Common.{◌<◌, length, sym, subst}
use Rattle.crash_core.specs.Opened.{Opened}
use Rattle.crash_core.proofs.heap_core.Core.replay.Goals as goal

pub run-requires-clause-seats : goal.run-requires-clause-seats
run-requires-clause-seats c = λ e there. subst (λ (x : Opened). e.0 < length x.state.seats.items) (sym c.self.view_is) (c.requires.seats e there)
