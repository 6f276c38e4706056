use Rattle.std.proofs.Common.{sym}
use Rattle.crash_core.proofs.heap_core.Core.of.Goals as goal

pub returns-clause-seats : goal.returns-clause-seats
returns-clause-seats c = sym c.in_ok-state.ensures.ok.keeps.opened
