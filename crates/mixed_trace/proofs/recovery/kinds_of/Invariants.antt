use Rattle.std.proofs.Common.{◌≡◌, map, take}
use Rattle.mixed_trace.specs.Recovery.{stored_kind}
use Rattle.mixed_trace.proofs.recovery.kinds_of.Given as goal

abbrev pub invariant-loop-mode : goal.invariant-loop-mode
invariant-loop-mode l = l.kinds.items ≡ map stored_kind (take l.mode-index l.modes)
