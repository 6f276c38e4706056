use Rattle.std.proofs.Common.{◌-◌, get_or}
use Rattle.crash_core.proofs.GivenLemmas.{IsPartGiven}
use Rattle.crash_core.proofs.anchor_exchanges.give_chain.Given as goal

abbrev pub invariant-loop-step : goal.invariant-loop-step
invariant-loop-step l = IsPartGiven (λ n. get_or l.words n 0) l.initial.owners.items l.owners.items l.first l.count l.block (l.count - l._step) l.owner
