use Rattle.std.proofs.Common.{All, take}
use Rattle.core_model.specs.Carriers.{IsCarrier}
use Rattle.heap_rule.specs.Carried.{CarrierView}
use Rattle.shared_run.proofs.gather.hold_blocks.Given as goal

abbrev pub invariant-loop-carrier : goal.invariant-loop-carrier
invariant-loop-carrier l = record { held : All (λ (c : CarrierView). IsCarrier c.view) (take l.carrier-index l.carriers) }
