use Rattle.std.proofs.Common.{◌≡◌, subst}
use Rattle.heap_model.specs.declared.block.Block.{Block}
use Rattle.core_model.specs.Carriers.{IsCarrier}
use Rattle.core_model.specs.Held.{IsHeld}
use Rattle.heap_table.specs.SeatViews.{view_in}
use Rattle.heap_rule.specs.Carried.{CarrierView}
use Rattle.seat_index.specs.declared.owned.Holding.{Holding}
use Rattle.seat_index.specs.Holdings.{HoldsAlone}
use Rattle.heap_rule.proofs.CarrierBlocks.{carrier_holds, only_block}
use Rattle.heap_rule.proofs.carrier.Carrier.holds_its_block.Goals as goal

pub returns-clause-carrier : goal.returns-clause-carrier
returns-clause-carrier c = subst (λ (x : CarrierView). IsCarrier x.view) c.self.view_is c.self.invariant.carrier

pub returns-clause-alone : goal.returns-clause-alone
returns-clause-alone c = subst (λ (x : CarrierView). (h : Holding) × HoldsAlone x.view x.block h) c.self.view_is
    (c.self.inside.holding, c.self.invariant.alone)

pub returns-clause-held : goal.returns-clause-held
returns-clause-held c = subst (λ (x : CarrierView). IsHeld x.view x.block) c.self.view_is
    (carrier_holds (view_in c.self.inside.table_seat.me.0) c.self.inside.block c.self.inside.holding c.self.invariant.alone)

pub returns-clause-only : goal.returns-clause-only
returns-clause-only c = subst (λ (x : CarrierView). (b : Block) → IsHeld x.view b → b ≡ x.block) c.self.view_is
    (only_block (view_in c.self.inside.table_seat.me.0) c.self.inside.block c.self.inside.holding c.self.invariant.alone)
