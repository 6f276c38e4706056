use Rattle.std.proofs.Common.{ap, sym, subst, ◌∙◌}
use Rattle.atomic_table.specs.Seated.{TableId}
use Rattle.core_model.specs.Memory.{table_length}
use Rattle.core_model.specs.View.{Setup}
use Rattle.heap_table.specs.SeatViews.{view_in}
use Rattle.seat_index.specs.Holdings.{Holds}
use Rattle.heap_rule.specs.Seated.{SeatView}
use Rattle.heap_rule.proofs.HandedSeats.{can_lose, offered_seat, whole_carrier, whole_carries}
use Rattle.heap_rule.proofs.seat.Seat.offer.Goals as goal

pub lose-requires : goal.lose-requires
lose-requires c = let h = subst (λ (s : SeatView). Holds s.view c.args.block c.holding_of-holding.result)
    (sym c.self.view_is) c.holding_of-holding.ensures in
    can_lose (view_in c.self.inside.table_seat.me.0) c.self.invariant.seat.kept.has c.self.inside.owned c.self.invariant.own c.args.block
    c.holding_of-holding.result h

pub invariant_of-self : goal.invariant_of-self
invariant_of-self c = let h = subst (λ (s : SeatView). Holds s.view c.args.block c.holding_of-holding.result)
    (sym c.self.view_is) c.holding_of-holding.ensures in
    offered_seat c.args.shared.now c.offer-table_seat.new.seat.table_id c.self.inside.table_seat.me c.offer-table_seat.new.seat.me
    c.self.inside.notes c.self.inside.owned c.lose.new.self c.self.inside.pending c.self.inside.geometry.capacity
    c.self.inside.budget c.args.block c.holding_of-holding.result h c.self.invariant c.offer-table_seat.ensures.at
    c.offer-table_seat.ensures.view c.lose.ensures

pub invariant_of-result : goal.invariant_of-result
invariant_of-result c = let h = subst (λ (s : SeatView). Holds s.view c.args.block c.holding_of-holding.result)
    (sym c.self.view_is) c.holding_of-holding.ensures in
    whole_carrier (view_in c.self.inside.table_seat.me.0) c.self.invariant.seat.kept.has c.args.block c.holding_of-holding.result h
    c.offer-table_seat.result.table_id
    (ap (λ (t : TableId). t.words) c.offer-table_seat.ensures.carrier_table ∙ c.has_its_length.ensures
    ∙ ap (λ (k : Setup). table_length k.capacity) (sym (ap (λ (s : SeatView). s.view.setup) c.self.view_is ∙ c.requires.seat.setup)))
    c.offer-table_seat.result.me c.offer-table_seat.ensures.carrier

pub returns-clause-carries : goal.returns-clause-carries
returns-clause-carries c = whole_carries c.offer-table_seat.result.table_id c.offer-table_seat.result.me c.args.block
    c.holding_of-holding.result (invariant_of-result c) c.args.self.now.view.setup.capacity
    (ap (λ (t : TableId). t.words) c.offer-table_seat.ensures.carrier_table ∙ c.has_its_length.ensures
    ∙ ap (λ (k : Setup). table_length k.capacity) (sym c.requires.seat.setup))
