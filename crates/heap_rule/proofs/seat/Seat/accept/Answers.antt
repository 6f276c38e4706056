use Rattle.std.proofs.Common.{sym, subst, ap, ◌∙◌}
use Rattle.core_model.specs.Held.{IsHeld}
use Rattle.core_model.specs.View.{View, Setup}
use Rattle.atomic_table.specs.Seated.{TableId}
use Rattle.core_model.specs.Memory.{table_length}
use Rattle.heap_table.specs.Plays.{HasSoundState}
use Rattle.heap_table.specs.SeatViews.{view_in}
use Rattle.heap_rule.specs.Carried.{CarrierView, Carries}
use Rattle.seat_index.specs.Holdings.{CanGain, HasGained}
use Rattle.heap_rule.proofs.CarrierBlocks.{acceptor_holds}
use Rattle.heap_rule.proofs.HandedSeats.{accepted_seat, can_gain, whole_carries}
use Rattle.heap_rule.proofs.seat.Seat.accept.Goals as goal

pub gain-requires : goal.gain-requires
gain-requires c = subst (λ n. CanGain c.carrier.inside.block c.carrier.inside.holding n c.self.inside.owned) (sym c.self.invariant.seat.capacity_is)
    (can_gain (view_in c.self.inside.table_seat.me.0) (view_in c.carrier.inside.table_seat.me.0)
    c.carrier.inside.block c.carrier.inside.holding c.carrier.invariant.alone
    (subst HasSoundState c.accept.ensures.view c.accept.ensures.at.has) c.self.inside.owned c.self.invariant.own)

pub invariant_of-self : goal.invariant_of-self
invariant_of-self c =
    accepted_seat c.args.shared.now c.accept.new.seat.table_id c.self.inside.table_seat.me c.accept.new.seat.me c.self.inside.notes
    c.self.inside.owned c.gain.new.self c.self.inside.pending c.self.inside.geometry.capacity
    c.self.inside.budget (view_in c.carrier.inside.table_seat.me.0)
    c.carrier.inside.block c.carrier.inside.holding c.carrier.invariant.alone c.self.invariant c.accept.ensures.at c.accept.ensures.view
    (subst (λ n. HasGained c.carrier.inside.block c.carrier.inside.holding n c.self.inside.owned c.gain.new.self)
    c.self.invariant.seat.capacity_is c.gain.ensures)

pub returns-clause-held : goal.returns-clause-held
returns-clause-held c = subst (λ (v : View). IsHeld v c.carrier.inside.block) (sym c.accept.ensures.view)
    (acceptor_holds (view_in c.self.inside.table_seat.me.0) (view_in c.carrier.inside.table_seat.me.0)
    c.carrier.inside.block c.carrier.inside.holding c.carrier.invariant.alone c.accept.ensures.setup)

pub returns-clause-carries : goal.returns-clause-carries
returns-clause-carries c = subst (λ (u : CarrierView). Carries c.args.self.now.view.setup.capacity u.view u.block) c.carrier.view_is
    (whole_carries c.carrier.inside.table_seat.table_id c.carrier.inside.table_seat.me c.carrier.inside.block c.carrier.inside.holding
    c.carrier.invariant c.args.self.now.view.setup.capacity
    (ap (λ (u : CarrierView). u.table.words) c.carrier.view_is ∙ ap (λ (t : TableId). t.words) c.requires.carrier_table
    ∙ c.has_its_length.ensures ∙ ap (λ (k : Setup). table_length k.capacity) (sym c.requires.seat.setup)))
