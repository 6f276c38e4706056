use Rattle.std.proofs.Common.{◌≡◌, Contains, ap, arith, subst, sym, ◌∙◌}
use Rattle.heap_model.specs.declared.block.Block.{Block}
use Rattle.core_model.specs.Held.{AreApart}
use Rattle.core_model.specs.View.{Role}
use Rattle.heap_seat.proofs.CallerLemmas.{held_in}
use Rattle.seat_model.specs.CacheState.{heap_view}
use Rattle.first_handover.specs.declared.hands.Received.{Received}
use Rattle.first_handover.specs.Handover.{HasValue}
use Rattle.first_handover.proofs.Words.{apart_from_new, comes_with, if_some}
use Rattle.first_handover.proofs.hands.receive.Goals as goal

pub returns-in-Ok : goal.returns-in-Ok
returns-in-Ok c =
    let carrier = c.args.carrier in
    let old = heap_view c.args.seat.now.state in
    let at = heap_view c.accept.new.self.state in
    let now = heap_view c.read.new.seat.state in
    let adds = c.in-Ok.ensures.ok.blocks in
    let is = c.in-Ok.ensures.block in
    let seat = c.a_seat_of_the_core_is_a_seat_of_a_heap.ensures.seat c.accept.new.self.state in
    let kept = c.read.ensures.kept in
    let roles = kept.2 ∙ c.in-Ok.ensures.accepted in record {
      same = record { table = kept.0 ∙ c.accept.ensures.table; setup = kept.1.setup ∙ c.accept.ensures.costs.setup };
      received = λ value brings. c.read.ensures.read value
          (subst (λ (b : Block). HasValue value b at) (sym is) (comes_with value carrier at
          (seat.placed carrier.block adds.has).some c.in-Ok.ensures.brought brings));
      gets = if_some (λ (r : Received). r.block ≡ c.in-Ok.block) (λ r. Contains now.held r.block) c.read.result
          (λ r same. subst (λ (b : Block). Contains now.held b) (sym (same ∙ is)) (held_in at now carrier.block c.read.ensures.held adds.has))
          c.read.ensures.block;
      apart = if_some (λ (r : Received). r.block ≡ c.in-Ok.block) (λ r. (a : Block) → Contains old.held a → AreApart a r.block) c.read.result
          (λ r same a held. subst (AreApart a) (sym (same ∙ is)) (apart_from_new a carrier.block old at seat adds held)) c.read.ensures.block;
      held = λ a there. held_in at now a c.read.ensures.held (adds.keeps a there);
      table = tt;
      accepted = record {
        accepts = let e = ap (λ (r : Role). r.accepts) roles in omega (arith, e);
        offers = ap (λ (r : Role). r.offers) roles;
        carries = ap (λ (r : Role). r.carries) roles;
      };
    }
