use Rattle.std.proofs.Common.{◌≡◌, Contains, ap, arith, ◌∙◌}
use Rattle.heap_model.specs.declared.block.Block.{Block}
use Rattle.core_model.specs.Held.{AreApart, IsHeld}
use Rattle.core_model.specs.View.{View}
use Rattle.heap_rule.specs.Carried.{CarrierView}
use Rattle.seat_model.specs.CacheState.{heap_view, held_blocks}
use Rattle.seat_model.proofs.HeldLemmas.{held_is}
use Rattle.first_handover.specs.declared.hands.Received.{Received}
use Rattle.first_handover.specs.Handover.{HasReceived, KnowsReceived}
use Rattle.first_handover.proofs.Words.{if_some}
use Rattle.first_handover.proofs.Working.{back_from, held_at, seat_of}
use Rattle.first_handover.proofs.threads.take.Goals as goal

pub returns : goal.returns
returns c =
    let v = c.args.seat.view in
    let first = c.new-seat.result.state in
    let at = c.try_receive-taken.new.seat.state in
    let seat = c.into_seat-seat.result in
    let taken = c.try_receive-taken.result in
    let took = c.try_receive-taken.ensures in
    let new = c.new-seat.ensures.state in
    let back = c.into_seat-seat.ensures in record {
      back = back_from c.args.shared.now v seat c.recall_soundness.ensures
          (seat_of c.args.shared.now c.args.seat first at seat c.requires.at.of new took.same.table took.same.setup back.table back.view)
          (λ b there. held_at seat.view at.view b back.view (took.held b (held_at first.view v b new.view there)));
      received = λ value brings. if_some (HasReceived value (heap_view at)) (KnowsReceived value seat.view) taken.received
          (λ r got. record { state = at; view = back.view; has = got }) (took.received value brings);
      gets = if_some (λ (r : Received). Contains (held_blocks at.view) r.block) (λ r. IsHeld seat.view r.block) taken.received
          (λ r there. held_is seat.view c.recall_soundness.ensures r.block (held_at seat.view at.view r.block back.view there)) took.gets;
      apart = if_some (λ (r : Received). (a : Block) → Contains (held_blocks first.view) a → AreApart a r.block) (λ r. (a : Block)
          → Contains (held_blocks v) a → AreApart a r.block) taken.received
          (λ r apart a there. apart a (held_at first.view v a new.view there)) took.apart;
      table = if_some (λ (x : CarrierView). x.table ≡ first.table) (λ x. x.table ≡ c.args.shared.now.table) taken.left
          (λ x same. same ∙ new.table ∙ c.requires.at.of.table) took.table;
      accepted = record {
        accepts = let e = ap (λ (x : View). x.accepts) back.view in let n = ap (λ (x : View). x.accepts) new.view in
            let t = took.accepted.accepts in omega (arith, e, n, t);
        offers = ap (λ (x : View). x.offers) back.view ∙ took.accepted.offers ∙ ap (λ (x : View). x.offers) new.view;
        carries = ap (λ (x : View). x.carries) back.view ∙ took.accepted.carries ∙ ap (λ (x : View). x.carries) new.view;
      };
    }

pub new-seat-requires-clause-idle : goal.new-seat-requires-clause-idle
new-seat-requires-clause-idle c = (c.requires.at.between c.requires.going).0
