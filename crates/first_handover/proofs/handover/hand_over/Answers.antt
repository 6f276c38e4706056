use Rattle.std.proofs.Common.{◌≡◌, ap, subst, ◌∙◌}
use Rattle.std.specs.Prelude.{IfOk}
use Rattle.std.proofs.lemmas.Result.{IfOk-weaker}
use Rattle.heap_model.specs.Image.{Image}
use Rattle.core_model.specs.Held.{AreApart, IsHeld}
use Rattle.core_model.specs.View.{View}
use Rattle.heap_rule.specs.Left.{MayBeLeft}
use Rattle.heap_rule.specs.Seated.{SeatView}
use Rattle.first_handover.specs.declared.hands.Received.{Received}
use Rattle.first_handover.specs.Handover.{HasBlock, IsLeftOf, KnowsReceived}
use Rattle.first_handover.proofs.Closing.{has_block}
use Rattle.first_handover.proofs.Words.{if_some}
use Rattle.first_handover.proofs.handover.hand_over.Goals as goal

pub returns-clause-value : goal.returns-clause-value
returns-clause-value g c =
    let worked = c.work-worked in
    if_some (KnowsReceived c.args.value worked.result.other.view) (λ (r : Received). r.value ≡ c.args.value) worked.result.received
    (λ r got. got.has.read) worked.ensures.received

pub returns-clause-kept : goal.returns-clause-kept
returns-clause-kept g c =
    let worked = c.work-worked in
    let one = worked.result.one in
    let other = worked.result.other in
    if_some (λ (r : Received). IsHeld other.view r.block) (λ r. IfOk worked.result.kept (λ a. AreApart a r.block)) worked.result.received
    (λ r held. IfOk-weaker worked.result.kept (IsHeld one.view) (λ a. AreApart a r.block)
    (λ a there. c.held_at_once-one.ensures.apart a r.block there held) worked.ensures.kept) worked.ensures.gets

pub returns-clause-left : goal.returns-clause-left
returns-clause-left g c =
    let worked = c.work-worked in
    let law = c.a_seat_of_the_core_is_a_seat_of_a_heap.ensures in
    let same = ap (λ (s : SeatView). s.view) c.held_at_once-one.ensures.other in
    if_some (KnowsReceived c.args.value worked.result.other.view) (λ (r : Received). (image : Image) → IsLeftOf c.in_ok-words.words image
    → HasBlock c.args.value image r.block) worked.result.received
    (λ r got image left.
    let may = subst (λ (v : View). MayBeLeft v image) (same ∙ got.view) (c.in_ok-words.ensures.left image left) in
    has_block c.args.value got.state image r ((law.seat got.state).placed r.block got.has.held).some (law.named got.state image may)
    (law.mixed got.state image may) got.has) worked.ensures.received
