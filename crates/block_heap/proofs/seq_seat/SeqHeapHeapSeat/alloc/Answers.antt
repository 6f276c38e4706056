use Rattle.std.proofs.Common.{◌<◌, subst, sym, ap}
use Rattle.block_heap.specs.Order.{ServesInOrder}
use Rattle.block_heap.specs.SeqState.{SeqState}
use Rattle.block_heap.specs.Serving.{Answers}
use Rattle.block_heap.proofs.RefusedLemmas.{refused_by, refused_heap, refused_by_as, refused_keeps}
use Rattle.block_heap.proofs.seq_seat.SeqHeapHeapSeat.alloc.Goals as goal

pub invariant_of-self : goal.invariant_of-self
invariant_of-self g c = refused_heap _ c.args.bytes c.looks-self-inside.result _ c.self.invariant
    (subst (λ (s : SeqState). s.refusals < s.large_calls) (sym c.self.view_is) c.in_ok-block.ensures.refusable)

pub returns-in-None-clause-cause : goal.returns-in-None-clause-cause
returns-in-None-clause-cause g c =
    refused_by c.args.bytes c.looks-self-inside.result c.in_ok-block.field-0 c.args.self.now c.request.new.self _ c.self.view_is c.in-None.is
    c.in_ok-block.ensures.ok c.in_ok-block.ensures.runs c.in_ok-block.ensures.words c.looks-self-inside.ensures

pub returns-in-Some-clause-room : goal.returns-in-Some-clause-room
returns-in-Some-clause-room g c = (
  (subst (λ answer. Answers c.args.bytes answer c.args.self.now.parts c.request.new.self.parts) c.in-Some.is c.in_ok-block.ensures.ok).room,
  λ class least.
      subst (λ answer. ServesInOrder class answer c.args.self.now.parts c.request.new.self.parts) c.in-Some.is
      (c.in_ok-block.ensures.order class least),
  (subst (λ answer. Answers c.args.bytes answer c.args.self.now.parts c.request.new.self.parts) c.in-Some.is c.in_ok-block.ensures.ok).large,
)

pub returns-in-None-clause-none : goal.returns-in-None-clause-none
returns-in-None-clause-none g c =
    λ looks same. refused_by_as c.args.bytes c.looks-self-inside.result looks c.in_ok-block.field-0 c.args.self.now.parts
    c.request.new.self.parts _ (ap (λ (m : SeqState). m.parts) c.self.view_is) c.in-None.is
    c.in_ok-block.ensures.ok c.looks-self-inside.ensures same

pub returns-in-None-clause-unchanged : goal.returns-in-None-clause-unchanged
returns-in-None-clause-unchanged g c =
    refused_keeps c.args.bytes c.looks-self-inside.result c.in_ok-block.field-0 c.args.self.now c.request.new.self _ c.self.view_is c.in-None.is
    c.in_ok-block.ensures.ok c.in_ok-block.ensures.words
