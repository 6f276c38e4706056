use Rattle.std.proofs.Common.{refl, subst, arith}
use Rattle.parcel_queue.specs.Row.{IsOfPlace}
use Rattle.parcel_queue.proofs.RowLemmas.{as_many}
use Rattle.parcel_queue.proofs.EachLemmas.{Lead, all_lead, last_leads, others_lead, has_place, joins_last}
use Rattle.parcel_queue.proofs.row.absorb_each.Goals as goal

pub loop-other-init : goal.loop-other-init
loop-other-init g c = (c.requires.owners, all_lead c.args.queues.now c.args.others.items c.requires.others, refl)

pub absorb_at-requires-clause-at : goal.absorb_at-requires-clause-at
absorb_at-requires-clause-at g c =
    let lead = subst (Lead c.args.queues.now) c.in-Some.ensures.items c.loop-other.invariant.1 in
    let inside = has_place c.args.queues.now c.pop.new.self.items c.in-Some.other lead in
    let ok = c.pop.new.self.ok in omega (arith, inside, c.len-at.ensures, ok)

pub absorb_at-requires-clause-other : goal.absorb_at-requires-clause-other
absorb_at-requires-clause-other g c =
    subst (λ n. IsOfPlace c.args.queues.now n c.in-Some.other) (let ok = c.pop.new.self.ok in omega (arith, c.len-at.ensures, ok))
    (last_leads c.args.queues.now c.pop.new.self.items c.in-Some.other
    (subst (Lead c.args.queues.now) c.in-Some.ensures.items c.loop-other.invariant.1))

pub loop-other-preserved : goal.loop-other-preserved
loop-other-preserved g c =
    let lead = subst (Lead c.args.queues.now) c.in-Some.ensures.items c.loop-other.invariant.1 in
    let inside = has_place c.args.queues.now c.pop.new.self.items c.in-Some.other lead in
    let many = as_many c.args.queues.now c.loop-other.owners.items c.loop-other.invariant.0 in (
      c.absorb_at.ensures.owners,
      others_lead c.args.queues.now c.pop.new.self.items c.in-Some.other lead,
      joins_last c.loop-other.owners.items c.pop.new.self.items c.in-Some.other c.loop-other.invariant.2 c.in-Some.ensures.items
          (let ok = c.pop.new.self.ok in omega (arith, c.len-at.ensures, ok)) (omega (arith, inside, many)) c.absorb_at.ensures.changed,
    )
