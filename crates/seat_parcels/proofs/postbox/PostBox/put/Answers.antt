use Rattle.std.proofs.Common.{List, ◌∷◌, ◌++◌, ◌-◌, ◌<◌, arith, length, subst, sym}
use Rattle.std.specs.List.Sorted.{IsPermutation}
use Rattle.std.specs.Vec.{vec_capacity, vec_len}
use Rattle.parcel_queue.specs.Account.{PassView}
use Rattle.seat_parcels.specs.declared.parcel.Parcel.{Parcel}
use Rattle.seat_parcels.specs.Boxes.{all_put}
use Rattle.seat_parcels.specs.Parcels.{IsParcelOf}
use Rattle.seat_parcels.proofs.BoxLemmas.{with_kept, with_put}
use Rattle.seat_parcels.proofs.PutLemmas.{has_kept, has_put}
use Rattle.seat_parcels.proofs.postbox.PostBox.put.Goals as goal

pub invariant_of-self : goal.invariant_of-self
invariant_of-self g c = with_put g.J.HeapOf.table g.Q.QueuesOf.queues _ c.self.invariant c.args.parcel c.try_put.new.self.queues
    c.try_put.new.self.passes
    c.worker_for-to.result c.worker_for-to.ensures c.in-Ok.ensures.queues c.in-Ok.ensures.put

pub invariant_of-self-in-Err : goal.invariant_of-self-in-Err
invariant_of-self-in-Err g c =
    with_kept g.J.HeapOf.table g.Q.QueuesOf.queues _ c.self.invariant c.in-Err.back c.try_put.new.self.queues c.try_put.new.self.passes
    c.push_reserved.new.self.items
    (vec_capacity c.push_reserved.new.self - vec_len c.push_reserved.new.self)
    c.in-Err.ensures.queues c.in-Err.ensures.put.1 c.push_reserved.ensures.items
    (subst (λ (p : Parcel). IsParcelOf g.J.HeapOf.table p) (sym c.in-Err.ensures.put.0) c.requires.fact)

pub returns-in-Ok-clause-put : goal.returns-in-Ok-clause-put
returns-in-Ok-clause-put g c =
    let old = c.self.inside in
    let some = c.self.invariant.some in
    let each = c.self.invariant.pass_each in
    let to = c.worker_for-to.result in
    let is = c.worker_for-to.ensures in
    let inside : to < length old.senders.passes = omega arith in
    rw (← c.self.view_is) (subst (λ (ps : List (PassView Parcel)). IsPermutation
    (c.args.parcel ∷ (all_put old.senders.passes ++ old.kept.items)) (all_put ps ++ old.kept.items))
    (sym c.in-Ok.ensures.put) (has_put c.args.parcel to old.senders.passes old.kept.items inside))

pub returns-in-Err-clause-put : goal.returns-in-Err-clause-put
returns-in-Err-clause-put g c =
    let old = c.self.inside in
    rw (← c.self.view_is) (has_kept c.args.parcel c.in-Err.back old.senders.passes c.try_put.new.self.passes old.kept.items
    c.push_reserved.new.self.items
    c.in-Err.ensures.put.1 c.in-Err.ensures.put.0 c.push_reserved.ensures.items)
