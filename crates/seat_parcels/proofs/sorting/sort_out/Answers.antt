use Rattle.std.proofs.Common.{arith, rules}
use Rattle.seat_parcels.specs.Boxes.{pieces_of}
use Rattle.seat_parcels.proofs.SortLemmas.{all_laid, one_laid, so_many}
use Rattle.seat_parcels.proofs.sorting.sort_out.Goals as goal

pub lay-requires : goal.lay-requires
lay-requires c =
    let long = so_many c.args.workers c.args.parcels.items c.loop-parcel.left.items c.loop-parcel.pieces.items c.loop-parcel.invariant in
    let to = c.worker_for-to.ensures in omega (arith, long, to)

pub loop-parcel-preserved : goal.loop-parcel-preserved
loop-parcel-preserved c =
    let to = c.worker_for-to.ensures in
    one_laid c.args.workers c.args.parcels.items c.loop-parcel.left.items c.pop_front.new.self.items (pieces_of c.loop-parcel.pieces.items)
    (pieces_of c.lay.new.pieces.items)
    c.in-Some.parcel c.worker_for-to.result c.loop-parcel.invariant c.in-Some.ensures.items to (omega (arith, to)) c.in_ok-lay.ensures

pub returns : goal.returns
returns c = all_laid c.args.workers c.args.parcels.items c.loop-parcel.left.items (pieces_of c.loop-parcel.pieces.items) c.loop-parcel.invariant
    (search rules)
