use Rattle.std.specs.VecDeque.{deque_len}
use Rattle.seat_parcels.specs.Boxes.{pieces_of}
use Rattle.seat_parcels.proofs.SortLemmas.{AreLaid}
use Rattle.seat_parcels.proofs.sorting.sort_out.Given as goal

abbrev pub invariant-loop-parcel : goal.invariant-loop-parcel
invariant-loop-parcel l = AreLaid l.workers l.fn.parcels.items l.left.items (pieces_of l.pieces.items)

abbrev pub decreases-loop-parcel : goal.decreases-loop-parcel
decreases-loop-parcel l = deque_len l.left
