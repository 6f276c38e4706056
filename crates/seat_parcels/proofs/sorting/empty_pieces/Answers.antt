use Rattle.std.proofs.Common.{arith}
use Rattle.seat_parcels.proofs.SortLemmas.{empty_for_all}
use Rattle.seat_parcels.proofs.sorting.empty_pieces.Goals as goal

pub returns : goal.returns
returns c = empty_for_all c.args.workers c.loop.pieces.items c.loop.invariant.each (omega arith)
