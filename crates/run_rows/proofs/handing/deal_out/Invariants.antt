use Rattle.std.proofs.Common.{◌≡◌, ◌++◌, ◌≤◌, length, vec_capacity}
use Rattle.std.specs.Vec.{vec_len}
use Rattle.seat_parcels.specs.Boxes.{pieces_of}
use Rattle.run_rows.proofs.DealLemmas.{AreDealtSoFar}
use Rattle.run_rows.proofs.handing.deal_out.Given as goal

abbrev pub invariant-loop-asked : goal.invariant-loop-asked
invariant-loop-asked g l = record {
  can : (goal.iterator-loop-asked g).can_next l.asked-iterator;
  finite : (goal.iterator-loop-asked g).is_finite l.asked-iterator;
  all_are : l.fn.all.items ≡ l.yielded ++ l.asked-iterator.rest.items;
  dealt : AreDealtSoFar l.initial.owners.items (pieces_of l.initial.pieces.items) l.owners.items (pieces_of l.pieces.items) l.yielded l.arriving.items;
  count : vec_len l.arriving ≡ length l.yielded;
  room : length l.fn.all.items ≤ vec_capacity l.arriving;
}
