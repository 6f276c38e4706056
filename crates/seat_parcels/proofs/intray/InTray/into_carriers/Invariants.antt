use Rattle.std.proofs.Common.{◌≡◌, ◌+◌, ◌≤◌, ◌++◌, map, vec_capacity, vec_len}
use Rattle.std.specs.VecDeque.{deque_len}
use Rattle.seat_parcels.specs.declared.parcel.Parcel.{Parcel}
use Rattle.seat_parcels.proofs.intray.InTray.into_carriers.Given as goal

abbrev pub invariant-loop-parcel : goal.invariant-loop-parcel
invariant-loop-parcel g l = record {
  items : l.carriers.items ++ map (λ (p : Parcel). p.carrier) l.left.items ≡ map (λ (p : Parcel). p.carrier) l.fn.self;
  room : vec_len l.carriers + deque_len l.left ≤ vec_capacity l.carriers;
}

abbrev pub decreases-loop-parcel : goal.decreases-loop-parcel
decreases-loop-parcel g l = deque_len l.left
