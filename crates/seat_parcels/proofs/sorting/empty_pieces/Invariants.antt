use Rattle.std.proofs.Common.{◌≡◌, ◌≤◌, All, [], length, vec_capacity}
use Rattle.seat_parcels.proofs.sorting.empty_pieces.Given as goal

abbrev pub invariant-loop : goal.invariant-loop
invariant-loop l = record {
  each : All (λ v. v.items ≡ []) l.pieces.items;
  long : length l.pieces.items ≡ l.counter;
  room : vec_capacity l.pieces ≡ l.workers;
  inside : l.counter ≤ l.workers;
}
