use Rattle.std.specs.VecDeque.{deque_len, deque_capacity}
use Rattle.std.proofs.Common.{◌≡◌, ◌≤◌, ℕ, ◌<◌, get_or}
use Rattle.seat_index.specs.declared.owned_opening.Room.{Room}
use Rattle.seat_index.specs.Owned.{opened_parts}
use Rattle.seat_index.specs.Rooms.{IsOpenedRoom}
use Rattle.seat_index.proofs.owned_opening.opened_rooms.Given as goal

abbrev pub invariant-loop-seat : goal.invariant-loop-seat
invariant-loop-seat l = record {
  count : deque_len l.list ≡ l.seat;
  room : l.seats ≤ deque_capacity l.list;
  each : (i : ℕ) (o : Room) → i < l.seat → get_or l.list.items i o ≡ o → IsOpenedRoom o (opened_parts l.heap l.owners i);
}
