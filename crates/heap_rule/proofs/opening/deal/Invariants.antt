use Rattle.std.specs.VecDeque.{deque_len}
use Rattle.std.proofs.Common.{◌≡◌, ◌-◌, ◌+◌, ◌<◌, ℕ, [], get_or, length, vec_len, vec_capacity}
use Rattle.core_model.specs.Opening.{tabulate}
use Rattle.heap_model.specs.Geometry.{image_words}
use Rattle.seat_index.specs.declared.owned_opening.Room.{Room}
use Rattle.seat_index.specs.Owned.{parts_of}
use Rattle.seat_index.specs.Rooms.{IsOpenedRoom}
use Rattle.heap_table.specs.Rule.{opened_view_of}
use Rattle.heap_rule.specs.Seats.{dealt_seats}
use Rattle.heap_rule.proofs.opening.deal.Given as goal

abbrev pub invariant-loop-i : goal.invariant-loop-i
invariant-loop-i l = record {
  table : l.dealer.table_id ≡ l.shared.table;
  rest : l.dealer.me ≡ (tabulate (opened_view_of l.shared.opening) l._i (l.seats - l._i), []);
  dealt : l.list.items ≡ dealt_seats l.shared.table (opened_view_of l.shared.opening) (image_words l.geometry.capacity) l._i;
  count : vec_len l.list ≡ l._i;
  room : vec_capacity l.list ≡ l.seats;
  left : deque_len l.rooms + l._i ≡ l.seats;
  rooms : (k : ℕ) (room : Room) → k < length l.rooms.items → get_or l.rooms.items k room ≡ room
      → IsOpenedRoom room (parts_of (opened_view_of l.shared.opening (l._i + k)));
}
