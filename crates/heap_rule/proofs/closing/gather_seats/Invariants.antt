use Rattle.std.proofs.Common.{◌≡◌, ℕ, ◌+◌, ◌++◌, length}
use Rattle.heap_rule.specs.Carried.{HasSeatsBefore}
use Rattle.heap_rule.specs.Seats.{AreAtTable, views_of}
use Rattle.heap_rule.proofs.closing.gather_seats.Given as goal

abbrev pub invariant-loop-seat : goal.invariant-loop-seat
invariant-loop-seat l = record {
  table : l.all.table_id ≡ l.shared.table;
  seats : AreAtTable l.shared.table l.seats.items;
  views : views_of l.seats.items ++ l.all.me.0 ≡ views_of l.fn.seats.items ++ l.fn.last.me.0;
  counted : (n : ℕ) × (n + length l.seats.items ≡ length l.fn.seats.items) × HasSeatsBefore n l.fn.last.me.0 l.all.me.0;
}

abbrev pub decreases-loop-seat : goal.decreases-loop-seat
decreases-loop-seat l = goal.left-loop-seat l
