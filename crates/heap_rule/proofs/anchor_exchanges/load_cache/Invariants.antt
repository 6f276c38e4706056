use Rattle.std.proofs.Common.{◌≡◌, ◌<◌, drop, get_or, length, take}
use Rattle.core_model.specs.View.{of_class}
use Rattle.heap_table.specs.SeatViews.{view_in}
use Rattle.heap_rule.proofs.anchor_exchanges.load_cache.Given as goal

abbrev pub invariant-loop-step : goal.invariant-loop-step
invariant-loop-step l = record {
  same : l.table_seat.me ≡ l.initial.table_seat.me;
  table : l.table_seat.table_id ≡ l.initial.table_seat.table_id;
  at : l.step < l.count → get_or (of_class (view_in l.initial.table_seat.me.0).caches l.fn.class.number) l.step l.block ≡ l.block;
  long : length l.stack.blocks.items ≡ length l.initial.stack.blocks.items;
  filled : take l.step (drop l.top l.stack.blocks.items) ≡ take l.step (of_class (view_in l.initial.table_seat.me.0).caches l.fn.class.number);
}
