use Rattle.std.proofs.Common.{◌≡◌, ℕ, ◌+◌, ◌++◌, Contains, length}
use Rattle.heap_rule.specs.Carried.{AreCarriers, carried_views, CarrierView}
use Rattle.heap_rule.proofs.closing.gather_carriers.Given as goal

abbrev pub invariant-loop-carrier : goal.invariant-loop-carrier
invariant-loop-carrier l = record {
  table : l.last.table_id ≡ l.shared.table;
  carriers : (c : CarrierView) → Contains l.carriers.items c → c.table ≡ l.shared.table;
  views : carried_views l.carriers.items ++ l.last.me.0 ≡ carried_views l.fn.carriers.items;
  counted : (n : ℕ) × (n + length l.carriers.items ≡ length l.fn.carriers.items) × AreCarriers n l.last.me.0;
}

abbrev pub decreases-loop-carrier : goal.decreases-loop-carrier
decreases-loop-carrier l = goal.left-loop-carrier l
