use Rattle.std.proofs.Common.{◌≡◌, ◌≤◌, ◌++◌, length, map, Ok, vec_capacity}
use Rattle.std.specs.Vec.Iter.{into_iter_items, into_iter_len}
use Rattle.run_rows.proofs.arriving.all_of.Given as goal

abbrev pub invariant-loop-one : goal.invariant-loop-one
invariant-loop-one l = record {
  next : (goal.iterator-loop-one).can_next l.one-iterator;
  finite : (goal.iterator-loop-one).is_finite l.one-iterator;
  whole : map Ok l.ended.items ++ into_iter_items l.one-iterator ≡ l.fn.all.items;
  count : into_iter_len l.one-iterator ≡ length (into_iter_items l.one-iterator);
  room : length l.fn.all.items ≤ vec_capacity l.ended;
}
