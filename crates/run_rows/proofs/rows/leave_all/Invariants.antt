use Rattle.std.proofs.Common.{◌≡◌, ◌≤◌, ◌++◌, length, vec_capacity}
use Rattle.std.specs.List.{AllZip}
use Rattle.std.specs.Vec.Iter.{into_iter_items, into_iter_len}
use Rattle.worker_run.specs.Said.{requests_of}
use Rattle.run_rows.proofs.RowLemmas.{IsLeftOf}
use Rattle.run_rows.proofs.rows.leave_all.Given as goal

abbrev pub invariant-loop-begun : goal.invariant-loop-begun
invariant-loop-begun g l = record {
  next : (goal.iterator-loop-begun g).can_next l.begun-iterator;
  finite : (goal.iterator-loop-begun g).is_finite l.begun-iterator;
  left : AllZip (IsLeftOf l.shared (requests_of l.requests)) l.yielded l.ended.items;
  whole : l.yielded ++ into_iter_items l.begun-iterator ≡ l.fn.all.items;
  count : into_iter_len l.begun-iterator ≡ length (into_iter_items l.begun-iterator);
  room : length l.fn.all.items ≤ vec_capacity l.ended;
}
