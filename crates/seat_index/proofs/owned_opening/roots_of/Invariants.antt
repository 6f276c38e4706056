use Rattle.std.proofs.Common.{◌≡◌, ℕ, ◌<◌, ◌+◌, get_or, length, false, nat_eq, vec_len}
use Rattle.heap_model.specs.Counting.{one_if}
use Rattle.seat_index.proofs.owned_opening.roots_of.Given as goal

abbrev pub invariant-loop-i : goal.invariant-loop-i
invariant-loop-i l = record {
  long : vec_len l.roots ≡ length l.owners;
  each : (n : ℕ) → n < l.i → one_if (get_or l.roots.items n false) ≡ one_if (nat_eq (get_or l.owners n (l.seat + 1)) l.seat);
}
