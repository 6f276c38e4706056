use Rattle.std.proofs.Common.{◌≡◌, ◌<◌, ℕ, get_or, vec_len, vec_capacity}
use Rattle.heap_model.specs.Geometry.{lists}
use Rattle.seat_index.specs.declared.stacks.Stack.{Stack}
use Rattle.seat_index.proofs.StackLemmas.{IsEmptyStack}
use Rattle.seat_index.proofs.owned_opening.empty_stacks.Given as goal

abbrev pub invariant-loop-class : goal.invariant-loop-class
invariant-loop-class l = record {
  count : vec_len l.stacks ≡ l.class;
  room : vec_capacity l.stacks ≡ lists;
  each : (n : ℕ) (x : Stack) → n < l.class → get_or l.stacks.items n x ≡ x → IsEmptyStack n x;
}
