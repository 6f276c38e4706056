use Rattle.std.proofs.Common.{◌≡◌, length, slice_index}
use Rattle.heap_model.specs.Geometry.{capacity_word, image_words}
use Rattle.seat_index.proofs.HeldMarks.{MarksFirst}
use Rattle.seat_index.proofs.owned_opening.held_by.Given as goal

abbrev pub invariant-loop-i : goal.invariant-loop-i
invariant-loop-i l = record {
  long : length l.marks ≡ image_words (slice_index l.heap.words capacity_word);
  each : MarksFirst l.heap.held l.owners.held l.i l.seat l.marks;
}
