use Rattle.std.proofs.Common.{◌≡◌, ℕ, ◌<◌, get_or, vec_len, slice_index}
use Rattle.heap_model.specs.Geometry.{info_word, capacity_word}
use Rattle.seat_index.proofs.owned_opening.infos.Given as goal

abbrev pub invariant-loop-d : goal.invariant-loop-d
invariant-loop-d l = record {
  long : vec_len l.infos ≡ slice_index l.heap.words capacity_word;
  each : (d : ℕ) → d < l.d → get_or l.infos.items d 0 ≡ slice_index l.heap.words (info_word d);
}
