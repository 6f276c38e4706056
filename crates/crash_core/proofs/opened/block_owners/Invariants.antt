use Rattle.std.proofs.Common.{slice_index}
use Rattle.heap_model.specs.Geometry.{capacity_word, image_words}
use Rattle.crash_core.proofs.OpenedBlocks.{HaveSeats}
use Rattle.crash_core.proofs.opened.block_owners.Given as goal

abbrev pub invariant-loop-i : goal.invariant-loop-i
invariant-loop-i l = HaveSeats l.heap.held l.owners l.i (image_words (slice_index l.heap.words capacity_word)) l.blocks.items
