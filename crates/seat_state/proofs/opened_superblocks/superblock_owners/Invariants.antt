use Rattle.std.proofs.Common.{slice_index}
use Rattle.heap_model.specs.Geometry.{capacity_word}
use Rattle.seat_state.proofs.OpenedSuperblocks.{HaveSuperblocks}
use Rattle.seat_state.proofs.opened_superblocks.superblock_owners.Given as goal

abbrev pub invariant-loop-i : goal.invariant-loop-i
invariant-loop-i l = HaveSuperblocks (slice_index l.heap.words capacity_word) l.heap.held l.owners l.i l.superblocks.items
