use Rattle.std.proofs.Common.{◌≡◌, length, slice_index}
use Rattle.heap_model.specs.Geometry.{image_words}
use Rattle.quick_recover.specs.Written.{AreWritten}
use Rattle.quick_recover.proofs.reopen.write_descriptors.Given as goal

abbrev pub invariant-loop-d : goal.invariant-loop-d
invariant-loop-d l = AreWritten (slice_index l.initial.words) (slice_index l.words) l.roles l.d × (length l.words ≡ image_words l.geometry.capacity)
