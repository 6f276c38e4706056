use Rattle.std.proofs.Common.{◌≡◌, ℕ, ◌<◌, false, get_or, slice_index}
use Rattle.heap_model.specs.Geometry.{info_word}
use Rattle.quick_recover.proofs.superblocks.is_whole.Given as goal

abbrev pub invariant-loop-e : goal.invariant-loop-e
invariant-loop-e l = ((i : ℕ) → l.d < i → i < l.e → (slice_index l.words (info_word i) ≡ 0) × (get_or l.free i false ≡ false))
