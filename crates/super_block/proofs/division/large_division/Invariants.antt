use Rattle.std.proofs.Common.{◌≡◌, ◌<◌, ℕ, slice_index}
use Rattle.heap_model.specs.Geometry.{info_word}
use Rattle.super_block.proofs.division.large_division.Given as goal

abbrev pub invariant-loop-inner : goal.invariant-loop-inner
invariant-loop-inner l = (i : ℕ) → l.fn.d < i → i < l.inner → slice_index l.words (info_word i) ≡ 0
