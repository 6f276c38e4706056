-- What recovery gives back.
use Rattle.std.specs.Prelude.{◌≡◌, ◌↔◌, ℕ, List, length, slice_index}
use Rattle.heap_model.specs.declared.block.Block.{Block}
use Rattle.heap_model.specs.Geometry.{clean}
use Rattle.heap_model.specs.Header.{state_of}
use Rattle.heap_model.specs.Blocks.{layout_of}
use Rattle.heap_model.specs.Recovered.{IsFreeSuperblock, AreAscending}
use Rattle.heap_model.specs.Recovery.{IsRecovered}
use Rattle.heap_recover.specs.declared.answer.Was.TheVariants.{Clean}
use Rattle.heap_recover.specs.declared.answer.Recovered.{Recovered}

-- the heap that recovery makes of the words where these blocks are kept
pub record IsMadeOf (words : List ℕ) (kept : Block → Type 0) (answer : Recovered) : Type 0 where
  pub held : AreAscending (λ (b : Block). b.first_word) kept answer.heap.held
  pub free : AreAscending (λ d. d) (IsFreeSuperblock (layout_of (slice_index words)) kept) answer.free.items
  pub was : (answer.was ≡ Clean) ↔ (state_of (slice_index words) ≡ clean)
  pub long : length answer.heap.words ≡ length words
  pub recovered : IsRecovered (slice_index words) (slice_index answer.heap.words) kept
