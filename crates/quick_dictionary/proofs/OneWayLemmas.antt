-- Opening an image by its anchors leaves one heap: each word of it is told by the image and by the blocks that are kept.
use Rattle.std.proofs.Common.{◌≡◌, ℕ, List, slice_index, sym, ◌∙◌}
use Rattle.std.proofs.lemmas.List.{ext_get_or}
use Rattle.heap_model.specs.declared.block.Block.{Block}
use Rattle.heap_model.specs.Image.{Image}
use Rattle.heap_model.specs.Blocks.{layout_of}
use Rattle.heap_model.specs.Recovered.{IsFreeSuperblock, AreAscending}
use Rattle.heap_recover.specs.declared.answer.Recovered.{Recovered}
use Rattle.heap_recover.proofs.AscendingLemmas.{ascending_one}
use Rattle.heap_recover.proofs.RelistedLemmas.{IsRelisted, described_alike, relisted_word}
use Rattle.quick_recover.specs.Reopened.{IsReopened, IsReopenedAs}

-- an opening lists, and describes what is not partial, as recovery does
relisted : (old new : Image) (kept : Block → Type 0) → IsReopened old new kept → IsRelisted old new kept
relisted old new kept reopened = record {
  descriptors = reopened.descriptors;
  listed = reopened.listed;
  state = reopened.state;
  same = reopened.same;
  heads = reopened.heads;
  links = reopened.links;
  unlisted = reopened.unlisted;
  free = reopened.free;
  full = reopened.full;
  in_large = reopened.in_large;
  untaken = reopened.untaken;
}

-- and anchors of partial superblocks stay, with all that superblocks hold
reopened_word : (old new other : Image) (kept : Block → Type 0) (held : List Block) → AreAscending (λ (b : Block). b.first_word) kept held
    → IsReopened old new kept → IsReopened old other kept → (word : ℕ) → other word ≡ new word
reopened_word old new other kept held are is again =
    relisted_word old new other kept held are (relisted old new kept is) (relisted old other kept again)
    (λ class d is_class part. described_alike new other d _ _ (again.partial class d is_class part) (is.partial class d is_class part))
    (λ word inside. again.inside word inside ∙ sym (is.inside word inside))

-- so both answers are one
module _ (words : List ℕ) (kept : Block → Type 0) (quick other : Recovered) (is : IsReopenedAs words kept quick)
    (again : IsReopenedAs words kept other) where
  pub one_held : other.heap.held ≡ quick.heap.held
  one_held = ascending_one (λ (b : Block). b.first_word) kept kept other.heap.held quick.heap.held (λ b h. h) (λ b h. h) again.held is.held

  pub one_free : other.free.items ≡ quick.free.items
  one_free =
      let free = IsFreeSuperblock (layout_of (slice_index words)) kept in
      ascending_one (λ d. d) free free other.free.items quick.free.items (λ d h. h) (λ d h. h) again.free is.free

  pub one_words : other.heap.words ≡ quick.heap.words
  one_words = ext_get_or 0 other.heap.words quick.heap.words (again.long ∙ sym is.long)
      (λ i below. reopened_word (slice_index words) (slice_index quick.heap.words)
      (slice_index other.heap.words) kept quick.heap.held is.held is.reopened again.reopened i)
