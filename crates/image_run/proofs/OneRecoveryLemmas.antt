-- Recovery of an image by the tool's filter leaves one heap: it keeps the same, frees the same, and leaves the same words.
use Rattle.std.proofs.Common.{◌≡◌, ℕ, List}
use Rattle.heap_model.specs.declared.block.Block.{Block}
use Rattle.heap_model.specs.Image.{Image}
use Rattle.heap_model.specs.Blocks.{layout_of}
use Rattle.heap_model.specs.Recovered.{IsFreeSuperblock}
use Rattle.heap_recover.proofs.AscendingLemmas.{ascending_one}
use Rattle.heap_recover.proofs.OutcomeLemmas.{one_word}
use Rattle.image_run.specs.Reporting.{IsKept, Recovers}

module _ (image words other : Image) (held again : List Block) (free freed : List ℕ) (is : Recovers image held free words)
    (too : Recovers image again freed other) where
  pub one_held : again ≡ held
  one_held = ascending_one (λ (b : Block). b.first_word) (IsKept image) (IsKept image) again held (λ b h. h) (λ b h. h) too.held_are is.held_are

  pub one_free : freed ≡ free
  one_free =
      ascending_one (λ d. d) (IsFreeSuperblock (layout_of image) (IsKept image)) (IsFreeSuperblock (layout_of image) (IsKept image)) freed free
      (λ d h. h) (λ d h. h) too.free_are is.free_are

  pub one_recovered : (word : ℕ) → other word ≡ words word
  one_recovered = one_word image words other (IsKept image) held is.held_are is.words_are too.words_are
