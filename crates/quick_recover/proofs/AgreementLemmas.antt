-- Of images that agree but in superblocks that are not partly free, the same heap is opened.
use Rattle.std.proofs.Common.{◌≡◌, ◌↔◌, ℕ, ◌*◌, Option, List, length, slice_index, subst, sym}
use Rattle.heap_model.specs.declared.block.Block.{Block}
use Rattle.heap_model.specs.Header.{IsWellFormed}
use Rattle.heap_model.specs.Blocks.{layout_of}
use Rattle.heap_model.specs.Recovered.{IsFreeSuperblock}
use Rattle.heap_at_rest.specs.Orderly.{IsOrderly, IsHeldByAnchors}
use Rattle.heap_at_rest.specs.Agreement.{AgreeButFull}
use Rattle.heap_at_rest.proofs.AgreementLemmas.{orderly_both, held_both, free_both}
use Rattle.heap_recover.specs.declared.answer.Recovered.{Recovered}
use Rattle.heap_recover.proofs.AscendingLemmas.{ascending_one}
use Rattle.quick_recover.specs.Reopened.{IsReopenedAs}

module _ (words others : List ℕ) (agree : AgreeButFull (slice_index words) (slice_index others)) where
  pub same_path : (limit : Option ℕ) → length others ≡ length words
      → IsOrderly limit (8 * length words) (slice_index words) ↔ IsOrderly limit (8 * length others) (slice_index others)
  same_path limit long = subst (λ n. IsOrderly limit (8 * length words) (slice_index words) ↔ IsOrderly limit (8 * n) (slice_index others)) (sym long)
      (orderly_both (slice_index words) (slice_index others) agree limit (8 * length words))

  pub same_heap : IsWellFormed (8 * length words) (slice_index words) → (quick other : Recovered)
      → IsReopenedAs words (IsHeldByAnchors (slice_index words)) quick → IsReopenedAs others (IsHeldByAnchors (slice_index others)) other
      → (quick.heap.held ≡ other.heap.held) × (quick.free.items ≡ other.free.items)
  same_heap formed quick other is is_other =
      let image = slice_index words in
      let beside = slice_index others in (
        ascending_one (λ (b : Block). b.first_word) (IsHeldByAnchors image) (IsHeldByAnchors beside) quick.heap.held other.heap.held
            (λ b. (held_both image beside agree formed.used b).0) (λ b. (held_both image beside agree formed.used b).1) is.held is_other.held,
        ascending_one (λ d. d) (IsFreeSuperblock (layout_of image) (IsHeldByAnchors image))
            (IsFreeSuperblock (layout_of beside) (IsHeldByAnchors beside)) quick.free.items other.free.items
            (λ d. (free_both image beside agree formed.used d).0) (λ d. (free_both image beside agree formed.used d).1) is.free is_other.free,
      )
