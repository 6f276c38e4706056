-- What a heap that was opened quickly is to give, and that it is what the recovered one gives.
use Rattle.std.proofs.Common.{◌↔◌, ℕ, ◌*◌, List, length, slice_index, arith}
use Rattle.heap_model.specs.declared.block.Block.{Block}
use Rattle.heap_model.specs.Image.{Image}
use Rattle.heap_model.specs.Header.{IsWellFormed, capacity_of, kinds_of}
use Rattle.heap_model.specs.Blocks.{layout_of}
use Rattle.heap_model.specs.Reach.{Links, IsReachedIn}
use Rattle.heap_model.specs.Recovered.{IsDrained}
use Rattle.heap_model.proofs.ReachLemmas.{reached_block}
use Rattle.heap_at_rest.proofs.RecoveredLemmas.{same_used}
use Rattle.heap_at_rest.specs.Draining.{IsDrainable, IsToDrain}
use Rattle.heap_at_rest.proofs.DrainableLemmas.{LeavesPlaces, recovered_places, left_drainable, left_drains, same_drained}
use Rattle.heap_at_rest.specs.Orderly.{IsHeldByAnchors}
use Rattle.heap_at_rest.proofs.AnchorHeldLemmas.{held_block}
use Rattle.heap_recover.specs.declared.answer.Recovered.{Recovered}
use Rattle.heap_recover.specs.Answer.{IsMadeOf}
use Rattle.quick_recover.specs.Reopened.{IsReopened, IsReopenedAs}

-- opening leaves what draining needs
reopened_places : (old new : Image) (kept : Block → Type 0) → IsReopened old new kept → LeavesPlaces old new kept
reopened_places old new kept left = record {
  used = same_used old new left.same;
  partial = λ class d is part. (left.partial class d is part).info_is;
  full = λ class d is full. (left.full class d is full).info_is;
  in_large = λ d large. (left.in_large d large).info_is;
  free = left.descriptors 0;
  listed = left.listed 0 (omega arith);
  head = left.heads 0 (omega arith);
  links = left.links 0 (omega arith);
}

module _ (words : List ℕ) (quick : Recovered) (opened : IsReopenedAs words (IsHeldByAnchors (slice_index words)) quick) where
  pub quick_drainable : IsWellFormed (8 * length words) (slice_index words) → (class : ℕ)
      → IsDrainable (capacity_of (slice_index words)) (slice_index quick.heap.words) quick.heap.held class
  quick_drainable formed class = left_drainable (slice_index words) (slice_index quick.heap.words) (IsHeldByAnchors (slice_index words)) quick.heap.held
      (reopened_places (slice_index words) (slice_index quick.heap.words) (IsHeldByAnchors (slice_index words)) opened.reopened)
      (held_block (slice_index words)) (λ b. (opened.held.sound b, opened.held.complete b)) formed.small class

  pub quick_drains : (class : ℕ) (b : Block) → IsDrained (layout_of (slice_index words)) (IsHeldByAnchors (slice_index words)) class b
      ↔ IsToDrain (capacity_of (slice_index words)) (slice_index quick.heap.words) quick.heap.held class b
  quick_drains class b = left_drains (slice_index words) (slice_index quick.heap.words) (IsHeldByAnchors (slice_index words)) quick.heap.held
      (reopened_places (slice_index words) (slice_index quick.heap.words) (IsHeldByAnchors (slice_index words)) opened.reopened)
      (held_block (slice_index words)) (λ a. (opened.held.sound a, opened.held.complete a)) b class

module _ (words : List ℕ) (links : Links) (traced : Recovered) (made : IsMadeOf words (IsReachedIn (slice_index words) links) traced) where
  traced_drains : (class : ℕ) (b : Block) → IsDrained (layout_of (slice_index words)) (IsReachedIn (slice_index words) links) class b
      ↔ IsToDrain (capacity_of (slice_index words)) (slice_index traced.heap.words) traced.heap.held class b
  traced_drains class b = left_drains (slice_index words) (slice_index traced.heap.words) (IsReachedIn (slice_index words) links) traced.heap.held
      (recovered_places (slice_index words) (slice_index traced.heap.words) (IsReachedIn (slice_index words) links) made.recovered)
      (λ a is. reached_block (slice_index words) (kinds_of (slice_index words)) links a is.kind is.reach)
      (λ a. (made.held.sound a, made.held.complete a)) b class

  -- where the anchors hold what is reached, both give the same
  pub drains_alike : ((b : Block) → IsHeldByAnchors (slice_index words) b ↔ IsReachedIn (slice_index words) links b)
      → (quick : Recovered) → IsReopenedAs words (IsHeldByAnchors (slice_index words)) quick → (class : ℕ) (b : Block)
      → IsToDrain (capacity_of (slice_index words)) (slice_index quick.heap.words) quick.heap.held class b
      ↔ IsToDrain (capacity_of (slice_index words)) (slice_index traced.heap.words) traced.heap.held class b
  drains_alike same quick opened class b = (
    λ given. (traced_drains class b).0 (same_drained (layout_of (slice_index words)) (IsHeldByAnchors (slice_index words))
        (IsReachedIn (slice_index words) links) same class b ((quick_drains words quick opened class b).1 given)),
    λ given. (quick_drains words quick opened class b).0 (same_drained (layout_of (slice_index words)) (IsReachedIn (slice_index words) links)
        (IsHeldByAnchors (slice_index words)) (λ a. ((same a).1, (same a).0)) class b ((traced_drains class b).1 given)),
  )
