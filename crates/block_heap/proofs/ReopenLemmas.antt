-- What a heap is to give that was opened: what its words say, and over a recovered image what that image had to give.
use Rattle.std.proofs.Common.{◌≡◌, ◌↔◌, ℕ, ◌≤◌, List, Contains, slice_index, inl, inr, refl, ap, sym, subst, ◌∙◌}
use Rattle.heap_model.specs.declared.block.Block.{Block}
use Rattle.heap_model.specs.Geometry.{capacity_word, largest_capacity}
use Rattle.heap_model.specs.Image.{Image}
use Rattle.heap_model.specs.Header.{capacity_of}
use Rattle.heap_model.specs.Blocks.{Layout, layout_of}
use Rattle.heap_model.specs.Reach.{Links, IsReached}
use Rattle.heap_model.specs.Recovered.{IsDrained}
use Rattle.heap_model.specs.Recovery.{in_header}
use Rattle.heap_at_rest.specs.Draining.{layout_at, IsDrainable, IsToDrain}
use Rattle.heap_at_rest.proofs.DrainableLemmas.{same_drained, reached_drainable, reached_drains}
use Rattle.line_memory.specs.View.{View, volatile_at}
use Rattle.block_heap.specs.Closing.{IsOpened}
use Rattle.block_heap.specs.Parts.{image_of, held_in}
use Rattle.block_heap.specs.Reopening.{IsReopened}
use Rattle.block_heap.specs.Requests.{IsDrainableFor, IsDrainedOf, Drains}
use Rattle.block_heap.specs.SeqState.{SeqState}

-- loads see the words that a heap was opened with
pub opened_image : (words : List ℕ) (held : List Block) (budget : ℕ) (s : SeqState) → IsOpened words held budget s
    → image_of s.parts ≡ slice_index words
opened_image words held budget s is = ap (λ (v : View). λ word. volatile_at v word) is.opens.words_are

-- heaps that hold the same blocks are drainable alike
same_drainable : (capacity : ℕ) (image : Image) (held other : List Block) → ((b : Block) → Contains held b ↔ Contains other b) → (class : ℕ)
    → IsDrainable capacity image held class → IsDrainable capacity image other class
same_drainable capacity image held other same class drainable = record {
  each =
      λ d taken none. drainable.each d taken (λ b holds part. none b ((same b).0 holds) part);
}

-- what is to be drained of the words that a heap was opened with
module _ (words : List ℕ) (held : List Block) (budget : ℕ) (s : SeqState) (is : IsOpened words held budget s) where
  pub opened_drainable : (class : ℕ) → IsDrainable (capacity_of (slice_index words)) (slice_index words) held class → IsDrainableFor class s
  opened_drainable class drainable =
      let here : IsDrainable (capacity_of (slice_index words)) (slice_index words) (held_in s.parts) class =
      same_drainable (capacity_of (slice_index words)) (slice_index words) held (held_in s.parts)
      (λ b. ((is.opens.same b).1, (is.opens.same b).0)) class drainable in
      let there : IsDrainable s.parts.capacity (slice_index words) (held_in s.parts) class =
      subst (λ n. IsDrainable n (slice_index words) (held_in s.parts) class) (sym is.opens.capacity) here in
      subst (λ (image : Image). IsDrainable s.parts.capacity image (held_in s.parts) class) (sym (opened_image words held budget s is)) there

  pub opened_drains : (class : ℕ) (b : Block) → IsDrainedOf class s b ↔ IsToDrain (capacity_of (slice_index words)) (slice_index words) held class b
  opened_drains class b =
      let layout_is : layout_at s.parts.capacity (image_of s.parts) ≡ layout_at (capacity_of (slice_index words)) (slice_index words) =
      ap (λ n. layout_at n (image_of s.parts)) is.opens.capacity ∙ ap (λ (image : Image). layout_at (capacity_of (slice_index words)) image)
      (opened_image words held budget s is) in
      subst (λ (l : Layout). IsDrained l (Contains (held_in s.parts)) class b ↔ IsToDrain (capacity_of (slice_index words))
      (slice_index words) held class b) (sym layout_is) (
        same_drained (layout_at (capacity_of (slice_index words)) (slice_index words)) (Contains (held_in s.parts))
            (Contains held) is.opens.same class b,
        same_drained (layout_at (capacity_of (slice_index words)) (slice_index words)) (Contains held) (Contains (held_in s.parts))
            (λ a. ((is.opens.same a).1, (is.opens.same a).0)) class b,
      )

-- drains of heaps that are to give the same give the same offsets
pub same_offsets : (class : ℕ) (s t : SeqState) → ((b : Block) → IsDrainedOf class s b ↔ IsDrainedOf class t b) → (xs ys : List ℕ)
    → Drains class xs s → Drains class ys t
    → (offset : ℕ) → Contains xs offset ↔ Contains ys offset
same_offsets class s t same xs ys is_xs is_ys offset = (
  λ p. let found = is_xs.sound offset p in subst (Contains ys) (sym found.1) (is_ys.complete found.0 ((same found.0).0 found.2)),
  λ p. let found = is_ys.sound offset p in subst (Contains xs) (sym found.1) (is_xs.complete found.0 ((same found.0).1 found.2)),
)

module _ (bytes : ℕ) (old : Image) (kinds : ℕ → ℕ) (links : Links) (words : List ℕ) (held : List Block) (budget : ℕ) (s : SeqState)
    (is : IsReopened bytes old kinds links words held budget s) where
  capacity_is : s.parts.capacity ≡ capacity_of old
  capacity_is = is.opened.opens.capacity ∙ is.recovered.same capacity_word (in_header capacity_word (inr (inr (inl refl))))

  -- the held blocks are the reached ones
  held_are : (b : Block) → Contains (held_in s.parts) b ↔ IsReached old kinds links b
  held_are b =
      let same = is.opened.opens.same b in
      (λ holds. is.held_are.sound b (same.0 holds), λ reached. same.1 (is.held_are.complete b reached))

  capacity_fits : capacity_of old ≤ largest_capacity
  capacity_fits = is.formed.small

  pub reopened_drainable : (class : ℕ) → IsDrainableFor class s
  reopened_drainable class =
      let here : IsDrainable (capacity_of old) (slice_index words) (held_in s.parts) class =
      reached_drainable old (slice_index words) kinds links (held_in s.parts) class is.recovered held_are capacity_fits in
      subst (λ (image : Image). IsDrainable s.parts.capacity image (held_in s.parts) class) (sym (opened_image words held budget s is.opened))
      (subst (λ n. IsDrainable n (slice_index words) (held_in s.parts) class) (sym capacity_is) here)

  pub reopened_drains : (class : ℕ) (b : Block) → IsDrained (layout_of old) (IsReached old kinds links) class b ↔ IsDrainedOf class s b
  reopened_drains class b =
      let here : IsDrained (layout_of old) (IsReached old kinds links) class b ↔ IsToDrain (capacity_of old) (slice_index words)
      (held_in s.parts) class b =
      reached_drains old (slice_index words) kinds links (held_in s.parts) class is.recovered held_are b in
      subst (λ (image : Image). IsDrained (layout_of old) (IsReached old kinds links) class b ↔ IsToDrain s.parts.capacity image
      (held_in s.parts) class b) (sym (opened_image words held budget s is.opened))
      (subst (λ n. IsDrained (layout_of old) (IsReached old kinds links) class b ↔ IsToDrain n (slice_index words) (held_in s.parts) class b)
      (sym capacity_is) here)
