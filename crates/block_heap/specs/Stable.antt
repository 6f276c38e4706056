-- Held blocks that are stable: where they lie, and that every image that may be left names them.
use Rattle.std.proofs.Common.{◌≡◌, ℕ, ◌+◌, ◌<◌, ◌≤◌, ◌⊎◌, inl, inr, List, Contains, refl, ◌∙◌, arith}
use Rattle.heap_model.specs.declared.block.Block.{Block}
use Rattle.heap_model.specs.Geometry.{roots, largest_capacity, root_word, info_word, used_word, capacity_word, state_word, start_word, largest_capacity_fits}
use Rattle.heap_model.specs.Image.{Image, words_from}
use Rattle.heap_model.specs.Blocks.{Layout, layout_of, AreOneOrApart}
use Rattle.heap_model.specs.Durability.{IsTransient, is_head as head_lost, is_anchor as anchor_lost, is_link as link_lost}
use Rattle.heap_model.specs.Recovered.{HasPartIn}
use Rattle.heap_model.proofs.BlockLemmas.{never_overlap, block_words, block_inside}
use Rattle.heap_at_rest.proofs.LayoutLemmas.{block_more}
use Rattle.line_memory.specs.View.{View, volatile_at}
use Rattle.line_memory.specs.Crash.{IsValueOf}
use Rattle.heap_seat.specs.Words.{IsOwn, in_block, in_root, NamesAll}
use Rattle.heap_seat.specs.Sound.{IsPlaced}
use Rattle.block_heap.specs.AllocatorWords.{IsStable}
use Rattle.heap_model.proofs.ListLemmas.{in_numbers, numbers_below}

-- the numbers of the roots
pub is_root : (i : ℕ) → i < roots → Contains (words_from (λ n. n) 0 roots) i
is_root i below = in_numbers 0 roots i (omega arith) (omega arith)

pub root_below : (i : ℕ) → Contains (words_from (λ n. n) 0 roots) i → i < roots
root_below i p = omega (arith, numbers_below 0 roots i p)

module _ (capacity : ℕ) (held : List Block) where
  -- the layout that tells held blocks
  abbrev pub low_layout : View → ℕ → Layout
  low_layout v low = record { capacity = capacity; used = low; info = λ d. volatile_at v (info_word d) }

  -- where a held block lies, and an own word
  pub lies : (v : View) (b : Block) (stable : IsStable capacity v held) → Contains held b
      → (start_word capacity 0 ≤ b.first_word) × (b.first_word + b.words ≤ start_word capacity stable.low)
  lies v b stable holds = block_inside (low_layout v stable.low) b (stable.named b holds)

  pub own_where : (v : View) (word : ℕ) → IsStable capacity v held → IsOwn held (words_from (λ n. n) 0 roots) word
      → ((root_word 0 ≤ word) × (word < info_word 0)) ⊎ (start_word capacity 0 ≤ word)
  own_where v _ stable (in_block b word holds in_b) =
      let inside = lies v b stable holds in let from = in_b.from in inr (omega (arith, inside.0))
  own_where v _ stable (in_root i word p same) = let below = root_below i p in inl (omega arith, omega arith)

  -- where held blocks lie
  pub stable_placed : (v : View) (b : Block) → 1 ≤ capacity → capacity ≤ largest_capacity
      → IsStable capacity v held → Contains held b → IsPlaced b
  stable_placed v b some small stable holds =
      let fits = stable.fits in
      let inside = lies v b stable holds in
      let words = block_words (low_layout v stable.low) b (stable.named b holds) in
      record { behind = omega (arith, inside.0); some = omega arith; short = omega (arith, inside.1, largest_capacity_fits) }

  pub stable_apart : (v : View) (a b : Block) → IsStable capacity v held → Contains held a → Contains held b → AreOneOrApart a b
  stable_apart v a b stable in_a in_b = never_overlap (low_layout v stable.low) a b (stable.named a in_a) (stable.named b in_b)

  -- neither the first words of the header nor an info is transient
  not_transient : (word : ℕ) → (word < 16) ⊎ ((d : ℕ) × (word ≡ info_word d)) → IsTransient capacity word → ⊥
  not_transient _ (inl few) (head_lost list word below e) = omega arith
  not_transient _ (inl few) (anchor_lost d word below e) = omega arith
  not_transient _ (inl few) (link_lost d word below e) = omega arith
  not_transient _ (inr info) (head_lost list word below e) = let at = info.1 in omega arith
  not_transient _ (inr info) (anchor_lost d word below e) = let at = info.1 in omega arith
  not_transient _ (inr info) (link_lost d word below e) = let at = info.1 in omega arith

  -- each image that may be left names them
  pub stable_names : (v : View) (image : Image) → IsStable capacity v held
      → ((word : ℕ) → (word ≡ state_word → ⊥) → (IsTransient capacity word → ⊥) → IsValueOf v word (image word))
      → NamesAll image held
  stable_names v image stable left = λ b holds. record {
    begins_at = refl;
    block = block_more (low_layout v stable.low) (layout_of image) b capacity_is used_is (infos b holds) (stable.named b holds);
  } where
    capacity_is : image capacity_word ≡ capacity
    capacity_is = elim (left capacity_word (λ e. omega (arith, e))
        (not_transient capacity_word (inl (omega arith)))) as (λ _. image capacity_word ≡ capacity) [
          | inl e ↦ e ∙ stable.capacity_durable
          | inr e ↦ e ∙ stable.capacity_is
        ]

    used_is : stable.low ≤ image used_word
    used_is = elim (left used_word (λ e. omega (arith, e))
        (not_transient used_word (inl (omega arith)))) as (λ _. stable.low ≤ image used_word) [
          | inl e ↦ let p = stable.used_durable in omega arith
          | inr e ↦ let p = stable.used in omega arith
        ]

    infos : (b : Block) → Contains held b → (d : ℕ) → HasPartIn capacity b d → image (info_word d) ≡ volatile_at v (info_word d)
    infos b holds d part =
        let value = left (info_word d) (λ e. omega (arith, e)) (not_transient (info_word d) (inr (d, refl))) in
        elim value as (λ _. image (info_word d) ≡ volatile_at v (info_word d)) [ inl e ↦ e ∙ stable.settled b d holds part | inr e ↦ e ]

  -- an own word is not the state, and no transient one
  pub own_lasts : (v : View) (word : ℕ) → capacity ≤ largest_capacity → IsStable capacity v held
      → IsOwn held (words_from (λ n. n) 0 roots) word
      → (word ≡ state_word → ⊥) × (IsTransient capacity word → ⊥)
  own_lasts v word small stable own = (
    λ e. elim (own_where v word stable own) as (λ _. ⊥) [ inl at_root ↦ omega (arith, at_root.0, e) | inr inside ↦ omega (arith, e) ],
    kept (own_where v word stable own),
  ) where
    kept : ((root_word 0 ≤ word) × (word < info_word 0)) ⊎ (start_word capacity 0 ≤ word) → IsTransient capacity word → ⊥
    kept (inl at_root) (head_lost list other below e) = omega (arith, at_root.0)
    kept (inl at_root) (anchor_lost d other below e) = omega (arith, at_root.1)
    kept (inl at_root) (link_lost d other below e) = omega (arith, at_root.1)
    kept (inr inside) (head_lost list other below e) = omega arith
    kept (inr inside) (anchor_lost d other below e) = omega arith
    kept (inr inside) (link_lost d other below e) = omega arith

  -- so it has one of its two values in such an image
  pub own_value : (v : View) (image : Image) (word : ℕ) → capacity ≤ largest_capacity → IsStable capacity v held
      → ((at : ℕ) → (at ≡ state_word → ⊥) → (IsTransient capacity at → ⊥) → IsValueOf v at (image at))
      → IsOwn held (words_from (λ n. n) 0 roots) word → IsValueOf v word (image word)
  own_value v image word small stable left own = let lasts = own_lasts v word small stable own in left word lasts.0 lasts.1
