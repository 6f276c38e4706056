-- What taking a superblock's free blocks does to its anchor.
use Rattle.std.specs.Prelude.{◌≡◌, ◌≢◌, ℕ, ◌+◌, ◌*◌, Option, MatchOption, slice_set}
use Rattle.heap_model.specs.Geometry.{start_word, anchor_word}
use Rattle.heap_model.specs.Sizes.{words_of_class}
use Rattle.heap_model.specs.Words.{anchor_state, anchor_first, anchor_count, partial_state, full_anchor}
use Rattle.line_memory.specs.View.{View, volatile_at}
use Rattle.anchor_word.specs.declared.anchor.Anchor.{Anchor}
use Rattle.anchor_word.specs.Anchor.{HasParts, IsPackable}
use Rattle.block_heap.specs.declared.cache.Cache.{Cache}
use Rattle.block_heap.specs.Medium.{RunsWithin}

-- the word of superblock d's anchor
abbrev pub anchor_at : View → ℕ → ℕ
anchor_at v d = volatile_at v (anchor_word d)

-- the anchor was read, and nothing stored
pub record AnchorRead (d : ℕ) (anchor : Anchor) (v w : View) : Type 0 where
  pub runs_within : RunsWithin 1 v w
  pub parts : HasParts (anchor_at v d) anchor
  pub packable : IsPackable anchor
  pub volatile : w.volatile ≡ v.volatile

-- the free blocks were taken, if some were free and not all: their chain, and a full anchor
pub record IsTakenFrom (capacity class d : ℕ) (taken : Option Cache) (v w : View) : Type 0 where
  pub runs_within : RunsWithin 2 v w
  pub words : MatchOption taken ((anchor_state (anchor_at v d) ≢ partial_state) × (w.volatile ≡ v.volatile))
      (λ cache. (anchor_state (anchor_at v d) ≡ partial_state)
      × (cache.first ≡ start_word capacity d + anchor_first (anchor_at v d) * words_of_class class)
      × (cache.count ≡ anchor_count (anchor_at v d))
      × (w.volatile ≡ slice_set v.volatile (anchor_word d) full_anchor))
