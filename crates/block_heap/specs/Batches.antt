-- What giving blocks back to a superblock does.
use Rattle.std.specs.Prelude.{◌≡◌, ℕ, ◌+◌, ◌*◌, ◌≤◌, ◌⊎◌, List, slice_set, nat_eq, if◌then◌else◌}
use Rattle.heap_model.specs.Geometry.{start_word, anchor_word}
use Rattle.heap_model.specs.Sizes.{words_of_class, blocks_of}
use Rattle.heap_model.specs.Words.{anchor_of, empty_state, partial_state}
use Rattle.line_memory.specs.View.{View, volatile_at}
use Rattle.anchor_word.specs.declared.anchor.Anchor.{Anchor}
use Rattle.anchor_word.specs.Anchor.{HasParts}
use Rattle.block_heap.specs.declared.anchors.Batch.{Batch}
use Rattle.block_heap.specs.Medium.{RunsWithin}
use Rattle.block_heap.specs.Links.{IsOpen}

-- the words once the last block of the batch leads to the chain of the anchor, if it has one
abbrev pub linked_words : ℕ → ℕ → ℕ → Batch → Anchor → List ℕ → List ℕ
linked_words capacity class d batch anchor words =
    if nat_eq anchor.count 0 then words
    else slice_set words batch.last (start_word capacity d + anchor.first * words_of_class class)

-- the last block of the batch leads to the chain of the anchor, by one step at most
pub record IsLinkedTo (capacity class d : ℕ) (batch : Batch) (anchor : Anchor) (v w : View) : Type 0 where
  pub open_still : IsOpen capacity w
  pub few : w.drawn ≤ v.drawn + 1
  pub words : w.volatile ≡ linked_words capacity class d batch anchor v.volatile

-- the word of the anchor with the batch in front of its chain: all `max` blocks are free, or some
abbrev pub given_to : Anchor → Batch → ℕ → ℕ
given_to anchor batch most =
    anchor_of (if nat_eq (batch.count + anchor.count) most then empty_state else partial_state) batch.first (batch.count + anchor.count)

-- the batch was given to superblock d, whose anchor was this one
pub record IsGiven (capacity class d : ℕ) (batch : Batch) (anchor : Anchor) (v w : View) : Type 0 where
  pub runs_within : RunsWithin 3 v w
  pub parts : HasParts (volatile_at v (anchor_word d)) anchor
  pub words : w.volatile ≡ slice_set (linked_words capacity class d batch anchor v.volatile) (anchor_word d)
      (given_to anchor batch (blocks_of class))

-- a word that giving changes
abbrev pub IsGiveWord : ℕ → Batch → ℕ → Type 0
IsGiveWord d batch word = (word ≡ anchor_word d) ⊎ (word ≡ batch.last)
