-- Two images between which anchors don't tell: they differ in roots, in words without a meaning, and in words of
-- superblocks whose anchors lead along no chain.
use Rattle.std.specs.Prelude.{◌≡◌, ℕ, ◌+◌, ◌<◌, ◌≤◌}
use Rattle.heap_model.specs.Geometry.{roots, root_word, info_word, anchor_word, link_word, start_word}
use Rattle.heap_model.specs.Image.{Image}
use Rattle.heap_model.specs.Header.{capacity_of, used_of, kinds_of}
use Rattle.heap_model.specs.Sizes.{IsClass}
use Rattle.heap_model.specs.Words.{anchor_state, partial_state}

-- superblock d has been taken and cut for a class, and its anchor tells that some of its blocks are free
pub record IsPartlyFree (image : Image) (d : ℕ) : Type 0 where
  pub taken : d < used_of image
  pub of_class : IsClass (image (info_word d))
  pub state : anchor_state (image (anchor_word d)) ≡ partial_state

-- the images have the same words before the roots, the same descriptors and kinds of roots, and the same words in each superblock that is partly free
pub record AgreeButFull (image other : Image) : Type 0 where
  pub header : (word : ℕ) → word < root_word 0 → other word ≡ image word
  pub descriptors : (d : ℕ) → d < capacity_of image
      → (other (info_word d) ≡ image (info_word d)) × (other (anchor_word d) ≡ image (anchor_word d)) × (other (link_word d) ≡ image (link_word d))
  pub kinds : (root : ℕ) → root < roots → kinds_of other root ≡ kinds_of image root
  pub inside : (d word : ℕ) → IsPartlyFree image d → start_word (capacity_of image) d ≤ word → word < start_word (capacity_of image) (d + 1)
      → other word ≡ image word
