-- What the texts tell of a heap at rest.
use Rattle.std.specs.Prelude.{◌≡◌, ℕ, ◌+◌, ◌*◌, ◌<◌, ◌≤◌, List, codes, Contains}
use Rattle.heap_model.specs.declared.block.Block.{Block}
use Rattle.heap_model.specs.Geometry.{info_word, start_word, superblock_words}
use Rattle.heap_model.specs.Blocks.{layout_of}
use Rattle.heap_model.specs.Header.{capacity_of}
use Rattle.heap_model.specs.Image.{Image}
use Rattle.heap_model.specs.Recovered.{IsFreeSuperblock}
use Rattle.heap_model.specs.Sizes.{IsClass, words_of_class}
use Rattle.trace_text.specs.HeapMap.{class_use, large_use, inside_use}

-- the block is counted in a line of the report: it has the words of a class, or takes whole superblocks, at most all
pub data IsCounted (capacity : ℕ) (b : Block) : Type 0 where
  in_class : (class : ℕ) → IsClass class → b.words ≡ words_of_class class → IsCounted capacity b
  as_large : (superblocks : ℕ) → 1 ≤ superblocks → superblocks ≤ capacity → b.words ≡ superblock_words * superblocks → IsCounted capacity b

-- these words tell how superblock d is used: it is free, or cut for a class, or lies in a held large block, as the
-- first superblock of it or behind that
pub data IsUse (image : Image) (held : List Block) (d : ℕ) : List ℕ → Type 0 where
  is_free : IsFreeSuperblock (layout_of image) (Contains held) d → IsUse image held d (codes "free")
  is_cut : (class : ℕ) → IsClass class → image (info_word d) ≡ class → IsUse image held d (class_use (capacity_of image) class held d)
  is_first : (b : Block) (superblocks : ℕ) → Contains held b → b.first_word ≡ start_word (capacity_of image) d
      → b.words ≡ superblock_words * superblocks → IsUse image held d (large_use superblocks)
  is_behind : (b : Block) (first superblocks : ℕ) → Contains held b → b.first_word ≡ start_word (capacity_of image) first
      → b.words ≡ superblock_words * superblocks → first < d → d < first + superblocks → IsUse image held d (inside_use first)
