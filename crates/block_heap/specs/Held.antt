-- The held blocks, as marks where they begin.
use Rattle.std.specs.Prelude.{◌≡◌, ℕ, ◌+◌, ◌-◌, ◌*◌, ◌/◌, ◌%◌, ◌<◌, ◌≤◌, Bool, List, map, length, slice_index}
use Rattle.heap_model.specs.declared.block.Block.{Block}
use Rattle.heap_model.specs.Geometry.{superblock_words}
use Rattle.line_memory.specs.Marks.{marked_words}
use Rattle.block_heap.specs.Begun.{superblock_marks}
use Rattle.block_heap.specs.declared.held.HeldBlocks.{HeldBlocks}

-- the block of a mark
abbrev pub block_of_mark : ℕ → List ℕ → ℕ → Block
block_of_mark start words mark = record { first_word = start + 2 * mark; words = slice_index words (mark / superblock_marks) }

-- the blocks whose marks are set
abbrev pub marked_blocks : ℕ → List ℕ → List Bool → List Block
marked_blocks start words marks = map (block_of_mark start words) (marked_words marks)

-- the held blocks: those of the marks
abbrev pub held_of : HeldBlocks → List Block
held_of h = marked_blocks h.start h.words.items h.marks.items

-- the word has a mark
pub record HasMark (h : HeldBlocks) (word : ℕ) : Type 0 where
  pub from : h.start ≤ word
  pub until : word < h.start + superblock_words * length h.words.items
  pub even : (word - h.start) % 2 ≡ 0

-- the block that begins at the word, if one does
abbrev pub at_mark : HeldBlocks → ℕ → Block
at_mark h word = record { first_word = word; words = slice_index h.words.items ((word - h.start) / superblock_words) }
