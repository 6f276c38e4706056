-- The words that steps work on, by what they are, and where each stands in an image. Here alone cells and word indices meet.
use Rattle.std.specs.Prelude.{ℕ, ◌-◌, ◌/◌, ◌%◌, Bool, true, false, ◌&&◌, cond, nat_eq, nat_lt, nat_le}
use Rattle.heap_model.specs.Geometry.{lists, roots, fixed_words, used_word, head_word, root_word, info_word, anchor_word, link_word, start_word, superblocks_end}

-- a word: the mark of taken superblocks, the head of a list, the info, the anchor or the link of a descriptor, a root,
-- or a word of a superblock by its word index; or none that steps work on
pub data Cell : Type 0 where
  used_cell : Cell
  head_cell : ℕ → Cell
  info_cell : ℕ → Cell
  anchor_cell : ℕ → Cell
  link_cell : ℕ → Cell
  root_cell : ℕ → Cell
  data_cell : ℕ → Cell
  no_cell : Cell

-- whether they are one word
abbrev pub same_cell : Cell → Cell → Bool
same_cell used_cell used_cell = true
same_cell (head_cell a) (head_cell b) = nat_eq a b
same_cell (info_cell a) (info_cell b) = nat_eq a b
same_cell (anchor_cell a) (anchor_cell b) = nat_eq a b
same_cell (link_cell a) (link_cell b) = nat_eq a b
same_cell (root_cell a) (root_cell b) = nat_eq a b
same_cell (data_cell a) (data_cell b) = nat_eq a b
same_cell no_cell no_cell = true
same_cell a b = false

-- whether an image of the capacity has the word
abbrev pub is_cell : ℕ → Cell → Bool
is_cell capacity used_cell = true
is_cell capacity (head_cell list) = nat_lt list lists
is_cell capacity (info_cell d) = nat_lt d capacity
is_cell capacity (anchor_cell d) = nat_lt d capacity
is_cell capacity (link_cell d) = nat_lt d capacity
is_cell capacity (root_cell i) = nat_lt i roots
is_cell capacity (data_cell word) = nat_le (start_word capacity 0) word && nat_lt word (superblocks_end capacity)
is_cell capacity no_cell = false

-- its word index
abbrev pub index_of : Cell → ℕ
index_of used_cell = used_word
index_of (head_cell list) = head_word list
index_of (info_cell d) = info_word d
index_of (anchor_cell d) = anchor_word d
index_of (link_cell d) = link_word d
index_of (root_cell i) = root_word i
index_of (data_cell word) = word
index_of no_cell = 0

-- the word of a descriptor, by its offset in the descriptor's line
abbrev pub descriptor_cell : ℕ → ℕ → Cell
descriptor_cell d at = cond (nat_eq at 0) (info_cell d) (cond (nat_eq at 1) (anchor_cell d) (cond (nat_eq at 2) (link_cell d) no_cell))

-- the word of the header
abbrev pub header_cell : ℕ → Cell
header_cell word = cond (nat_eq word used_word) used_cell (cond (nat_le (head_word 0) word && nat_lt word (head_word lists))
    (head_cell (word - head_word 0)) no_cell)

-- the word of header, roots, descriptors or superblocks that stands at a word index
abbrev pub cell_at : ℕ → ℕ → Cell
cell_at capacity word =
    cond (nat_lt word (root_word 0)) (header_cell word)
    (cond (nat_lt word fixed_words) (root_cell (word - root_word 0))
    (cond (nat_lt word (start_word capacity 0)) (descriptor_cell ((word - fixed_words) / 8) ((word - fixed_words) % 8))
    (cond (nat_lt word (superblocks_end capacity)) (data_cell word) no_cell)))
