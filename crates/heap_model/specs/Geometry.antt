-- Where things stand in an image, as word indices. A word has 8 bytes, a line 8 words; `capacity` is the number of superblocks, `d` one of them.
use Rattle.std.specs.Prelude.{◌≡◌, ◌≢◌, ℕ, ◌+◌, ◌-◌, ◌*◌, ◌/◌, ◌<◌, ◌≤◌, ◌⊎◌}
use Rattle.std.proofs.Common.{arith}
pub use Rattle.heap_model.specs.Sizes.{lists, superblock_words}

-- the first word of each image: its first eight bytes are the text "10COLLAR"
abbrev pub magic : ℕ
magic = 0x52414C4C4F433031

-- the version of the format
abbrev pub version : ℕ
version = 2

-- the version before it, which has no kinds of roots
abbrev pub old_version : ℕ
old_version = 1

-- the greatest capacity; the value stands here alone, and a proof knows of it only these two bounds
unfoldable pub largest_capacity : ℕ
largest_capacity = 4096

-- the one bound on it from above
pub largest_capacity_fits : largest_capacity ≤ 4096
unfolding largest_capacity
largest_capacity_fits = omega arith

-- the greatest capacity of an image of the old version
abbrev pub largest_old_capacity : ℕ
largest_old_capacity = 256

-- the other bound: each capacity of the old version is one of the new
pub old_capacities_fit : largest_old_capacity ≤ largest_capacity
unfolding largest_capacity
old_capacities_fit = omega arith

-- the state word of an image that was closed
abbrev pub clean : ℕ
clean = 1

-- the state word of an image that was not closed
abbrev pub dirty : ℕ
dirty = 2

-- the header's words: the magic number
abbrev pub magic_word : ℕ
magic_word = 0

-- the version of the format
abbrev pub version_word : ℕ
version_word = 1

-- how many superblocks the image has
abbrev pub capacity_word : ℕ
capacity_word = 2

-- whether the image was closed
abbrev pub state_word : ℕ
state_word = 3

-- the high-water mark: the superblocks below it have been taken
abbrev pub used_word : ℕ
used_word = 8

-- the words of a line, the unit of write-back
abbrev pub line_words : ℕ
line_words = 8

-- the head of the list of free superblocks (0), and of the superblocks of a class with free blocks (its number)
abbrev pub head_word : ℕ → ℕ
head_word list = 16 + list

-- how many roots there are
abbrev pub roots : ℕ
roots = 1024

-- the word of root i
abbrev pub root_word : ℕ → ℕ
root_word i = 40 + i

-- the words of header and roots together
abbrev pub fixed_words : ℕ
fixed_words = 1064

-- the descriptor of superblock d is one line: its first word says what the superblock holds
abbrev pub info_word : ℕ → ℕ
info_word d = 1064 + 8 * d

-- the second is its anchor
abbrev pub anchor_word : ℕ → ℕ
anchor_word d = 1065 + 8 * d

-- the third is its link in a list
abbrev pub link_word : ℕ → ℕ
link_word d = 1066 + 8 * d

-- the first word of superblock d
abbrev pub start_word : ℕ → ℕ → ℕ
start_word capacity d = 1064 + 8 * capacity + 8192 * d

-- the superblock that a word index lies in, of words behind the header, the roots and the descriptors
abbrev pub superblock_of : ℕ → ℕ → ℕ
superblock_of capacity word = (word - start_word capacity 0) / superblock_words

-- the first word behind the last superblock
abbrev pub superblocks_end : ℕ → ℕ
superblocks_end capacity = 1064 + 8200 * capacity

-- the words of a whole image of the old version, which ends there
abbrev pub old_image_words : ℕ → ℕ
old_image_words capacity = superblocks_end capacity

-- the kind of root i: of what it leads to, by which a filter knows the links there
abbrev pub kind_word : ℕ → ℕ → ℕ
kind_word capacity i = superblocks_end capacity + i

-- the words of a whole image
abbrev pub image_words : ℕ → ℕ
image_words capacity = 2088 + 8200 * capacity

-- a word that has no meaning, in the header or in a descriptor: nothing reads or changes it
pub data IsReserved (capacity : ℕ) : ℕ → Type 0 where
  in_header : (word : ℕ) → state_word < word → word < root_word 0 → word ≢ used_word
      → (word < head_word 0) ⊎ (head_word (lists - 1) < word) → IsReserved capacity word
  in_descriptor : (d at word : ℕ) → d < capacity → 3 ≤ at → at < 8 → word ≡ info_word d + at → IsReserved capacity word

-- the word has the kind of a root
pub record IsKindWord (capacity word : ℕ) : Type 0 where
  pub from : kind_word capacity 0 ≤ word
  pub until : word < kind_word capacity roots

-- a word that no step on an open heap changes: the first four of the header, those without a meaning, and the kinds of the roots
abbrev pub IsFixed : ℕ → ℕ → Type 0
IsFixed capacity word = (word < 4) ⊎ (IsReserved capacity word ⊎ IsKindWord capacity word)
