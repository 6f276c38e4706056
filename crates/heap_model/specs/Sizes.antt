-- The size classes of small blocks, and what a request takes (after LRMalloc's and Ralloc's size classes).
use Rattle.std.specs.Prelude.{ℕ, ◌+◌, ◌-◌, ◌*◌, ◌/◌, ◌≤◌, List, [], ◌∷◌, slice_index, max}

-- the block size in bytes of each class, after a 0 for class 0, which is none
unfoldable pub class_sizes : List ℕ
class_sizes = 0 ∷ 16 ∷ 32 ∷ 48 ∷ 64 ∷ 96 ∷ 128 ∷ 192 ∷ 256 ∷ 384 ∷ 512 ∷ 768 ∷ 1024 ∷ 1536 ∷ 2048 ∷
    3072 ∷ 4096 ∷ 6144 ∷ 8192 ∷ 12288 ∷ 14336 ∷ []

-- the greatest class
abbrev pub last_class : ℕ
last_class = 20

-- how many lists of superblocks there are: of the free ones, and of each class
abbrev pub lists : ℕ
lists = last_class + 1

-- the classes are the numbers from 1 to it
pub record IsClass (class : ℕ) : Type 0 where
  pub some : 1 ≤ class
  pub last : class ≤ last_class

-- the bytes of a block of the class
unfoldable pub size_of : ℕ → ℕ
size_of class = slice_index class_sizes class

-- the words of a block of the class
unfoldable pub words_of_class : ℕ → ℕ
words_of_class class = slice_index class_sizes class / 8

-- the words of a superblock
abbrev pub superblock_words : ℕ
superblock_words = 8192

-- the bytes of a superblock
abbrev pub superblock_bytes : ℕ
superblock_bytes = 8 * superblock_words

-- how many blocks of the class a superblock is cut into; none for a number that is no class
unfoldable pub blocks_of : ℕ → ℕ
blocks_of class = superblock_bytes / slice_index class_sizes class

-- a request of more bytes is served by superblocks of its own
abbrev pub largest_small : ℕ
largest_small = 14336

-- the smallest class whose blocks hold so many bytes
pub record IsLeastClassFor (bytes class : ℕ) : Type 0 where
  pub is_class : IsClass class
  pub holds : bytes ≤ size_of class
  pub least : (other : ℕ) → IsClass other → bytes ≤ size_of other → class ≤ other

-- the adjoining superblocks that hold so many bytes, at least one
abbrev pub span_of : ℕ → ℕ
span_of bytes = max 1 ((bytes + (superblock_bytes - 1)) / superblock_bytes)
