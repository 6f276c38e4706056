-- Which blocks an image has, and what a byte offset names. Blocks depend on capacity, `used` and the info words alone, so they are said of those.
use Rattle.std.specs.Prelude.{◌≡◌, ℕ, ◌+◌, ◌*◌, ◌<◌, ◌≤◌, ◌⊎◌}
use Rattle.heap_model.specs.declared.block.Block.{Block}
use Rattle.heap_model.specs.Geometry.{info_word, start_word, superblock_words}
use Rattle.heap_model.specs.Image.{Image}
use Rattle.heap_model.specs.Header.{capacity_of, used_of}
use Rattle.heap_model.specs.Sizes.{IsClass, words_of_class, blocks_of}
use Rattle.heap_model.specs.Words.{large_info}

-- how the superblocks below `used` are laid out: the info of each says what it holds
pub record Layout : Type 0 where
  pub capacity : ℕ
  pub used : ℕ
  pub info : ℕ → ℕ

-- the layout of an image: what its header and its infos say
abbrev pub layout_of : Image → Layout
layout_of image = record { capacity = capacity_of image; used = used_of image; info = λ d. image (info_word d) }

-- superblock d begins `count` blocks of `words` words each: those of its class, or one large block that takes it and
-- the superblocks behind it, whose infos are 0
pub data Begins (l : Layout) (d : ℕ) : ℕ → ℕ → Type 0 where
  of_class : (c : ℕ) → l.info d ≡ c → IsClass c → Begins l d (words_of_class c) (blocks_of c)
  as_large : (n : ℕ) → 1 ≤ n → l.info d ≡ large_info n → d + n ≤ l.used
      → ((i : ℕ) → d < i → i < d + n → l.info i ≡ 0) → Begins l d (superblock_words * n) 1

-- b is block `index` of the `count` blocks of `words` words that superblock d begins
pub record IsBlockOf (l : Layout) (b : Block) (d index words count : ℕ) : Type 0 where
  pub taken : d < l.used
  pub begins : Begins l d words count
  pub below : index < count
  pub at : b.first_word ≡ start_word l.capacity d + index * words
  pub size : b.words ≡ words

-- b is a block
pub record IsBlock (l : Layout) (b : Block) : Type 0 where
  pub superblock : ℕ
  pub index : ℕ
  pub words : ℕ
  pub count : ℕ
  pub is_of : IsBlockOf l b superblock index words count

-- the byte offset names the block: it is the offset of its first byte
pub record NamesIn (l : Layout) (offset : ℕ) (b : Block) : Type 0 where
  pub begins_at : offset ≡ 8 * b.first_word
  pub block : IsBlock l b

-- the same of an image
abbrev pub Names : Image → ℕ → Block → Type 0
Names image = NamesIn (layout_of image)

-- the word is one of the block's
pub record IsIn (b : Block) (word : ℕ) : Type 0 where
  pub from : b.first_word ≤ word
  pub until : word < b.first_word + b.words

-- the blocks are one, or have no word in common
abbrev pub AreOneOrApart : Block → Block → Type 0
AreOneOrApart a b = (a ≡ b) ⊎ ((a.first_word + a.words ≤ b.first_word) ⊎ (b.first_word + b.words ≤ a.first_word))
