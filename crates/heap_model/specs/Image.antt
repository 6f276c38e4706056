-- An image as a reading: what stands at each word index. So one definition serves the words in memory, the bytes of a
-- file, what a crash leaves and any mixed image. Beyond its words an image reads 0.
use Rattle.std.specs.Prelude.{ℕ, zero, suc, ◌+◌, ◌*◌, List, [], ◌∷◌, cond, nat_lt, drop, flat_map, slice_index}
use Rattle.byteorder.specs.Endian.{little_number, little_bytes}

-- the word at each index
abbrev pub Image : Type 0
Image = ℕ → ℕ

-- the words of the image that the bytes of a file are: word i is the number of bytes 8i to 8i + 7, the lowest first
abbrev pub image_of_bytes : List ℕ → Image
image_of_bytes bytes i = little_number 8 (drop (8 * i) bytes)

-- the bytes of a file that holds these words
abbrev pub bytes_of_words : List ℕ → List ℕ
bytes_of_words words = flat_map (little_bytes 8) words

-- the `count` words from `from` on
abbrev pub words_from : Image → ℕ → ℕ → List ℕ
words_from image from zero = []
words_from image from (suc count) = image from ∷ words_from image (from + 1) count

-- `count` words of a longer list, from `from` on, as an image: 0 beyond them
abbrev pub reading : List ℕ → ℕ → ℕ → Image
reading words from count i = cond (nat_lt i count) (slice_index words (from + i)) 0
