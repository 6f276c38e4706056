-- When words are those of a file's bytes.
use Rattle.std.specs.Prelude.{◌≡◌, ℕ, ◌*◌, List, length, slice_index}
use Rattle.heap_model.specs.Image.{image_of_bytes}

-- the words are those that the bytes stand for, eight bytes for each
pub record AreWordsOf (words bytes : List ℕ) : Type 0 where
  pub count : 8 * length words ≡ length bytes
  pub word : (i : ℕ) → slice_index words i ≡ image_of_bytes bytes i
