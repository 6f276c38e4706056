-- Images as lists of words.
use Rattle.std.specs.Prelude.{◌≡◌, ℕ, ◌≤◌, List, length, slice_index}
use Rattle.heap_model.specs.Geometry.{largest_capacity, image_words}
use Rattle.heap_model.specs.Header.{capacity_of}

-- the words are those of a whole image
pub record AreWholeImage (words : List ℕ) : Type 0 where
  pub some : 1 ≤ capacity_of (slice_index words)
  pub small : capacity_of (slice_index words) ≤ largest_capacity
  pub long : length words ≡ image_words (capacity_of (slice_index words))
