-- The image that words are opened as.
use Rattle.std.specs.Prelude.{◌≡◌, ℕ, ◌*◌, List, length, slice_index, None, Some}
use Rattle.heap_model.specs.Header.{header_fault, first_kinds}
use Rattle.heap_model.specs.Image.{Image}
use Rattle.heap_model.specs.Reach.{IsOutsideIn}
use Rattle.region_header.specs.Migration.{current_words}
use Rattle.dict_model.specs.Links.{dict_links, kind_count}

-- the image in this version: one of the old version is migrated, with the kinds that `format` gives
abbrev pub current_image : List ℕ → Image
current_image words = slice_index (current_words words first_kinds)

-- the header is good, and no root or linked word points outside
pub record CanBeRecovered (words : List ℕ) : Type 0 where
  pub header : header_fault (Some kind_count) (8 * length words) (slice_index words) ≡ None
  pub inside : (at : ℕ) → IsOutsideIn (current_image words) dict_links at → ⊥
