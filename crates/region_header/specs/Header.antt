-- What a header tells of its image.
use Rattle.std.specs.Prelude.{◌≡◌, ◌↔◌, ℕ, ◌<◌, List, length, slice_index, IsTrue}
use Rattle.heap_model.specs.Geometry.{clean, version_word, roots}
use Rattle.heap_model.specs.Image.{Image}
use Rattle.heap_model.specs.Header.{IsWellFormed, capacity_of, state_of, used_of, kinds_of}
use Rattle.region_header.specs.declared.check.Header.{Header}

-- the header has the image's version, capacity, state and `used`
pub record IsHeaderOf (header : Header) (image : Image) : Type 0 where
  pub version_is : header.version ≡ image version_word
  pub capacity_is : header.capacity ≡ capacity_of image
  pub clean_is : IsTrue header.clean ↔ (state_of image ≡ clean)
  pub used_is : header.used ≡ used_of image

-- the image of so many bytes is well formed, with this header and these kinds of roots
pub record HasStored (header : Header) (stored : List ℕ) (size : ℕ) (image : Image) : Type 0 where
  pub formed : IsWellFormed size image
  pub header_is : IsHeaderOf header image
  pub count : length stored ≡ roots
  pub kinds_are : (i : ℕ) → i < roots → slice_index stored i ≡ kinds_of image i
