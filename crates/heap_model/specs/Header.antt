-- When the header of an image is well formed, and which cause is told where it is not.
use Rattle.std.specs.Prelude.{◌≡◌, ℕ, ◌-◌, ◌*◌, ◌<◌, ◌≤◌, ◌⊎◌, Bool, false, cond, not, ◌||◌, ◌&&◌, nat_eq, nat_lt, nat_le, List, [], ◌∷◌, ◌++◌, replicate, find, Option, None, Some, IfSome}
use Rattle.std.specs.List.{list_any, range_with_len}
use Rattle.heap_model.specs.declared.header.BadHeader.{BadHeader}
use Rattle.heap_model.specs.declared.header.BadHeader.TheVariants.{Short, Magic, Version, Capacity, Length, State, Used, Kind}
use Rattle.heap_model.specs.Geometry.{magic, version, old_version, largest_capacity, largest_old_capacity, roots, kind_word, old_image_words, clean, dirty, magic_word, version_word, capacity_word, state_word, used_word, fixed_words, image_words}
use Rattle.heap_model.specs.Image.{Image}

-- how many superblocks the image has
abbrev pub capacity_of : Image → ℕ
capacity_of image = image capacity_word

-- whether it was closed
abbrev pub state_of : Image → ℕ
state_of image = image state_word

-- its high-water mark: how many superblocks have been taken
abbrev pub used_of : Image → ℕ
used_of image = image used_word

-- the image is of the old version
abbrev pub is_old : Image → Bool
is_old image = nat_eq (image version_word) old_version

-- the greatest capacity by the image's version
abbrev pub most_superblocks : Image → ℕ
most_superblocks image = cond (is_old image) largest_old_capacity largest_capacity

-- the words of a whole image by its version
abbrev pub whole_words : Image → ℕ
whole_words image = cond (is_old image) (old_image_words (capacity_of image)) (image_words (capacity_of image))

-- the kinds of the roots, as an image stores them
abbrev pub kinds_of : Image → ℕ → ℕ
kinds_of image i = image (kind_word (capacity_of image) i)

-- where there is a limit, the stored kind of some root is at or above it
abbrev pub has_bad_kind : Option ℕ → Image → Bool
has_bad_kind None image = false
has_bad_kind (Some limit) image = list_any (λ i. nat_le limit (kinds_of image i)) (range_with_len 0 roots)

-- whether a cause holds of an image of so many bytes, each cause by itself; with no limit any kind is good
unfoldable pub has_fault : Option ℕ → ℕ → Image → BadHeader → Bool
has_fault limit bytes image Short = nat_lt bytes (8 * fixed_words)
has_fault limit bytes image Magic = not (nat_eq (image magic_word) magic)
has_fault limit bytes image Version = not (is_old image || nat_eq (image version_word) version)
has_fault limit bytes image Capacity = nat_eq (capacity_of image) 0 || nat_lt (most_superblocks image) (capacity_of image)
has_fault limit bytes image Length = not (nat_eq bytes (8 * whole_words image))
has_fault limit bytes image State = not (nat_eq (state_of image) clean || nat_eq (state_of image) dirty)
has_fault limit bytes image Used = nat_lt (capacity_of image) (used_of image)
has_fault limit bytes image Kind = not (is_old image) && has_bad_kind limit image

-- the order in which causes are told
abbrev pub causes : List BadHeader
causes = Short ∷ Magic ∷ Version ∷ Capacity ∷ Length ∷ State ∷ Used ∷ Kind ∷ []

-- the first cause that holds, if any does
unfoldable pub header_fault : Option ℕ → ℕ → Image → Option BadHeader
header_fault limit bytes image = find (has_fault limit bytes image) causes

-- an image of so many bytes, whose header is good as one of a version with this greatest capacity and this many words
pub record HasHeader (the_version most words bytes : ℕ) (image : Image) : Type 0 where
  pub magic_is : image magic_word ≡ magic
  pub version_is : image version_word ≡ the_version
  pub some : 1 ≤ capacity_of image
  pub small : capacity_of image ≤ most
  pub length_is : bytes ≡ 8 * words
  pub state : (state_of image ≡ clean) ⊎ (state_of image ≡ dirty)
  pub used : used_of image ≤ capacity_of image

-- an image of so many bytes of this version, whose header is good whatever the kinds of its roots
abbrev pub IsWellFormed : ℕ → Image → Type 0
IsWellFormed bytes image = HasHeader version largest_capacity (image_words (capacity_of image)) bytes image

-- the same of the old version
abbrev pub IsOldWellFormed : ℕ → Image → Type 0
IsOldWellFormed bytes image = HasHeader old_version largest_old_capacity (old_image_words (capacity_of image)) bytes image

-- where there is a limit, the kind of each root is below it
abbrev pub HasKindsBelow : Option ℕ → Image → Type 0
HasKindsBelow limit image = IfSome limit (λ most. (i : ℕ) → i < roots → kinds_of image i < most)

-- a good header, of either version
abbrev pub HasGoodHeader : Option ℕ → ℕ → Image → Type 0
HasGoodHeader limit bytes image = IsOldWellFormed bytes image ⊎ (IsWellFormed bytes image × HasKindsBelow limit image)

-- the kinds of the roots of an empty image: 1 for the first eight, and 0 for the others
unfoldable pub first_kinds : List ℕ
first_kinds = replicate 8 1 ++ replicate 1016 0

-- the words of an empty image: a clean header, 0 in every other word up to the end of the last superblock, and then the first kinds
unfoldable pub empty_words : ℕ → List ℕ
empty_words capacity = magic ∷ version ∷ capacity ∷ clean ∷ replicate (old_image_words capacity - 4) 0 ++ first_kinds
