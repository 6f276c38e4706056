-- The kinds that an image stores, as a list.
use Rattle.std.proofs.Common.{◌≡◌, ℕ, ◌<◌, List, length, slice_index, All, Option, Some, None, IfSome, arith}
use Rattle.std.proofs.lemmas.List.Elements.{All-get_or, All-from_get_or}
use Rattle.heap_model.specs.Geometry.{roots}
use Rattle.heap_model.specs.Image.{Image}
use Rattle.heap_model.specs.Header.{HasKindsBelow, kinds_of}

-- they are below the limit exactly where each of the list is
pub stored_below : (limit : Option ℕ) (image : Image) (stored : List ℕ) → length stored ≡ roots
    → ((i : ℕ) → i < roots → slice_index stored i ≡ kinds_of image i)
    → IfSome limit (λ most. All (λ kind. kind < most) stored) → HasKindsBelow limit image
stored_below None image stored count same below = tt
stored_below (Some most) image stored count same below = λ i less.
    let is = same i less in
    let small = All-get_or (λ kind. kind < most) stored i 0 (omega arith) below in
    omega arith

pub below_stored : (limit : Option ℕ) (image : Image) (stored : List ℕ) → length stored ≡ roots
    → ((i : ℕ) → i < roots → slice_index stored i ≡ kinds_of image i)
    → HasKindsBelow limit image → IfSome limit (λ most. All (λ kind. kind < most) stored)
below_stored None image stored count same below = tt
below_stored (Some most) image stored count same below = All-from_get_or (λ kind. kind < most) stored 0 (λ i inside.
    let less : i < roots = omega arith in
    let is = same i less in
    let small = below i less in
    omega arith)
