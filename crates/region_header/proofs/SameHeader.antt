-- A header is told by nine words, so two images that agree in these have the same header.
use Rattle.std.proofs.Common.{◌≡◌, ℕ, ◌+◌, ◌-◌, ◌*◌, ◌<◌, List, length, take, drop, slice_index, refl, ap, ◌∙◌, arith}
use Rattle.std.proofs.lemmas.List.{drop-take}
use Rattle.std.specs.Prelude.{None}
use Rattle.byteorder.specs.Endian.{little_number, IsRead}
use Rattle.byteorder.specs.Numbers.{little_from-take}
use Rattle.heap_model.specs.Image.{Image, image_of_bytes}
use Rattle.heap_model.specs.Header.{header_fault, has_fault}
use Rattle.region_header.specs.declared.check.Header.{Header}
use Rattle.region_header.specs.Header.{IsHeaderOf}

-- the images agree in the nine words that a header has
abbrev pub SameHeader : Image → Image → Type 0
SameHeader a b = (i : ℕ) → i < 9 → a i ≡ b i

-- the words read from the first bytes are those of the image
pub front_is : (bytes words : List ℕ) → length words ≡ 9 → IsRead little_number 8 (take 72 bytes) words
    → SameHeader (slice_index words) (image_of_bytes bytes)
front_is bytes words nine read i below =
    let word : slice_index words i ≡ little_number 8 (drop (8 * i) (take 72 bytes)) = read i (omega arith) in
    let whole : 72 ≡ 8 * i + (72 - 8 * i) = omega arith in
    let front : drop (8 * i) (take 72 bytes) ≡ take (72 - 8 * i) (drop (8 * i) bytes) =
    ap (λ n. drop (8 * i) (take n bytes)) whole ∙ drop-take (8 * i) (72 - 8 * i) bytes in
    word ∙ ap (little_number 8) front ∙ little_from-take 0 8 (72 - 8 * i) (drop (8 * i) bytes) (omega arith)

-- they have the same fault, but for kinds
pub same_fault : (bytes : ℕ) (a b : Image) → SameHeader a b → header_fault None bytes a ≡ header_fault None bytes b
unfolding header_fault has_fault
same_fault bytes a b same =
    rw (same 0 (omega arith), same 1 (omega arith), same 2 (omega arith), same 3 (omega arith), same 8 (omega arith)) refl

-- a header of one is a header of the other
pub same_header : (header : Header) (a b : Image) → SameHeader a b → IsHeaderOf header a → IsHeaderOf header b
same_header header a b same is = record {
  version_is = is.version_is ∙ same 1 (omega arith);
  capacity_is = is.capacity_is ∙ same 2 (omega arith);
  clean_is = rw (← same 3 (omega arith)) is.clean_is;
  used_is = is.used_is ∙ same 8 (omega arith);
}
