-- What the check of a header but for kinds tells, and the kinds that the image then stores.
use Rattle.std.proofs.Common.{◌≡◌, ◌≢◌, ℕ, ◌-◌, ◌*◌, inl, inr, List, length, take, drop, slice_index, Option, None, sym, ap, ◌∙◌, arith}
use Rattle.std.proofs.lemmas.List.{take_all, length-drop, get_or-drop, drop-drop}
use Rattle.byteorder.specs.Endian.{little_number, IsRead}
use Rattle.heap_model.specs.Geometry.{old_version, kind_word, roots}
use Rattle.heap_model.specs.Image.{Image, image_of_bytes}
use Rattle.heap_model.specs.Header.{header_fault, IsWellFormed, HasGoodHeader}
use Rattle.heap_model.proofs.HeaderLemmas.{good_header, no_fault}
use Rattle.region_header.specs.declared.check.Header.{Header}
use Rattle.region_header.specs.Header.{IsHeaderOf, HasStored}
use Rattle.region_header.proofs.SameHeader.{front_is, same_fault, same_header}

-- a header of the old version is good with each limit
pub old_good : (limit : Option ℕ) (header : Header) (bytes : ℕ) (image : Image) → header_fault None bytes image ≡ None → IsHeaderOf header image
    → header.version ≡ old_version → HasGoodHeader limit bytes image
old_good limit header bytes image none is old = by_form (good_header None bytes image none) where
  by_form : HasGoodHeader None bytes image → HasGoodHeader limit bytes image
  by_form (inl formed) = inl formed
  by_form (inr (formed, any)) = let one = is.version_is in let two = formed.version_is in absurd (omega arith)

pub old_told : (limit : Option ℕ) (header : Header) (bytes : ℕ) (image : Image) → header_fault None bytes image ≡ None → IsHeaderOf header image
    → header.version ≡ old_version → header_fault limit bytes image ≡ None
old_told limit header bytes image none is old = no_fault limit bytes image (old_good limit header bytes image none is old)

-- one of the other version is well formed
new_formed : (header : Header) (bytes : ℕ) (image : Image) → header_fault None bytes image ≡ None → IsHeaderOf header image
    → header.version ≢ old_version → IsWellFormed bytes image
new_formed header bytes image none is new = by_form (good_header None bytes image none) where
  by_form : HasGoodHeader None bytes image → IsWellFormed bytes image
  by_form (inl formed) = absurd (new (is.version_is ∙ formed.version_is))
  by_form (inr (formed, any)) = formed

-- the kinds of an image in words
pub stored_words : (words : List ℕ) (from : ℕ) (header : Header) → from ≡ kind_word header.capacity 0
    → header_fault None (8 * length words) (slice_index words) ≡ None → IsHeaderOf header (slice_index words)
    → header.version ≢ old_version → HasStored header (take (length words - from) (drop from words)) (8 * length words) (slice_index words)
stored_words words from header place none is new =
    let formed = new_formed header (8 * length words) (slice_index words) none is new in
    let long = formed.length_is in
    let capacity = is.capacity_is in
    let rest = length-drop from words in
    let whole : take (length words - from) (drop from words) ≡ drop from words =
    take_all (length words - from) (drop from words) (omega arith) in record {
      formed = formed;
      header_is = is;
      count = ap length whole ∙ omega arith;
      kinds_are = λ i less. ap (λ xs. slice_index xs i) whole ∙ get_or-drop from words i 0 ∙ ap (slice_index words) (omega arith);
    }

-- what nine words that are read from bytes tell of these
pub told_of_bytes : (bytes words : List ℕ) (header : Header) → length words ≡ 9 → IsRead little_number 8 (take 72 bytes) words
    → None ≡ header_fault None (length bytes) (slice_index words) → IsHeaderOf header (slice_index words)
    → (header_fault None (length bytes) (image_of_bytes bytes) ≡ None) × IsHeaderOf header (image_of_bytes bytes)
told_of_bytes bytes words header nine read none is =
    let same = front_is bytes words nine read in (
      sym (none ∙ same_fault (length bytes) (slice_index words) (image_of_bytes bytes) same),
      same_header header (slice_index words) (image_of_bytes bytes) same is,
    )

-- the kinds of an image in bytes
pub stored_bytes : (bytes stored : List ℕ) (from : ℕ) (header : Header) → from ≡ 8 * kind_word header.capacity 0
    → header_fault None (length bytes) (image_of_bytes bytes) ≡ None
    → IsHeaderOf header (image_of_bytes bytes) → header.version ≢ old_version → length stored ≡ roots
    → IsRead little_number 8 (take (length bytes - from) (drop from bytes)) stored → HasStored header stored (length bytes) (image_of_bytes bytes)
stored_bytes bytes stored from header place none is new count read = record {
  formed = new_formed header (length bytes) (image_of_bytes bytes) none is new;
  header_is = is;
  count = count;
  kinds_are = λ i less.
      let capacity = is.capacity_is in
      let rest = length-drop from bytes in
      let whole : take (length bytes - from) (drop from bytes) ≡ drop from bytes = take_all (length bytes - from) (drop from bytes) (omega arith) in
      read i (omega arith) ∙ ap (λ xs. little_number 8 (drop (8 * i) xs)) whole
      ∙ ap (little_number 8) (drop-drop (8 * i) from bytes ∙ ap (λ n. drop n bytes) (omega arith));
}
