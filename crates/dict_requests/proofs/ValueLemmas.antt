-- A value as the words of its node.
use Rattle.std.proofs.Common.{◌≡◌, ℕ, zero, suc, ◌+◌, ◌-◌, ◌*◌, ◌<◌, inl, inr, List, ◌++◌, length, take, drop, replicate, slice_index, get_or, length-append, refl, ap, sym, ◌∙◌, arith}
use Rattle.std.proofs.lemmas.Bool.{cases_lt}
use Rattle.std.proofs.lemmas.List.{get_or-drop, get_or_append_left, get_or-append_right, get_or_past, length-replicate}
use Rattle.std.proofs.Math.Seq.{take-append_seam}
use Rattle.bit_marks.proofs.MarkLemmas.{zero_at}
use Rattle.heap_model.specs.Image.{Image, words_from, image_of_bytes, bytes_of_words}
use Rattle.heap_model.proofs.ImageLemmas.{length-words_from}
use Rattle.byteorder.specs.Endian.{little_from}
use Rattle.region_header.proofs.WordBytes.{bytes_of_words-image_of_bytes, byte_anywhere}
use Rattle.dict_model.specs.Nodes.{value_words}

-- word i of the words from a place on
pub word_from : (image : Image) (from count i : ℕ) → i < count → slice_index (words_from image from count) i ≡ image (from + i)
word_from image from zero i below = absurd (omega arith)
word_from image from (suc count) zero below = let e : from ≡ from + 0 = omega arith in ap image e
word_from image from (suc count) (suc i) below =
    let e : from + 1 + i ≡ from + suc i = omega arith in word_from image (from + 1) count i (omega arith) ∙ ap image e

-- zeros behind a list are what it reads as there
padded_at : (xs : List ℕ) (n i : ℕ) → get_or (xs ++ replicate n 0) i 0 ≡ get_or xs i 0
padded_at xs n i = elim (cases_lt i (length xs)) as (λ _. get_or (xs ++ replicate n 0) i 0 ≡ get_or xs i 0) [
  | inl below ↦ get_or_append_left xs (replicate n 0) 0 i below
  | inr past ↦ get_or-append_right xs (replicate n 0) (length xs) i 0 refl past ∙ zero_at n (i - length xs) ∙ sym (get_or_past xs i 0 past)
]

-- a number of bytes depends on the bytes alone
same_number : (from n : ℕ) (xs ys : List ℕ) → ((i : ℕ) → get_or xs i 0 ≡ get_or ys i 0) → little_from from n xs ≡ little_from from n ys
same_number from zero xs ys same = refl
same_number from (suc n) xs ys same = let rest = same_number (suc from) n xs ys same in let first = same from in cc

padded_word : (xs : List ℕ) (n i : ℕ) → image_of_bytes (xs ++ replicate n 0) i ≡ image_of_bytes xs i
padded_word xs n i = same_number 0 8 (drop (8 * i) (xs ++ replicate n 0)) (drop (8 * i) xs)
    (λ k. get_or-drop (8 * i) (xs ++ replicate n 0) k 0 ∙ padded_at xs n (8 * i + k) ∙ sym (get_or-drop (8 * i) xs k 0))

-- the value's words stand for its bytes
pub value_of_words : (image : Image) (from : ℕ) (value : List ℕ) → ((k : ℕ) → k < length value → get_or value k 0 < 256)
    → ((i : ℕ) → i < value_words (length value) → image (from + i) ≡ image_of_bytes value i)
    → take (length value) (bytes_of_words (words_from image from (value_words (length value)))) ≡ value
value_of_words image from value small words =
    let n = value_words (length value) in
    let pad = 8 * n - length value in
    let bytes : List ℕ = value ++ replicate pad 0 in
    let long : length bytes ≡ 8 * length (words_from image from n) =
    let count = length-words_from image from n in let sum = length-append value (replicate pad 0) in
    let zeros : length (replicate {A = ℕ} pad 0) ≡ pad = length-replicate pad 0 in omega arith in
    let is : bytes_of_words (words_from image from n) ≡ bytes = bytes_of_words-image_of_bytes (words_from image from n) bytes
    (λ i. let e = padded_at value pad i in let s = byte_anywhere value small i in omega arith) long
    (λ i below. let count = length-words_from image from n in
    let less : i < n = omega arith in word_from image from n i less ∙ words i less ∙ sym (padded_word value pad i)) in
    ap (take (length value)) is ∙ take-append_seam value (replicate pad 0)
