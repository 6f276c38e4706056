-- Words as bytes and back.
use Rattle.std.proofs.Common.{◌≡◌, ℕ, zero, suc, ◌+◌, ◌*◌, ◌^◌, ◌<◌, ◌≤◌, List, [], ◌∷◌, ◌++◌, length, take, drop, slice_index, get_or, inl, inr, refl, sym, ap, ◌∙◌, arith, length-append}
use Rattle.std.proofs.lemmas.Bool.{cases_lt}
use Rattle.std.proofs.lemmas.Grind.{same_number_lists}
use Rattle.std.proofs.lemmas.List.{take-append-drop, drop_all, length-take, length-take-le, length-drop, drop-drop, get_or-take, get_or-drop, get_or_past}
use Rattle.std.proofs.lemmas.Nat.{le_bytes_8}
use Rattle.std.proofs.Math.ListN.{get_or-append}
use Rattle.std.proofs.Math.Seq.{drop-append-add, get_or-append_seam}
use Rattle.std.specs.Int.{w64, from_le_bytes}
use Rattle.byteorder.specs.Endian.{little_number, little_bytes}
use Rattle.byteorder.specs.Numbers.{little_number-reads_back, length-bytes_low_first, little_from-take}
use Rattle.heap_model.specs.Image.{image_of_bytes, bytes_of_words}
use Rattle.region_header.specs.Words.{AreWordsOf}

-- eight bytes for each word
pub length-bytes_of_words : (words : List ℕ) → length (bytes_of_words words) ≡ 8 * length words
length-bytes_of_words [] = refl
length-bytes_of_words (w ∷ words) =
    let eight = length-bytes_low_first 0 8 w in
    let rest = length-bytes_of_words words in
    length-append (little_bytes 8 w) (bytes_of_words words) ∙ omega (arith, eight, rest)

-- past the end each word is 0
image_of_bytes-past : (bytes : List ℕ) (i : ℕ) → length bytes ≤ 8 * i → image_of_bytes bytes i ≡ 0
image_of_bytes-past bytes i past = ap (little_number 8) (drop_all (8 * i) bytes past)

-- a word later is eight bytes later
image_of_bytes-suc : (bytes : List ℕ) (i : ℕ) → image_of_bytes bytes (suc i) ≡ image_of_bytes (drop 8 bytes) i
image_of_bytes-suc bytes i =
    let step : 8 * suc i ≡ 8 + 8 * i = omega arith in
    ap (little_number 8) (ap (λ n. drop n bytes) step ∙ sym (drop-drop (8 * i) 8 bytes))

-- word i of the bytes of words
pub image_of_bytes-bytes_of_words : (words : List ℕ) (i : ℕ) → ((k : ℕ) → k < length words → slice_index words k < 2 ^ 64)
    → image_of_bytes (bytes_of_words words) i ≡ slice_index words i
image_of_bytes-bytes_of_words [] i small = image_of_bytes-past [] i (omega arith)
image_of_bytes-bytes_of_words (w ∷ words) zero small = little_number-reads_back 8 w (bytes_of_words words) (small 0 (omega arith))
image_of_bytes-bytes_of_words (w ∷ words) (suc i) small =
    let eight : length (little_bytes 8 w) ≡ 8 = length-bytes_low_first 0 8 w in
    let step : 8 * suc i ≡ length (little_bytes 8 w) + 8 * i = omega arith in
    let moved : drop (8 * suc i) (bytes_of_words (w ∷ words)) ≡ drop (8 * i) (bytes_of_words words) =
    ap (λ n. drop n (bytes_of_words (w ∷ words))) step ∙ drop-append-add (little_bytes 8 w) (bytes_of_words words) (8 * i) in
    ap (little_number 8) moved ∙ image_of_bytes-bytes_of_words words i (λ k below. small (suc k) (omega arith))

-- bytes are read as the image of the words that they stand for
pub image_of_words : (words bytes : List ℕ) → AreWordsOf words bytes → slice_index words ≡ image_of_bytes bytes
image_of_words words bytes are = λ at i. are.word i at

-- words of 64 bits are those of their bytes
pub words_of_bytes : (words : List ℕ) → ((k : ℕ) → k < length words → slice_index words k < 2 ^ 64) → AreWordsOf words (bytes_of_words words)
words_of_bytes words small = record {
  count = sym (length-bytes_of_words words);
  word = λ i. sym (image_of_bytes-bytes_of_words words i small);
}

-- a list of bytes reads as a byte at each index, past its end too
pub byte_anywhere : (bytes : List ℕ) → ((k : ℕ) → k < length bytes → get_or bytes k 0 < 256) → (i : ℕ) → get_or bytes i 0 < 256
byte_anywhere bytes small i = elim (cases_lt i (length bytes)) [
  | inl below ↦ small i below
  | inr past ↦ let at = get_or_past bytes i 0 past in omega (arith, at)
]

-- each of the first eight bytes is below 256
small_front : (bytes : List ℕ) → ((k : ℕ) → get_or bytes k 0 < 256) → (i : ℕ) → get_or (take 8 bytes) i 0 < 256
small_front bytes small = byte_anywhere (take 8 bytes) (λ i below.
    let cut = length-take {A = ℕ} 8 bytes in
    let at = get_or-take 8 bytes i 0 (omega (arith, cut)) in
    let byte = small i in
    omega (arith, at, byte))

-- the bytes of the number that eight bytes make are these bytes
little_bytes-little_number : (bytes : List ℕ) → 8 ≤ length bytes → ((i : ℕ) → get_or bytes i 0 < 256)
    → little_bytes 8 (little_number 8 bytes) ≡ take 8 bytes
little_bytes-little_number bytes long small =
    let front : List ℕ = take 8 bytes in
    let eight : length front ≡ 8 = length-take-le 8 bytes long in
    let same : little_number 8 front ≡ little_number 8 bytes = little_from-take 0 8 8 bytes (omega arith) in
    let read : little_number 8 front ≡ from_le_bytes w64 front = omega arith in
    le_bytes_8 front (little_number 8 bytes) eight (small_front bytes small) (sym same ∙ read)

-- bytes read as words are written back
pub bytes_of_words-image_of_bytes : (words bytes : List ℕ) → ((i : ℕ) → get_or bytes i 0 < 256) → length bytes ≡ 8 * length words
    → ((i : ℕ) → i < length words → slice_index words i ≡ image_of_bytes bytes i) → bytes_of_words words ≡ bytes
bytes_of_words-image_of_bytes [] [] small long word = refl
bytes_of_words-image_of_bytes [] (b ∷ bytes) small long word = absurd (omega arith)
bytes_of_words-image_of_bytes (w ∷ words) bytes small long word =
    let first : w ≡ little_number 8 bytes = word 0 (omega arith) in
    let front : little_bytes 8 w ≡ take 8 bytes = ap (little_bytes 8) first ∙ little_bytes-little_number bytes (omega arith) small in
    let rest : bytes_of_words words ≡ drop 8 bytes = bytes_of_words-image_of_bytes words (drop 8 bytes)
    (λ i. let at = get_or-drop 8 bytes i 0 in let byte = small (8 + i) in omega (arith, at, byte))
    (length-drop 8 bytes ∙ omega arith)
    (λ i below. word (suc i) (omega arith) ∙ image_of_bytes-suc bytes i) in
    ap (λ (r : List ℕ). little_bytes 8 w ++ r) rest ∙ ap (λ (f : List ℕ). f ++ drop 8 bytes) front ∙ take-append-drop 8 bytes

-- one list of words at most is that of the bytes
pub AreWordsOf-unique : (words others bytes : List ℕ) → AreWordsOf words bytes → AreWordsOf others bytes → words ≡ others
AreWordsOf-unique words others bytes these those =
    let counts = these.count in
    let others_counts = those.count in
    same_number_lists words others (omega arith) (λ i below. these.word i ∙ sym (those.word i))

-- the first words of the bytes
pub record AreFirstWords (bytes words : List ℕ) (i : ℕ) : Type 0 where
  pub count : length words ≡ i
  pub word : (k : ℕ) → k < i → slice_index words k ≡ image_of_bytes bytes k

-- one word more
pub one_word_more : (bytes words : List ℕ) (i word : ℕ) → AreFirstWords bytes words i → word ≡ image_of_bytes bytes i
    → AreFirstWords bytes (words ++ word ∷ []) (i + 1)
one_word_more bytes words i word first is = record {
  count = length-append words (word ∷ []) ∙ let count = first.count in omega arith;
  word = λ k below. elim (cases_lt k i) [
    | inl before ↦ get_or-append words (word ∷ []) 0 k (let count = first.count in omega arith) ∙ first.word k before
    | inr past ↦
        let last : k ≡ length words = let count = first.count in omega arith in
        let same : k ≡ i = omega arith in
        ap (λ n. slice_index (words ++ word ∷ []) n) last ∙ get_or-append_seam words word [] 0 ∙ is ∙ ap (image_of_bytes bytes) (sym same)
  ];
}

-- all of them
pub all_words : (bytes words : List ℕ) (i : ℕ) → length bytes ≡ 8 * i → AreFirstWords bytes words i → AreWordsOf words bytes
all_words bytes words i long first = record {
  count = let count = first.count in omega arith;
  word = λ k. elim (cases_lt k i) [
    | inl below ↦ first.word k below
    | inr past ↦ get_or_past words k 0 (let count = first.count in omega arith) ∙ sym (image_of_bytes-past bytes k (omega arith))
  ];
}
