-- Facts on images as readings: the words from an index on, of lists and of images that agree.
use Rattle.std.proofs.Common.{◌≡◌, ℕ, zero, suc, ◌+◌, ◌<◌, ◌≤◌, List, ◌∷◌, length, get_or, take, drop, slice_index, refl, ◌∙◌, ap, arith, drop-cons, add-one}
use Rattle.heap_model.specs.Image.{Image, words_from}

-- how many words there are
pub length-words_from : (image : Image) (from count : ℕ) → length (words_from image from count) ≡ count
length-words_from image from zero = refl
length-words_from image from (suc count) = ap suc (length-words_from image (from + 1) count)

-- images that agree on the words have the same words
pub words_from-agree : (image other : Image) (from count : ℕ) → ((at : ℕ) → from ≤ at → at < from + count → image at ≡ other at)
    → words_from image from count ≡ words_from other from count
words_from-agree image other from zero same = refl
words_from-agree image other from (suc count) same =
    let first : image from ≡ other from = same from (omega arith) (omega arith) in
    let rest = words_from-agree image other (from + 1) count (λ at low high. same at (omega arith) (omega arith)) in
    cc

-- of a list, they are a range of it
pub words_from-list : (words : List ℕ) (from count : ℕ) → from + count ≤ length words
    → words_from (slice_index words) from count ≡ take count (drop from words)
words_from-list words from zero fits = refl
words_from-list words from (suc count) fits =
    let rest = words_from-list words (from + 1) count (omega arith) in
    rw (drop-cons words from 0 (omega arith), ← add-one from) (ap (λ xs. slice_index words from ∷ xs) rest)

-- word i of them
pub get_or-words_from : (image : Image) (from count i d : ℕ) → i < count → get_or (words_from image from count) i d ≡ image (from + i)
get_or-words_from image from zero i d below = absurd (omega arith)
get_or-words_from image from (suc count) zero d below = ap image (omega arith)
get_or-words_from image from (suc count) (suc i) d below = get_or-words_from image (from + 1) count i d (omega arith) ∙ ap image (omega arith)
