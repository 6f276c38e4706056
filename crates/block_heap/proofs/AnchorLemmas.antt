-- Words of blocks by their index, and the full anchor.
use Rattle.std.proofs.Common.{◌≡◌, ℕ, ◌*◌, ◌/◌, ◌<◌, ◌≤◌, ap, arith}
use Rattle.std.proofs.Math.Nat.{mul-le-mul_left}
use Rattle.heap_model.specs.Sizes.{IsClass, size_of, words_of_class}
use Rattle.heap_model.specs.Words.{full_anchor}
use Rattle.heap_model.proofs.SizeLemmas.{few_words, size_of-words}
use Rattle.anchor_word.specs.declared.anchor.Anchor.{Anchor}
use Rattle.anchor_word.specs.declared.anchor.State.TheVariants.{Full}
use Rattle.anchor_word.specs.Anchor.{word_of, state_number}

-- the words of a block, by its bytes
pub words_by_bytes : (class bytes : ℕ) → IsClass class → bytes ≡ size_of class → bytes / 8 ≡ words_of_class class
words_by_bytes class bytes is e = let s = size_of-words class is in omega arith

-- an index of an anchor times the words of a block is short
pub short_product : (class index : ℕ) → IsClass class → index < 2147483648 → index * words_of_class class ≤ 2147483647 * 1792
short_product class index is below =
    let few = mul-le-mul_left index (few_words class is) in
    omega arith

-- the word of an anchor with no free block
pub full_word_of : (anchor : Anchor) → anchor.state ≡ Full → anchor.first ≡ 0 → anchor.count ≡ 0 → word_of anchor ≡ full_anchor
full_word_of anchor s f n =
    let state : state_number anchor.state ≡ 2 = ap state_number s in
    omega arith
