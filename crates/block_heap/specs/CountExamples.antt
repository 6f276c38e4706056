-- Worked examples by computation: which words a cut and a freed large block change, which pops count, and what a refusal leaves.
use Rattle.std.specs.Prelude.{◌≡◌, ◌≢◌, ℕ, ◌+◌, ◌*◌, ◌<◌, List, [], ◌∷◌, ◌++◌, reverse, slice_index, refl}
use Rattle.std.proofs.Common.{inl, inr, arith, ap}
use Rattle.heap_model.specs.declared.block.Block.{Block}
use Rattle.heap_model.specs.Geometry.{start_word, head_word}
use Rattle.heap_model.specs.Image.{words_from}
use Rattle.heap_model.specs.Sizes.{blocks_of, words_of_class, class_sizes}
use Rattle.heap_model.specs.Words.{head_of}
use Rattle.block_heap.specs.Divide.{IsLinkedWord}
use Rattle.block_heap.specs.Lists.{head_at, CountsPops}
use Rattle.block_heap.specs.Parts.{Parts, OnlyLooks, image_of}
use Rattle.block_heap.specs.Returns.{IsFreedWord}

-- superblock 0 of a heap of two is cut for class 20: three of its four blocks lead to the next by their first words
three_linked : IsLinkedWord 2 20 0 4 1080 × IsLinkedWord 2 20 0 4 2872 × IsLinkedWord 2 20 0 4 4664
unfolding blocks_of words_of_class class_sizes
three_linked = ((0, omega arith, omega arith), (1, omega arith, omega arith), (2, omega arith, omega arith))

-- the first word of the last block stays, and so does each second word
not_linked : (word : ℕ) → IsLinkedWord 2 20 0 4 word → (word ≢ 6456) × (word ≢ 1081)
unfolding blocks_of words_of_class class_sizes
not_linked word linked =
    let few : linked.0 + 1 < 4 = linked.1 in
    let at : word ≡ start_word 2 0 + linked.0 * 1792 = linked.2 in
    (λ e. omega arith, λ e. omega arith)

-- a large block of superblocks 1 and 2 of a heap of three
abbrev two_superblocks : Block
two_superblocks = record { first_word = 9280; words = 16384 }

-- its free changes the head of the free list, the anchors 1073 and 1081 and the links 1074 and 1082
freed_words : IsFreedWord 3 two_superblocks (head_word 0) × IsFreedWord 3 two_superblocks 1073 × IsFreedWord 3 two_superblocks 1082
freed_words = (
  inl refl,
  inr (1, record { begins = omega arith; ends = omega arith }, inl refl),
  inr (2, record { begins = omega arith; ends = omega arith }, inr refl),
)

-- but not an info, a word of the block or the anchor of superblock 0
stays : (word : ℕ) → IsFreedWord 3 two_superblocks word → (word ≢ 1072) × (word ≢ 9280) × (word ≢ 1065)
stays word (inl head) = (λ e. omega arith, λ e. omega arith, λ e. omega arith)
stays word (inr of) =
    let begins : 9280 < start_word 3 (of.0 + 1) = of.1.begins in
    let ends : start_word 3 of.0 < 25664 = of.1.ends in
    elim of.2 as (λ _. (word ≢ 1072) × (word ≢ 9280) × (word ≢ 1065)) [
      | inl anchor ↦ (λ e. omega arith, λ e. omega arith, λ e. omega arith)
      | inr link ↦ (λ e. omega arith, λ e. omega arith, λ e. omega arith)
    ]

-- they go in front of superblock 7, the last of them in front of all
freed_in_order : reverse (words_from (λ d. d) 1 2) ++ 7 ∷ [] ≡ 2 ∷ 1 ∷ 7 ∷ []
freed_in_order = refl

-- Superblocks 3 and 5 leave the list of class 20 for the free list, and the first there then is cut: three pops count.
module _ (p q : Parts) (class_was : head_at p 20 ≡ head_of 4 7) (free_was : head_at p 0 ≡ head_of 8 2) where
  three_pops : head_at q 20 ≡ head_of 0 9 → head_at q 0 ≡ head_of 4 3 → CountsPops 20 2 1 p q
  three_pops class_now free_now = record { class_head = omega arith; free_head = omega arith }

  -- and no push
  no_push : head_at q 0 ≡ head_of 4 5 → CountsPops 20 2 1 p q → ⊥
  no_push free_now counts = let free = counts.free_head in omega arith

-- a request of a class that is refused changes no word, and makes no fourth step
module _ (p q : Parts) (looks : OnlyLooks 3 p q) where
  no_store : (word : ℕ) → image_of q word ≢ image_of p word → ⊥
  no_store word changed = changed (ap (λ (xs : List ℕ). slice_index xs word) looks.volatile)

  no_fourth : q.words.drawn ≡ p.words.drawn + 4 → ⊥
  no_fourth more = let three = looks.drawn in omega arith
