-- Which block of a class has an index or a first word, whether a block is held, and which superblocks a block has a part in.
use Rattle.std.proofs.Common.{◌≡◌, ℕ, ◌+◌, ◌*◌, ◌<◌, ◌≤◌, ◌⊎◌, inl, inr, List, [], ◌∷◌, Contains, ap, sym, subst, ◌∙◌, arith}
use Rattle.std.proofs.lemmas.Bool.{cases_eq}
use Rattle.heap_model.specs.declared.block.Block.{Block}
use Rattle.heap_model.specs.Geometry.{start_word, superblock_words}
use Rattle.heap_model.specs.Sizes.{IsClass, words_of_class, blocks_of}
use Rattle.heap_model.specs.Blocks.{Layout, IsBlock}
use Rattle.heap_model.specs.Recovered.{HasPartIn, IsBlockOfClass}
use Rattle.heap_model.proofs.SizeLemmas.{blocks_fit, two_words, few_words}
use Rattle.heap_model.proofs.BlockLemmas.{block_inside, block_step}
use Rattle.heap_model.proofs.MemberLemmas.{in_none, in_head, in_rest, head_or_rest}
use Rattle.heap_model.proofs.PartLemmas.{TakesAll, same_fields, cases_of_part}

-- a list has a block or not
pub cases_held : (held : List Block) (b : Block) → Contains held b ⊎ (Contains held b → ⊥)
cases_held [] b = inr (in_none b)
cases_held (h ∷ held) b = elim (cases_held held b) [
  | inl later ↦ inl (in_rest h b held later)
  | inr none ↦ elim (cases_eq h.first_word b.first_word) [
    | inl first ↦ elim (cases_eq h.words b.words) [
      | inl words ↦ inl (subst (λ x. Contains (h ∷ held) x) (same_fields h b first words) (in_head h held))
      | inr other ↦ inr (not_head none (λ same. other (ap (λ (x : Block). x.words) same)))
    ]
    | inr other ↦ inr (not_head none (λ same. other (ap (λ (x : Block). x.first_word) same)))
  ]
] where
  not_head : (Contains held b → ⊥) → (h ≡ b → ⊥) → Contains (h ∷ held) b → ⊥
  not_head none other p = elim (head_or_rest h b held p) as (λ _. ⊥) [ inl same ↦ other same | inr later ↦ none later ]

-- blocks of a class with one index, or with one first word, are one
pub same_index : (capacity class d i j : ℕ) (a b : Block) → i ≡ j
    → IsBlockOfClass capacity class d i a → IsBlockOfClass capacity class d j b → a ≡ b
same_index capacity class d i j a b same is_a is_b =
    let moved : i * words_of_class class ≡ j * words_of_class class = ap (λ k. k * words_of_class class) same in
    same_fields a b (is_a.at ∙ ap (λ x. start_word capacity d + x) moved ∙ sym is_b.at) (is_a.size ∙ sym is_b.size)

pub same_start : (capacity class d i j : ℕ) (a b : Block) → a.first_word ≡ b.first_word
    → IsBlockOfClass capacity class d i a → IsBlockOfClass capacity class d j b → a ≡ b
same_start capacity class d i j a b same is_a is_b = same_fields a b same (is_a.size ∙ sym is_b.size)

-- a block has no part in a superblock that has not been taken
pub part_taken : (l : Layout) (b : Block) (d : ℕ) → IsBlock l b → HasPartIn l.capacity b d → d < l.used
part_taken l b d is part = let inside = block_inside l b is in let ends = part.ends in omega arith

-- where a block of a class lies in its superblock
pub class_inside : (capacity class d index : ℕ) (b : Block) → IsClass class → IsBlockOfClass capacity class d index b
    → (start_word capacity d ≤ b.first_word) × (b.first_word + b.words ≤ start_word capacity (d + 1)) × (b.first_word + 2 ≤ b.first_word + b.words)
class_inside capacity class d index b is of =
    let step = block_step index (blocks_of class) (words_of_class class) of.below in
    let fit = blocks_fit class is in
    let two = two_words class is in
    let at = of.at in
    let size = of.size in
    (omega arith, omega arith, omega arith)

-- so it has a part there
pub class_part : (capacity class d index : ℕ) (b : Block) → IsClass class → IsBlockOfClass capacity class d index b → HasPartIn capacity b d
class_part capacity class d index b is of =
    let inside = class_inside capacity class d index b is of in
    record { begins = omega (arith, inside.0, inside.1, inside.2); ends = omega (arith, inside.0, inside.2) }

-- and in no other superblock
pub one_superblock : (capacity class d e index : ℕ) (b : Block) → IsClass class → IsBlockOfClass capacity class e index b
    → HasPartIn capacity b d → e ≡ d
one_superblock capacity class d e index b is of part =
    let inside = class_inside capacity class e index b is of in
    let begins = part.begins in
    let ends = part.ends in
    let low = inside.0 in
    let high = inside.1 in
    omega arith

-- a block of a superblock or more takes each superblock in which it has a part
pub long_takes : (l : Layout) (b : Block) (d : ℕ) → IsBlock l b → HasPartIn l.capacity b d → superblock_words ≤ b.words → TakesAll l b d
long_takes l b d is part long = elim (cases_of_part l b d is part) as (λ _. TakesAll l b d) [
  | inr all ↦ all
  | inl one ↦ absurd (let few = few_words one.class one.is_class in let size = one.is_of.size in omega arith)
]
