-- Which blocks of a list have a part in a superblock, and what a block with a part in one is there.
use Rattle.std.proofs.Common.{◌≡◌, ℕ, zero, ◌+◌, ◌*◌, ◌<◌, ◌≤◌, ◌⊎◌, inl, inr, List, [], ◌∷◌, Contains, ap, sym, subst, ◌∙◌, arith}
use Rattle.std.proofs.Math.Nat.{zero-mul}
use Rattle.std.proofs.lemmas.Bool.{cases_lt}
use Rattle.heap_model.specs.declared.block.Block.{Block}
use Rattle.heap_model.specs.Geometry.{start_word, superblock_words}
use Rattle.heap_model.specs.Sizes.{IsClass, last_class, words_of_class, blocks_of}
use Rattle.heap_model.specs.Blocks.{Layout, Begins, of_class, as_large, IsBlock}
use Rattle.heap_model.specs.Recovered.{HasPartIn, IsBlockOfClass}
use Rattle.heap_model.proofs.SizeLemmas.{blocks_fit}
use Rattle.heap_model.proofs.BlockLemmas.{block_step}
use Rattle.heap_model.proofs.MemberLemmas.{in_none, in_head, in_rest, head_or_rest}

-- blocks of equal fields are one
pub same_fields : (a b : Block) → a.first_word ≡ b.first_word → a.words ≡ b.words → a ≡ b
same_fields a b first words = λ i. record { first_word = first i; words = words i }

-- a block has a part in a superblock or not
pub cases_part : (capacity : ℕ) (b : Block) (d : ℕ) → HasPartIn capacity b d ⊎ (HasPartIn capacity b d → ⊥)
cases_part capacity b d = elim (cases_lt b.first_word (start_word capacity (d + 1))) [
  | inl begins ↦ elim (cases_lt (start_word capacity d) (b.first_word + b.words)) [
    | inl ends ↦ inl (record { begins = begins; ends = ends })
    | inr before ↦ inr (λ part. let ends = part.ends in omega arith)
  ]
  | inr behind ↦ inr (λ part. let begins = part.begins in omega arith)
]

-- some block of a list has a part in the superblock, or none has
pub cases_parts : (capacity : ℕ) (held : List Block) (d : ℕ)
    → ((b : Block) × Contains held b × HasPartIn capacity b d) ⊎ ((b : Block) → Contains held b → HasPartIn capacity b d → ⊥)
cases_parts capacity [] d = inr (λ b p part. in_none b p)
cases_parts capacity (h ∷ held) d = elim (cases_part capacity h d) [
  | inl here ↦ inl (h, in_head h held, here)
  | inr not_here ↦ elim (cases_parts capacity held d) [
    | inl later ↦ inl (later.0, in_rest h later.0 held later.1, later.2)
    | inr none ↦ inr (λ b p part. elim (head_or_rest h b held p) as (λ _. ⊥) [
      | inl same ↦ not_here (subst (λ x. HasPartIn capacity x d) (sym same) part)
      | inr later ↦ none b later part
    ])
  ]
]

-- a number is a class or not
pub cases_class : (n : ℕ) → IsClass n ⊎ (IsClass n → ⊥)
cases_class n = elim (cases_lt 0 n) [
  | inl some ↦ elim (cases_lt last_class n) [
    | inl more ↦ inr (λ is. let last = is.last in omega arith)
    | inr last ↦ inl (record { some = omega arith; last = last })
  ]
  | inr none ↦ inr (λ is. let some = is.some in omega arith)
]

-- what a block with a part in a superblock is there: one of its blocks of a class, or a large block that takes all of it
pub record IsOneOfClass (l : Layout) (b : Block) (d : ℕ) : Type 0 where
  pub class : ℕ
  pub index : ℕ
  pub is_class : IsClass class
  pub info_is : l.info d ≡ class
  pub is_of : IsBlockOfClass l.capacity class d index b

pub record TakesAll (l : Layout) (b : Block) (d : ℕ) : Type 0 where
  pub no_class : IsClass (l.info d) → ⊥
  pub long : superblock_words ≤ b.words
  pub from : b.first_word ≤ start_word l.capacity d
  pub until : start_word l.capacity (d + 1) ≤ b.first_word + b.words

-- a block of the class ends in its superblock
class_ends : (capacity class d index : ℕ) (b : Block) → IsClass class → IsBlockOfClass capacity class d index b
    → b.first_word + b.words ≤ start_word capacity (d + 1)
class_ends capacity class d index b is of =
    let step = block_step index (blocks_of class) (words_of_class class) of.below in
    let fit = blocks_fit class is in
    omega arith

-- where a large block lies
large_takes : (l : Layout) (b : Block) (d e n index : ℕ) → 1 ≤ n → l.info e ≡ 255 + 256 * n → ((i : ℕ) → e < i → i < e + n → l.info i ≡ 0)
    → b.first_word ≡ start_word l.capacity e + index * (superblock_words * n) → index < 1 → b.words ≡ superblock_words * n
    → HasPartIn l.capacity b d → TakesAll l b d
large_takes l b d e n index some info zeros at below size part =
    let first : index ≡ zero = omega arith in
    let none : index * (superblock_words * n) ≡ 0 = subst (λ x. x * (superblock_words * n) ≡ 0) (sym first) (zero-mul (superblock_words * n)) in
    let begins = part.begins in
    let ends = part.ends in
    let low : e ≤ d = omega arith in
    let high : d < e + n = omega arith in
    record {
      no_class = λ is. elim (cases_lt e d) as (λ _. ⊥) [
        | inl inner ↦ let z = zeros d inner high in let least = is.some in omega arith
        | inr not_inner ↦
            let same : d ≡ e = omega arith in
            let here : l.info d ≡ 255 + 256 * n = ap l.info same ∙ info in
            let last = is.last in omega arith
      ];
      long = omega arith;
      from = omega arith;
      until = omega arith;
    }

pub cases_of_part : (l : Layout) (b : Block) (d : ℕ) → IsBlock l b → HasPartIn l.capacity b d → IsOneOfClass l b d ⊎ TakesAll l b d
cases_of_part l b d is part = by_begins is.superblock is.index is.words is.count is.is_of.begins is.is_of.below is.is_of.at is.is_of.size where
  by_begins : (e index w n : ℕ) → Begins l e w n → index < n → b.first_word ≡ start_word l.capacity e + index * w → b.words ≡ w
      → IsOneOfClass l b d ⊎ TakesAll l b d
  by_begins e index w n (of_class c info is_class) below at size =
      let of : IsBlockOfClass l.capacity c e index b = record { below = below; at = at; size = size } in
      let ends = class_ends l.capacity c e index b is_class of in
      let begins = part.begins in
      let part_ends = part.ends in
      let same : e ≡ d = omega arith in
      inl (record {
        class = c;
        index = index;
        is_class = is_class;
        info_is = subst (λ x. l.info x ≡ c) same info;
        is_of = subst (λ x. IsBlockOfClass l.capacity c x index b) same of;
      })
  by_begins e index w n (as_large k some info end zeros) below at size = inr (large_takes l b d e k index some info zeros at below size part)
