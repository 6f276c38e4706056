-- Facts on blocks: how a superblock begins them, where they lie, and that two of them are one or apart.
use Rattle.std.proofs.Common.{◌≡◌, ℕ, zero, ◌+◌, ◌*◌, ◌<◌, ◌≤◌, inl, inr, refl, ap, subst, sym, ◌∙◌, arith}
use Rattle.std.proofs.Math.Nat.{mul-le-mul_right, zero-mul, suc-mul}
use Rattle.std.proofs.lemmas.Bool.{cases_order, cases_lt}
use Rattle.heap_model.specs.declared.block.Block.{Block}
use Rattle.heap_model.specs.Geometry.{start_word, superblock_words}
use Rattle.heap_model.specs.Sizes.{words_of_class, blocks_of}
use Rattle.heap_model.specs.Blocks.{Layout, Begins, of_class, as_large, IsBlockOf, IsBlock, AreOneOrApart}
use Rattle.heap_model.proofs.SizeLemmas.{blocks_fit, two_words}

-- a superblock begins its blocks in one way only
pub same_begins : (l : Layout) (d w n v m : ℕ) → Begins l d w n → Begins l d v m → (w ≡ v) × (n ≡ m)
same_begins l d w n v m (of_class c e is) (of_class k f js) = let same : c ≡ k = sym e ∙ f in (ap words_of_class same, ap blocks_of same)
same_begins l d w n v m (of_class c e is) (as_large k some f end zeros) = absurd (omega arith)
same_begins l d w n v m (as_large k some f end zeros) (of_class c e is) = absurd (omega arith)
same_begins l d w n v m (as_large k some f end zeros) (as_large h some' f' end' zeros') =
    let same : k ≡ h = omega arith in (ap (λ x. superblock_words * x) same, refl)

-- each block has words
pub some_words : (l : Layout) (d w n : ℕ) → Begins l d w n → 2 ≤ w
some_words l d w n (of_class c e is) = two_words c is
some_words l d w n (as_large k some f end zeros) = omega arith

-- a superblock that begins blocks has an info that is not 0
pub some_info : (l : Layout) (d w n : ℕ) → Begins l d w n → 1 ≤ l.info d
some_info l d w n (of_class c e is) = omega arith
some_info l d w n (as_large k some f end zeros) = omega arith

-- block k of n ends where n blocks end, or before
pub block_step : (k n w : ℕ) → k < n → k * w + w ≤ n * w
block_step k n w below = rw (← suc-mul k w) (mul-le-mul_right w below)

-- a block begins in its superblock
pub begins_inside : (l : Layout) (d k w n : ℕ) → Begins l d w n → k < n → k * w < 8192
begins_inside l d k w n (of_class c e is) below = omega (arith, block_step k n w below, blocks_fit c is, two_words c is)
begins_inside l d k w n (as_large h some f end zeros) below =
    let first : k ≡ zero = omega arith in
    subst (λ x. x * w < 8192) (sym first) (rw (zero-mul w) (omega arith))

-- a block ends where the next superblock that begins blocks starts, or before
pub ends_before : (l : Layout) (d k w n e v m : ℕ) → Begins l d w n → k < n → d < e → Begins l e v m → 8192 * d + (k * w + w) ≤ 8192 * e
ends_before l d k w n e v m (of_class c i is) below less next = omega (arith, block_step k n w below, blocks_fit c is)
ends_before l d k w n e v m (as_large h some f end zeros) below less next =
    let first : k ≡ zero = omega arith in
    let none : k * w ≡ 0 = subst (λ x. x * w ≡ 0) (sym first) (zero-mul w) in
    let info = some_info l e v m next in
    elim (cases_lt e (d + h)) as (λ _. 8192 * d + (k * w + w) ≤ 8192 * e) [
      | inl inside ↦ absurd (let z = zeros e less inside in
          omega arith)
      | inr past ↦ omega arith
    ]

-- a block ends where the taken superblocks end, or before
pub ends_inside : (l : Layout) (d k w n : ℕ) → d < l.used → Begins l d w n → k < n → 8192 * d + (k * w + w) ≤ 8192 * l.used
ends_inside l d k w n taken (of_class c i is) below = omega (arith, block_step k n w below, blocks_fit c is)
ends_inside l d k w n taken (as_large h some f end zeros) below =
    let first : k ≡ zero = omega arith in
    let none : k * w ≡ 0 = subst (λ x. x * w ≡ 0) (sym first) (zero-mul w) in
    omega arith

-- of two blocks of one superblock, the one with the lower index ends first
apart_in_one : (l : Layout) (a b : Block) (d j k w n v m : ℕ) → IsBlockOf l a d j w n → IsBlockOf l b d k v m → j < k
    → a.first_word + a.words ≤ b.first_word
apart_in_one l a b d j k w n v m of_a of_b less =
    let same = same_begins l d w n v m of_a.begins of_b.begins in
    let steps : j * w + w ≤ k * w = block_step j k w less in
    let moved : k * w ≡ k * v = ap (λ x. k * x) same.0 in
    omega arith

-- of two blocks of different superblocks, that of the lower one ends first
apart_in_two : (l : Layout) (a b : Block) (d j w n e k v m : ℕ) → IsBlockOf l a d j w n → IsBlockOf l b e k v m → d < e
    → a.first_word + a.words ≤ b.first_word
apart_in_two l a b d j w n e k v m of_a of_b less =
    let ends = ends_before l d j w n e v m of_a.begins of_a.below less of_b.begins in omega arith

-- blocks of one superblock and one index are one
same_block : (l : Layout) (a b : Block) (d k w n v m : ℕ) → IsBlockOf l a d k w n → IsBlockOf l b d k v m → a ≡ b
same_block l a b d k w n v m of_a of_b =
    let same = same_begins l d w n v m of_a.begins of_b.begins in
    let first : a.first_word ≡ b.first_word = of_a.at ∙ ap (λ x. start_word l.capacity d + k * x) same.0 ∙ sym of_b.at in
    let words : a.words ≡ b.words = of_a.size ∙ same.0 ∙ sym of_b.size in
    λ i. record { first_word = first i; words = words i }

-- two blocks are one, or share no word
pub never_overlap : (l : Layout) (a b : Block) → IsBlock l a → IsBlock l b → AreOneOrApart a b
never_overlap l a b in_a in_b =
    elim (cases_order in_a.superblock in_b.superblock) as (λ _. AreOneOrApart a b) [
      | inl same ↦ let of_b : IsBlockOf l b in_a.superblock in_b.index in_b.words in_b.count =
          subst (λ d. IsBlockOf l b d in_b.index in_b.words in_b.count) (sym same) in_b.is_of in
          elim (cases_order in_a.index in_b.index) as (λ _. AreOneOrApart a b) [
            | inl one ↦ inl (same_block l a b in_a.superblock in_a.index in_a.words in_a.count in_b.words in_b.count in_a.is_of
                (subst (λ k. IsBlockOf l b in_a.superblock k in_b.words in_b.count) (sym one) of_b))
            | inr two ↦ elim two as (λ _. AreOneOrApart a b) [
              | inl less ↦ inr (inl (apart_in_one l a b in_a.superblock in_a.index in_b.index in_a.words in_a.count in_b.words in_b.count
                  in_a.is_of of_b less))
              | inr more ↦ inr (inr (apart_in_one l b a in_a.superblock in_b.index in_a.index in_b.words in_b.count in_a.words in_a.count of_b
                  in_a.is_of more))
            ]
          ]
      | inr two ↦ elim two as (λ _. AreOneOrApart a b) [
        | inl less ↦ inr (inl (apart_in_two l a b in_a.superblock in_a.index in_a.words in_a.count in_b.superblock in_b.index in_b.words
            in_b.count in_a.is_of in_b.is_of less))
        | inr more ↦ inr (inr (apart_in_two l b a in_b.superblock in_b.index in_b.words in_b.count in_a.superblock in_a.index in_a.words
            in_a.count in_b.is_of in_a.is_of more))
      ]
    ]

-- a block has at least two words
pub block_words : (l : Layout) (b : Block) → IsBlock l b → 2 ≤ b.words
block_words l b is = let some = some_words l is.superblock is.words is.count is.is_of.begins in omega arith

-- blocks with one first word are one
pub same_first : (l : Layout) (a b : Block) → IsBlock l a → IsBlock l b → a.first_word ≡ b.first_word → a ≡ b
same_first l a b in_a in_b first =
    let some_a = block_words l a in_a in
    let some_b = block_words l b in_b in
    elim (never_overlap l a b in_a in_b) as (λ _. a ≡ b) [
      | inl same ↦ same
      | inr apart ↦ absurd
          (elim apart as (λ _. ⊥) [ inl before ↦ omega arith | inr behind ↦ omega arith ])
    ]

-- a block lies behind the descriptors, and ends where the taken superblocks end, or before
pub block_inside : (l : Layout) (b : Block) → IsBlock l b → (start_word l.capacity 0 ≤ b.first_word)
    × (b.first_word + b.words ≤ start_word l.capacity l.used)
block_inside l b is =
    let ends = ends_inside l is.superblock is.index is.words is.count is.is_of.taken is.is_of.begins is.is_of.below in
    (omega arith, omega arith)

-- a block begins in its superblock
pub block_begins : (l : Layout) (b : Block) (d k w n : ℕ) → IsBlockOf l b d k w n → (start_word l.capacity d ≤ b.first_word)
    × (b.first_word < start_word l.capacity (d + 1))
block_begins l b d k w n of = let inside = begins_inside l d k w n of.begins of.below in (omega arith, omega arith)

-- two descriptions of one block have one superblock
pub same_superblock : (l : Layout) (b : Block) (d k w n e j v m : ℕ) → IsBlockOf l b d k w n → IsBlockOf l b e j v m → d ≡ e
same_superblock l b d k w n e j v m of_d of_e =
    let in_d = block_begins l b d k w n of_d in
    let in_e = block_begins l b e j v m of_e in
    omega arith
