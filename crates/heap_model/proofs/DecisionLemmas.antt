-- What can be decided of a layout: whether a superblock begins blocks, and whether something is a block.
use Rattle.std.proofs.Common.{◌≡◌, ℕ, zero, suc, ◌+◌, ◌-◌, ◌*◌, ◌/◌, ◌<◌, ◌≤◌, ◌⊎◌, inl, inr, refl, ap, sym, subst, ◌∙◌, arith}
use Rattle.std.proofs.lemmas.Bool.{cases_eq, cases_lt}
use Rattle.std.proofs.Math.Logic.{∥∥₁_elim}
use Rattle.heap_model.specs.declared.block.Block.{Block}
use Rattle.heap_model.specs.Geometry.{start_word, superblock_words}
use Rattle.heap_model.specs.Sizes.{IsClass, words_of_class, blocks_of}
use Rattle.heap_model.specs.Blocks.{Layout, Begins, of_class, as_large, IsBlock, AreOneOrApart}
use Rattle.heap_model.proofs.BlockLemmas.{block_begins, block_inside, same_begins}
use Rattle.heap_model.proofs.PartLemmas.{cases_class, same_fields}

-- whether one number is at most the other
pub at_most : (a b : ℕ) → (a ≤ b) ⊎ (a ≤ b → ⊥)
at_most a b = elim (cases_lt b a) as (λ _. (a ≤ b) ⊎ (a ≤ b → ⊥)) [ inl more ↦ inr (λ le. omega arith) | inr le ↦ inl (omega arith) ]

-- two facts that can be decided, as one
pub both : {A B : Type 0} → A ⊎ (A → ⊥) → B ⊎ (B → ⊥) → (A × B) ⊎ (A × B → ⊥)
both (inl a) (inl b) = inl (a, b)
both (inl a) (inr not) = inr (λ p. not p.1)
both (inr not) b = inr (λ p. not p.0)

pub either : {A B : Type 0} → A ⊎ (A → ⊥) → B ⊎ (B → ⊥) → (A ⊎ B) ⊎ (A ⊎ B → ⊥)
either (inl a) b = inl (inl a)
either (inr not) (inl b) = inl (inr b)
either (inr not) (inr neither) = inr (λ p. elim p as (λ _. ⊥) [ inl a ↦ not a | inr b ↦ neither b ])

-- a fact that can be decided follows from what there is some proof of
pub decided : {A B : Type 0} → A ⊎ (A → ⊥) → (B → A) → ∥ B ∥₁ → A
decided (inl is) gives lasts = is
decided (inr not) gives lasts = absurd (∥∥₁_elim lasts (λ a b. absurd a) (λ b. not (gives b)))

-- whether blocks are one or apart
pub one_or_apart : (a b : Block) → AreOneOrApart a b ⊎ (AreOneOrApart a b → ⊥)
one_or_apart a b = either same
    (either (at_most (a.first_word + a.words) b.first_word) (at_most (b.first_word + b.words) a.first_word)) where
      same : (a ≡ b) ⊎ (a ≡ b → ⊥)
      same = elim (both (cases_eq a.first_word b.first_word) (cases_eq a.words b.words)) [
        | inl fields ↦ inl (same_fields a b fields.0 fields.1)
        | inr not ↦ inr (λ e. not (ap (λ (x : Block). x.first_word) e, ap (λ (x : Block). x.words) e))
      ]

-- whether a number is one of so many steps from a start
is_step : (start words x count : ℕ) → ((i : ℕ) × (i < count) × (x ≡ start + i * words)) ⊎ ((i : ℕ) → i < count → x ≡ start + i * words → ⊥)
is_step start words x zero = inr (λ i below is. omega arith)
is_step start words x (suc count) = elim (cases_eq x (start + count * words)) [
  | inl same ↦ inl (count, omega arith, same)
  | inr other ↦ elim (is_step start words x count) [
    | inl found ↦ inl (found.0, omega (arith, found.1), found.2)
    | inr none ↦ inr (λ i below is. elim (cases_lt i count) as (λ _. ⊥) [
      | inl before ↦ none i before is
      | inr not_before ↦ let last : i ≡ count = omega arith in other (is ∙ ap (λ k. start + k * words) last)
    ])
  ]
]

-- whether the numbers of a row are all 0
are_zero : (f : ℕ → ℕ) (d n : ℕ) → ((i : ℕ) → d < i → i < d + n → f i ≡ 0) ⊎ (((i : ℕ) → d < i → i < d + n → f i ≡ 0) → ⊥)
are_zero f d zero = inl (λ i low high. absurd (omega arith))
are_zero f d (suc zero) = inl (λ i low high. absurd (omega arith))
are_zero f d (suc (suc n)) = elim (cases_eq (f (d + suc n)) 0) [
  | inr some ↦ inr (λ zeros. some (zeros (d + suc n) (omega arith) (omega arith)))
  | inl last ↦ elim (are_zero f d (suc n)) [
    | inr not ↦ inr (λ zeros. not (λ i low high. zeros i low (omega arith)))
    | inl zeros ↦ inl (λ i low high. elim (cases_eq i (d + suc n)) as (λ _. f i ≡ 0) [
      | inl same ↦ ap f same ∙ last
      | inr other ↦ zeros i low (omega arith)
    ])
  ]
]

-- whether superblock d begins blocks, and which
pub begins : (l : Layout) (d : ℕ) → ((w : ℕ) × (n : ℕ) × Begins l d w n) ⊎ ((w n : ℕ) → Begins l d w n → ⊥)
begins l d = elim (cases_class (l.info d)) [
  | inl is ↦ inl (words_of_class (l.info d), blocks_of (l.info d), of_class (l.info d) refl is)
  | inr no_class ↦
      let n : ℕ = (l.info d - 255) / 256 in
      elim (both (at_most 1 n) (both (at_most (l.info d) (255 + 256 * n))
      (both (at_most (255 + 256 * n) (l.info d)) (both (at_most (d + n) l.used) (are_zero l.info d n))))) [
        | inl large ↦ inl (superblock_words * n, 1, as_large n large.0 (omega (arith, large.1.0, large.1.1.0)) large.1.1.1.0 large.1.1.1.1)
        | inr not_large ↦ inr (none n refl no_class not_large)
      ]
] where
  none : (n : ℕ) → n ≡ (l.info d - 255) / 256 → (IsClass (l.info d) → ⊥)
      → ((1 ≤ n) × ((l.info d ≤ 255 + 256 * n) × ((255 + 256 * n ≤ l.info d)
      × ((d + n ≤ l.used) × ((i : ℕ) → d < i → i < d + n → l.info i ≡ 0)))) → ⊥) → (w m : ℕ) → Begins l d w m → ⊥
  none n at no_class not_large w m (of_class c e is) = no_class (subst IsClass (sym e) is)
  none n at no_class not_large w m (as_large k some e end zeros) =
      let same : n ≡ k = omega arith in
      not_large (omega arith, (omega arith, (omega arith, (omega arith, λ i low high. zeros i low (omega arith)))))

-- whether b is a block
pub is_block : (l : Layout) (b : Block) → IsBlock l b ⊎ (IsBlock l b → ⊥)
is_block l b = elim (both (at_most (start_word l.capacity 0) b.first_word) (at_most (d + 1) l.used)) [
  | inr out ↦ inr (λ is. out (let at = superblock_is is in let taken = is.is_of.taken in let first = block_inside l b is in (first.0, omega arith)))
  | inl within ↦ elim (begins l d) [
    | inr none ↦ inr (λ is. none is.words is.count (subst (λ e. Begins l e is.words is.count) (superblock_is is) is.is_of.begins))
    | inl found ↦ of_begun found.0 found.1 (omega (arith, within.1)) found.2 (is_step (start_word l.capacity d) found.0 b.first_word found.1)
        (cases_eq b.words found.0)
  ]
] where
  d : ℕ
  d = (b.first_word - start_word l.capacity 0) / 8192

  superblock_is : (is : IsBlock l b) → is.superblock ≡ d
  superblock_is is = let begin = block_begins l b is.superblock is.index is.words is.count is.is_of in omega (arith, begin.0, begin.1)

  step_of : (w n : ℕ) → Begins l d w n → (is : IsBlock l b) → (is.index < n) × (b.first_word ≡ start_word l.capacity d + is.index * w) × (b.words ≡ w)
  step_of w n begun is =
      let same = same_begins l d is.words is.count w n (subst (λ e. Begins l e is.words is.count) (superblock_is is) is.is_of.begins) begun in (
        subst (λ m. is.index < m) same.1 is.is_of.below,
        is.is_of.at ∙ ap (λ e. start_word l.capacity e + is.index * is.words) (superblock_is is)
            ∙ ap (λ x. start_word l.capacity d + is.index * x) same.0,
        is.is_of.size ∙ same.0,
      )

  of_begun : (w n : ℕ) → d < l.used → Begins l d w n → ((i : ℕ) × (i < n) × (b.first_word ≡ start_word l.capacity d + i * w)) ⊎ ((i : ℕ) → i < n
      → b.first_word ≡ start_word l.capacity d + i * w → ⊥)
      → (b.words ≡ w) ⊎ (b.words ≡ w → ⊥) → IsBlock l b ⊎ (IsBlock l b → ⊥)
  of_begun w n taken begun (inl step) (inl size) = inl (record {
    superblock = d;
    index = step.0;
    words = w;
    count = n;
    is_of = record { taken = taken; begins = begun; below = step.1; at = step.2; size = size };
  })
  of_begun w n taken begun (inl step) (inr other) = inr (λ is. other (step_of w n begun is).2)
  of_begun w n taken begun (inr none) size = inr (λ is. let at = step_of w n begun is in none is.index at.0 at.1)
