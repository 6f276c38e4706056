-- No superblock is lost: those of a heap at rest have a use, and keep one over each row of steps.
use Rattle.std.proofs.Common.{◌≡◌, ◌≢◌, ℕ, ◌+◌, ◌*◌, ◌<◌, ◌⊎◌, inl, inr, List, [], ◌∷◌, Contains, refl, sym, subst, ◌∙◌, arith}
use Rattle.std.proofs.lemmas.Bool.{cases_lt}
use Rattle.heap_model.specs.declared.block.Block.{Block}
use Rattle.heap_model.specs.Geometry.{head_word, info_word, link_word, used_word, start_word, superblock_words}
use Rattle.heap_model.specs.Image.{Image}
use Rattle.heap_model.specs.Sizes.{IsClass}
use Rattle.heap_model.specs.Words.{head_first, large_info}
use Rattle.heap_model.specs.Recovered.{HasPartIn}
use Rattle.heap_model.proofs.MemberLemmas.{in_none, in_head, head_or_rest}
use Rattle.heap_at_rest.proofs.PartLemmas.{cases_held}
use Rattle.heap_shape.specs.Shape.{Place, in_list, is_full, in_large, is_new, Shape}
use Rattle.heap_shape.specs.Standing.{IsAs}
use Rattle.heap_shape.specs.Whole.{IsShape}
use Rattle.heap_shape.specs.Effects.{IsSet}
use Rattle.heap_shape.specs.Moves.{AddsTo, TakesFrom}
use Rattle.heap_shape.specs.Draining.{HasUse, for_class, for_held, for_later, IsAccounted}
use Rattle.heap_at_rest.specs.Draining.{IsInFreeList}
use Rattle.heap_shape.proofs.BasicLemmas.{member_place}
use Rattle.heap_at_rest.proofs.DrainableLemmas.{free_follows}
use Rattle.heap_at_rest.proofs.ListLemmas.{one_following}

-- in a heap of a shape that is its first list
pub in_listed : (capacity e : ℕ) (image : Image) (held : List Block) (s : Shape) → IsShape capacity image held s → IsInFreeList capacity image e
    → Contains (s.listed 0) e
in_listed capacity e image held s shape in_free = subst (λ xs. Contains xs e)
    (one_following (λ k. image (link_word k)) capacity (head_first (image (head_word 0))) in_free.free (s.listed 0) in_free.leads
    (shape.follows 0 (omega arith)))
    in_free.has

-- a superblock keeps its use where its info stays and the free list loses none
pub use_kept : (capacity e : ℕ) (image new : Image) (held : List Block) (s t : Shape) (now : List Block) → IsShape capacity image held s
    → IsShape capacity new now t
    → new (info_word e) ≡ image (info_word e) → (Contains (s.listed 0) e → Contains (t.listed 0) e)
    → HasUse capacity image held e → HasUse capacity new held e
use_kept capacity e image new held s t now shape after info listed (for_class is) = for_class (subst IsClass (sym info) is)
use_kept capacity e image new held s t now shape after info listed (for_held b holds part) = for_held b holds part
use_kept capacity e image new held s t now shape after info listed (for_later in_free) =
    for_later (free_follows capacity e new (t.listed 0) (after.follows 0 (omega arith)) (listed (in_listed capacity e image held s shape in_free)))

-- so do all where `used` stays too
pub accounted_kept : (capacity : ℕ) (image new : Image) (held : List Block) (s t : Shape) (now : List Block) → IsShape capacity image held s
    → IsShape capacity new now t
    → new used_word ≡ image used_word → ((e : ℕ) → e < capacity → new (info_word e) ≡ image (info_word e))
    → ((e : ℕ) → Contains (s.listed 0) e → Contains (t.listed 0) e)
    → IsAccounted capacity image held → IsAccounted capacity new held
accounted_kept capacity image new held s t now shape after used infos listed before = record {
  each = λ e taken.
      let most = shape.used in
      let below : e < image used_word = omega arith in
      use_kept capacity e image new held s t now shape after (infos e (omega arith)) (listed e) (before.each e below);
}

-- a block is that one or not
cases_same : (a b : Block) → (a ≡ b) ⊎ (a ≢ b)
cases_same a b = elim (cases_held (b ∷ []) a) as (λ _. (a ≡ b) ⊎ (a ≢ b)) [
  | inl there ↦ elim (head_or_rest b a [] there) as (λ _. (a ≡ b) ⊎ (a ≢ b)) [ inl same ↦ inl (sym same) | inr none ↦ absurd (in_none a none) ]
  | inr other ↦ inr (λ same. other (subst (λ x. Contains (b ∷ []) x) (sym same) (in_head b [])))
]

-- where a block is held no more each superblock keeps its use, but those that it had a part in
pub use_without : (capacity e : ℕ) (image : Image) (held now : List Block) (b : Block) → TakesFrom b held now → HasUse capacity image held e
    → HasUse capacity image now e ⊎ HasPartIn capacity b e
use_without capacity e image held now b takes (for_class is) = inl (for_class is)
use_without capacity e image held now b takes (for_later in_free) = inl (for_later in_free)
use_without capacity e image held now b takes (for_held a holds part) =
    elim (cases_same a b) as (λ _. HasUse capacity image now e ⊎ HasPartIn capacity b e) [
      | inl same ↦ inr (subst (λ (x : Block). HasPartIn capacity x e) same part)
      | inr other ↦ inl (for_held a (takes.keeps a holds other) part)
    ]

-- none is lost where that block was one of a class
pub accounted_without : (capacity : ℕ) (image : Image) (held now : List Block) (b : Block) → TakesFrom b held now
    → ((e : ℕ) → HasPartIn capacity b e → IsClass (image (info_word e))) → IsAccounted capacity image held → IsAccounted capacity image now
accounted_without capacity image held now b takes class before = record {
  each = λ e taken. elim (use_without capacity e image held now b takes (before.each e taken)) as (λ _. HasUse capacity image now e) [
    | inl kept ↦ kept
    | inr part ↦ for_class (class e part)
  ];
}

-- superblocks that were never taken became a large block
pub accounted_joined : (capacity n d : ℕ) (image middle new : Image) (held now : List Block) (s t : Shape) → IsShape capacity image held s
    → IsShape capacity new now t → t.listed 0 ≡ s.listed 0 → image used_word ≡ d
    → IsSet image middle used_word (d + n) → IsSet middle new (info_word d) (large_info n)
    → AddsTo (record { first_word = start_word capacity d; words = superblock_words * n }) held now → IsAccounted capacity image held
    → IsAccounted capacity new now
accounted_joined capacity n d image middle new held now s t shape after listed past set info adds before = record { each = each } where
  used : new used_word ≡ d + n
  used = info.others used_word (λ e. omega arith) ∙ set.at

  more_held : (e : ℕ) → HasUse capacity new held e → HasUse capacity new now e
  more_held e (for_class is) = for_class is
  more_held e (for_held b holds part) = for_held b (adds.keeps b holds) part
  more_held e (for_later in_free) = for_later in_free

  each : (e : ℕ) → e < new used_word → HasUse capacity new now e
  each e taken = elim (cases_lt e d) as (λ _. HasUse capacity new now e) [
    | inl old ↦ more_held e (use_kept capacity e image new held s t now shape after
        (info.others (info_word e) (λ q. omega arith) ∙ set.others (info_word e) (λ q. omega arith))
        (subst (λ xs. Contains xs e) (sym listed)) (before.each e (omega arith)))
    | inr fresh ↦ let below : e < d + n = omega (arith, used) in
        for_held (record { first_word = start_word capacity d; words = superblock_words * n }) adds.has
        (record { begins = omega arith; ends = omega arith })
  ]

-- a taken superblock that is in no list and full for no class has a part of a held block
pub lies_in_held : (capacity d : ℕ) (image : Image) (held : List Block) (s : Shape) → IsShape capacity image held s → IsAccounted capacity image held
    → d < image used_word → ((list : ℕ) → s.place d ≡ in_list list → ⊥) → (s.place d ≡ is_full → ⊥) → (b : Block) × Contains held b
    × HasPartIn capacity b d
lies_in_held capacity d image held s shape accounted taken unlisted not_full = by_use (accounted.each d taken) where
  within : d < capacity
  within = let most = shape.used in omega arith

  no_class : (p : Place) → s.place d ≡ p → IsAs capacity image s held d p → IsClass (image (info_word d)) → ⊥
  no_class (in_list list) at is is_class = unlisted list at
  no_class is_full at is is_class = not_full at
  no_class in_large at is is_class = is.no_class is_class
  no_class is_new at is is_class = let past = is.past in omega arith

  by_use : HasUse capacity image held d → (b : Block) × Contains held b × HasPartIn capacity b d
  by_use (for_class is) = absurd (no_class (s.place d) refl (shape.places d within) is)
  by_use (for_held b holds part) = (b, holds, part)
  by_use (for_later in_free) =
      absurd (unlisted 0 (member_place capacity image held s shape 0 d (omega arith) (in_listed capacity d image held s shape in_free)).0)
