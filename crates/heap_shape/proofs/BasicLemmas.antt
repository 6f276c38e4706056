-- What follows at once from the shape of a heap, and how lists and walks stay.
use Rattle.std.proofs.Common.{◌≡◌, ◌≢◌, ℕ, zero, suc, ◌+◌, ◌<◌, ◌≤◌, inl, inr, nat_eq, List, ◌∷◌, Contains, refl, ap, subst, arith}
use Rattle.std.proofs.lemmas.Bool.{cases_eq, cases_order, eqb-true, eq-eqb, ne_eqb, cond-true, cond-false}
use Rattle.heap_model.specs.declared.block.Block.{Block}
use Rattle.heap_model.specs.Geometry.{lists, head_word, link_word}
use Rattle.heap_model.specs.Image.{Image}
use Rattle.heap_model.specs.Sizes.{IsClass, blocks_of, words_of_class}
use Rattle.heap_model.specs.Words.{head_first}
use Rattle.heap_model.specs.Chains.{Follows}
use Rattle.heap_model.specs.Counting.{times, one_if}
use Rattle.heap_model.proofs.SizeLemmas.{two_words, blocks_fit}
use Rattle.heap_model.proofs.BlockLemmas.{block_step}
use Rattle.heap_model.proofs.CountingLemmas.{one_if_true, one_if_false, one_if_some}
use Rattle.heap_at_rest.proofs.ListLemmas.{follows_below, times_of}
use Rattle.heap_shape.specs.Shape.{Place, in_list, is_full, in_large, is_new, Shape, stands_in, with_at}
use Rattle.heap_shape.specs.Standing.{first_of, IsFirstOf, IsOfClass, HasFreeBlocks, IsFullSuperblock, IsFree, IsAs}
use Rattle.heap_shape.specs.Whole.{IsShape}
use Rattle.heap_shape.specs.Effects.{IsInSuperblock}
use Rattle.heap_model.proofs.ListLemmas.{one_at_most}

-- a function with another value at one number
pub with_at_same : {A : Type 0} (f : ℕ → A) (at : ℕ) (value : A) → with_at f at value at ≡ value
with_at_same f at value = cond-true (nat_eq at at) value (f at) (eq-eqb at at refl)

pub with_at_other : {A : Type 0} (f : ℕ → A) (at : ℕ) (value : A) (n : ℕ) → n ≢ at → with_at f at value n ≡ f n
with_at_other f at value n other = cond-false (nat_eq n at) value (f n) (ne_eqb n at other)

-- a place that is a list
pub place_is : (p : Place) (list : ℕ) → 0 < stands_in p list → p ≡ in_list list
place_is (in_list at) list stands = ap in_list (eqb-true at list (one_if_some (nat_eq at list) stands))
place_is is_full list stands = absurd (omega arith)
place_is in_large list stands = absurd (omega arith)
place_is is_new list stands = absurd (omega arith)

-- no place is a list twice
pub stands_once : (p : Place) (list : ℕ) → stands_in p list ≤ 1
stands_once (in_list at) list = one_at_most (nat_eq at list)
stands_once is_full list = omega arith
stands_once in_large list = omega arith
stands_once is_new list = omega arith

-- a list is no other list
pub stands_not : (at list : ℕ) → at ≢ list → stands_in (in_list at) list ≡ 0
stands_not at list other = one_if_false (nat_eq at list) (λ same. other (eqb-true at list same))

pub one_list : (at list : ℕ) → in_list at ≡ in_list list → at ≡ list
one_list at list same = elim (cases_eq at list) as (λ _. at ≡ list) [
  | inl one ↦ one
  | inr other ↦
      let none = stands_not at list other in
      let here = one_if_true (nat_eq list list) (eq-eqb list list refl) in
      let moved : stands_in (in_list at) list ≡ one_if (nat_eq list list) = ap (λ p. stands_in p list) same in
      absurd (omega arith)
]

-- how often a number stands in a list behind itself, or behind another
pub times_here : (n : ℕ) (xs : List ℕ) → times n (n ∷ xs) ≡ 1 + times n xs
times_here n xs = let here = one_if_true (nat_eq n n) (eq-eqb n n refl) in omega arith

pub times_past : (x n : ℕ) (xs : List ℕ) → x ≢ n → times n (x ∷ xs) ≡ times n xs
times_past x n xs other = let here = one_if_false (nat_eq x n) (λ e. other (eqb-true x n e)) in omega arith

-- a first word is a word of its superblock, and of no other
pub first_inside : (capacity class d word : ℕ) → IsClass class → IsFirstOf capacity class d word → IsInSuperblock capacity d word
first_inside capacity class d word is first =
    let step = block_step first.index (blocks_of class) (words_of_class class) first.below in
    let fit = blocks_fit class is in
    let two = two_words class is in
    let at = first.at in
    record { from = omega arith; until = omega arith }

pub inside_one : (capacity d e word : ℕ) → IsInSuperblock capacity d word → IsInSuperblock capacity e word → d ≡ e
inside_one capacity d e word in_d in_e =
    let from_d = in_d.from in
    let until_d = in_d.until in
    let from_e = in_e.from in
    let until_e = in_e.until in
    omega arith

-- blocks of one class and superblock with one first word have one index
pub first_injective : (capacity class d i j : ℕ) → IsClass class → first_of capacity class d i ≡ first_of capacity class d j → i ≡ j
first_injective capacity class d i j is same =
    let two = two_words class is in
    elim (cases_order i j) as (λ _. i ≡ j) [
      | inl one ↦ one
      | inr other ↦ absurd (elim other as (λ _. ⊥) [
        | inl less ↦ let step = block_step i j (words_of_class class) less in omega arith
        | inr more ↦ let step = block_step j i (words_of_class class) more in omega arith
      ])
    ]

module _ (capacity : ℕ) (image : Image) (held : List Block) (s : Shape) (shape : IsShape capacity image held s) where
  -- the first of a list stands there, once, and in no other
  pub first_place : (list d : ℕ) (ds : List ℕ) → list < lists → s.listed list ≡ d ∷ ds → (s.place d ≡ in_list list) × (d < capacity) × (times d ds ≡ 0)
  first_place list d ds below is =
      let count : times d (d ∷ ds) ≡ stands_in (s.place d) list = subst (λ xs. times d xs ≡ stands_in (s.place d) list) is
      (shape.listed list d below) in
      let here = times_here d ds in
      let once = stands_once (s.place d) list in
      let follows : Follows (λ e. image (link_word e)) capacity (head_first (image (head_word list))) (d ∷ ds) =
      subst (λ xs. Follows (λ e. image (link_word e)) capacity (head_first (image (head_word list))) xs) is (shape.follows list below) in
      (place_is (s.place d) list (omega arith), follows.1, omega arith)

  -- a member of a list stands there
  pub member_place : (list d : ℕ) → list < lists → Contains (s.listed list) d → (s.place d ≡ in_list list) × (d < capacity)
  member_place list d below p =
      let count = shape.listed list d below in
      let some = times_of d (s.listed list) p in (
        place_is (s.place d) list (omega arith),
        follows_below (λ e. image (link_word e)) capacity (head_first (image (head_word list)))
            (s.listed list) d (shape.follows list below) p,
      )

  -- a superblock in the list of a class has free blocks of it
  pub in_class_list : (class d : ℕ) → IsClass class → d < capacity → s.place d ≡ in_list class → HasFreeBlocks capacity image s held class d
  in_class_list zero d is within place = absurd (let some = is.some in omega arith)
  in_class_list (suc c) d is within place = subst (IsAs capacity image s held d) place (shape.places d within)

  pub in_free_list : (d : ℕ) → d < capacity → s.place d ≡ in_list 0 → IsFree capacity image held d
  in_free_list d within place = subst (IsAs capacity image s held d) place (shape.places d within)

  -- one that is full has none of its class
  pub in_full : (d : ℕ) → d < capacity → s.place d ≡ is_full → IsFullSuperblock capacity image s held d
  in_full d within place = subst (IsAs capacity image s held d) place (shape.places d within)

  -- the superblock of a cached block is cut for the class
  pub cached_of_class : (class word : ℕ) (is : IsClass class) (p : Contains (s.cached class) word)
      → IsOfClass capacity image s held class (shape.cached class word is p).superblock
  cached_of_class class word is p = let cached = shape.cached class word is p in
      elim cached.place as (λ _. IsOfClass capacity image s held class cached.superblock) [
        | inl listed ↦ (in_class_list class cached.superblock is cached.within listed).of_class
        | inr full ↦ subst (λ c. IsOfClass capacity image s held c cached.superblock) full.1 (in_full cached.superblock cached.within full.0).of_class
      ]
