-- Lists of blocks have no more members than there are blocks, and as many only if they have all.
use Rattle.std.proofs.Common.{◌≡◌, ℕ, zero, suc, ◌+◌, ◌<◌, ◌≤◌, inl, inr, List, [], ◌∷◌, ◌++◌, length, Contains, refl, ap, sym, subst, ◌∙◌, arith, length-append}
use Rattle.std.proofs.lemmas.Bool.{cases_eq, cases_lt}
use Rattle.std.proofs.lemmas.List.Elements.{Contains-append_cases}
use Rattle.heap_model.specs.declared.block.Block.{Block}
use Rattle.heap_model.specs.Geometry.{lists, head_word, link_word}
use Rattle.heap_model.specs.Image.{Image}
use Rattle.heap_model.specs.Sizes.{IsClass, blocks_of}
use Rattle.heap_model.specs.Words.{head_first}
use Rattle.heap_model.specs.Counting.{times, without}
use Rattle.heap_model.specs.Recovered.{IsBlockOfClass}
use Rattle.heap_model.proofs.MemberLemmas.{in_head, head_or_rest}
use Rattle.heap_model.proofs.CountingLemmas.{times_some}
use Rattle.heap_model.proofs.PartLemmas.{cases_of_part}
use Rattle.heap_at_rest.proofs.ListLemmas.{times_of, follows_below}
use Rattle.heap_shape.specs.Shape.{Shape}
use Rattle.heap_shape.specs.Standing.{first_of, IsFirstOf, HoldsAt, IsOfClass, times_free, a_free, a_held}
use Rattle.heap_at_rest.specs.Draining.{HasNoHeld, layout_at}
use Rattle.heap_shape.specs.Whole.{IsShape}
use Rattle.heap_shape.proofs.BasicLemmas.{times_here, times_past, stands_once, first_injective}
use Rattle.heap_model.proofs.ListLemmas.{times_append, length_without, without_less, without_at}

-- a list of values of f below n, none of them twice
pub few_members : (f : ℕ → ℕ) (n : ℕ) (xs : List ℕ) → ((x : ℕ) → Contains xs x → (i : ℕ) × (i < n) × (x ≡ f i))
    → ((i : ℕ) → i < n → times (f i) xs ≤ 1) → length xs ≤ n
few_members f zero [] are once = omega arith
few_members f zero (x ∷ xs) are once = absurd (let first = are x (in_head x xs) in let below = first.1 in omega arith)
few_members f (suc n) xs are once =
    let shorter = length_without (f n) xs in
    let rest = few_members f n (without (f n) xs) still (λ i below. let at_most = once i (omega arith) in
    let fewer = without_less (f i) (f n) xs in omega arith) in
    omega arith
  where
    still : (x : ℕ) → Contains (without (f n) xs) x → (i : ℕ) × (i < n) × (x ≡ f i)
    still x p =
        let some = times_of x (without (f n) xs) p in
        let fewer = without_less x (f n) xs in
        let is = are x (times_some x xs (omega arith)) in
        let below = is.1 in
        elim (cases_lt is.0 n) as (λ _. (i : ℕ) × (i < n) × (x ≡ f i)) [
          | inl less ↦ (is.0, less, is.2)
          | inr last ↦
              let same : is.0 ≡ n = omega arith in
              let gone = without_at (f n) xs (once n (omega arith)) in
              let stands : 0 < times (f n) (without (f n) xs) = subst (λ y. 0 < times y (without (f n) xs)) (is.2 ∙ ap f same) some in
              absurd (omega arith)
        ]

-- and if it is as long, each value is a member
pub all_members : (f : ℕ → ℕ) (n : ℕ) (xs : List ℕ) → ((x : ℕ) → Contains xs x → (i : ℕ) × (i < n) × (x ≡ f i))
    → ((i : ℕ) → i < n → times (f i) xs ≤ 1) → length xs ≡ n
    → ((i j : ℕ) → i < n → j < n → f i ≡ f j → i ≡ j) → (i : ℕ) → i < n → times (f i) xs ≡ 1
all_members f n xs are once long injective i below =
    let at_most = once i below in
    elim (cases_lt 0 (times (f i) xs)) as (λ _. times (f i) xs ≡ 1) [
      | inl some ↦ omega arith
      | inr none ↦ absurd (let more = few_members f n (f i ∷ xs) still (still_once (omega arith)) in omega arith)
    ]
  where
    still : (x : ℕ) → Contains (f i ∷ xs) x → (k : ℕ) × (k < n) × (x ≡ f k)
    still x p = elim (head_or_rest (f i) x xs p) as (λ _. (k : ℕ) × (k < n) × (x ≡ f k)) [
      | inl same ↦ (i, below, sym same)
      | inr later ↦ are x later
    ]

    still_once : times (f i) xs ≡ 0 → (j : ℕ) → j < n → times (f j) (f i ∷ xs) ≤ 1
    still_once none j less = elim (cases_eq (f i) (f j)) as (λ _. times (f j) (f i ∷ xs) ≤ 1) [
      | inl same ↦
          let here = times_here (f i) xs in
          subst (λ y. times y (f i ∷ xs) ≤ 1) same (omega arith)
      | inr other ↦ let at_most = once j less in let past = times_past (f i) (f j) xs other in omega arith
    ]

module _ (capacity : ℕ) (image : Image) (held : List Block) (s : Shape) (shape : IsShape capacity image held s) where
  -- a list has no more descriptors than there are superblocks
  pub few_listed : (list : ℕ) → list < lists → length (s.listed list) ≤ capacity
  few_listed list below = few_members (λ d. d) capacity (s.listed list)
      (λ d p. (
        d,
        follows_below (λ e. image (link_word e)) capacity (head_first (image (head_word list))) (s.listed list) d
            (shape.follows list below) p,
        refl,
      ))
      (λ d within. let count = shape.listed list d below in let once = stands_once (s.place d) list in omega arith)

  module _ (class d : ℕ) (given rest : List ℕ) (of_class : IsOfClass capacity image s held class d) (cache : s.cached class ≡ given ++ rest)
      (firsts : (w : ℕ) → Contains given w → IsFirstOf capacity class d w) where
    -- how often a word is free: in the given blocks, in the rest of the cache and in the chain
    free_parts : (word : ℕ) → times word (given ++ s.chain d) + times word rest ≡ times_free s class d word
    free_parts word =
        let both = times_append word given (s.chain d) in
        let all = times_append word given rest in
        let cached : times word (s.cached class) ≡ times word (given ++ rest) = ap (times word) cache in
        omega arith

    -- each is a first word, and stands there once
    is_first : (word : ℕ) → Contains (given ++ s.chain d) word → (i : ℕ) × (i < blocks_of class) × (word ≡ first_of capacity class d i)
    is_first word p = elim (Contains-append_cases given (s.chain d) word p) as (λ _. (i : ℕ) × (i < blocks_of class)
        × (word ≡ first_of capacity class d i)) [
          | inl in_given ↦ let first = firsts word in_given in (first.index, first.below, first.at)
          | inr in_chain ↦ let first = of_class.blocks word in_chain in (first.index, first.below, first.at)
        ]

    once : (i : ℕ) → i < blocks_of class → times (first_of capacity class d i) (given ++ s.chain d) ≤ 1
    once i below = let parts = free_parts (first_of capacity class d i) in
        elim (of_class.owned i below) as (λ _. times (first_of capacity class d i) (given ++ s.chain d) ≤ 1) [
          | a_free one none ↦ omega arith
          | a_held none holds ↦ omega arith
        ]

  -- blocks of one superblock in the front of the cache, together with its chain, are no more than it has
  pub few_given : (class d : ℕ) (given rest : List ℕ) → IsOfClass capacity image s held class d → s.cached class ≡ given ++ rest
      → ((w : ℕ) → Contains given w → IsFirstOf capacity class d w)
      → length given + length (s.chain d) ≤ blocks_of class
  few_given class d given rest of_class cache firsts =
      let few = few_members (first_of capacity class d) (blocks_of class) (given ++ s.chain d)
      (is_first class d given rest of_class cache firsts) (once class d given rest of_class cache firsts) in
      let both = length-append given (s.chain d) in
      omega arith

  -- and if they are as many, all its blocks are free, and none of them is behind in the cache
  pub all_given : (class d : ℕ) (given rest : List ℕ) → IsOfClass capacity image s held class d → s.cached class ≡ given ++ rest
      → ((w : ℕ) → Contains given w → IsFirstOf capacity class d w)
      → length given + length (s.chain d) ≡ blocks_of class → HasNoHeld capacity held d × ((w : ℕ) → Contains rest w → IsFirstOf capacity class d w → ⊥)
  all_given class d given rest of_class cache firsts all = (none_held, none_behind) where
    each : (i : ℕ) → i < blocks_of class → times (first_of capacity class d i) (given ++ s.chain d) ≡ 1
    each = let both = length-append given (s.chain d) in
        all_members (first_of capacity class d) (blocks_of class) (given ++ s.chain d) (is_first class d given rest of_class cache firsts)
        (once class d given rest of_class cache firsts) (omega arith)
        (λ i j below_i below_j. first_injective capacity class d i j of_class.is_class)

    -- so each is free, and isn't behind
    free : (i : ℕ) → i < blocks_of class → (times (first_of capacity class d i) rest ≡ 0) × (HoldsAt held (first_of capacity class d i) → ⊥)
    free i below =
        let here = each i below in
        let parts = free_parts class d given rest of_class cache firsts (first_of capacity class d i) in
        elim (of_class.owned i below) as (λ _. (times (first_of capacity class d i) rest ≡ 0) × (HoldsAt held (first_of capacity class d i) → ⊥)) [
          | a_free one none ↦ (omega arith, none)
          | a_held none holds ↦ absurd (omega arith)
        ]

    none_held : HasNoHeld capacity held d
    none_held b holds part = elim (cases_of_part (layout_at capacity image) b d (shape.named b holds) part) as (λ _. ⊥) [
      | inl one ↦
          let same : one.class ≡ class = sym one.info_is ∙ of_class.info in
          let of : IsBlockOfClass capacity class d one.index b = subst (λ c. IsBlockOfClass capacity c d one.index b) same one.is_of in
          (free one.index of.below).1 (record { block = b; holds = holds; at = of.at })
      | inr takes ↦ takes.no_class (subst IsClass (sym of_class.info) of_class.is_class)
    ]

    none_behind : (w : ℕ) → Contains rest w → IsFirstOf capacity class d w → ⊥
    none_behind w p first =
        let some = times_of w rest p in
        let stands : 0 < times (first_of capacity class d first.index) rest = subst (λ y. 0 < times y rest) first.at some in
        let none = (free first.index first.below).0 in
        omega arith
