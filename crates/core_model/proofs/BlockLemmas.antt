-- Blocks of cut superblocks: where they lie, and chains of them.
use Rattle.std.proofs.Common.{◌≡◌, ◌≢◌, ℕ, ◌+◌, ◌%◌, ◌<◌, ◌≤◌, cond, nat_eq, List, [], ◌∷◌, ◌++◌, length, get_or, set, refl, ap, ◌∙◌, eq-eqb, ne_eqb, arith}
use Rattle.std.proofs.lemmas.List.{get_or-set_same, get_or-set_other, get_or_default}
use Rattle.heap_model.specs.Geometry.{start_word, superblock_of}
use Rattle.heap_model.specs.Sizes.{IsClass, words_of_class, blocks_of}
use Rattle.heap_model.specs.Words.{full_anchor}
use Rattle.heap_model.specs.Counting.{times, total}
use Rattle.heap_model.specs.Chains.{Walks, after}
use Rattle.heap_model.proofs.BlockLemmas.{block_step}
use Rattle.heap_model.proofs.SizeLemmas.{blocks_fit, two_words, four_blocks}
use Rattle.core_model.proofs.TotalLemmas.{eq-eqb-one}
use Rattle.core_model.specs.Effects.{chain, first_of, last_of}
use Rattle.core_model.specs.Sound.{IsCutBlock, IsAnchoredBy}
use Rattle.core_model.proofs.TotalLemmas.{total_set}

-- a block of a class lies in its superblock
pub inside_of : (c class d b : ℕ) → IsClass class → IsCutBlock c class d b → (start_word c d ≤ b) × (b + words_of_class class ≤ start_word c (d + 1))
inside_of c class d b is at =
    let step = block_step at.index (blocks_of class) (words_of_class class) at.below in
    let fits = blocks_fit class is in let e = at.at in (omega arith, omega arith)

pub superblock_is : (c class d b : ℕ) → IsClass class → IsCutBlock c class d b → superblock_of c b ≡ d
superblock_is c class d b is at =
    let where_it_lies = inside_of c class d b is at in
    let low = where_it_lies.0 in let high = where_it_lies.1 in let two = two_words class is in omega arith

-- the blocks that a walk meets are the chain
pub walks_chain : (next : ℕ → ℕ) (from : ℕ) (bs : List ℕ) → Walks next from bs → chain next from (length bs) ≡ bs
walks_chain next from [] w = refl
walks_chain next from (b ∷ bs) w = ap (λ x. x ∷ chain next (next x) (length bs)) w.0 ∙ ap (λ xs. b ∷ xs) (walks_chain next (next b) bs w.1)

pub walks_first : (next : ℕ → ℕ) (from : ℕ) (bs : List ℕ) → Walks next from bs → Walks next (first_of bs) bs
walks_first next from [] w = tt
walks_first next from (b ∷ bs) w = (refl, w.1)

-- one walk behind another
pub walks_append : (next : ℕ → ℕ) (from : ℕ) (bs cs : List ℕ) → Walks next from bs → Walks next (after next from bs) cs → Walks next from (bs ++ cs)
walks_append next from [] cs w v = v
walks_append next from (b ∷ bs) cs w v = (w.0, walks_append next (next b) bs cs w.1 v)

pub after_last : (next : ℕ → ℕ) (from b : ℕ) (bs : List ℕ) → Walks next from (b ∷ bs) → after next from (b ∷ bs) ≡ next (last_of (b ∷ bs))
after_last next from b [] w = refl
after_last next from b (c ∷ bs) w = after_last next (next b) c bs w.1

-- the first of some blocks is one of them
pub first_there : (xs : List ℕ) → 1 ≤ length xs → 0 < times (first_of xs) xs
first_there [] some = absurd (omega arith)
first_there (b ∷ xs) some = let one = eq-eqb-one b b refl in omega arith

-- a full anchor has no blocks
pub full_anchored : (next : ℕ → ℕ) (c class d : ℕ) → IsClass class → IsAnchoredBy next c class d full_anchor []
full_anchored next c class d is = let four = four_blocks class is in record {
  walks = tt;
  count = refl;
  empty = (λ e. absurd (two_not_none e), λ e. absurd (omega (arith, e)));
  full = (λ e. refl, λ e. refl);
  partial = λ some not_all. absurd (some refl);
} where
  two_not_none : 2 % 4 ≡ 0 → ⊥
  two_not_none e = omega (arith, e)

-- the function with another value at one number
pub at_one : {A : Type 0} (f : ℕ → A) (d : ℕ) (x : A) (e : ℕ) → e ≡ d → cond (nat_eq e d) x (f e) ≡ x
at_one f d x e same = ap (λ t. cond t x (f e)) (eq-eqb e d same)

pub at_other : {A : Type 0} (f : ℕ → A) (d : ℕ) (x : A) (e : ℕ) → e ≢ d → cond (nat_eq e d) x (f e) ≡ f e
at_other f d x e other = ap (λ t. cond t x (f e)) (ne_eqb e d other)

-- the blocks by class, where one list changes
pub of_class_same : (lists : List (List ℕ)) (class : ℕ) (bs : List ℕ) (n : ℕ) → n ≡ class → class < length lists → get_or (set lists class bs) n [] ≡ bs
of_class_same lists class bs n same below = ap (λ x. get_or (set lists class bs) x []) same ∙ get_or-set_same lists class bs [] below

pub of_class_other : (lists : List (List ℕ)) (class : ℕ) (bs : List ℕ) (n : ℕ) → n ≢ class → get_or (set lists class bs) n [] ≡ get_or lists n []
of_class_other lists class bs n other = get_or-set_other lists class n bs [] other

pub total_lists : (b : ℕ) (lists : List (List ℕ)) (class : ℕ) (bs : List ℕ) → class < length lists
    → total (times b) (set lists class bs) + times b (get_or lists class []) ≡ total (times b) lists + times b bs
total_lists b lists class bs below = total_set (times b) lists class (get_or lists class []) bs below
    (get_or_default lists class (get_or lists class []) [] below)
