-- Counting: claims and numbers taken out, and a chain that has as many blocks as the superblock.
use Rattle.std.proofs.Common.{◌≡◌, ◌≢◌, ℕ, zero, suc, ◌+◌, ◌*◌, ◌<◌, ◌≤◌, inl, inr, Bool, cond, nat_eq, List, [], ◌∷◌, get_or, set, length, refl, ap, sym, subst, ◌∙◌, eq-eqb, ne_eqb, arith}
use Rattle.std.proofs.lemmas.Bool.{cases_eq, cases_lt}
use Rattle.heap_model.specs.Counting.{times, total, one_if, without}
use Rattle.heap_model.specs.Sizes.{IsClass, words_of_class, blocks_of}
use Rattle.heap_model.proofs.SizeLemmas.{two_words}
use Rattle.heap_model.specs.Geometry.{start_word}
use Rattle.heap_model.specs.Words.{anchor_state, full_state}
use Rattle.core_model.specs.View.{View, Claim, Span, times_classed}
use Rattle.core_model.specs.Effects.{steps, claim_class, without_claim, class_blocks}
use Rattle.core_model.specs.Sound.{CoreShape, tally_of, times_cut, IsCutBlock, HasClaims}
use Rattle.core_model.proofs.TotalLemmas.{total_set, total_at, eq-eqb-one, ne-eqb-none}

-- one claim is taken out
pub times_without_claim : (e d : ℕ) (claims : List Claim) → 0 < times_classed d claims
    → times_classed e (without_claim d claims) + one_if (nat_eq d e) ≡ times_classed e claims
times_without_claim e d [] some = absurd (omega arith)
times_without_claim e d (claim ∷ claims) some = elim (cases_eq claim.descriptor d) as
    (λ _. times_classed e (cond (nat_eq claim.descriptor d) claims (claim ∷ without_claim d claims)) + one_if (nat_eq d e) ≡ one_if
    (nat_eq claim.descriptor e) + times_classed e claims) [
      | inl here ↦ subst (λ (t : Bool). times_classed e (cond t claims (claim ∷ without_claim d claims)) + one_if (nat_eq d e) ≡ one_if
          (nat_eq claim.descriptor e) + times_classed e claims) (sym (eq-eqb claim.descriptor d here))
          (let same = ap (λ n. one_if (nat_eq n e)) here in omega arith)
      | inr other ↦ subst (λ (t : Bool). times_classed e (cond t claims (claim ∷ without_claim d claims)) + one_if (nat_eq d e) ≡ one_if
          (nat_eq claim.descriptor e) + times_classed e claims) (sym (ne_eqb claim.descriptor d other))
          (let none = ne-eqb-none claim.descriptor d other in let rest = times_without_claim e d claims (omega arith) in omega arith)
    ]

-- the class of another claim stays
pub class_without : (e d : ℕ) (claims : List Claim) → d ≢ e → claim_class e (without_claim d claims) ≡ claim_class e claims
class_without e d [] other = refl
class_without e d (claim ∷ claims) other = elim (cases_eq claim.descriptor d) as
    (λ _. claim_class e (cond (nat_eq claim.descriptor d) claims (claim ∷ without_claim d claims)) ≡ cond
    (nat_eq claim.descriptor e) claim.class (claim_class e claims)) [
      | inl here ↦ subst (λ (t : Bool). claim_class e (cond t claims (claim ∷ without_claim d claims)) ≡ cond
          (nat_eq claim.descriptor e) claim.class (claim_class e claims)) (sym (eq-eqb claim.descriptor d here))
          (sym (ap (λ t. cond t claim.class (claim_class e claims)) (ne_eqb claim.descriptor e (λ z. other (sym here ∙ z)))))
      | inr apart ↦ subst (λ (t : Bool). claim_class e (cond t claims (claim ∷ without_claim d claims)) ≡ cond
          (nat_eq claim.descriptor e) claim.class (claim_class e claims)) (sym (ne_eqb claim.descriptor d apart))
          (ap (λ n. cond (nat_eq claim.descriptor e) claim.class n) (class_without e d claims other))
    ]

-- and what a seat says of the others
pub claims_without : (infos anchors : ℕ → ℕ) (raw split cutting : List ℕ) (classed : List Claim) (large : List Span) (d : ℕ)
    → times_classed d classed ≡ 1
    → HasClaims infos anchors raw split cutting classed large → HasClaims infos anchors raw split cutting (without_claim d classed) large
claims_without infos anchors raw split cutting classed large d once c = record {
  is_raw = c.is_raw;
  is_split = c.is_split;
  is_cutting = c.is_cutting;
  is_classed = λ e some. let less = times_without_claim e d classed (omega arith) in elim (cases_eq d e) [
    | inl same ↦ absurd (let one = eq-eqb-one d e same in let here = ap (λ x. times_classed x classed) same in omega arith)
    | inr other ↦ subst (λ n. IsClass n × (infos e ≡ n) × (anchor_state (anchors e) < full_state)) (sym (class_without e d classed other))
        (c.is_classed e (let none = ne-eqb-none d e other in omega arith))
  ];
  is_large = c.is_large;
  is_part = c.is_part;
  some = c.some;
}

-- of all seats together too there is one claim less
pub all_without_claim : (e d : ℕ) (views : List View) (i : ℕ) (v w : View) → i < length views → get_or views i v ≡ v
    → 0 < times_classed d v.classed → w.classed ≡ without_claim d v.classed
    → total (λ (x : View). times_classed e x.classed) (set views i w) + one_if (nat_eq d e) ≡ total (λ (x : View). times_classed e x.classed) views
all_without_claim e d views i v w below at some without =
    let all = total_set (λ (x : View). times_classed e x.classed) views i v w below at in
    let less = times_without_claim e d v.classed some in
    let same = ap (times_classed e) without in omega arith

-- and its superblock is cut
pub claimed_is_cut : (g : CoreShape) (views : List View) (i : ℕ) (v : View) (d : ℕ) → i < length views → get_or views i v ≡ v
    → 0 < times_classed d v.classed → 0 < times_cut g (tally_of views) d
claimed_is_cut g views i v d below at some = let all = total_at (λ (x : View). times_classed d x.classed) views i v below at in omega arith

-- numbers a step apart: how many, and each once
pub length_steps : (from apart n : ℕ) → length (steps from apart n) ≡ n
length_steps from apart zero = refl
length_steps from apart (suc n) = ap suc (length_steps (from + apart) apart n)

steps_later : (b from apart n : ℕ) → b < from → times b (steps from apart n) ≡ 0
steps_later b from apart zero less = refl
steps_later b from apart (suc n) less = let none = ne-eqb-none from b (λ e. omega (arith, e)) in
    let rest = steps_later b (from + apart) apart n (omega arith) in omega arith

pub steps_once : (from apart n index : ℕ) → 0 < apart → index < n → times (from + index * apart) (steps from apart n) ≡ 1
steps_once from apart zero index some less = absurd (omega arith)
steps_once from apart (suc n) zero some less =
    let here : from + 0 * apart ≡ from = omega arith in
    let one = eq-eqb-one from (from + 0 * apart) (sym here) in
    let rest : times (from + 0 * apart) (steps (from + apart) apart n) ≡ 0 =
    subst (λ x. times x (steps (from + apart) apart n) ≡ 0) (sym here) (steps_later from (from + apart) apart n (omega arith)) in omega arith
steps_once from apart (suc n) (suc index) some less =
    let same : from + suc index * apart ≡ from + apart + index * apart = grind arith in
    let none = ne-eqb-none from (from + suc index * apart) (λ e. omega (arith, e, same)) in
    let rest : times (from + suc index * apart) (steps (from + apart) apart n) ≡ 1 =
    subst (λ x. times x (steps (from + apart) apart n) ≡ 1) (sym same) (steps_once (from + apart) apart n index some (omega arith)) in omega arith

-- each block of a class stands once among them
pub block_once : (c class d b : ℕ) → IsClass class → IsCutBlock c class d b → times b (class_blocks c class d) ≡ 1
block_once c class d b is at = subst (λ x. times x (class_blocks c class d) ≡ 1) (sym at.at)
    (steps_once (start_word c d) (words_of_class class) (blocks_of class) at.index (let two = two_words class is in omega arith) at.below)

-- a list of numbers of another list, which has each once: its length is the sum of their counts
counted : (xs chain : List ℕ) → ((b : ℕ) → 0 < times b chain → times b xs ≡ 1) → total (λ x. times x chain) xs ≡ length chain
counted xs [] once = none xs where
  none : (ys : List ℕ) → total (λ x. times x []) ys ≡ 0
  none [] = refl
  none (y ∷ ys) = let rest = none ys in omega arith
counted xs (b ∷ chain) once =
    let here = once b (let one = eq-eqb-one b b refl in omega arith) in
    let rest = counted xs chain (λ c some. once c (omega arith)) in
    let both = split xs in omega arith where
      split : (ys : List ℕ) → total (λ x. one_if (nat_eq b x) + times x chain) ys ≡ times b ys + total (λ x. times x chain) ys
      split [] = refl
      split (y ∷ ys) = let more = split ys in let swap = turned (b) y in omega arith where
        turned : (p q : ℕ) → one_if (nat_eq p q) ≡ one_if (nat_eq q p)
        turned p q = elim (cases_eq p q) [
          | inl same ↦ let a = eq-eqb-one p q same in let z = eq-eqb-one q p (sym same) in omega arith
          | inr other ↦ let a = ne-eqb-none p q other in let z = ne-eqb-none q p (λ e. other (sym e)) in omega arith
        ]

-- where each counts at most 1, and the sum is the length, each counts 1
each_one : (f : ℕ → ℕ) (xs : List ℕ) (b : ℕ) → ((x : ℕ) → 0 < times x xs → f x ≤ 1) → length xs ≤ total f xs → 0 < times b xs → f b ≡ 1
each_one f [] b most all some = absurd (omega arith)
each_one f (x ∷ xs) b most all some = elim (cases_eq x b) as (λ _. f b ≡ 1) [
  | inl here ↦ subst (λ y. f y ≡ 1) here (let first = most x (let one = eq-eqb-one x x refl in omega arith) in
      let rest = few xs (λ y p. most y (omega arith)) in omega arith)
  | inr other ↦ let none = ne-eqb-none x b other in let first = most x (let one = eq-eqb-one x x refl in omega arith) in
      each_one f xs b (λ y p. most y (omega arith)) (omega arith) (omega arith)
] where
  few : (ys : List ℕ) → ((y : ℕ) → 0 < times y ys → f y ≤ 1) → total f ys ≤ length ys
  few [] limit = omega arith
  few (y ∷ ys) limit = let first = limit y (let one = eq-eqb-one y y refl in omega arith) in let rest = few ys (λ z p. limit z (omega arith)) in
      omega arith

-- a chain that has as many blocks as the superblock has all of them
pub all_home : (c class d : ℕ) (chain : List ℕ) → IsClass class → length chain ≡ blocks_of class
    → ((b : ℕ) → 0 < times b chain → IsCutBlock c class d b)
    → ((b : ℕ) → IsCutBlock c class d b → times b chain ≤ 1) → (b : ℕ) → IsCutBlock c class d b → times b chain ≡ 1
all_home c class d chain is all blocks most b at =
    each_one (λ x. times x chain) (class_blocks c class d) b (λ x p. limit x p)
    (let n = length_steps (start_word c d) (words_of_class class) (blocks_of class) in
    let sum = counted (class_blocks c class d) chain (λ x some. block_once c class d x is (blocks x some)) in omega arith)
    (let one = block_once c class d b is at in omega arith) where
      limit : (x : ℕ) → 0 < times x (class_blocks c class d) → times x chain ≤ 1
      limit x p = elim (cases_lt 0 (times x chain)) [
        | inl some ↦ most x (blocks x some)
        | inr none ↦ omega arith
      ]

-- blocks of a superblock, each there once at most, are no more than it has
pub chain_short : (c class d : ℕ) (chain : List ℕ) → IsClass class → ((b : ℕ) → 0 < times b chain → IsCutBlock c class d b)
    → ((b : ℕ) → IsCutBlock c class d b → times b chain ≤ 1) → length chain ≤ blocks_of class
chain_short c class d chain is blocks most =
    let n = length_steps (start_word c d) (words_of_class class) (blocks_of class) in
    let sum = counted (class_blocks c class d) chain (λ x some. block_once c class d x is (blocks x some)) in
    let all = at_most (class_blocks c class d) (λ x. elim (cases_lt 0 (times x chain)) [
      | inl some ↦ most x (blocks x some)
      | inr none ↦ omega arith
    ]) in omega arith where
      at_most : (xs : List ℕ) → ((x : ℕ) → times x chain ≤ 1) → total (λ x. times x chain) xs ≤ length xs
      at_most [] limit = omega arith
      at_most (x ∷ xs) limit = let first = limit x in let rest = at_most xs limit in omega arith
