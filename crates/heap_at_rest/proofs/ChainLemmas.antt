-- The chain that recovery gives a partial superblock: how many blocks it has, and where it begins.
use Rattle.std.proofs.Common.{◌≡◌, ℕ, suc, ◌+◌, ◌*◌, ◌<◌, ◌≤◌, inl, inr, List, [], ◌∷◌, length, Contains, ap, sym, subst, ◌∙◌, arith}
use Rattle.std.specs.Prelude.{AllPairs}
use Rattle.std.proofs.Math.Nat.{mul-le-mul_right}
use Rattle.std.proofs.lemmas.Bool.{cases_lt, cases_order}
use Rattle.heap_model.specs.declared.block.Block.{Block}
use Rattle.heap_model.specs.Geometry.{start_word}
use Rattle.heap_model.specs.Sizes.{IsClass, words_of_class, blocks_of}
use Rattle.heap_model.specs.Blocks.{Layout, IsBlock}
use Rattle.heap_model.specs.Recovered.{IsBlockOfClass, AreAscending}
use Rattle.heap_model.specs.Chains.{Walks}
use Rattle.heap_model.specs.Recovery.{IsSpare, IsPartial}
use Rattle.heap_model.proofs.SizeLemmas.{two_words, few_blocks}
use Rattle.heap_model.proofs.BlockLemmas.{block_step}
use Rattle.heap_model.proofs.MemberLemmas.{in_head, in_rest, order_head, order_rest}
use Rattle.heap_model.proofs.PartLemmas.{cases_of_part}
use Rattle.heap_at_rest.proofs.PartLemmas.{same_start}

-- the number is `start` and so many steps, of those from `low` to below `n`
record IsStep (start words low n x : ℕ) : Type 0 where
  at : ℕ
  from : low ≤ at
  until : at < n
  is : x ≡ start + at * words

-- a number behind a step is a later step
later_step : (start words low n x y at : ℕ) → x ≡ start + at * words → x < y → IsStep start words low n y → IsStep start words (at + 1) n y
later_step start words low n x y at is less step = record { at = step.at; from = later; until = step.until; is = step.is } where
  later : at + 1 ≤ step.at
  later = elim (cases_lt at step.at) as (λ _. at + 1 ≤ step.at) [
    | inl more ↦ omega arith
    | inr not_more ↦ absurd (let small = mul-le-mul_right words not_more in let here = step.is in omega arith)
  ]

-- an ascending list of steps is no longer than there are steps
few_steps : (start words low n : ℕ) (xs : List ℕ) → low ≤ n → AllPairs (λ x y. x < y) xs
    → ((x : ℕ) → Contains xs x → IsStep start words low n x) → length xs + low ≤ n
few_steps start words low n [] some pairs steps = omega arith
few_steps start words low n (x ∷ xs) some pairs steps =
    let here = steps x (in_head x xs) in
    let until = here.until in
    let rest = few_steps start words (here.at + 1) n xs (omega arith) (order_rest (λ a b. a < b) x xs pairs)
    (λ y p. later_step start words low n x y here.at here.is (order_head (λ a b. a < b) x y xs pairs p) (steps y (in_rest x y xs p))) in
    let from = here.from in
    omega arith

-- and shorter where it leaves one out
fewer_steps : (start words low n left : ℕ) (xs : List ℕ) → low ≤ left → left < n → AllPairs (λ x y. x < y) xs
    → ((x : ℕ) → Contains xs x → IsStep start words low n x)
    → (Contains xs (start + left * words) → ⊥) → length xs + low < n
fewer_steps start words low n left [] from until pairs steps out = omega arith
fewer_steps start words low n left (x ∷ xs) from until pairs steps out =
    let here = steps x (in_head x xs) in
    let here_from = here.from in
    let here_until = here.until in
    let rest_pairs = order_rest (λ a b. a < b) x xs pairs in
    let rest_steps = λ (y : ℕ) (p : Contains xs y). later_step start words low n x y here.at here.is (order_head (λ a b. a < b) x y xs pairs p)
    (steps y (in_rest x y xs p)) in
    elim (cases_order here.at left) as (λ _. suc (length xs) + low < n) [
      | inl same ↦ absurd (out (subst (λ y. Contains (x ∷ xs) y) (here.is ∙ ap (λ k. start + k * words) same) (in_head x xs)))
      | inr two ↦ elim two as (λ _. suc (length xs) + low < n) [
        | inl before ↦ let rest = fewer_steps start words (here.at + 1) n left xs (omega arith) until rest_pairs rest_steps
            (λ p. out (in_rest x (start + left * words) xs p)) in omega arith
        | inr behind ↦ let rest = few_steps start words (here.at + 1) n xs (omega arith) rest_pairs rest_steps in omega arith
      ]
    ]

module _ (l : Layout) (kept : Block → Type 0) (class d : ℕ) (ws : List ℕ) (is : IsClass class) (part : IsPartial l kept class d)
    (chain : AreAscending (λ w. w) (IsSpare l kept class d) ws) where
  -- the chain has some block
  pub some_spare : 1 ≤ length ws
  some_spare = let p = chain.complete part.spare.0 part.spare.1 in omega (arith, p.1)

  -- but not all, since one is kept
  pub not_all_spare : ((b : Block) → kept b → IsBlock l b) → length ws < blocks_of class
  not_all_spare named = elim (cases_of_part l part.holds.block d (named part.holds.block part.holds.is_kept) part.holds.part) as
      (λ _. length ws < blocks_of class) [
        | inr all ↦ absurd (all.no_class (subst IsClass (sym part.info_is) is))
        | inl one ↦
            let same : one.class ≡ class = sym one.info_is ∙ part.info_is in
            let of : IsBlockOfClass l.capacity class d one.index part.holds.block =
            subst (λ c. IsBlockOfClass l.capacity c d one.index part.holds.block) same one.is_of in
            let fewer = fewer_steps (start_word l.capacity d) (words_of_class class) 0 (blocks_of class) one.index ws (omega arith) of.below chain.ascending
            (λ x p. let spare = chain.sound x p in record {
              at = spare.index;
              from = omega arith;
              until = spare.is_block.below;
              is = sym spare.first ∙ spare.is_block.at;
            })
            (λ p. let spare = chain.sound (start_word l.capacity d + one.index * words_of_class class) p in
            let first : spare.block.first_word ≡ part.holds.block.first_word = spare.first ∙ sym of.at in
            spare.unkept (subst kept (same_start l.capacity class d one.index spare.index part.holds.block spare.block
            (sym first) of spare.is_block) part.holds.is_kept)) in
            omega arith
      ]

  -- a walk along the chain begins at the index of a block
  pub first_short : (next : ℕ → ℕ) (first : ℕ) → Walks next (start_word l.capacity d + first * words_of_class class) ws → first < 2147483648
  first_short next first walks = by_list ws walks (λ w p. chain.sound w p) some_spare where
    by_list : (xs : List ℕ) → Walks next (start_word l.capacity d + first * words_of_class class) xs
        → ((w : ℕ) → Contains xs w → IsSpare l kept class d w) → 1 ≤ length xs → first < 2147483648
    by_list [] walks spares some = absurd (omega arith)
    by_list (x ∷ xs) walks spares some =
        let spare = spares x (in_head x xs) in
        let below = spare.is_block.below in
        let few = few_blocks class is in
        let at : spare.block.first_word ≡ start_word l.capacity d + spare.index * words_of_class class = spare.is_block.at in
        let here : start_word l.capacity d + first * words_of_class class ≡ x = walks.0 in
        let same : spare.block.first_word ≡ x = spare.first in
        let two = two_words class is in
        elim (cases_lt spare.index first) as (λ _. first < 2147483648) [
          | inl more ↦ absurd (let step = block_step spare.index first (words_of_class class) more in omega arith)
          | inr not_more ↦ omega arith
        ]
