-- A loop that writes one word after the other: what it has written, and what it left.
use Rattle.std.proofs.Common.{◌≡◌, ◌≢◌, ℕ, zero, suc, ◌+◌, ◌-◌, ◌<◌, inl, inr, List, [], ◌∷◌, length, set, slice_index, refl, sym, subst, ◌∙◌, arith}
use Rattle.std.specs.List.{Contains}
use Rattle.std.proofs.lemmas.Bool.{cases_lt}
use Rattle.std.proofs.lemmas.List.{length-set, get_or-set_same, get_or-set_other}
use Rattle.heap_model.specs.Chains.{Walks}
use Rattle.heap_model.specs.Recovery.{but_last}
use Rattle.heap_recover.specs.Rebuilt.{IsChained}

-- the words at `at 0`, `at 1`, .. of the first `count` hold these values, and no other word changed
pub record AreWritten (at value : ℕ → ℕ) (old new : List ℕ) (count : ℕ) : Type 0 where
  pub long : length new ≡ length old
  pub written : (j : ℕ) → j < count → slice_index new (at j) ≡ value j
  pub others : (word : ℕ) → ((j : ℕ) → j < count → word ≢ at j) → slice_index new word ≡ slice_index old word

-- none yet
pub written_none : (at value : ℕ → ℕ) (old : List ℕ) → AreWritten at value old old 0
written_none at value old = record { long = refl; written = λ j below. absurd (omega arith); others = λ word apart. refl }

-- one more
pub written_more : (at value : ℕ → ℕ) (old new : List ℕ) (count : ℕ) → ((j : ℕ) → j < count → at j ≢ at count) → at count < length old
    → AreWritten at value old new count → AreWritten at value old (set new (at count) (value count)) (count + 1)
written_more at value old new count apart inside first = record {
  long = length-set';
  written = λ j below. elim (cases_lt j count) as (λ _. slice_index (set new (at count) (value count)) (at j) ≡ value j) [
    | inl before ↦ get_or-set_other new (at count) (at j) (value count) 0 (apart j before) ∙ first.written j before
    | inr last ↦ let same : j ≡ count = omega arith in
        subst (λ i. slice_index (set new (at count) (value count)) (at i) ≡ value i) (sym same)
        (get_or-set_same new (at count) (value count) 0 (let long = first.long in omega arith))
  ];
  others = λ word away. get_or-set_other new (at count) word (value count) 0 (away count (omega arith))
      ∙ first.others word (λ j below. away j (omega arith));
} where
  length-set' : length (set new (at count) (value count)) ≡ length old
  length-set' = length-set new (at count) (value count) ∙ first.long

-- what each first word leads to, along a chain
pub walks_from : (next : ℕ → ℕ) (bs : List ℕ) (from : ℕ) → (0 < length bs → from ≡ slice_index bs 0)
    → ((j : ℕ) → suc j < length bs → next (slice_index bs j) ≡ slice_index bs (suc j)) → Walks next from bs
walks_from next [] from first steps = tt
walks_from next (b ∷ bs) from first steps =
    (first (omega arith), walks_from next bs (next b) (λ some. steps 0 (omega arith)) (λ j below. steps (suc j) (omega arith)))

-- all but the last
pub but_last_has : (bs : List ℕ) (j : ℕ) → suc j < length bs → Contains (but_last bs) (slice_index bs j)
but_last_has [] j below = absurd (omega arith)
but_last_has (b ∷ []) j below = absurd (omega arith)
but_last_has (b ∷ c ∷ cs) zero below = (0, omega arith, refl)
but_last_has (b ∷ c ∷ cs) (suc j) below = let rest = but_last_has (c ∷ cs) j (omega arith) in (suc rest.0, omega arith, rest.2)

-- a chain is written
pub written_chain : (old new chain : List ℕ) → AreWritten (λ j. slice_index chain j) (λ j. slice_index chain (suc j)) old new (length chain - 1)
    → IsChained (slice_index old) (slice_index new) chain
written_chain old new chain all = record {
  walks = λ from first. walks_from (slice_index new) chain from first (λ j below. all.written j (omega arith));
  others = λ word away. all.others word (λ j below same. away (subst (λ w. Contains (but_last chain) w) (sym same)
      (but_last_has chain j (omega arith))));
}
