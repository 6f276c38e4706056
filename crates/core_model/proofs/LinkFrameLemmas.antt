-- What links and first words keep where one of them changes, and the superblocks that a large block takes.
use Rattle.std.proofs.Common.{◌≡◌, ℕ, ◌+◌, ◌<◌, ◌≤◌, inl, inr, cond, ◌&&◌, nat_eq, nat_lt, nat_le, List, [], ◌∷◌, refl, ap, sym, subst, eq-eqb, ne_eqb, le-leb, lt-ltb, arith}
use Rattle.std.proofs.lemmas.Bool.{cases_eq}
use Rattle.heap_model.specs.Chains.{Follows, Walks}
use Rattle.heap_model.specs.Counting.{times, one_if}
use Rattle.heap_model.proofs.CountingLemmas.{one_if_true}
use Rattle.core_model.proofs.PlaceLemmas.{and_is}
use Rattle.core_model.specs.Memory.{next}
use Rattle.core_model.specs.View.{Span, times_large}
use Rattle.core_model.specs.Effects.{span_count, last_of}
use Rattle.core_model.proofs.TotalLemmas.{eq-eqb-one}
use Rattle.core_model.proofs.BlockLemmas.{at_other}

-- a list that has not the descriptor does not see its link change
pub follows_frame : (links : ℕ → ℕ) (capacity d x from : ℕ) (ds : List ℕ) → times d ds ≡ 0 → Follows links capacity from ds
    → Follows (λ e. cond (nat_eq e d) x (links e)) capacity from ds
follows_frame links capacity d x from [] none f = f
follows_frame links capacity d x from (e ∷ ds) none f = (
  f.0,
  f.1,
  subst (λ n. Follows (λ y. cond (nat_eq y d) x (links y)) capacity n ds)
      (sym (at_other links d x e (λ same. let one = eq-eqb-one e d same in omega arith)))
      (follows_frame links capacity d x (links e) ds (omega arith) f.2),
)

-- a walk that has not the word does not see it change; nor does one whose last block it is
pub walks_frame : (next : ℕ → ℕ) (word x from : ℕ) (bs : List ℕ) → times word bs ≡ 0 → Walks next from bs
    → Walks (λ e. cond (nat_eq e word) x (next e)) from bs
walks_frame next word x from [] none w = tt
walks_frame next word x from (b ∷ bs) none w = (
  w.0,
  subst (λ n. Walks (λ y. cond (nat_eq y word) x (next y)) n bs)
      (sym (at_other next word x b (λ same. let one = eq-eqb-one b word same in omega arith)))
      (walks_frame next word x (next b) bs (omega arith) w.1),
)

last_there : (b : ℕ) (bs : List ℕ) → 0 < times (last_of (b ∷ bs)) (b ∷ bs)
last_there b [] = let one = eq-eqb-one b b refl in omega arith
last_there b (c ∷ bs) = let rest = last_there c bs in omega arith

pub walks_last : (next : ℕ → ℕ) (word x from : ℕ) (bs : List ℕ) → word ≡ last_of bs → times word bs ≤ 1 → Walks next from bs
    → Walks (λ e. cond (nat_eq e word) x (next e)) from bs
walks_last next word x from [] last most w = tt
walks_last next word x from (b ∷ []) last most w = (w.0, tt)
walks_last next word x from (b ∷ c ∷ bs) last most w =
    let there = last_there c bs in
    let at_word = ap (λ n. times n (c ∷ bs)) last in (
      w.0,
      subst (λ n. Walks (λ y. cond (nat_eq y word) x (next y)) n (c ∷ bs))
          (sym (at_other next word x b (λ same. let one = eq-eqb-one b word same in omega arith)))
          (walks_last next word x (next b) (c ∷ bs) last (omega arith) w.1),
    )

-- the superblocks of a held large block
pub span_covers : (d e : ℕ) (spans : List Span) → 0 < span_count d spans → d ≤ e → e < d + span_count d spans → 0 < times_large e spans
span_covers d e [] some low high = absurd (omega arith)
span_covers d e (span ∷ spans) some low high = elim (cases_eq span.first d) as (λ _. 0 < times_large e (span ∷ spans)) [
  | inl same ↦
      let count : span_count d (span ∷ spans) ≡ span.count = ap (λ t. cond t span.count (span_count d spans)) (eq-eqb span.first d same) in
      let one : one_if (nat_le span.first e && nat_lt e (span.first + span.count)) ≡ 1 =
      one_if_true (nat_le span.first e && nat_lt e (span.first + span.count))
      (and_is (nat_le span.first e) (nat_lt e (span.first + span.count)) (le-leb span.first e (omega (arith, same)))
      (lt-ltb e (span.first + span.count) (omega (arith, same)))) in omega arith
  | inr other ↦
      let count : span_count d (span ∷ spans) ≡ span_count d spans = ap (λ t. cond t span.count (span_count d spans)) (ne_eqb span.first d other) in
      let rest = span_covers d e spans (omega arith) low (omega arith) in omega arith
]
