-- Runs of numbers, and lists without them.
use Rattle.std.proofs.Common.{◌≡◌, ◌≢◌, ℕ, zero, suc, ◌+◌, ◌*◌, ◌<◌, ◌≤◌, inl, inr, ◌⊎◌, Bool, true, false, cond, nat_eq, nat_lt, nat_le, ◌&&◌, List, [], ◌∷◌, Contains, refl, ap, sym, subst, ◌∙◌, eq-eqb, ne_eqb, le-leb, lt-ltb, leb-true, ltb-true, true≢false, arith}
use Rattle.std.proofs.lemmas.Bool.{cases_eq, cases_lt}
use Rattle.heap_model.specs.Geometry.{start_word}
use Rattle.heap_model.specs.Sizes.{words_of_class, blocks_of}
use Rattle.heap_model.specs.Counting.{times, one_if}
use Rattle.heap_model.proofs.CountingLemmas.{one_if_true, one_if_false}
use Rattle.heap_model.proofs.MemberLemmas.{head_or_rest, in_head, in_rest}
use Rattle.core_model.specs.View.{Span, takes, times_large}
use Rattle.core_model.specs.Effects.{steps, class_blocks, without_range, span_count, without_span}
use Rattle.core_model.specs.Sound.{IsCutBlock}
use Rattle.core_model.proofs.TotalLemmas.{ne-eqb-none}
use Rattle.core_model.proofs.PlaceLemmas.{and_both, and_is}
use Rattle.core_model.proofs.FrameLemmas.{times_steps, below_is, below_not}

-- a member of evenly spaced numbers
in_steps : (from apart n b : ℕ) → 0 < times b (steps from apart n) → (index : ℕ) × (index < n) × (b ≡ from + index * apart)
in_steps from apart zero b some = absurd (omega arith)
in_steps from apart (suc n) b some = elim (cases_eq from b) [
  | inl here ↦ (0, omega arith, sym here ∙ (let e : from ≡ from + 0 * apart = omega arith in e))
  | inr other ↦ let none = ne-eqb-none from b other in let rest = in_steps (from + apart) apart n b (omega arith) in
      (suc rest.0, omega (arith, rest.1), rest.2 ∙ (let e : from + apart + rest.0 * apart ≡ from + suc rest.0 * apart = grind arith in e))
]

pub block_of : (c class d b : ℕ) → 0 < times b (class_blocks c class d) → IsCutBlock c class d b
block_of c class d b some = let s = in_steps (start_word c d) (words_of_class class) (blocks_of class) b some in
    record { index = s.0; below = s.1; at = s.2 }

-- 1 in the range
abbrev pub in_range : ℕ → ℕ → ℕ → ℕ
in_range from n e = one_if (nat_le from e && nat_lt e (from + n))

pub range_is : (from n e : ℕ) → from ≤ e → e < from + n → in_range from n e ≡ 1
range_is from n e low high = one_if_true (nat_le from e && nat_lt e (from + n))
    (and_is (nat_le from e) (nat_lt e (from + n)) (le-leb from e low) (lt-ltb e (from + n) high))

pub range_not : (from n e : ℕ) → (from ≤ e → e < from + n → ⊥) → in_range from n e ≡ 0
range_not from n e out = one_if_false (nat_le from e && nat_lt e (from + n))
    (λ t. let both = and_both (nat_le from e) (nat_lt e (from + n)) t in out (leb-true from e both.0) (ltb-true e (from + n) both.1))

pub cases_range : (from n e : ℕ) → ((from ≤ e) × (e < from + n)) ⊎ (from ≤ e → e < from + n → ⊥)
cases_range from n e = elim (cases_lt e from) [
  | inl less ↦ inr (λ low high. omega arith)
  | inr low ↦ elim (cases_lt e (from + n)) [ inl high ↦ inl (low, high) | inr past ↦ inr (λ l h. omega arith) ]
]

pub times_range : (e from n : ℕ) → times e (steps from 1 n) ≡ in_range from n e
times_range e from n = let t = times_steps e from n in elim (cases_range from n e) [
  | inl inside ↦ let a = below_not e from inside.0 in let b = below_is e (from + n) inside.1 in let r = range_is from n e inside.0 inside.1 in
      omega arith
  | inr out ↦ let r = range_not from n e out in elim (cases_lt e from) [
    | inl less ↦ let a = below_is e from less in let b = below_is e (from + n) (omega arith) in omega arith
    | inr low ↦ elim (cases_lt e (from + n)) [
      | inl high ↦ absurd (out low high)
      | inr past ↦ let a = below_not e from low in
          let b = below_not e (from + n) past in omega arith
    ]
  ]
]

-- numbers of a range taken out
pub without_range_in : (e from n : ℕ) (xs : List ℕ) → from ≤ e → e < from + n → times e (without_range from n xs) ≡ 0
without_range_in e from n [] low high = refl
without_range_in e from n (x ∷ xs) low high = by_test (nat_le from x && nat_lt x (from + n)) refl (without_range_in e from n xs low high) where
  by_test : (test : Bool) → (nat_le from x && nat_lt x (from + n)) ≡ test → times e (without_range from n xs) ≡ 0
      → times e (cond test (without_range from n xs) (x ∷ without_range from n xs)) ≡ 0
  by_test true t rest = rest
  by_test false t rest = elim (cases_eq x e) as (λ _. one_if (nat_eq x e) + times e (without_range from n xs) ≡ 0) [
    | inl same ↦ absurd (true≢false (sym (and_is (nat_le from x) (nat_lt x (from + n)) (le-leb from x (omega (arith, same)))
        (lt-ltb x (from + n) (omega (arith, same)))) ∙ t))
    | inr other ↦ let none = ne-eqb-none x e other in omega arith
  ]

pub without_range_out : (e from n : ℕ) (xs : List ℕ) → (from ≤ e → e < from + n → ⊥) → times e (without_range from n xs) ≡ times e xs
without_range_out e from n [] out = refl
without_range_out e from n (x ∷ xs) out = by_test (nat_le from x && nat_lt x (from + n)) refl (without_range_out e from n xs out) where
  by_test : (test : Bool) → (nat_le from x && nat_lt x (from + n)) ≡ test → times e (without_range from n xs) ≡ times e xs
      → times e (cond test (without_range from n xs) (x ∷ without_range from n xs)) ≡ one_if (nat_eq x e) + times e xs
  by_test true t rest = let both = and_both (nat_le from x) (nat_lt x (from + n)) t in
      let none = ne-eqb-none x e (λ same. out (let l = leb-true from x both.0 in
      omega (arith, same, l)) (let h = ltb-true x (from + n) both.1 in omega (arith, same, h))) in omega arith
  by_test false t rest = omega arith

-- a large block taken out
pub without_span_is : (e d : ℕ) (spans : List Span) → 1 ≤ span_count d spans
    → times_large e (without_span d spans) + in_range d (span_count d spans) e ≡ times_large e spans
without_span_is e d [] some = absurd (omega arith)
without_span_is e d (span ∷ spans) some = elim (cases_eq span.first d) as
    (λ _. times_large e (cond (nat_eq span.first d) spans (span ∷ without_span d spans)) + in_range d
    (cond (nat_eq span.first d) span.count (span_count d spans)) e ≡ one_if (takes e span) + times_large e spans) [
      | inl same ↦ subst (λ t. times_large e (cond t spans (span ∷ without_span d spans)) + in_range d
          (cond t span.count (span_count d spans)) e ≡ one_if (takes e span) + times_large e spans) (sym (eq-eqb span.first d same))
          (let here = ap (λ x. one_if (nat_le x e && nat_lt e (x + span.count))) same in omega arith)
      | inr other ↦ subst (λ t. times_large e (cond t spans (span ∷ without_span d spans)) + in_range d
          (cond t span.count (span_count d spans)) e ≡ one_if (takes e span) + times_large e spans) (sym (ne_eqb span.first d other))
          (let rest = without_span_is e d spans (let c : span_count d (span ∷ spans) ≡ span_count d spans =
          ap (λ t. cond t span.count (span_count d spans)) (ne_eqb span.first d other) in omega arith) in omega arith)
    ]

pub span_other : (e d : ℕ) (spans : List Span) → e ≢ d → span_count e (without_span d spans) ≡ span_count e spans
span_other e d [] other = refl
span_other e d (span ∷ spans) other = elim (cases_eq span.first d) as
    (λ _. span_count e (cond (nat_eq span.first d) spans (span ∷ without_span d spans)) ≡ cond (nat_eq span.first e) span.count (span_count e spans)) [
      | inl same ↦ subst (λ t. span_count e (cond t spans (span ∷ without_span d spans)) ≡ cond (nat_eq span.first e) span.count
          (span_count e spans)) (sym (eq-eqb span.first d same))
          (sym (ap (λ t. cond t span.count (span_count e spans)) (ne_eqb span.first e (λ z. other (sym z ∙ same)))))
      | inr apart ↦ subst (λ t. span_count e (cond t spans (span ∷ without_span d spans)) ≡ cond (nat_eq span.first e) span.count
          (span_count e spans)) (sym (ne_eqb span.first d apart))
          (ap (λ n. cond (nat_eq span.first e) span.count n) (span_other e d spans other))
    ]

pub span_member : (d : ℕ) (spans : List Span) (x : Span) → Contains (without_span d spans) x → Contains spans x
span_member d [] x p = p
span_member d (span ∷ spans) x p = by_test (nat_eq span.first d) p (span_member d spans x) where
  by_test : (test : Bool) → Contains (cond test spans (span ∷ without_span d spans)) x → (Contains (without_span d spans) x → Contains spans x)
      → Contains (span ∷ spans) x
  by_test true q rest = in_rest span x spans q
  by_test false q rest = elim (head_or_rest span x (without_span d spans) q)
      [ inl same ↦ subst (λ y. Contains (span ∷ spans) y) same (in_head span spans) | inr later ↦ in_rest span x spans (rest later) ]
