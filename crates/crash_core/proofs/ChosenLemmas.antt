-- What a block that goes takes out of a seat's lists.
use Rattle.std.proofs.Common.{◌≡◌, ◌≢◌, ℕ, zero, suc, ◌<◌, ◌≤◌, inl, inr, Bool, true, false, not, cond, nat_eq, List, [], ◌∷◌, Contains, get_or, refl, ap, sym, ◌∙◌, eqb-true, arith}
use Rattle.std.proofs.lemmas.Bool.{cases_eq}
use Rattle.heap_model.specs.Counting.{one_if, times, total}
use Rattle.heap_model.proofs.MemberLemmas.{in_head, in_rest}
use Rattle.core_model.specs.View.{Span, takes, times_large}
use Rattle.core_model.specs.Effects.{span_count}
use Rattle.core_model.specs.Splitting.{chosen_lists, chosen_spans}
use Rattle.core_model.proofs.PlaceLemmas.{not-eq}
use Rattle.core_model.proofs.ChosenLemmas.{all_of_it}
use Rattle.core_model.proofs.RangeLemmas.{range_is}

-- the block itself goes
pub class_goes : (b class : ℕ) (xss : List (List ℕ)) → times b (get_or (chosen_lists (λ x. nat_eq x b) xss) class []) ≡ times b (get_or xss class [])
class_goes b class [] = refl
class_goes b zero (xs ∷ xss) = all_of_it b xs
class_goes b (suc class) (xs ∷ xss) = class_goes b class xss

-- a block of the lists is in one of them
pub in_some : (b : ℕ) (xss : List (List ℕ)) → 0 < total (times b) xss → (class : ℕ) × (0 < times b (get_or xss class []))
in_some b [] some = absurd (omega arith)
in_some b (xs ∷ xss) some = elim (cases_eq (times b xs) 0) [
  | inl none ↦ let rest = in_some b xss (omega (arith, some, none)) in (suc rest.0, rest.1)
  | inr here ↦ (0, omega (arith, here))
]

takes_first : (d : ℕ) (span : Span) → span.first ≡ d → 1 ≤ span.count → one_if (takes d span) ≡ 1
takes_first d span same some = range_is span.first span.count d (omega (arith, same)) (omega (arith, same, some))

-- where no large block takes the superblock, none begins there
pub no_spans : (d : ℕ) (spans : List Span) → ((span : Span) → Contains spans span → 1 ≤ span.count) → times_large d spans ≡ 0
    → (chosen_spans (λ x. nat_eq x d) spans ≡ []) × (chosen_spans (λ x. not (nat_eq x d)) spans ≡ spans)
no_spans d [] some none = (refl, refl)
no_spans d (span ∷ spans) some none = by_test (nat_eq span.first d) refl
    (no_spans d spans (λ x there. some x (in_rest span x spans there)) (omega (arith, none))) where
      by_test : (t : Bool) → nat_eq span.first d ≡ t → (chosen_spans (λ x. nat_eq x d) spans ≡ []) × (chosen_spans (λ x. not (nat_eq x d)) spans ≡ spans)
          → (cond t (span ∷ chosen_spans (λ x. nat_eq x d) spans) (chosen_spans (λ x. nat_eq x d) spans) ≡ [])
          × (cond (not t) (span ∷ chosen_spans (λ x. not (nat_eq x d)) spans) (chosen_spans (λ x. not (nat_eq x d)) spans) ≡ span ∷ spans)
      by_test true e rest = absurd (let one = takes_first d span (eqb-true span.first d e) (some span (in_head span spans)) in omega (arith, one, none))
      by_test false e rest = (rest.0, ap (λ l. span ∷ l) rest.1)

-- of spans of which at most one takes the superblock, the one that begins there
pub one_span : (d : ℕ) (spans : List Span) → ((span : Span) → Contains spans span → 1 ≤ span.count) → times_large d spans ≤ 1 → 0 < span_count d spans
    → chosen_spans (λ x. nat_eq x d) spans ≡ record { first = d; count = span_count d spans } ∷ []
one_span d [] some most there = absurd (omega (arith, there))
one_span d (span ∷ spans) some most there = by_test (nat_eq span.first d) refl (one_span d spans later (omega (arith, most))) where
  later : (x : Span) → Contains spans x → 1 ≤ x.count
  later x in_them = some x (in_rest span x spans in_them)

  by_test : (t : Bool) → nat_eq span.first d ≡ t → (0 < span_count d spans
      → chosen_spans (λ x. nat_eq x d) spans ≡ record { first = d; count = span_count d spans } ∷ [])
      → cond t (span ∷ chosen_spans (λ x. nat_eq x d) spans) (chosen_spans (λ x. nat_eq x d) spans) ≡ record {
        first = d;
        count = cond (nat_eq span.first d) span.count (span_count d spans);
      } ∷ []
  by_test true e rest =
      let here = takes_first d span (eqb-true span.first d e) (some span (in_head span spans)) in
      let none = (no_spans d spans later (omega (arith, here, most))).0 in
      ap (λ l. span ∷ l) none ∙ ap (λ (x : Span). x ∷ []) (λ i. record { first = eqb-true span.first d e i; count = span.count })
      ∙ ap (λ t. record { first = d; count = cond t span.count (span_count d spans) } ∷ []) (sym e)
  by_test false e rest =
      rest (ap_count e) ∙ ap (λ t. record { first = d; count = cond t span.count (span_count d spans) } ∷ []) (sym e) where
        ap_count : nat_eq span.first d ≡ false → 0 < span_count d spans
        ap_count e = let s = ap (λ t. cond t span.count (span_count d spans)) e in omega (arith, there, s)

-- what is left has no span that begins there, and all others
pub count_left : (d e : ℕ) (spans : List Span) → e ≢ d → span_count e (chosen_spans (λ x. not (nat_eq x d)) spans) ≡ span_count e spans
count_left d e [] apart = refl
count_left d e (span ∷ spans) apart = by_test (nat_eq span.first d) refl (count_left d e spans apart) where
  by_test : (t : Bool) → nat_eq span.first d ≡ t → span_count e (chosen_spans (λ x. not (nat_eq x d)) spans) ≡ span_count e spans
      → span_count e (cond (not t) (span ∷ chosen_spans (λ x. not (nat_eq x d)) spans) (chosen_spans (λ x. not (nat_eq x d)) spans)) ≡ cond
      (nat_eq span.first e) span.count (span_count e spans)
  by_test true same rest = rest ∙ sym (ap (λ t. cond t span.count (span_count e spans))
      (not-eq span.first e (λ h. apart (sym h ∙ eqb-true span.first d same))))
  by_test false same rest = ap (λ n. cond (nat_eq span.first e) span.count n) rest

pub none_left : (d : ℕ) (spans : List Span) → span_count d (chosen_spans (λ x. not (nat_eq x d)) spans) ≡ 0
none_left d [] = refl
none_left d (span ∷ spans) = by_test (nat_eq span.first d) refl (none_left d spans) where
  by_test : (t : Bool) → nat_eq span.first d ≡ t → span_count d (chosen_spans (λ x. not (nat_eq x d)) spans) ≡ 0
      → span_count d (cond (not t) (span ∷ chosen_spans (λ x. not (nat_eq x d)) spans) (chosen_spans (λ x. not (nat_eq x d)) spans)) ≡ 0
  by_test true same rest = rest
  by_test false same rest = ap (λ t. cond t span.count (span_count d (chosen_spans (λ x. not (nat_eq x d)) spans))) same ∙ rest
