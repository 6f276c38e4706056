-- The runs of a list have its numbers in its order, and no two of them could be one.
use Rattle.std.proofs.Common.{◌≡◌, ℕ, suc, ◌+◌, ◌-◌, ◌≤◌, Bool, true, false, cond, nat_eq, List, [], ◌∷◌, ◌++◌, refl, sym, ap, ◌∙◌, arith, eqb-true}
use Rattle.std.proofs.lemmas.Bool.{eqb-false}
use Rattle.std.specs.List.{flat_map, range_with_len}
use Rattle.trace_text.specs.Ranges.{Run, with_run, longest_runs, numbers_of, AreSeparate, none, one, more, AreLongestRuns}

abbrev single : ℕ → Run
single n = record { first = n; last = n }

abbrev from_to : ℕ → ℕ → Run
from_to first last = record { first = first; last = last }

-- the first of separate runs has a number
first_fits : (run : Run) (runs : List Run) → AreSeparate (run ∷ runs) → run.first ≤ run.last
first_fits run [] (one _ fits) = fits
first_fits run (next ∷ runs) (more _ _ _ fits apart rest) = fits

-- a run that begins earlier in place of the first one
begun_earlier : (n : ℕ) (run : Run) (runs : List Run) → n ≤ run.last → AreSeparate (run ∷ runs) → AreSeparate (from_to n run.last ∷ runs)
begun_earlier n run [] low (one _ fits) = one (from_to n run.last) low
begun_earlier n run (next ∷ runs) low (more _ _ _ fits apart rest) = more (from_to n run.last) next runs low apart rest

separate_by_test : (n : ℕ) (next : Run) (runs : List Run) (goes_on : Bool) → nat_eq next.first (n + 1) ≡ goes_on → AreSeparate (next ∷ runs)
    → AreSeparate (cond goes_on (from_to n next.last ∷ runs) (single n ∷ next ∷ runs))
separate_by_test n next runs true test sep =
    let is_next = eqb-true next.first (n + 1) test in
    let fits = first_fits next runs sep in
    begun_earlier n next runs (omega arith) sep
separate_by_test n next runs false test sep = more (single n) next runs (omega arith) (eqb-false next.first (n + 1) test) sep

with_run_separate : (n : ℕ) (runs : List Run) → AreSeparate runs → AreSeparate (with_run (single n) runs)
with_run_separate n [] sep = one (single n) (omega arith)
with_run_separate n (next ∷ runs) sep = separate_by_test n next runs (nat_eq next.first (n + 1)) refl sep

-- the numbers of a run of one, and of a run with one more in front
numbers_of-single : (n : ℕ) → numbers_of (single n) ≡ n ∷ []
numbers_of-single n = let count : n + 1 - n ≡ 1 = omega arith in ap (range_with_len n) count

numbers_of-earlier : (n first last : ℕ) → first ≡ n + 1 → first ≤ last → numbers_of (from_to n last) ≡ n ∷ numbers_of (from_to first last)
numbers_of-earlier n first last is fits =
    let count : last + 1 - n ≡ suc (last + 1 - first) = omega arith in
    ap (range_with_len n) count ∙ ap (λ k. n ∷ range_with_len k (last + 1 - first)) (sym is)

numbers_by_test : (n : ℕ) (next : Run) (runs : List Run) (goes_on : Bool) → nat_eq next.first (n + 1) ≡ goes_on → AreSeparate (next ∷ runs)
    → flat_map numbers_of (cond goes_on (from_to n next.last ∷ runs) (single n ∷ next ∷ runs)) ≡ n ∷ flat_map numbers_of (next ∷ runs)
numbers_by_test n next runs true test sep =
    ap (λ (l : List ℕ). l ++ flat_map numbers_of runs) (numbers_of-earlier n next.first next.last (eqb-true next.first (n + 1) test)
    (first_fits next runs sep))
numbers_by_test n next runs false test sep = ap (λ (l : List ℕ). l ++ flat_map numbers_of (next ∷ runs)) (numbers_of-single n)

with_run_numbers : (n : ℕ) (runs : List Run) → AreSeparate runs → flat_map numbers_of (with_run (single n) runs) ≡ n ∷ flat_map numbers_of runs
with_run_numbers n [] sep = ap (λ (l : List ℕ). l ++ []) (numbers_of-single n)
with_run_numbers n (next ∷ runs) sep = numbers_by_test n next runs (nat_eq next.first (n + 1)) refl sep

pub are_longest : (ns : List ℕ) → AreLongestRuns ns (longest_runs ns)
are_longest [] = record { numbers = refl; separate = none }
are_longest (n ∷ ns) =
    let rest = are_longest ns in
    record {
      numbers = with_run_numbers n (longest_runs ns) rest.separate ∙ ap (λ (l : List ℕ). n ∷ l) rest.numbers;
      separate = with_run_separate n (longest_runs ns) rest.separate;
    }
