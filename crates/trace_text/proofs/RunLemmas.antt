-- The longest runs of a list, found from its front.
use Rattle.std.proofs.Common.{◌≡◌, ◌≢◌, ℕ, suc, ◌+◌, ◌<◌, Bool, true, false, cond, nat_eq, List, [], ◌∷◌, ◌++◌, length, drop, get_or, refl, sym, ap, ◌∙◌, append_assoc, add-one, drop-cons, eq-eqb}
use Rattle.std.proofs.lemmas.Bool.{ne_eqb, cond-true, cond-false}
use Rattle.std.specs.List.{flat_map}
use Rattle.trace_text.specs.Ranges.{Run, with_run, longest_runs, run_text}

abbrev run : ℕ → ℕ → Run
run first last = record { first = first; last = last }

-- the text of the runs of a list before which a run has begun
abbrev pub runs_text : ℕ → ℕ → List ℕ → List ℕ
runs_text first last ns = flat_map run_text (with_run (run first last) (longest_runs ns))

-- a number that goes on from the run makes it longer
next_by_test : (first last : ℕ) (next : Run) (runs : List Run) (goes_on : Bool) → nat_eq next.first (last + 1 + 1) ≡ goes_on
    → with_run (run first last) (cond goes_on (run (last + 1) next.last ∷ runs) (run (last + 1) (last + 1) ∷ next ∷ runs))
    ≡ cond goes_on (run first next.last ∷ runs) (run first (last + 1) ∷ next ∷ runs)
next_by_test first last next runs true e = cond-true (nat_eq (last + 1) (last + 1)) _ _ (eq-eqb _ _ refl)
next_by_test first last next runs false e = cond-true (nat_eq (last + 1) (last + 1)) _ _ (eq-eqb _ _ refl)

with_run-next : (first last : ℕ) (runs : List Run) → with_run (run first last) (with_run (run (last + 1) (last + 1)) runs) ≡ with_run
    (run first (last + 1)) runs
with_run-next first last [] = cond-true (nat_eq (last + 1) (last + 1)) _ _ (eq-eqb _ _ refl)
with_run-next first last (next ∷ runs) = next_by_test first last next runs (nat_eq next.first (last + 1 + 1)) refl

-- another number begins a run of its own
apart_by_test : (first last n : ℕ) (next : Run) (runs : List Run) (goes_on : Bool) → nat_eq n (last + 1) ≡ false
    → with_run (run first last) (cond goes_on (run n next.last ∷ runs) (run n n ∷ next ∷ runs))
    ≡ run first last ∷ cond goes_on (run n next.last ∷ runs) (run n n ∷ next ∷ runs)
apart_by_test first last n next runs true apart = cond-false (nat_eq n (last + 1)) _ _ apart
apart_by_test first last n next runs false apart = cond-false (nat_eq n (last + 1)) _ _ apart

with_run-apart : (first last n : ℕ) (runs : List Run) → nat_eq n (last + 1) ≡ false
    → with_run (run first last) (with_run (run n n) runs) ≡ run first last ∷ with_run (run n n) runs
with_run-apart first last n [] apart = cond-false (nat_eq n (last + 1)) _ _ apart
with_run-apart first last n (next ∷ runs) apart = apart_by_test first last n next runs (nat_eq next.first (n + 1)) apart

-- the number at the front of a rest
rest_at : (ns : List ℕ) (i n : ℕ) → i < length ns → n ≡ get_or ns i 0 → drop i ns ≡ n ∷ drop (i + 1) ns
rest_at ns i n within is = drop-cons ns i 0 within ∙ ap (λ (k : ℕ). k ∷ drop (suc i) ns) (sym is) ∙ ap (λ k. n ∷ drop k ns) (sym (add-one i))

pub runs_text-next : (first last n i : ℕ) (ns : List ℕ) → i < length ns → n ≡ get_or ns i 0 → n ≡ last + 1
    → runs_text first last (drop i ns) ≡ runs_text first n (drop (i + 1) ns)
runs_text-next first last n i ns within is next =
    ap (runs_text first last) (rest_at ns i n within is)
    ∙ ap (λ k. runs_text first last (k ∷ drop (i + 1) ns)) next
    ∙ ap (flat_map run_text) (with_run-next first last (longest_runs (drop (i + 1) ns)))
    ∙ ap (λ k. runs_text first k (drop (i + 1) ns)) (sym next)

pub runs_text-apart : (first last n i : ℕ) (ns : List ℕ) → i < length ns → n ≡ get_or ns i 0 → n ≢ last + 1
    → runs_text first last (drop i ns) ≡ run_text (run first last) ++ runs_text n n (drop (i + 1) ns)
runs_text-apart first last n i ns within is apart =
    ap (runs_text first last) (rest_at ns i n within is)
    ∙ ap (flat_map run_text) (with_run-apart first last n (longest_runs (drop (i + 1) ns)) (ne_eqb n (last + 1) apart))

-- what is written and what is left to write stay the whole text
pub next_step : (first last n i : ℕ) (ns written whole : List ℕ) → i < length ns → n ≡ get_or ns i 0 → n ≡ last + 1
    → written ++ runs_text first last (drop i ns) ≡ whole → written ++ runs_text first n (drop (i + 1) ns) ≡ whole
next_step first last n i ns written whole within is next before =
    ap (λ (l : List ℕ). written ++ l) (sym (runs_text-next first last n i ns within is next)) ∙ before

pub apart_step : (first last n i : ℕ) (ns old new whole : List ℕ) → i < length ns → n ≡ get_or ns i 0 → n ≢ last + 1
    → old ++ runs_text first last (drop i ns) ≡ whole → new ≡ old ++ run_text (record { first = first; last = last })
    → new ++ runs_text n n (drop (i + 1) ns) ≡ whole
apart_step first last n i ns old new whole within is apart before written =
    let rest = runs_text n n (drop (i + 1) ns) in
    ap (λ (l : List ℕ). l ++ rest) written
    ∙ append_assoc old (run_text (run first last)) rest
    ∙ ap (λ (l : List ℕ). old ++ l) (sym (runs_text-apart first last n i ns within is apart))
    ∙ before
