-- Keys that ascend do so however their values are shown.
use Rattle.std.proofs.Common.{◌≡◌, ℕ, ◌<◌, ◌≤◌, List, [], ◌∷◌, length, get_or, sym, subst, arith}
use Rattle.std.specs.Prelude.{map}
use Rattle.std.specs.List.Sorted.{IsNonDecreasingBy}
use Rattle.std.proofs.lemmas.List.{get_or-map, length-map}
use denote.Ref.{Bor}
use Rattle.trace_text.specs.Shown.{shown}

pub ascending_shown : (xs : List (ℕ × Bor (List ℕ))) → IsNonDecreasingBy (λ (e : ℕ × Bor (List ℕ)). e.0) xs
    → IsNonDecreasingBy (λ (e : ℕ × List ℕ). e.0) (map shown xs)
ascending_shown [] rising i j d low below = absurd (omega arith)
ascending_shown (x ∷ xs) rising i j d low below =
    let long : length (map shown (x ∷ xs)) ≡ length (x ∷ xs) = length-map (x ∷ xs) shown in
    let inside : j < length (x ∷ xs) = omega arith in
    let first = get_or-map shown (x ∷ xs) i x d (omega arith) in
    let second = get_or-map shown (x ∷ xs) j x d inside in
    subst (λ (e : ℕ × List ℕ). e.0 ≤ (get_or (map shown (x ∷ xs)) j d).0) (sym first)
    (subst (λ (e : ℕ × List ℕ). (get_or (x ∷ xs) i x).0 ≤ e.0) (sym second) (rising i j x low inside))
