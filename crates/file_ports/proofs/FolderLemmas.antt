-- A name's folder, from its split at the last slash.
use Rattle.std.proofs.Common.{◌≡◌, ◌==◌, ◌≢◌, ℕ, suc, ◌<◌, ◌≤◌, ◌+◌, List, [], ◌∷◌, ◌++◌, length, take, drop, get_or, Option, Some, None, MatchOption, Bor, sym, ap, subst, ◌∙◌, arith, ne_eqb, take-append-drop}
use Rattle.std.specs.Str.{NoCharPasses}
use Rattle.std.specs.Str.Pattern.{RFindsChar}
use Rattle.std.specs.Path.{HasNoSlash, slash}
use Rattle.std.proofs.lemmas.Str.Pattern.{NoCharPasses-char, drop_at_char}

has_none : (text : List ℕ) → ((i : ℕ) → i < length text → get_or text i 0 ≢ slash) → HasNoSlash text
has_none [] none = tt
has_none (b ∷ bs) none = rw (ne_eqb b slash (none 0 (omega arith))) (has_none bs (λ i l. none (suc i) (omega (l, arith))))

-- takes the clause of `rsplit_once` at a slash
pub parts_of : (name : List ℕ) (r : Option (Bor (List ℕ) × Bor (List ℕ)))
    → MatchOption r (RFindsChar slash name None) (λ x. (i : ℕ) × (j : ℕ) × RFindsChar slash name (Some (i, j)) × (x.0.now ≡ take i name)
    × (x.1.now ≡ drop j name) × (i ≤ j) × (length x.0.now ≡ i) × (length x.1.now + j ≡ length name))
    → MatchOption r (HasNoSlash name) (λ x. HasNoSlash x.1.now × (name ≡ x.0.now ++ slash ∷ x.1.now))
parts_of name None h = has_none name (λ i. NoCharPasses-char slash name i h (omega arith))
parts_of name (Some x) h = (
  has_none x.1.now (λ i. NoCharPasses-char slash x.1.now i (subst (NoCharPasses (λ d. d == slash)) (sym h.4) h.2.0) (omega arith)),
  sym (take-append-drop h.0 name) ∙ (λ k. sym h.3 k ++ (drop_at_char slash name h.0 h.1 h.2.1 (omega arith) ∙ ap (λ l. slash ∷ l) (sym h.4)) k),
)
