-- Texts cut at their first separator.
use Rattle.std.proofs.Common.{◌≡◌, ◌≢◌, ℕ, List, [], ◌∷◌, ◌++◌, get_or, refl, ap, ◌∙◌}
use Rattle.std.proofs.lemmas.List.Elements.{All-head, All-tail}
use Rattle.std.specs.List.{All}

-- texts that begin otherwise differ
pub heads_differ : (x y : ℕ) (a b : List ℕ) → x ∷ a ≡ y ∷ b → x ≢ y → ⊥
heads_differ x y a b same other = other (ap (λ (l : List ℕ). get_or l 0 0) same)

-- what is before the first separator, and what is behind it
pub same_parts : (s : ℕ) (a b x y : List ℕ) → All (λ c. c ≢ s) a → All (λ c. c ≢ s) b → a ++ s ∷ x ≡ b ++ s ∷ y → (a ≡ b) × (x ≡ y)
same_parts s [] [] x y free_a free_b same = (refl, cc)
same_parts s [] (d ∷ b) x y free_a free_b same = let first : d ≡ s = cc in absurd (All-head (λ c. c ≢ s) d b free_b first)
same_parts s (c ∷ a) [] x y free_a free_b same = let first : c ≡ s = cc in absurd (All-head (λ c. c ≢ s) c a free_a first)
same_parts s (c ∷ a) (d ∷ b) x y free_a free_b same =
    let rest : a ++ s ∷ x ≡ b ++ s ∷ y = cc in
    let parts = same_parts s a b x y (All-tail (λ c. c ≢ s) c a free_a) (All-tail (λ c. c ≢ s) d b free_b) rest in
    let head : c ≡ d = cc in
    (ap (λ (l : List ℕ). c ∷ l) parts.0 ∙ ap (λ n. n ∷ b) head, parts.1)

-- where a separator stands, some byte is it
pub has_separator : (s : ℕ) (a x : List ℕ) → All (λ c. c ≢ s) (a ++ s ∷ x) → ⊥
has_separator s [] x free = All-head (λ c. c ≢ s) s x free refl
has_separator s (c ∷ a) x free = has_separator s a x (All-tail (λ c. c ≢ s) c (a ++ s ∷ x) free)
