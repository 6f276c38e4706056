-- The marked words are those whose mark is set.
use Rattle.std.specs.Prelude.{◌≡◌, ℕ, ◌+◌, ◌<◌, Bool, true, false, List, [], ◌∷◌, length, get_or, Contains, ◌↔◌, refl}
use Rattle.std.proofs.Common.{arith, subst, sym, ◌∙◌, suc, zero}
use Rattle.line_memory.specs.Marks.{marked_from, marked_words, IsMarked}

-- only a word of the list is marked
pub is_marked_within : (marks : List Bool) (k : ℕ) → IsMarked marks k → k < length marks
is_marked_within [] k m = absurd (cc)
is_marked_within (b ∷ marks) zero m = omega arith
is_marked_within (b ∷ marks) (suc k) m = let h = is_marked_within marks k m in omega arith

-- an element of the rest is one of the whole
contains_later : (y : ℕ) (ys : List ℕ) (x : ℕ) → Contains ys x → Contains (y ∷ ys) x
contains_later y ys x h = (suc h.0, omega (arith, h.1), h.2)

-- a marked word is listed
pub marked_from-has : (from : ℕ) (marks : List Bool) (k : ℕ) → IsMarked marks k → Contains (marked_from from marks) (from + k)
marked_from-has from [] k m = absurd (cc)
marked_from-has from (true ∷ marks) zero m = (0, omega arith, omega arith)
marked_from-has from (false ∷ marks) zero m = absurd (cc)
marked_from-has from (true ∷ marks) (suc k) m =
    let e : (from + 1) + k ≡ from + suc k = omega arith in
    contains_later from (marked_from (from + 1) marks) (from + suc k)
    (subst (λ (x : ℕ). Contains (marked_from (from + 1) marks) x) e (marked_from-has (from + 1) marks k m))
marked_from-has from (false ∷ marks) (suc k) m =
    let e : (from + 1) + k ≡ from + suc k = omega arith in
    subst (λ (x : ℕ). Contains (marked_from (from + 1) marks) x) e (marked_from-has (from + 1) marks k m)

-- one mark further on
marked_later : (from : ℕ) (b : Bool) (marks : List Bool) (x : ℕ) → (k : ℕ) × (x ≡ (from + 1) + k) × IsMarked marks k
    → (k : ℕ) × (x ≡ from + k) × IsMarked (b ∷ marks) k
marked_later from b marks x h = (suc h.0, omega (arith, h.1), h.2)

-- a listed word is marked
pub marked_from-only : (from : ℕ) (marks : List Bool) (x j : ℕ) → j < length (marked_from from marks)
    → get_or (marked_from from marks) j x ≡ x
    → (k : ℕ) × (x ≡ from + k) × IsMarked marks k
marked_from-only from [] x j l e = absurd (omega arith)
marked_from-only from (true ∷ marks) x zero l e = (0, omega arith, refl)
marked_from-only from (true ∷ marks) x (suc j) l e =
    marked_later from true marks x (marked_from-only (from + 1) marks x j (omega arith) e)
marked_from-only from (false ∷ marks) x j l e =
    marked_later from false marks x (marked_from-only (from + 1) marks x j l e)

-- a word is among the marked ones if its mark is set
pub marked_words-has : (marks : List Bool) (k : ℕ) → IsMarked marks k → Contains (marked_words marks) k
marked_words-has marks k m =
    let e : 0 + k ≡ k = omega arith in
    subst (λ (x : ℕ). Contains (marked_words marks) x) e (marked_from-has 0 marks k m)

-- and only if it is set
pub marked_words-only : (marks : List Bool) (k : ℕ) → Contains (marked_words marks) k → IsMarked marks k
marked_words-only marks k h =
    let found = marked_from-only 0 marks k h.0 h.1 h.2 in
    let e : found.0 ≡ k = omega (arith, found.1) in
    subst (λ (x : ℕ). IsMarked marks x) e found.2

-- two lists of marks that agree at a word
pub marked_words-same : (old new : List Bool) (k : ℕ) → get_or new k false ≡ get_or old k false
    → (Contains (marked_words new) k ↔ Contains (marked_words old) k)
marked_words-same old new k e = (
  (λ h. marked_words-has old k (sym e ∙ marked_words-only new k h)),
  (λ h. marked_words-has new k (e ∙ marked_words-only old k h)),
)

-- no mark, no word
marked_from-none : (from : ℕ) (marks : List Bool) → ((k : ℕ) → get_or marks k false ≡ false) → marked_from from marks ≡ []
marked_from-none from [] clear = refl
marked_from-none from (true ∷ marks) clear = let e = clear 0 in absurd (cc)
marked_from-none from (false ∷ marks) clear = marked_from-none (from + 1) marks (λ k. clear (suc k))

-- nor has a list of marks without one
pub marked_words-none : (marks : List Bool) → ((k : ℕ) → get_or marks k false ≡ false) → marked_words marks ≡ []
marked_words-none marks clear = marked_from-none 0 marks clear
