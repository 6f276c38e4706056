-- Walks along blocks: where one begins, its prefix, and when two are one.
use Rattle.std.proofs.Common.{◌≡◌, ℕ, ◌≤◌, List, [], ◌∷◌, ◌++◌, length, Contains, refl, ap, sym, subst, ◌∙◌, arith}
use Rattle.heap_model.specs.Chains.{Walks}
use Rattle.heap_model.proofs.MemberLemmas.{in_head}

-- a walk along fewer blocks from where a longer one begins goes along its prefix
pub walk_prefix : (next : ℕ → ℕ) (from : ℕ) (xs ys : List ℕ) → Walks next from xs → Walks next from ys → length xs ≤ length ys
    → (rest : List ℕ) × (ys ≡ xs ++ rest)
walk_prefix next from [] ys walks all few = (ys, refl)
walk_prefix next from (x ∷ xs) [] walks all few = absurd (omega arith)
walk_prefix next from (x ∷ xs) (y ∷ ys) walks all few =
    let same : x ≡ y = sym walks.0 ∙ all.0 in
    let rest = walk_prefix next (next x) xs ys walks.1 (subst (λ z. Walks next (next z) ys) (sym same) all.1) (omega arith) in
    (rest.0, ap (λ z. z ∷ ys) (sym same) ∙ ap (λ zs. x ∷ zs) rest.1)

-- a walk that is not empty begins at its first block
pub walk_first : (next : ℕ → ℕ) (from : ℕ) (before : List ℕ) (last : ℕ) → Walks next from (before ++ last ∷ []) → Contains (before ++ last ∷ []) from
walk_first next from [] last walks = subst (λ x. Contains (last ∷ []) x) (sym walks.0) (in_head last [])
walk_first next from (x ∷ before) last walks = subst (λ y. Contains (x ∷ (before ++ last ∷ [])) y) (sym walks.0) (in_head x (before ++ last ∷ []))

-- where a walk begins
pub walk_begin : (next : ℕ → ℕ) (from : ℕ) (words : List ℕ) → Walks next from words → 1 ≤ length words → Contains words from
walk_begin next from [] walks some = absurd (omega arith)
walk_begin next from (w ∷ ws) walks some = subst (λ x. Contains (w ∷ ws) x) (sym walks.0) (in_head w ws)
