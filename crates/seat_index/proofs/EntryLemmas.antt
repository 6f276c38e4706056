-- What is so of each entry of a list, as entries come to it or go.
use Rattle.std.proofs.Common.{◌≡◌, ℕ, zero, suc, ◌+◌, ◌<◌, ◌≤◌, inl, inr, List, [], ◌∷◌, ◌++◌, get_or, set, length, refl, ap, sym, subst, ◌∙◌, arith}
use Rattle.std.proofs.lemmas.Bool.{cases_eq, cases_lt}
use Rattle.std.proofs.lemmas.List.{get_or-set_same, get_or-set_other, get_or_append_left}

-- an entry more
pub entry_more : {A : Type 0} (P : ℕ → A → Type 0) (xs : List A) (i : ℕ) (x d : A) → i < length xs → ((n : ℕ) → n < i → P n (get_or xs n d))
    → P i x → (n : ℕ) → n < i + 1 → P n (get_or (set xs i x) n d)
entry_more P xs i x d inside before here n less = elim (cases_eq n i) as (λ _. P n (get_or (set xs i x) n d)) [
  | inl same ↦ subst (λ k. P k (get_or (set xs i x) k d)) (sym same) (subst (P i) (sym (get_or-set_same xs i x d inside)) here)
  | inr other ↦ subst (P n) (sym (get_or-set_other xs i n x d other)) (before n (omega arith))
]

past_end : {A : Type 0} (ys : List A) (k : ℕ) (d : A) → length ys ≤ k → get_or ys k d ≡ d
past_end [] k d past = refl
past_end (y ∷ ys) zero d past = absurd (omega arith)
past_end (y ∷ ys) (suc k) d past = past_end ys k d (omega arith)

-- and past the end there is nothing
pub entry_past : {A : Type 0} (P : ℕ → A → Type 0) (xs : List A) (i : ℕ) (d : A) → length xs ≤ i → ((n : ℕ) → n < i → P n (get_or xs n d))
    → ((n : ℕ) → length xs ≤ n → P n d) → (n : ℕ) → P n (get_or xs n d)
entry_past P xs i d long before past n = elim (cases_lt n i) [
  | inl less ↦ before n less
  | inr more ↦ subst (P n) (sym (past_end xs n d (omega arith))) (past n (omega arith))
]

-- a list with one more entry
snoc_at : {A : Type 0} (xs : List A) (x o : A) (i : ℕ) → i ≡ length xs → get_or (xs ++ x ∷ []) i o ≡ x
snoc_at [] x o zero is = refl
snoc_at [] x o (suc i) is = absurd (omega arith)
snoc_at (y ∷ ys) x o zero is = absurd (omega arith)
snoc_at (y ∷ ys) x o (suc i) is = snoc_at ys x o i (omega arith)

pub each_snoc : {A : Type 0} (P : ℕ → A → Type 0) (xs : List A) (x : A) (n : ℕ) → length xs ≡ n
    → ((i : ℕ) (o : A) → i < n → get_or xs i o ≡ o → P i o) → P n x
    → (i : ℕ) (o : A) → i < n + 1 → get_or (xs ++ x ∷ []) i o ≡ o → P i o
each_snoc P xs x n long before here i o less at = elim (cases_lt i n) [
  | inl early ↦ before i o early (sym (get_or_append_left xs (x ∷ []) o i (omega arith)) ∙ at)
  | inr late ↦ let last : i ≡ n = omega arith in subst (λ k. P k o) (sym last) (subst (P n) (sym (snoc_at xs x o i (last ∙ sym long)) ∙ at) here)
]

-- a list without its first entry
pub each_rest : {A : Type 0} (P : ℕ → A → Type 0) (old rest : List A) (x : A) (n : ℕ) → old ≡ x ∷ rest
    → ((k : ℕ) (o : A) → k < length old → get_or old k o ≡ o → P (n + k) o)
    → (P n x) × ((k : ℕ) (o : A) → k < length rest → get_or rest k o ≡ o → P (n + 1 + k) o)
each_rest P old rest x n is each = (
  subst (λ k. P k x) (let e : n + 0 ≡ n = omega arith in e) (each 0 x (let l = ap length is in omega arith) (ap (λ l. get_or l 0 x) is)),
  λ k o less at. subst (λ j. P j o) (let e : n + suc k ≡ n + 1 + k = omega arith in
      e) (each (suc k) o (let l = ap length is in omega arith) (ap (λ l. get_or l (suc k) o) is ∙ at)),
)
