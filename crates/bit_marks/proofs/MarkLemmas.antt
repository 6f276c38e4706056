-- The marks of words as a list, and what a bit that is set or cleared makes of it.
use Rattle.std.proofs.Common.{◌≡◌, ◌≢◌, ℕ, zero, suc, ◌+◌, ◌*◌, ◌/◌, ◌%◌, ◌<◌, ◌≤◌, inl, inr, Bool, false, List, [], ◌∷◌, get_or, set, nat_eq, replicate, length, refl, ap, ap₂, sym, ◌∙◌, arith}
use Rattle.std.proofs.lemmas.Bool.{cases_eq, cases_lt}
use Rattle.std.proofs.lemmas.List.{get_or-set_same, get_or-set_other}
use Rattle.std.proofs.Math.ListN.{get_or-eq_default}
use Rattle.std.proofs.lemmas.Nat.Bits.{bit_at-zero}
use Rattle.bit_marks.specs.Marks.{mark_in, is_one, marks_from, marks_of}

pub length_marks : (words : List ℕ) (from n : ℕ) → length (marks_from words from n) ≡ n
length_marks words from zero = refl
length_marks words from (suc n) = ap suc (length_marks words (from + 1) n)

pub mark_at : (words : List ℕ) (from n i : ℕ) → i < n → get_or (marks_from words from n) i false ≡ mark_in words (from + i)
mark_at words from zero i less = absurd (omega arith)
mark_at words from (suc n) zero less = ap (mark_in words) (let e : from ≡ from + 0 = omega arith in e)
mark_at words from (suc n) (suc i) less = mark_at words (from + 1) n i (omega arith)
    ∙ ap (mark_in words) (let e : from + 1 + i ≡ from + suc i = omega arith in e)

-- words with the same marks but for one
pub with_mark : (old new : List ℕ) (from n k : ℕ) (mark : Bool) → k < n → mark_in new (from + k) ≡ mark
    → ((i : ℕ) → i ≢ from + k → mark_in new i ≡ mark_in old i)
    → marks_from new from n ≡ set (marks_from old from n) k mark
with_mark old new from zero k mark less here others = absurd (omega arith)
with_mark old new from (suc n) zero mark less here others = ap₂ (λ m l. m ∷ l) (ap (mark_in new) (let e : from ≡ from + 0 = omega arith in e)
    ∙ here) (same (from + 1) n (omega arith)) where
      same : (at m : ℕ) → from < at → marks_from new at m ≡ marks_from old at m
      same at zero past = refl
      same at (suc m) past = ap₂ (λ x l. x ∷ l) (others at (λ e. omega (arith, e))) (same (at + 1) m (omega arith))
with_mark old new from (suc n) (suc k) mark less here others = ap₂ (λ x l. x ∷ l) (others from (λ e. omega (arith, e)))
    (with_mark old new (from + 1) n k mark (omega arith) (ap (mark_in new) (let e : from + 1 + k ≡ from + suc k = omega arith in e) ∙ here)
    (λ i other. others i (λ e. other (e ∙ (let z : from + suc k ≡ from + 1 + k = omega arith in z)))))

-- one word changed at one bit
pub bit_changed : (words : List ℕ) (word n length' : ℕ) (mark : Bool) → n < length' → n / 64 < length words → is_one word (n % 64) ≡ mark
    → ((i : ℕ) → i < 64 → i ≢ n % 64 → is_one word i ≡ is_one (get_or words (n / 64) 0) i)
    → marks_of (set words (n / 64) word) length' ≡ set (marks_of words length') n mark
bit_changed words word n length' mark less inside here others = with_mark words (set words (n / 64) word) 0 length' n mark less
    (ap (mark_in (set words (n / 64) word)) none ∙ ap (λ w. is_one w (n % 64)) (get_or-set_same words (n / 64) word 0 inside) ∙ here)
    (λ i other. elim (cases_eq (i / 64) (n / 64)) as (λ _. mark_in (set words (n / 64) word) i ≡ mark_in words i) [
      | inl same ↦ ap (λ w. is_one w (i % 64)) (ap (λ k. get_or (set words (n / 64) word) k 0) same ∙ get_or-set_same words (n / 64) word 0 inside)
          ∙ others (i % 64) (omega arith) (λ e. other (omega (arith, e, same, none))) ∙ ap (λ k. is_one (get_or words k 0) (i % 64)) (sym same)
      | inr apart ↦ ap (λ w. is_one w (i % 64)) (get_or-set_other words (n / 64) (i / 64) word 0 apart)
    ]) where
      none : 0 + n ≡ n
      none = omega arith

-- words that are 0 have no marks
pub none_marked : (words : List ℕ) (from n : ℕ) → ((k : ℕ) → get_or words k 0 ≡ 0) → marks_from words from n ≡ replicate n false
none_marked words from zero none = refl
none_marked words from (suc n) none = ap₂ (λ x l. x ∷ l) (ap (λ w. is_one w (from % 64)) (none (from / 64))
    ∙ ap (λ b. nat_eq b 1) (bit_at-zero (from % 64))) (none_marked words (from + 1) n none)

-- the mark of a number below the length, whose word is there
pub mark_of_at : (words : List ℕ) (length' n : ℕ) → n < length' → get_or (marks_of words length') n false ≡ mark_in words n
mark_of_at words length' n less = mark_at words 0 length' n less ∙ ap (mark_in words) (let e : 0 + n ≡ n = omega arith in e)

-- a number that has a mark is below the length
pub number_below : (words : List ℕ) (length' n : ℕ) (marks : List Bool) → marks_of words length' ≡ marks → n < length marks → n < length'
number_below words length' n marks is less = let l = length_marks words 0 length' in let k = ap length is in omega arith

pub word_inside : (words : List ℕ) (length' n : ℕ) → n < length' → length' ≤ 64 * length words → n / 64 < length words
word_inside words length' n less room = omega arith

pub word_is : (words : List ℕ) (i x : ℕ) → i < length words → x ≡ get_or words i x → x ≡ get_or words i 0
word_is words i x less is = is ∙ whatever words i less where
  whatever : (ws : List ℕ) (k : ℕ) → k < length ws → get_or ws k x ≡ get_or ws k 0
  whatever [] k less = absurd (omega arith)
  whatever (w ∷ ws) zero less = refl
  whatever (w ∷ ws) (suc k) less = whatever ws k (omega arith)

pub zero_at : (n k : ℕ) → ◌≡◌ {A = ℕ} (get_or (replicate n 0) k 0) 0
zero_at zero k = refl
zero_at (suc n) zero = refl
zero_at (suc n) (suc k) = zero_at n k

-- a number that has no mark in the words has none
pub unmarked : (words : List ℕ) (length' n : ℕ) (marks : List Bool) → marks_of words length' ≡ marks → (n < length' → mark_in words n ≡ false)
    → get_or marks n false ≡ false
unmarked words length' n marks is none = ap (λ (l : List Bool). get_or l n false) (sym is)
    ∙ elim (cases_lt n length') as (λ _. get_or (marks_of words length') n false ≡ false) [
      | inl less ↦ mark_of_at words length' n less ∙ none less
      | inr past ↦ get_or-eq_default (marks_of words length') false {n = n} (let l = length_marks words 0 length' in omega arith)
    ]

-- the mark of a number, as a bit of its group's word
pub group_mark : (words : List ℕ) (n group word : ℕ) → n / 64 ≡ group → word ≡ get_or words group 0 → mark_in words n ≡ is_one word (n % 64)
group_mark words n group word here is = ap (λ k. is_one (get_or words k 0) (n % 64)) here ∙ ap (λ w. is_one w (n % 64)) (sym is)
