-- Eight bits of a word that are set at once.
use Rattle.std.proofs.Common.{◌≡◌, ◌≢◌, ℕ, zero, suc, ◌+◌, ◌-◌, ◌*◌, ◌/◌, ◌%◌, ◌^◌, ◌<◌, ◌≤◌, bit_or, inl, inr, Bool, true, false, List, get_or, set, nat_eq, length, refl, ap, sym, ◌∙◌, arith}
use Rattle.std.proofs.Math.Nat.{mul-div_cancel, mul_assoc, mul_comm, pow-suc}
use Rattle.std.proofs.Math.ListN.{get_or-eq_default}
use Rattle.std.proofs.lemmas.Bool.{cases_eq, cases_lt}
use Rattle.std.proofs.lemmas.List.{get_or-set_same, get_or-set_other}
use Rattle.std.proofs.lemmas.Nat.{pow-add, pow_pos, shr-shr}
use Rattle.std.proofs.lemmas.Nat.Bits.{bit_at_or, bit_at_ones, bit_at_ones_above, bit_at-lt}
use Rattle.std.specs.Int.{bit_at}
use Rattle.bit_marks.specs.Marks.{mark_in, is_one, marks_of}
use Rattle.bit_marks.proofs.MarkLemmas.{length_marks, mark_of_at, number_below}

shifted_bit : (a s i : ℕ) → bit_at (a * 2 ^ s) (s + i) ≡ bit_at a i
shifted_bit a s i = ap (λ x. x % 2) (sym (shr-shr (a * 2 ^ s) s i) ∙ ap (λ x. x / 2 ^ i) (mul-div_cancel a (pow_pos s)))

shifted_low : (a i d : ℕ) → bit_at (a * 2 ^ (suc d + i)) i ≡ 0
shifted_low a i d = ap (λ x. x % 2) (ap (λ x. x / 2 ^ i) whole ∙ mul-div_cancel (2 * (a * 2 ^ d)) (pow_pos i)) ∙ even (a * 2 ^ d) where
  even : (x : ℕ) → 2 * x % 2 ≡ 0
  even x = omega arith

  regroup : (p q : ℕ) → a * (p * 2 * q) ≡ 2 * (a * p) * q
  regroup p q = sym (mul_assoc a (p * 2) q) ∙ ap (λ x. x * q) (sym (mul_assoc a p 2) ∙ mul_comm (a * p) 2)

  whole : a * 2 ^ (suc d + i) ≡ 2 * (a * 2 ^ d) * 2 ^ i
  whole = ap (λ x. a * x) (pow-add 2 (suc d) i ∙ ap (λ x. x * 2 ^ i) (pow-suc 2 d)) ∙ regroup (2 ^ d) (2 ^ i)

-- the mask of eight bits from s on
mask_in : (s i : ℕ) → s ≤ i → i < s + 8 → bit_at (255 * 2 ^ s) i ≡ 1
mask_in s i from until = ap (bit_at (255 * 2 ^ s)) (let e : i ≡ s + (i - s) = omega arith in e) ∙ shifted_bit 255 s (i - s)
    ∙ bit_at_ones 8 (i - s) (omega arith)

mask_out : (s i : ℕ) → (s ≤ i → i < s + 8 → ⊥) → bit_at (255 * 2 ^ s) i ≡ 0
mask_out s i out = elim (cases_lt i s) as (λ _. bit_at (255 * 2 ^ s) i ≡ 0) [
  | inl less ↦ ap (λ n. bit_at (255 * 2 ^ n) i) (let e : s ≡ suc (s - i - 1) + i = omega arith in e) ∙ shifted_low 255 i (s - i - 1)
  | inr from ↦ elim (cases_lt i (s + 8)) as (λ _. bit_at (255 * 2 ^ s) i ≡ 0) [
    | inl until ↦ absurd (out (omega arith) until)
    | inr past ↦ ap (bit_at (255 * 2 ^ s)) (let e : i ≡ s + (i - s) = omega arith in e) ∙ shifted_bit 255 s (i - s)
        ∙ bit_at_ones_above 8 (i - s) (omega arith)
  ]
]

pub mask_fits : (j : ℕ) → j < 8 → 255 * 2 ^ (8 * j) % 18446744073709551616 ≡ 255 * 2 ^ (8 * j)
mask_fits zero less = refl
mask_fits (suc zero) less = refl
mask_fits (suc (suc zero)) less = refl
mask_fits (suc (suc (suc zero))) less = refl
mask_fits (suc (suc (suc (suc zero)))) less = refl
mask_fits (suc (suc (suc (suc (suc zero))))) less = refl
mask_fits (suc (suc (suc (suc (suc (suc zero)))))) less = refl
mask_fits (suc (suc (suc (suc (suc (suc (suc zero))))))) less = refl
mask_fits (suc (suc (suc (suc (suc (suc (suc (suc j)))))))) less = absurd (omega arith)

one_in : (w s i : ℕ) → s ≤ i → i < s + 8 → is_one (bit_or w (255 * 2 ^ s)) i ≡ true
one_in w s i from until = ap (λ b. nat_eq b 1) (let e : bit_at (bit_or w (255 * 2 ^ s)) i ≡ 1 =
    omega (arith, bit_at_or w (255 * 2 ^ s) i, mask_in s i from until, bit_at-lt w i) in e)

one_out : (w s i : ℕ) → (s ≤ i → i < s + 8 → ⊥) → is_one (bit_or w (255 * 2 ^ s)) i ≡ is_one w i
one_out w s i out = ap (λ b. nat_eq b 1) (let e : bit_at (bit_or w (255 * 2 ^ s)) i ≡ bit_at w i =
    omega (arith, bit_at_or w (255 * 2 ^ s) i, mask_out s i out) in e)

pub eight_there : (words : List ℕ) (below eight : ℕ) (marks : List Bool) → marks_of words below ≡ marks → 8 * eight < length marks
    → below ≤ 64 * length words → eight / 8 < length words
eight_there words below eight marks is less room = let b = number_below words below (8 * eight) marks is less in omega arith

module _ (words : List ℕ) (below eight word mask : ℕ) (there : eight / 8 < length words) (mask_is : mask ≡ 255 * 2 ^ (8 * (eight % 8)))
    (word_is : word ≡ get_or words (eight / 8) 0) where
  abbrev new : List ℕ
  new = set words (eight / 8) (bit_or word mask)

  new_word : (n : ℕ) → n / 64 ≡ eight / 8 → mark_in new n ≡ is_one (bit_or word (255 * 2 ^ (8 * (eight % 8)))) (n % 64)
  new_word n here = ap (λ k. is_one (get_or new k 0) (n % 64)) here
      ∙ ap (λ w. is_one w (n % 64)) (get_or-set_same words (eight / 8) (bit_or word mask) 0 there) ∙ ap (λ m. is_one (bit_or word m) (n % 64)) mask_is

  pub eight_long : length (marks_of new below) ≡ length (marks_of words below)
  eight_long = length_marks new 0 below ∙ sym (length_marks words 0 below)

  pub eight_inside : (n : ℕ) → n < below → n / 8 ≡ eight → get_or (marks_of new below) n false ≡ true
  eight_inside n less here = mark_of_at new below n less ∙ new_word n (omega arith) ∙ one_in word (8 * (eight % 8)) (n % 64) (omega arith) (omega arith)

  pub eight_others : (n : ℕ) → n / 8 ≢ eight → get_or (marks_of new below) n false ≡ get_or (marks_of words below) n false
  eight_others n other = elim (cases_lt n below) as (λ _. get_or (marks_of new below) n false ≡ get_or (marks_of words below) n false) [
    | inl less ↦ mark_of_at new below n less ∙ same ∙ sym (mark_of_at words below n less)
    | inr past ↦ get_or-eq_default (marks_of new below) false {n = n} (let l = length_marks new 0 below in omega arith)
        ∙ sym (get_or-eq_default (marks_of words below) false {n = n} (let l = length_marks words 0 below in omega arith))
  ] where
    same : mark_in new n ≡ mark_in words n
    same = elim (cases_eq (n / 64) (eight / 8)) as (λ _. mark_in new n ≡ mark_in words n) [
      | inl here ↦ new_word n here ∙ one_out word (8 * (eight % 8)) (n % 64) (λ from until. other (omega arith))
          ∙ ap (λ w. is_one w (n % 64)) word_is ∙ ap (λ k. is_one (get_or words k 0) (n % 64)) (sym here)
      | inr apart ↦ ap (λ w. is_one w (n % 64)) (get_or-set_other words (eight / 8) (n / 64) (bit_or word mask) 0 apart)
    ]
