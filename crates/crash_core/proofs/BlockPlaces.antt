-- Whose each block is, after one changes hands.
use Rattle.std.proofs.Common.{◌≡◌, ◌≢◌, ℕ, ◌+◌, ◌<◌, inl, inr, Bool, true, false, nat_eq, List, get_or, set, length, refl, ap, sym, subst, ◌∙◌, eq-eqb, eqb-true, arith}
use Rattle.std.proofs.lemmas.Bool.{cases_eq}
use Rattle.std.proofs.lemmas.List.{get_or-set_same, get_or-set_other}
use Rattle.heap_model.specs.Counting.{times, total}
use Rattle.crash_core.specs.declared.owners.BlockPlace.{BlockPlace}
use Rattle.crash_core.specs.declared.owners.BlockPlace.TheVariants as place
use Rattle.crash_core.specs.declared.owners.BlockOwner.{BlockOwner}
use Rattle.crash_core.specs.Standing.{place_for, no_block, IsPlace}
use Rattle.core_model.proofs.PlaceLemmas.{pick, skip, not-eq}

pub place_theirs : (i j : ℕ) (x : BlockPlace) → j ≢ i → place_for j (record { seat = i; place = x }) ≡ place.Nowhere
place_theirs i j x other = skip (nat_eq i j) x place.Nowhere (not-eq i j (λ e. other (sym e)))

pub place_own : (i : ℕ) (x : BlockPlace) → place_for i (record { seat = i; place = x }) ≡ x
place_own i x = pick (nat_eq i i) x place.Nowhere (eq-eqb i i refl)

pub places_mine : (owners : List BlockOwner) (i b : ℕ) (x : BlockPlace) (P : ℕ → BlockPlace → Type 0) → b < length owners → P b x
    → ((e : ℕ) → e ≢ b → P e (place_for i (get_or owners e no_block)))
    → (e : ℕ) → P e (place_for i (get_or (set owners b (record { seat = i; place = x })) e no_block))
places_mine owners i b x P less here others e = elim (cases_eq e b) [
  | inl same ↦ subst (λ n. P n (place_for i (get_or (set owners b (record { seat = i; place = x })) n no_block))) (sym same)
      (subst (P b) (sym (ap (place_for i) (get_or-set_same owners b (record { seat = i; place = x }) no_block less) ∙ place_own i x)) here)
  | inr other ↦ subst (P e) (sym (ap (place_for i) (get_or-set_other owners b e (record { seat = i; place = x }) no_block other))) (others e other)
]

pub places_theirs : (owners : List BlockOwner) (i j b : ℕ) (x : BlockPlace) (P : ℕ → BlockPlace → Type 0) → b < length owners → j ≢ i
    → place_for j (get_or owners b no_block) ≡ place.Nowhere
    → ((e : ℕ) → P e (place_for j (get_or owners e no_block)))
    → (e : ℕ) → P e (place_for j (get_or (set owners b (record { seat = i; place = x })) e no_block))
places_theirs owners i j b x P less apart none old e = elim (cases_eq e b) [
  | inl same ↦ subst (λ n. P n (place_for j (get_or (set owners b (record { seat = i; place = x })) n no_block))) (sym same)
      (subst (P b) (none ∙ sym (ap (place_for j) (get_or-set_same owners b (record { seat = i; place = x }) no_block less)
      ∙ place_theirs i j x apart)) (old b))
  | inr other ↦ subst (P e) (sym (ap (place_for j) (get_or-set_other owners b e (record { seat = i; place = x }) no_block other))) (old e)
]

pub place_alone : (i j : ℕ) (o : BlockOwner) → j ≢ i → (place_for i o ≡ place.Nowhere → ⊥) → place_for j o ≡ place.Nowhere
place_alone i j o other some = by_test (nat_eq o.seat i) refl where
  by_test : (test : Bool) → nat_eq o.seat i ≡ test → place_for j o ≡ place.Nowhere
  by_test true e = skip (nat_eq o.seat j) o.place place.Nowhere (not-eq o.seat j (λ h. other (sym h ∙ eqb-true o.seat i e)))
  by_test false e = absurd (some (skip (nat_eq o.seat i) o.place place.Nowhere e))

-- a block that is not the seat's is nowhere
pub no_place : (b : ℕ) (x : BlockPlace) (small caches : List (List ℕ)) (batch : List ℕ) → IsPlace b x small caches batch
    → total (times b) small + total (times b) caches + times b batch ≡ 0 → x ≡ place.Nowhere
no_place b place.Nowhere small caches batch is none = refl
no_place b place.Held small caches batch is none = absurd (let n = is.held in omega arith)
no_place b place.Cached small caches batch is none = absurd (let n = is.cached in omega arith)
no_place b place.Batched small caches batch is none = absurd (let n = is.batched in omega arith)
