-- Whose each superblock is, after one changes hands.
use Rattle.std.proofs.Common.{◌≡◌, ◌≢◌, ℕ, ◌+◌, ◌<◌, inl, inr, Bool, true, false, nat_eq, List, get_or, set, length, refl, ap, sym, subst, ◌∙◌, eq-eqb, eqb-true, arith}
use Rattle.std.proofs.lemmas.Bool.{cases_eq}
use Rattle.std.proofs.lemmas.List.{get_or-set_same, get_or-set_other}
use Rattle.heap_model.specs.Counting.{times}
use Rattle.seat_state.specs.declared.superblocks.SuperblockUsage.{SuperblockUsage}
use Rattle.seat_state.specs.declared.superblocks.SuperblockUsage.TheVariants as usage
use Rattle.seat_state.specs.declared.superblocks.SuperblockOwner.{SuperblockOwner}
use Rattle.core_model.specs.View.{Claim, Span, times_classed, times_large}
use Rattle.seat_state.specs.Superblocks.{usage_for, no_superblock, IsUsage}
use Rattle.core_model.proofs.PlaceLemmas.{pick, skip, not-eq}

-- of a thing that seat i has another has nothing
pub usage_theirs : (i j : ℕ) (x : SuperblockUsage) → j ≢ i → usage_for j (record { seat = i; usage = x }) ≡ usage.Nothing
usage_theirs i j x other = skip (nat_eq i j) x usage.Nothing (not-eq i j (λ e. other (sym e)))

pub usage_own : (i : ℕ) (x : SuperblockUsage) → usage_for i (record { seat = i; usage = x }) ≡ x
usage_own i x = pick (nat_eq i i) x usage.Nothing (eq-eqb i i refl)

-- what seat i has after superblock d became its own, or no longer is
pub usages_mine : (owners : List SuperblockOwner) (i d : ℕ) (x : SuperblockUsage) (P : ℕ → SuperblockUsage → Type 0) → d < length owners → P d x
    → ((e : ℕ) → e ≢ d → P e (usage_for i (get_or owners e no_superblock)))
    → (e : ℕ) → P e (usage_for i (get_or (set owners d (record { seat = i; usage = x })) e no_superblock))
usages_mine owners i d x P less here others e = elim (cases_eq e d) [
  | inl same ↦ subst (λ n. P n (usage_for i (get_or (set owners d (record { seat = i; usage = x })) n no_superblock))) (sym same)
      (subst (P d) (sym (ap (usage_for i) (get_or-set_same owners d (record { seat = i; usage = x }) no_superblock less) ∙ usage_own i x)) here)
  | inr other ↦ subst (P e) (sym (ap (usage_for i) (get_or-set_other owners d e (record { seat = i; usage = x }) no_superblock other))) (others e other)
]

-- and what another has, which did not have it
pub usages_theirs : (owners : List SuperblockOwner) (i j d : ℕ) (x : SuperblockUsage) (P : ℕ → SuperblockUsage → Type 0) → d < length owners → j ≢ i
    → usage_for j (get_or owners d no_superblock) ≡ usage.Nothing
    → ((e : ℕ) → P e (usage_for j (get_or owners e no_superblock)))
    → (e : ℕ) → P e (usage_for j (get_or (set owners d (record { seat = i; usage = x })) e no_superblock))
usages_theirs owners i j d x P less apart none old e = elim (cases_eq e d) [
  | inl same ↦ subst (λ n. P n (usage_for j (get_or (set owners d (record { seat = i; usage = x })) n no_superblock))) (sym same)
      (subst (P d) (none ∙ sym (ap (usage_for j) (get_or-set_same owners d (record { seat = i; usage = x }) no_superblock less)
      ∙ usage_theirs i j x apart)) (old d))
  | inr other ↦ subst (P e) (sym (ap (usage_for j) (get_or-set_other owners d e (record { seat = i; usage = x }) no_superblock other))) (old e)
]

-- what one seat has another has not
pub usage_alone : (i j : ℕ) (o : SuperblockOwner) → j ≢ i → (usage_for i o ≡ usage.Nothing → ⊥) → usage_for j o ≡ usage.Nothing
usage_alone i j o other some = by_test (nat_eq o.seat i) refl where
  by_test : (test : Bool) → nat_eq o.seat i ≡ test → usage_for j o ≡ usage.Nothing
  by_test true e = skip (nat_eq o.seat j) o.usage usage.Nothing (not-eq o.seat j (λ h. other (sym h ∙ eqb-true o.seat i e)))
  by_test false e = absurd (some (skip (nat_eq o.seat i) o.usage usage.Nothing e))

-- a seat that claims nothing of a superblock, and has no large block there, has nothing of it
pub no_usage : (d : ℕ) (x : SuperblockUsage) (raw split cutting : List ℕ) (classed : List Claim) (large : List Span)
    → IsUsage d x raw split cutting classed large
    → times d raw + times d split + times d cutting ≡ 0 → times_classed d classed ≡ 0 → times_large d large ≡ 0 → x ≡ usage.Nothing
no_usage d usage.Nothing raw split cutting classed large is a b e = refl
no_usage d usage.Raw raw split cutting classed large is a b e = absurd (let n = is.is_raw in omega arith)
no_usage d usage.Split raw split cutting classed large is a b e = absurd (let n = is.is_split in omega arith)
no_usage d usage.Cutting raw split cutting classed large is a b e = absurd (let n = is.is_cutting in omega arith)
no_usage d (usage.Classed class) raw split cutting classed large is a b e = absurd (let n = is.is_classed in omega arith)
no_usage d (usage.Large count) raw split cutting classed large is a b e = absurd (let n = is.is_large in omega arith)
