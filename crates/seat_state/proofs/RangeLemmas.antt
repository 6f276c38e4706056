-- Whose each superblock is, after those of a range change hands.
use Rattle.std.proofs.Common.{◌≡◌, ◌≢◌, ℕ, ◌+◌, ◌<◌, ◌≤◌, inl, inr, List, get_or, ap, sym, subst, ◌∙◌}
use Rattle.seat_state.specs.declared.superblocks.SuperblockUsage.{SuperblockUsage}
use Rattle.seat_state.specs.declared.superblocks.SuperblockUsage.TheVariants as usage
use Rattle.seat_state.specs.declared.superblocks.SuperblockOwner.{SuperblockOwner}
use Rattle.seat_state.specs.Superblocks.{usage_for, no_superblock, IsRange}
use Rattle.seat_state.proofs.UsageLemmas.{usage_own, usage_theirs}
use Rattle.core_model.proofs.RangeLemmas.{cases_range}

pub range_mine : (old new : List SuperblockOwner) (i from n : ℕ) (x : SuperblockUsage) (P : ℕ → SuperblockUsage → Type 0)
    → IsRange old new from n (record { seat = i; usage = x })
    → ((d : ℕ) → from ≤ d → d < from + n → P d x) → ((d : ℕ) → (from ≤ d → d < from + n → ⊥) → P d (usage_for i (get_or old d no_superblock)))
    → (d : ℕ) → P d (usage_for i (get_or new d no_superblock))
range_mine old new i from n x P range inside outside d = elim (cases_range from n d) [
  | inl here ↦ subst (P d) (sym (ap (usage_for i) (range.inside d here.0 here.1) ∙ usage_own i x)) (inside d here.0 here.1)
  | inr other ↦ subst (P d) (sym (ap (usage_for i) (range.outside d other))) (outside d other)
]

pub range_theirs : (old new : List SuperblockOwner) (i j from n : ℕ) (x : SuperblockUsage) (P : ℕ → SuperblockUsage → Type 0) → j ≢ i
    → IsRange old new from n (record { seat = i; usage = x })
    → ((d : ℕ) → from ≤ d → d < from + n → usage_for j (get_or old d no_superblock) ≡ usage.Nothing)
    → ((d : ℕ) → P d (usage_for j (get_or old d no_superblock)))
    → (d : ℕ) → P d (usage_for j (get_or new d no_superblock))
range_theirs old new i j from n x P apart range none before d = elim (cases_range from n d) [
  | inl here ↦ subst (P d) (none d here.0 here.1 ∙ sym (ap (usage_for j) (range.inside d here.0 here.1) ∙ usage_theirs i j x apart)) (before d)
  | inr other ↦ subst (P d) (sym (ap (usage_for j) (range.outside d other))) (before d)
]
