-- When an anchor may be read, by what the core keeps.
use Rattle.std.proofs.Common.{◌≡◌, ◌≢◌, ℕ, ◌+◌, ◌<◌, ◌≤◌, ◌↔◌, inl, inr, true, nat_eq, List, get_or, length, sym, ◌∙◌, eq-eqb, eqb-true, arith}
use Rattle.seat_state.specs.declared.notes.SeatNotes.{SeatNotes}
use Rattle.seat_state.specs.declared.superblocks.SuperblockUsage.{SuperblockUsage}
use Rattle.crash_core.specs.declared.state.CoreState.{CoreState}
use Rattle.core_model.specs.View.{Setup, View}
use Rattle.core_model.specs.Guards.{MayLookAt}
use Rattle.seat_state.specs.Superblocks.{usage_for, no_superblock, raw_in, split_in, classed_in, IsUsage}
use Rattle.crash_core.specs.Standing.{IsSeatAt, IsKept, KeepsViews}
use Rattle.core_model.proofs.SoundLemmas.{taken, batched}
use Rattle.crash_core.proofs.StandingLemmas.{memory_in}
use Rattle.crash_core.proofs.PushDecision.{freely_not_cutting}

module _ (c : CoreState) (k : Setup) (views : List View) (i : ℕ) (v : View) (t : SeatNotes) (keeps : KeepsViews c k views)
    (below : i < length views) (at : get_or views i v ≡ v)
    (at_t : IsSeatAt c i t) (d : ℕ) where
  kept : IsKept c i t v
  kept = keeps.each i t v below at_t at

  abbrev x : SuperblockUsage
  x = usage_for i (get_or c.superblocks.items d no_superblock)

  s : IsUsage d x v.raw v.split v.cutting v.classed v.large
  s = kept.superblocks d

  pub anchor_beyond : c.geometry.capacity ≤ d → MayLookAt v d → ⊥
  anchor_beyond past (inl claimed) = let l = taken k (memory_in c k) views i v below at keeps.sound.good d (let g = claimed.claimed in
      omega arith) in let cap = keeps.capacity in absurd (omega arith)
  anchor_beyond past (inr batch) = let l = batched k (memory_in c k) views i v below at keeps.sound.good d batch.0 batch.1 in
      let cap = keeps.capacity in absurd (omega arith)

  pub anchor_freely : 0 < raw_in x + split_in x + classed_in x → MayLookAt v d
  anchor_freely some = inl (record {
    claimed = (let a = s.is_raw in let b = s.is_split in let f = s.is_classed in omega arith);
    not_cutting = s.is_cutting ∙ freely_not_cutting x some;
  })

  pub anchor_unbatched : raw_in x + split_in x + classed_in x ≡ 0 → t.batch.count ≡ 0 → MayLookAt v d → ⊥
  anchor_unbatched none empty (inl claimed) = let a = s.is_raw in let b = s.is_split in let e = s.is_cutting in let f = s.is_classed in
      let g = claimed.claimed in let h = claimed.not_cutting in absurd (omega arith)
  anchor_unbatched none empty (inr batch) = let n = kept.batch.count in let one = batch.1 in absurd (omega arith)

  pub anchor_batched : raw_in x + split_in x + classed_in x ≡ 0 → t.batch.count ≢ 0 → (nat_eq t.batch.descriptor d ≡ true) ↔ MayLookAt v d
  anchor_batched none some = (
    λ e. inr (kept.batch.descriptor ∙ eqb-true t.batch.descriptor d e, let n = kept.batch.count in omega arith),
    back,
  ) where
    back : MayLookAt v d → nat_eq t.batch.descriptor d ≡ true
    back (inl claimed) = let a = s.is_raw in let b = s.is_split in let e = s.is_cutting in let f = s.is_classed in let g = claimed.claimed in
        let h = claimed.not_cutting in absurd (omega arith)
    back (inr batch) = eq-eqb t.batch.descriptor d (sym kept.batch.descriptor ∙ batch.0)
