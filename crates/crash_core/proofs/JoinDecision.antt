-- When superblocks may become a large block, by what the core keeps.
use Rattle.std.proofs.Common.{◌≡◌, ◌≢◌, ℕ, ◌+◌, ◌<◌, ◌≤◌, ◌↔◌, inl, inr, true, cond, nat_eq, List, get_or, length, refl, ap, sym, ◌∙◌, eq-eqb, eqb-true, arith}
use Rattle.std.proofs.lemmas.Bool.{cases_eq}
use Rattle.heap_model.specs.Words.{anchor_state, large_info}
use Rattle.seat_state.specs.declared.notes.SeatNotes.{SeatNotes}
use Rattle.seat_state.specs.declared.superblocks.SuperblockUsage.{SuperblockUsage}
use Rattle.seat_state.specs.declared.superblocks.SuperblockUsage.TheVariants as usage
use Rattle.crash_core.specs.declared.state.CoreState.{CoreState}
use Rattle.core_model.specs.Memory.{info, anchor, durable_used, durable_info, memory_of}
use Rattle.core_model.specs.View.{Setup, View}
use Rattle.core_model.specs.Guards.{MayHoldLarge}
use Rattle.seat_state.specs.Superblocks.{usage_for, no_superblock, raw_in, split_in}
use Rattle.crash_core.specs.Standing.{IsSeatAt, IsKept, KeepsViews, MayJoin, memory_at}
use Rattle.core_model.proofs.PlaceLemmas.{pick, skip, not-eq}
use Rattle.crash_core.proofs.StandingLemmas.{memory_in}

module _ (c : CoreState) (k : Setup) (views : List View) (i : ℕ) (v : View) (t : SeatNotes) (keeps : KeepsViews c k views)
    (below_i : i < length views) (at : get_or views i v ≡ v)
    (at_t : IsSeatAt c i t) (d n : ℕ) where
  kept : IsKept c i t v
  kept = keeps.each i t v below_i at_t at

  same : memory_at c ≡ memory_in c k
  same = ap (λ m. memory_of m c.words.items) (sym keeps.capacity)

  pub large_none : n ≡ 0 → MayHoldLarge (memory_in c k) v d n → ⊥
  large_none none may = let s = may.some in omega arith

  pub large_past : durable_used (memory_at c) < d + n → MayHoldLarge (memory_in c k) v d n → ⊥
  large_past past may = let u = may.durable in let e = ap durable_used same in omega arith

  pub joins : (e : ℕ) → d ≤ e → e < d + n → MayHoldLarge (memory_in c k) v d n → MayJoin (memory_in c k) v d n e
  joins e low high may = record {
    claimed = may.claimed e low high;
    empty = may.empty e low high;
    holds = elim (cases_eq e d) as (λ _. info (memory_in c k) e ≡ cond (nat_eq e d) (large_info n) 0) [
      | inl here ↦ ap (info (memory_in c k)) here ∙ may.first ∙ sym (pick (nat_eq e d) (large_info n) 0 (eq-eqb e d here))
      | inr other ↦ may.others e (omega arith) high ∙ sym (skip (nat_eq e d) (large_info n) 0 (not-eq e d other))
    ];
    durable = may.durable_infos e low high;
  }

  pub all_join : 1 ≤ n → d + n ≤ durable_used (memory_at c) → ((e : ℕ) → d ≤ e → e < d + n → MayJoin (memory_in c k) v d n e)
      → MayHoldLarge (memory_in c k) v d n
  all_join some mark all = record {
    some = some;
    claimed = λ e low high. (all e low high).claimed;
    empty = λ e low high. (all e low high).empty;
    durable = (let e = ap durable_used same in omega arith);
    first = (all d (omega arith) (omega arith)).holds ∙ pick (nat_eq d d) (large_info n) 0 (eq-eqb d d refl);
    others = λ e low high. (all e (omega arith) high).holds ∙ skip (nat_eq e d) (large_info n) 0 (not-eq e d (λ h. omega (arith, h)));
    durable_infos = λ e low high. (all e low high).durable;
  }

  module _ (e wanted : ℕ) (wanted_is : wanted ≡ cond (nat_eq e d) (large_info n) 0) where
    pub other_info : (found : ℕ) → found ≡ info (memory_at c) e → found ≢ wanted → MayJoin (memory_in c k) v d n e → ⊥
    other_info found is differs may = differs (is ∙ ap (λ m. info m e) same ∙ may.holds ∙ sym wanted_is)

    pub unclaimed : (x : SuperblockUsage) → x ≡ usage_for i (get_or c.superblocks.items e no_superblock) → raw_in x + split_in x ≡ 0
        → MayJoin (memory_in c k) v d n e → ⊥
    unclaimed x is none may = let o = kept.superblocks e in let a = o.is_raw in let b = o.is_split in let g = may.claimed in
        let h = ap (λ y. raw_in y + split_in y) is in omega arith

    module _ (now kept_now : ℕ) (now_is : now ≡ info (memory_at c) e) (same_now : now ≡ wanted)
        (kept_is : kept_now ≡ durable_info (memory_at c) e) (same_kept : kept_now ≡ wanted) where
      info_now : info (memory_in c k) e ≡ cond (nat_eq e d) (large_info n) 0
      info_now = ap (λ m. info m e) (sym same) ∙ sym now_is ∙ same_now ∙ wanted_is

      durable_now : durable_info (memory_in c k) e ≡ info (memory_in c k) e
      durable_now = ap (λ m. durable_info m e) (sym same) ∙ sym kept_is ∙ same_kept ∙ sym same_now ∙ now_is ∙ ap (λ m. info m e) same

      pub join_split : usage.Split ≡ usage_for i (get_or c.superblocks.items e no_superblock) → MayJoin (memory_in c k) v d n e
      join_split is = let o = kept.superblocks e in let b = o.is_split in let h = ap split_in is in
          record { claimed = omega arith; empty = inr (omega arith); holds = info_now; durable = durable_now }

      pub join_raw : (state word : ℕ) → usage.Raw ≡ usage_for i (get_or c.superblocks.items e no_superblock) → state ≡ anchor_state word
          → word ≡ anchor (memory_at c) e → (nat_eq state 0 ≡ true) ↔ MayJoin (memory_in c k) v d n e
      join_raw state word is state_is word_is = (
        λ h. let o = kept.superblocks e in let a = o.is_raw in let f = ap raw_in is in
            record { claimed = omega arith; empty = inl (at_now ∙ eqb-true state 0 h); holds = info_now; durable = durable_now },
        λ may. eq-eqb state 0 (elim may.empty [
          | inl empty ↦ sym at_now ∙ empty
          | inr split ↦ absurd (let o = kept.superblocks e in let b = o.is_split in let f = ap split_in is in omega arith)
        ]),
      ) where
        at_now : anchor_state (anchor (memory_in c k) e) ≡ state
        at_now = ap (λ m. anchor_state (anchor m e)) (sym same) ∙ ap anchor_state (sym word_is) ∙ sym state_is
