-- When the core may store to an own anchor, or to a word of an own block.
use Rattle.std.proofs.Common.{◌≡◌, ◌≢◌, ℕ, ◌+◌, ◌<◌, ◌↔◌, ◌⊎◌, inl, inr, true, nat_eq, List, get_or, length, ap, sym, ◌∙◌, eq-eqb, eqb-true, arith}
use Rattle.heap_model.specs.Counting.{times}
use Rattle.heap_model.specs.Words.{anchor_state}
use Rattle.crash_core.specs.declared.owners.BlockPlace.{BlockPlace}
use Rattle.crash_core.specs.declared.owners.BlockPlace.TheVariants as place
use Rattle.seat_state.specs.declared.notes.SeatNotes.{SeatNotes}
use Rattle.seat_state.specs.declared.superblocks.SuperblockUsage.{SuperblockUsage}
use Rattle.seat_state.specs.declared.superblocks.SuperblockUsage.TheVariants as usage
use Rattle.crash_core.specs.declared.state.CoreState.{CoreState}
use Rattle.core_model.specs.Memory.{anchor, memory_of}
use Rattle.core_model.specs.View.{Setup, View}
use Rattle.core_model.specs.Guards.{MayAnchor, as_empty, as_full, MayChangeWord}
use Rattle.seat_state.specs.Superblocks.{usage_for, no_superblock, split_in, cutting_in}
use Rattle.crash_core.specs.Standing.{IsSeatAt, place_for, cached_in, batched_in, no_block, IsKept, KeepsViews, memory_at}
use Rattle.crash_core.proofs.StandingLemmas.{memory_in}

module _ (c : CoreState) (k : Setup) (views : List View) (i : ℕ) (v : View) (t : SeatNotes) (keeps : KeepsViews c k views)
    (below : i < length views) (at : get_or views i v ≡ v)
    (at_t : IsSeatAt c i t) where
  kept_now : IsKept c i t v
  kept_now = keeps.each i t v below at_t at

  same_now : memory_at c ≡ memory_in c k
  same_now = ap (λ n. memory_of n c.words.items) (sym keeps.capacity)

  -- when an anchor may become a value
  anchor_of : (d value : ℕ) → value ≢ 0 → MayAnchor (memory_in c k) v d value → (value ≡ 2) × (times d v.cutting ≡ 0)
      × ((anchor_state (anchor (memory_in c k) d) ≡ 0) ⊎ (0 < times d v.split))
  anchor_of d value some (as_empty n none) = absurd (some none)
  anchor_of d value some (as_full n full uncut state) = (full, uncut, state)

  pub no_anchor : (d value : ℕ) → value ≢ 0 → value ≢ 2 → MayAnchor (memory_in c k) v d value → ⊥
  no_anchor d value some full may = full (anchor_of d value some may).0

  pub cutting_anchor : (d value : ℕ) → value ≢ 0 → usage.Cutting ≡ usage_for i (get_or c.superblocks.items d no_superblock)
      → MayAnchor (memory_in c k) v d value → ⊥
  cutting_anchor d value some is may = let o = (kept_now.superblocks d).is_cutting in let e = ap cutting_in is in
      let z = (anchor_of d value some may).1 in omega arith

  pub split_anchor : (d value : ℕ) → value ≡ 2 → usage.Split ≡ usage_for i (get_or c.superblocks.items d no_superblock)
      → MayAnchor (memory_in c k) v d value
  split_anchor d value full is = as_full value full (let o = (kept_now.superblocks d).is_cutting in let e = ap cutting_in is in
      omega arith) (inr (let o = (kept_now.superblocks d).is_split in let e = ap split_in is in omega arith))

  pub other_anchor : (d value state word : ℕ) (x : SuperblockUsage) → value ≢ 0 → value ≡ 2
      → x ≡ usage_for i (get_or c.superblocks.items d no_superblock) → cutting_in x + split_in x ≡ 0 → state ≡ anchor_state word
      → word ≡ anchor (memory_at c) d
      → (nat_eq state 0 ≡ true) ↔ MayAnchor (memory_in c k) v d value
  other_anchor d value state word x some full is none state_is word_is = (
    λ e. as_full value full (let o = (kept_now.superblocks d).is_cutting in let g = ap cutting_in is in omega arith) (inl (now ∙ eqb-true state 0 e)),
    λ may. eq-eqb state 0 (elim (anchor_of d value some may).2 [
      | inl empty ↦ sym now ∙ empty
      | inr split ↦ absurd (let o = (kept_now.superblocks d).is_split in let g = ap split_in is in omega arith)
    ]),
  ) where
    now : anchor_state (anchor (memory_in c k) d) ≡ state
    now = ap (λ n. anchor_state (anchor n d)) (sym same_now) ∙ ap anchor_state (sym word_is) ∙ sym state_is

  -- when a word may change
  pub change_free : (word : ℕ) (p : BlockPlace) → p ≡ place_for i (get_or c.blocks.items word no_block) → cached_in p + batched_in p ≡ 0
      → MayChangeWord v word
  change_free word p is none = let o = kept_now.blocks word in let e = ap cached_in is in let f = ap batched_in is in
      record { uncached = (let g = o.cached in omega arith); in_batch = inl (let g = o.batched in omega arith) }

  pub change_cached : (word : ℕ) → place.Cached ≡ place_for i (get_or c.blocks.items word no_block) → MayChangeWord v word → ⊥
  change_cached word is may = let o = kept_now.blocks word in let e = ap cached_in is in let g = o.cached in let u = may.uncached in omega arith

  pub change_batched : (word : ℕ) → place.Batched ≡ place_for i (get_or c.blocks.items word no_block)
      → (nat_eq word t.batch.last ≡ true) ↔ MayChangeWord v word
  change_batched word is = let o = kept_now.blocks word in let e = ap cached_in is in let f = ap batched_in is in (
    λ same_word. record {
      uncached = (let g = o.cached in omega arith);
      in_batch = inr (eqb-true word t.batch.last same_word ∙ sym kept_now.batch.last);
    },
    λ may. eq-eqb word t.batch.last (elim may.in_batch [
      | inl none ↦ absurd (let g = o.batched in omega arith)
      | inr last ↦ last
          ∙ kept_now.batch.last
    ]),
  )
