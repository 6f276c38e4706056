-- What a view shows of a store, a push or a give, the seat may do.
use Rattle.std.proofs.Common.{◌≡◌, ℕ, ◌<◌, ◌⊎◌, inl, inr, refl, ◌∙◌, lt-ltb, arith}
use Rattle.std.proofs.lemmas.Bool.{cases_eq}
use Rattle.heap_model.specs.Words.{anchor_state, head_first, empty_state, partial_state, full_state}
use Rattle.core_model.specs.Cells.{Cell, used_cell, head_cell, info_cell, anchor_cell, link_cell, root_cell, data_cell, no_cell}
use Rattle.core_model.specs.Memory.{Memory, memory_of, anchor}
use Rattle.core_model.specs.View.{View}
use Rattle.core_model.specs.Effects.{seen_word, seen_of, last_of}
use Rattle.core_model.specs.Guards.{IsOwn, MayAnchor, as_empty as may_empty, as_full as may_full, MayStore, MayList, as_free as may_free, of_its_class as may_its_class, MayPush, MayGive}
use Rattle.heap_table.specs.Plays.{HasSoundState}
use Rattle.heap_rule.specs.Shown.{CanAnchor, as_empty, as_full, CanStore, CanList, as_free, of_its_class, CanPush, CanGive}
use Rattle.heap_rule.proofs.ViewLemmas.{shown, empty_shown}
use Rattle.seat_index.proofs.ViewBlocks.{below_capacity, block_cell}
use Rattle.seat_state.proofs.EndLemmas.{last_there}

module _ (v : View) (s : HasSoundState v) where
  abbrev m : Memory
  m = memory_of v.setup.capacity s.words

  anchor_may : (d value : ℕ) → IsOwn v (anchor_cell d) → CanAnchor v d value → MayAnchor m v d value
  anchor_may d value own as_empty = may_empty value refl
  anchor_may d value own (as_full whole is) = may_full value refl whole (elim is [
    | inl shows ↦ inl (empty_shown v s d (omega arith) shows)
    | inr split ↦ inr split
  ])

  pub store_may : (cell : Cell) (value : ℕ) → IsOwn v cell → CanStore v cell value → MayStore m v cell value
  store_may used_cell value own can = tt
  store_may (head_cell list) value own can = tt
  store_may (info_cell d) value own can = tt
  store_may (anchor_cell d) value own can = anchor_may d value own can
  store_may (link_cell d) value own can = can
  store_may (root_cell n) value own can = tt
  store_may (data_cell word) value own can = can
  store_may no_cell value own can = tt

  -- an anchor that is not full is partial or empty
  not_full : (word : ℕ) → anchor_state word < full_state → (anchor_state word ≡ partial_state) ⊎ (anchor_state word ≡ empty_state)
  not_full word less = elim (cases_eq (anchor_state word) partial_state) [ inl partial ↦ inl partial | inr other ↦ inr (omega (arith, other)) ]

  list_may : (d list : ℕ) → CanList v d list → MayList m v d list
  list_may d list (as_free free shows) = may_free list refl free (empty_shown v s d (let c = free.claimed in omega arith) shows)
  list_may d list (of_its_class class is classed of) = let claim = (s.sound.good.claims s.seat v s.below s.at).is_classed d classed in
      may_its_class list (λ none. let some = is.some in omega (arith, none)) classed (claim.1 ∙ of) (not_full (anchor m d) claim.2)

  pub push_may : (d : ℕ) → CanPush v d → MayPush m v d
  push_may d can = record {
    is_seen = can.is_seen;
    durable = let floor = (s.sound.good.knows s.seat v s.below s.at).floor in let low = can.durable in omega arith;
    linked = shown v s (link_cell d) (head_first (seen_word v.seen_head)) (lt-ltb d v.setup.capacity (below_capacity v s d can.durable)) can.linked;
    listed = list_may d (seen_of v.seen_head) can.listed;
  }

  pub give_may : (d : ℕ) → CanGive v d → MayGive m v d
  give_may d can = record {
    batch = can.batch;
    some = can.some;
    is_seen = can.is_seen;
    of = can.of;
    linked = λ some. shown v s (data_cell (last_of v.batch.blocks)) _
        (block_cell v s (last_of v.batch.blocks) (let there = last_there v.batch.blocks can.some in omega arith)) (can.linked some);
  }
