-- What a crash or a close leaves of a sound state, and what a seat's view tells of it.
use Rattle.std.proofs.Common.{◌≡◌, ◌≢◌, ◌*◌, ◌<◌, ℕ, inl, inr, cond, true, nat_eq, nat_lt, nat_le, length, slice_index, Option, None, refl, ap, sym, subst, ◌∙◌, lt-ltb, ltb-true, leb-true, arith}
use Rattle.heap_model.specs.declared.block.Block.{Block}
use Rattle.heap_model.specs.Blocks.{Names}
use Rattle.heap_model.specs.Durability.{IsTransient, is_head, is_anchor, is_link}
use Rattle.heap_model.specs.Geometry.{IsFixed, in_header, in_descriptor, image_words, superblocks_end, lists, start_word, state_word, dirty, clean}
use Rattle.heap_model.specs.Header.{IsWellFormed, HasKindsBelow, capacity_of, header_fault}
use Rattle.heap_model.specs.Image.{Image}
use Rattle.core_model.specs.Cells.{Cell, used_cell, head_cell, info_cell, anchor_cell, link_cell, root_cell, data_cell, no_cell, cell_at, is_cell, index_of}
use Rattle.core_model.specs.Guards.{IsOwn}
use Rattle.core_model.specs.Held.{IsHeld, IsHeldBy, volatile_image, durable_image}
use Rattle.core_model.specs.View.{View, times_own}
use Rattle.core_model.proofs.HeaderLemmas.{crash_header, closed_header, kind_lasts}
use Rattle.core_model.proofs.HeldLemmas.{crash_names, closed_names, firm}
use Rattle.heap_model.proofs.HeaderLemmas.{header_lasts}
use Rattle.core_model.proofs.PlaceLemmas.{and_both, cell_at_index, cell_there, index_at, not-eq, pick, skip}
use Rattle.heap_rule.specs.Left.{HasDurableRecords, HasFixedWordsButState, HasTransients, HasVolatileRecords, IsCloseOf, IsCrashOf, Lasts, an_info, a_root, a_data, MayBeLeft, mixed, crashed, closed, MixesLasting}
use Rattle.heap_table.specs.Plays.{HasSoundState}
use Rattle.core_model.proofs.TableLemmas.{fixed_below}
use Rattle.heap_rule.proofs.SeatImageLemmas.{image_fixed, image_mixes, kept_recorded, mixed_header, now_recorded}
use Rattle.heap_rule.proofs.SettleLemmas.{own_index, own_there}

-- the word of a cell that lasts is none that a crash leaves with any value
lasting : (c : ℕ) (cell : Cell) → is_cell c cell ≡ true → Lasts cell → (word : ℕ) → index_of cell ≡ word → IsTransient c word → ⊥
lasting c cell is (an_info d) word at (is_head list w few same) = omega (arith, at, same, few)
lasting c cell is (an_info d) word at (is_anchor e w less same) = omega (arith, at, same)
lasting c cell is (an_info d) word at (is_link e w less same) = omega (arith, at, same)
lasting c cell is (a_root n) word at (is_head list w few same) = omega (arith, at, same, few)
lasting c cell is (a_root n) word at (is_anchor e w less same) = omega (arith, at, same, ltb-true n 1024 is)
lasting c cell is (a_root n) word at (is_link e w less same) = omega (arith, at, same, ltb-true n 1024 is)
lasting c cell is (a_data x) word at (is_head list w few same) =
    omega (arith, at, same, few, leb-true (start_word c 0) x (and_both (nat_le (start_word c 0) x) (nat_lt x (superblocks_end c)) is).0)
lasting c cell is (a_data x) word at (is_anchor e w less same) =
    omega (arith, at, same, less, leb-true (start_word c 0) x (and_both (nat_le (start_word c 0) x) (nat_lt x (superblocks_end c)) is).0)
lasting c cell is (a_data x) word at (is_link e w less same) =
    omega (arith, at, same, less, leb-true (start_word c 0) x (and_both (nat_le (start_word c 0) x) (nat_lt x (superblocks_end c)) is).0)

-- nor is a word that no step changes
fixed_lasts : (c word : ℕ) → IsFixed c word → IsTransient c word → ⊥
fixed_lasts c word (inl low) (is_head list w few same) = omega (arith, same, low)
fixed_lasts c word (inl low) (is_anchor e w less same) = omega (arith, same, low)
fixed_lasts c word (inl low) (is_link e w less same) = omega (arith, same, low)
fixed_lasts c word (inr (inl (in_header x behind before other (inl low)))) (is_head list w few same) = omega (arith, same, low)
fixed_lasts c word (inr (inl (in_header x behind before other (inr high)))) (is_head list w few same) = omega (arith, same, high, few)
fixed_lasts c word (inr (inl (in_header x behind before other list))) (is_anchor e w less same) = omega (arith, same, before)
fixed_lasts c word (inr (inl (in_header x behind before other list))) (is_link e w less same) = omega (arith, same, before)
fixed_lasts c word (inr (inl (in_descriptor d at x less low high is))) (is_head list w few same) = omega (arith, same, is, few)
fixed_lasts c word (inr (inl (in_descriptor d at x less low high is))) (is_anchor e w less' same) = omega (arith, same, is, low, high)
fixed_lasts c word (inr (inl (in_descriptor d at x less low high is))) (is_link e w less' same) = omega (arith, same, is, low, high)
fixed_lasts c word (inr (inr kind)) lost = kind_lasts c word kind lost

-- the state is no seat's own
own_not_state : (v : View) (word : ℕ) → IsOwn v (cell_at v.setup.capacity word) → word ≢ state_word
own_not_state v word own same = let none : 0 < times_own v (cell_at v.setup.capacity 3) =
    subst (λ n. 0 < times_own v (cell_at v.setup.capacity n)) same own in omega arith

module _ (v : View) (s : HasSoundState v) where
  pub kept_capacity : capacity_of (durable_image v.setup.capacity s.words) ≡ v.setup.capacity
  kept_capacity = pick (nat_lt 2 (image_words v.setup.capacity)) _ _ (lt-ltb 2 (image_words v.setup.capacity) (omega arith))
      ∙ (s.sound.fixed 2 (inl (omega arith))).1 ∙ s.sound.capacity

  lasts : (word : ℕ) → IsOwn v (cell_at v.setup.capacity word) → Lasts (cell_at v.setup.capacity word)
      → IsTransient (capacity_of (durable_image v.setup.capacity s.words)) word → ⊥
  lasts word own last lost = lasting v.setup.capacity (cell_at v.setup.capacity word) (own_there v word own) last word (own_index v word own)
      (subst (λ c. IsTransient c word) kept_capacity lost)

-- what a crash leaves has the durable records, and what a close leaves the volatile ones
pub crash_durable : (v : View) (image : Image) → IsCrashOf v image → HasDurableRecords v image
crash_durable v image is = record {
  each = λ word own last value shows. is.crash.others word (own_not_state v word own) (lasts v is.has word own last)
      ∙ kept_recorded v is.has word own value shows;
}

pub close_volatile : (v : View) (image : Image) → IsCloseOf v image → HasVolatileRecords v image
close_volatile v image is = record {
  each = λ word own value shows. is.close.others word (own_not_state v word own) ∙ now_recorded v is.has word own value shows;
}

holder : (v : View) (s : HasSoundState v) (b : Block) → IsHeld v b → IsHeldBy s.views b
holder v s b held = record { seat = s.seat; view = v; below = s.below; at = s.at; holds = held }

-- of each kind of what may be left
module _ (v : View) (image : Image) where
  pub left_named : MayBeLeft v image → (b : Block) → IsHeld v b → Names image (8 * b.first_word) b
  left_named (mixed is) b held = (firm v.setup is.has.words is.has.views is.has.sound).each image is.mixed b (holder v is.has b held)
  left_named (crashed is) b held = crash_names v.setup is.has.words is.has.views is.has.sound image is.crash b (holder v is.has b held)
  left_named (closed is) b held = closed_names v.setup is.has.words is.has.views is.has.sound image is.close b (holder v is.has b held)

  pub left_mixes : MayBeLeft v image → MixesLasting v image
  left_mixes (mixed is) = record { each = λ word own last. (image_mixes v image is).each word own }
  left_mixes (crashed is) = record { each = λ word own last. inr ((crash_durable v image is).each word own last) }
  left_mixes (closed is) = record { each = λ word own last. inl ((close_volatile v image is).each word own) }

  pub left_fixed : MayBeLeft v image → HasFixedWordsButState v.setup image
  left_fixed (mixed is) = record { each = λ word fixed other. (image_fixed v image is).each word fixed }
  left_fixed (crashed is) = record {
    each = λ word fixed other. is.crash.others word other (λ lost. fixed_lasts v.setup.capacity word fixed
        (subst (λ c. IsTransient c word) (kept_capacity v is.has) lost))
        ∙ pick (nat_lt word (image_words v.setup.capacity)) _ _ (lt-ltb word (image_words v.setup.capacity)
        (fixed_below v.setup.capacity word fixed)) ∙ (is.has.sound.fixed word fixed).1;
  }
  left_fixed (closed is) = record {
    each = λ word fixed other. is.close.others word other
        ∙ pick (nat_lt word (image_words v.setup.capacity)) _ _ (lt-ltb word (image_words v.setup.capacity)
        (fixed_below v.setup.capacity word fixed)) ∙ (is.has.sound.fixed word fixed).0;
  }

  pub left_good : MayBeLeft v image → IsWellFormed (8 * length v.setup.opened) (slice_index v.setup.opened) → (limit : Option ℕ)
      → HasKindsBelow limit (slice_index v.setup.opened) → header_fault limit (8 * image_words v.setup.capacity) image ≡ None
  left_good (mixed is) good = mixed_header v.setup is.has.words is.has.views is.has.sound image is.mixed good
  left_good (crashed is) good = crash_header v.setup is.has.words is.has.views is.has.sound image is.crash good
  left_good (closed is) good = closed_header v.setup is.has.words is.has.views is.has.sound image is.close good

-- a head, an anchor or a link has any value, another word the kept one
crash_value : Cell → ℕ → ℕ → ℕ
crash_value (head_cell list) any kept = any
crash_value (anchor_cell d) any kept = any
crash_value (link_cell d) any kept = any
crash_value cell any kept = kept

-- it is the kept one, where a crash does not leave the word with any value
crash_kept : (c word : ℕ) (cell : Cell) → is_cell c cell ≡ true → index_of cell ≡ word → (IsTransient c word → ⊥) → (any kept : ℕ)
    → crash_value cell any kept ≡ kept
unfolding crash_value
crash_kept c word used_cell is at last any kept = refl
crash_kept c word (head_cell list) is at last any kept = absurd (last (is_head list word (ltb-true list lists is) (sym at)))
crash_kept c word (info_cell d) is at last any kept = refl
crash_kept c word (anchor_cell d) is at last any kept = absurd (last (is_anchor d word (ltb-true d c is) (sym at)))
crash_kept c word (link_cell d) is at last any kept = absurd (last (is_link d word (ltb-true d c is) (sym at)))
crash_kept c word (root_cell n) is at last any kept = refl
crash_kept c word (data_cell x) is at last any kept = refl
crash_kept c word no_cell is at last any kept = refl

crash_left : (c word : ℕ) → (IsTransient c word → ⊥) → (any kept : ℕ) → crash_value (cell_at c word) any kept ≡ kept
unfolding crash_value
crash_left c word last any kept = elim (cell_there c word) [
  | inl there ↦ crash_kept c word (cell_at c word) there (index_at c word there) last any kept
  | inr nowhere ↦ ap (λ cell. crash_value cell any kept) nowhere
]

-- it is any, where a crash does
crash_any : (c word : ℕ) → IsTransient c word → (any kept : ℕ) → crash_value (cell_at c word) any kept ≡ any
unfolding crash_value
crash_any c word (is_head list w few same) any kept = ap (λ n. crash_value (cell_at c n) any kept) same
    ∙ ap (λ cell. crash_value cell any kept) (cell_at_index c (head_cell list) (lt-ltb list lists few))
crash_any c word (is_anchor d w less same) any kept = ap (λ n. crash_value (cell_at c n) any kept) same
    ∙ ap (λ cell. crash_value cell any kept) (cell_at_index c (anchor_cell d) (lt-ltb d c less))
crash_any c word (is_link d w less same) any kept = ap (λ n. crash_value (cell_at c n) any kept) same
    ∙ ap (λ cell. crash_value cell any kept) (cell_at_index c (link_cell d) (lt-ltb d c less))

module _ (v : View) (s : HasSoundState v) where
  pub some_crash : (any : ℕ → ℕ) → (image : Image) × IsCrashOf v image × HasTransients v.setup.capacity any image
  some_crash any = (
    λ word. cond (nat_eq word state_word) dirty (crash_value (cell_at v.setup.capacity word) (any word) (durable_image v.setup.capacity s.words word)),
    record {
      has = s;
      crash = record {
        state = refl;
        others = λ word other last. skip (nat_eq word state_word) _ _ (not-eq word state_word other)
            ∙ crash_left v.setup.capacity word (λ lost. last (subst (λ c. IsTransient c word) (sym (kept_capacity v s)) lost)) (any word)
            (durable_image v.setup.capacity s.words word);
      };
    },
    record {
      each = λ word lost. skip (nat_eq word state_word) _ _ (not-eq word state_word (λ e. header_lasts v.setup.capacity word (omega (arith, e)) lost))
          ∙ crash_any v.setup.capacity word lost (any word) (durable_image v.setup.capacity s.words word);
    },
  )

  pub some_close : (image : Image) × IsCloseOf v image
  some_close = (
    λ word. cond (nat_eq word state_word) clean (volatile_image v.setup.capacity s.words word),
    record { has = s; close = record { state = refl; others = λ word other. skip (nat_eq word state_word) _ _ (not-eq word state_word other) } },
  )
