-- A store to an anchor, and to any own word.
use Rattle.std.proofs.Common.{◌≡◌, ◌≢◌, ℕ, zero, suc, ◌+◌, ◌<◌, inl, inr, cond, nat_eq, List, get_or, set, length, None, refl, ap, sym, subst, ◌∙◌, arith}
use Rattle.std.proofs.lemmas.Bool.{cases_eq, cases_lt}
use Rattle.heap_model.specs.Words.{anchor_state, empty_state, partial_state, full_state, full_anchor}
use Rattle.heap_model.specs.Counting.{times, one_if, without}
use Rattle.core_model.specs.Cells.{Cell, used_cell, head_cell, info_cell, anchor_cell, link_cell, root_cell, data_cell, no_cell, cell_at}
use Rattle.core_model.specs.Memory.{Memory, volatile_at, used, anchor, write}
use Rattle.core_model.specs.View.{Setup, View, times_raw, times_classed, times_large}
use Rattle.core_model.specs.Effects.{stored, stored_anchor}
use Rattle.core_model.specs.Guards.{IsThere, IsOwn, MayStore, MayAnchor, as_empty, as_full}
use Rattle.core_model.specs.Sound.{tally_of, ClaimsOf, times_in_lists, times_cut, Good}
use Rattle.core_model.proofs.TotalLemmas.{total_at, eq-eqb-one, ne-eqb-none}
use Rattle.core_model.proofs.FrameLemmas.{times_without, without_none}
use Rattle.core_model.proofs.QuietLemmas.{counts}
use Rattle.core_model.proofs.OwnLemmas.{holdings}
use Rattle.heap_model.proofs.ListLemmas.{without_less}
use Rattle.core_model.proofs.BlockLemmas.{at_one}
use Rattle.core_model.proofs.StoreLemmas as others
use Rattle.core_model.proofs.StoreInfoLemmas
use Rattle.core_model.proofs.StoreDataLemmas
use Rattle.core_model.proofs.StoredAnchorLemmas

module _ (k : Setup) (m : Memory) (views : List View) (i : ℕ) (v : View) (below_i : i < length views) (at : get_or views i v ≡ v)
    (good : Good k m views) (ticket : IsThere v.ticket) (word value : ℕ) where
  abbrev base : View
  base = StoredAnchorLemmas.base k m views i v below_i at good ticket word value

  -- to the anchor of a superblock without a class
  module _ (d : ℕ) (is : cell_at v.setup.capacity word ≡ anchor_cell d) (own : IsOwn v (anchor_cell d)) where
    abbrev ma : Memory
    ma = StoredAnchorLemmas.ma k m views i v below_i at good ticket word value d is own

    abbrev alone_a : (times d (good.shape.lists 0) ≡ 0) × (times_in_lists good.shape d ≡ 0) × (good.shape.full d ≡ 0) × ((tally_of views).large d ≡ 0)
        × (d < used m)
    alone_a = StoredAnchorLemmas.alone_a k m views i v below_i at good ticket word value d is own

    abbrev not_cut : (e : ℕ) → 0 < times_cut good.shape (tally_of views) e → e ≢ d
    not_cut = StoredAnchorLemmas.not_cut k m views i v below_i at good ticket word value d is own

    abbrev same_anchor : (e : ℕ) → e ≢ d → cond (nat_eq e d) value (anchor m e) ≡ anchor m e
    same_anchor = StoredAnchorLemmas.same_anchor k m views i v below_i at good ticket word value d is own

    abbrev stored_to : (w : View) → w.setup ≡ v.setup → w.small ≡ v.small → w.large ≡ v.large → w.caches ≡ v.caches → w.batch ≡ v.batch
        → w.classed ≡ v.classed → w.head_looks ≡ v.head_looks → w.used_look ≡ v.used_look
        → w.volatile ≡ base.volatile → w.durable ≡ v.durable → holdings w ≡ holdings v → ((e : ℕ) → times_raw e w ≡ times_raw e v) → ClaimsOf ma w
        → w.ticket ≡ None → w.last_ticket ≡ v.last_ticket → counts w ≡ counts v → w.cuts ≡ v.cuts → w.losses ≡ v.losses → w.roots ≡ v.roots
        → w.seen_head ≡ v.seen_head → w.seen_link ≡ v.seen_link → w.seen_used ≡ v.seen_used → w.seen_anchor ≡ v.seen_anchor → w.floor ≡ v.floor
        → Good k ma (set views i w)
    stored_to = StoredAnchorLemmas.stored_to k m views i v below_i at good ticket word value d is own

    one_raw : times_raw d v ≡ 1
    one_raw = let raw = total_at (times_raw d) views i v below_i at in
        let one = (others.raw_alone k m views i v below_i at good ticket word value d own).1 in omega arith

    -- without the descriptor there is one less
    taken_out : (e : ℕ) → times e (without d v.raw) + times e (without d v.split) + times e (without d v.cutting) + one_if (nat_eq d e) ≡ times_raw e v
    taken_out e = let one = one_raw in elim (cases_lt 0 (times d v.raw)) as
        (λ _. times e (without d v.raw) + times e (without d v.split) + times e (without d v.cutting) + one_if (nat_eq d e) ≡ times_raw e v) [
          | inl in_raw ↦ let a = times_without e d v.raw in_raw in let b = without_none e d v.split (omega arith) in
              let c = without_none e d v.cutting (omega arith) in omega arith
          | inr not_raw ↦ elim (cases_lt 0 (times d v.split)) as (λ _. times e (without d v.raw) + times e (without d v.split) + times e
              (without d v.cutting) + one_if (nat_eq d e) ≡ times_raw e v) [
                | inl in_split ↦ let a = without_none e d v.raw (omega arith) in let b = times_without e d v.split in_split in
                    let c = without_none e d v.cutting (omega arith) in omega arith
                | inr not_split ↦ let a = without_none e d v.raw (omega arith) in let b = without_none e d v.split (omega arith) in
                    let c = times_without e d v.cutting (omega arith) in omega arith
              ]
        ]

    gone : (e : ℕ) → 0 < times e (without d v.raw) + times e (without d v.split) + times e (without d v.cutting) → e ≢ d
    gone e some same = let t = taken_out d in let one = one_raw in let here = eq-eqb-one d d refl in
        let a = ap (λ x. times x (without d v.raw)) same in let b = ap (λ x. times x (without d v.split)) same in
        let c = ap (λ x. times x (without d v.cutting)) same in omega (arith, t, one, here, a, b, c, some)

    classed_off : (e : ℕ) → 0 < times_classed e v.classed → e ≢ d
    classed_off e some = not_cut e (let t = total_at (λ (x : View). times_classed e x.classed) views i v below_i at in omega arith)

    large_off : (e : ℕ) → 0 < times_large e v.large → e ≢ d
    large_off e some same = let t = total_at (λ (x : View). times_large e x.large) views i v below_i at in let none = alone_a.3 in
        let q = ap (tally_of views).large same in omega (arith, t, none, q, some)

    store_anchor_empty : value ≡ 0 → Good k ma (set views i (stored_anchor base d 0))
    store_anchor_empty is_zero = stored_to (stored_anchor base d 0) refl refl refl refl refl refl refl refl refl refl refl
        (λ e. let t = taken_out e in omega arith)
        (let c = (StoredAnchorLemmas.seat k m views i v below_i at good ticket word value).claims in record {
          is_raw = λ e some. elim (cases_eq d e) as (λ _. anchor_state (cond (nat_eq e d) value (anchor m e)) ≡ empty_state) [
            | inl here ↦ ap anchor_state (at_one (anchor m) d value e (sym here) ∙ is_zero) ∙ (let z : anchor_state 0 ≡ 0 = refl in z)
            | inr other ↦ subst (λ x. anchor_state x ≡ empty_state) (sym (same_anchor e (λ z. other (sym z))))
                (c.is_raw e (let l = without_less e d v.raw in let n = ne-eqb-none d e other in omega arith))
          ];
          is_split = λ e some. subst (λ x. anchor_state x ≢ partial_state) (sym (same_anchor e (gone e (omega arith))))
              (c.is_split e (let l = without_less e d v.split in omega arith));
          is_cutting = λ e some. subst (λ x. x ≡ full_anchor) (sym (same_anchor e (gone e (omega arith))))
              (c.is_cutting e (let l = without_less e d v.cutting in omega arith));
          is_classed = λ e some. let old = c.is_classed e some in (
            old.0,
            old.1,
            subst (λ x. anchor_state x < full_state) (sym (same_anchor e (classed_off e some))) old.2,
          );
          is_large = c.is_large;
          is_part = λ e some. subst (λ x. anchor_state x ≢ partial_state) (sym (same_anchor e (large_off e some))) (c.is_part e some);
          some = c.some;
        })
        refl refl refl refl refl refl refl refl refl refl refl

    store_anchor_full : (n : ℕ) → value ≡ full_anchor → Good k ma (set views i (stored_anchor base d (suc n)))
    store_anchor_full n two = stored_to (stored_anchor base d (suc n)) refl refl refl refl refl refl refl refl refl refl refl
        (λ e. let t = taken_out e in omega arith)
        (let c = (StoredAnchorLemmas.seat k m views i v below_i at good ticket word value).claims in record {
          is_raw = λ e some. subst (λ x. anchor_state x ≡ empty_state) (sym (same_anchor e (gone e (omega arith))))
              (c.is_raw e (let l = without_less e d v.raw in omega arith));
          is_split = λ e some. subst (λ x. anchor_state x ≢ partial_state) (sym (same_anchor e (gone e (omega arith))))
              (c.is_split e (let l = without_less e d v.split in omega arith));
          is_cutting = λ e some. elim (cases_eq d e) as (λ _. cond (nat_eq e d) value (anchor m e) ≡ full_anchor) [
            | inl here ↦ at_one (anchor m) d value e (sym here) ∙ two
            | inr other ↦ same_anchor e (λ z. other (sym z)) ∙ c.is_cutting e (let l = without_less e d v.cutting in
                let n = ne-eqb-none d e other in omega arith)
          ];
          is_classed = λ e some. let old = c.is_classed e some in (
            old.0,
            old.1,
            subst (λ x. anchor_state x < full_state) (sym (same_anchor e (classed_off e some))) old.2,
          );
          is_large = c.is_large;
          is_part = λ e some. subst (λ x. anchor_state x ≢ partial_state) (sym (same_anchor e (large_off e some))) (c.is_part e some);
          some = c.some;
        })
        refl refl refl refl refl refl refl refl refl refl refl

    store_anchor : MayAnchor m v d value → Good k ma (set views i (stored_anchor base d value))
    store_anchor may = by_value value refl where
      by_value : (x : ℕ) → value ≡ x → Good k ma (set views i (stored_anchor base d x))
      by_value zero same = store_anchor_empty same
      by_value (suc n) same = store_anchor_full n (by_may value may (λ z. omega (arith, z, same))) where
        by_may : (y : ℕ) → MayAnchor m v d y → y ≢ 0 → y ≡ full_anchor
        by_may y (as_empty z zero_y) some = absurd (some zero_y)
        by_may y (as_full z full not_cutting empty) some = full

  -- to any own word
  pub store : (cell : Cell) → cell_at v.setup.capacity word ≡ cell → IsOwn v cell → MayStore m v cell value
      → Good k (write m (volatile_at cell) value) (set views i (stored base cell value))
  store used_cell is own may = absurd (omega arith)
  store (head_cell list) is own may = absurd (omega arith)
  store (info_cell d) is own may = StoreInfoLemmas.store_info k m views i v below_i at good ticket word value d is own
  store (anchor_cell d) is own may = store_anchor d is own may
  store (link_cell d) is own may = others.store_link k m views i v below_i at good ticket word value d is own
  store (root_cell n) is own may = others.store_root k m views i v below_i at good ticket word value n is own
  store (data_cell n) is own may = StoreDataLemmas.store_data k m views i v below_i at good ticket word value n is own may
  store no_cell is own may = absurd (omega arith)
