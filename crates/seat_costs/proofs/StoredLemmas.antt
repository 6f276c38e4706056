-- What a draw and a store with its ticket leave.
use Rattle.std.proofs.Common.{◌≡◌, ℕ, zero, suc, inl, inr, get_or, None, Some, refl, ap, sym, subst, ◌∙◌, arith}
use Rattle.std.proofs.lemmas.List.{get_or-set_same, get_or-set_other}
use Rattle.core_model.specs.declared.event.Event.TheVariants.{Store}
use Rattle.core_model.specs.Cells.{Cell, used_cell, head_cell, info_cell, anchor_cell, link_cell, root_cell, data_cell, no_cell, cell_at, index_of}
use Rattle.core_model.specs.Effects.{drew, learn, stored, used_up}
use Rattle.core_model.specs.Guards.{IsOwn}
use Rattle.core_model.specs.View.{View}
use Rattle.heap_table.specs.Plays.{IsEvent}
use Rattle.heap_rule.specs.Fences.{Owns}
use Rattle.heap_rule.specs.Shown.{Can, CanStore, IsShownFor, ShowsEmpty, as_empty, as_full, by_anchor, by_claim, by_look}
use Rattle.heap_rule.proofs.RawLemmas.{store_durable, store_volatile, volatile_long}
use Rattle.heap_rule.proofs.SettleLemmas.{own_below, own_index}
use Rattle.seat_costs.specs.Rows.{HasDrawn, SameLooks}
use Rattle.seat_costs.specs.Stores.{HasStored}
use Rattle.seat_costs.specs.Words.{IsHeldWord, MayBe, times_held}
use Rattle.seat_costs.proofs.WordLemmas.{word_same, word_then}

-- a store changes no other parts than these
pub stored_only : (x : View) (cell : Cell) (value : ℕ) → stored x cell value ≡ record x {
  batch = (stored x cell value).batch;
  raw = (stored x cell value).raw;
  split = (stored x cell value).split;
  cutting = (stored x cell value).cutting;
}
stored_only x used_cell value = refl
stored_only x (head_cell list) value = refl
stored_only x (info_cell d) value = refl
stored_only x (anchor_cell d) zero = refl
stored_only x (anchor_cell d) (suc n) = refl
stored_only x (link_cell d) value = refl
stored_only x (root_cell i) value = refl
stored_only x (data_cell word) value = refl
stored_only x no_cell value = refl

-- and these in the same way whatever is recorded of words
stored_alike : (x u : View) (cell : Cell) (value : ℕ)
    → stored (record x { volatile = u.volatile; durable = u.durable }) cell value
    ≡ record (stored x cell value) { volatile = u.volatile; durable = u.durable }
stored_alike x u used_cell value = refl
stored_alike x u (head_cell list) value = refl
stored_alike x u (info_cell d) value = refl
stored_alike x u (anchor_cell d) zero = refl
stored_alike x u (anchor_cell d) (suc n) = refl
stored_alike x u (link_cell d) value = refl
stored_alike x u (root_cell i) value = refl
stored_alike x u (data_cell word) value = refl
stored_alike x u no_cell value = refl

-- the view that a draw leaves, with what is known then of words
abbrev pub drawn_as : View → ℕ → View → View
drawn_as v ticket u = record (drew v ticket) { volatile = u.volatile; durable = u.durable }

-- what may be stored before the draw may be so after it
module _ (v u : View) (drawn : HasDrawn v u) (word : ℕ) (own : Owns v word) where
  still_empty : (d : ℕ) → cell_at v.setup.capacity word ≡ anchor_cell d → ShowsEmpty v d → ShowsEmpty (drawn_as v drawn.ticket u) d
  still_empty d is (by_claim raw) = by_claim raw
  still_empty d is (by_anchor x shows empty) = by_anchor x (subst (λ n. get_or u.volatile n None ≡ Some x) (sym at)
      ((drawn.words word own).volatile x (subst (λ n. get_or v.volatile n None ≡ Some x) at shows))) empty where
        at : index_of (anchor_cell d) ≡ word
        at = sym (ap index_of is) ∙ own_index v word own
  still_empty d is (by_look classed is_seen of empty) = by_look classed is_seen of empty

  still_may : (cell : Cell) (value : ℕ) → cell_at v.setup.capacity word ≡ cell → CanStore v cell value
      → CanStore (drawn_as v drawn.ticket u) cell value
  still_may used_cell value is can = can
  still_may (head_cell list) value is can = can
  still_may (info_cell d) value is can = can
  still_may (anchor_cell d) value is as_empty = as_empty
  still_may (anchor_cell d) value is (as_full not_cutting (inl empty)) = as_full not_cutting (inl (still_empty d is empty))
  still_may (anchor_cell d) value is (as_full not_cutting (inr split)) = as_full not_cutting (inr split)
  still_may (link_cell d) value is can = can
  still_may (root_cell i) value is can = can
  still_may (data_cell k) value is can = record { uncached = can.uncached; in_batch = can.in_batch }
  still_may no_cell value is can = can

  pub can_store : (value : ℕ) → CanStore v (cell_at v.setup.capacity word) value → Can u (Store word value)
  can_store value can = subst (λ (x : View). Can x (Store word value)) (sym drawn.left) (record {
    going = drawn.went;
    ticket = refl;
    shown = (own, still_may (cell_at v.setup.capacity word) value refl can);
  })

module _ (v u w : View) (word value found : ℕ) (drawn : HasDrawn v u) (event : IsEvent (Store word value) u found w) where
  abbrev x : View
  x = used_up (drew v drawn.ticket)

  abbrev cell : Cell
  cell = cell_at v.setup.capacity word

  left : w ≡ record (stored x cell value) { volatile = w.volatile; durable = w.durable }
  left = subst (λ (y : View). y ≡ record (stored x cell value) { volatile = y.volatile; durable = y.durable }) (sym is) refl where
    is : w ≡ record (stored x cell value) { volatile = learn u.volatile word value; durable = u.durable }
    is = event.after
        ∙ ap (λ (y : View). stored (record (used_up y) { volatile = learn u.volatile word value }) (cell_at y.setup.capacity word) value) drawn.left
        ∙ stored_alike x (record u { volatile = learn u.volatile word value }) cell value

  -- what the store leaves as it was
  pub no_loss : w.losses ≡ v.losses
  no_loss = ap (λ (y : View). y.losses) left ∙ ap (λ (y : View). y.losses) (stored_only x cell value)

  pub stored_looks : SameLooks v w
  stored_looks = record {
    used = ap (λ (y : View). y.used_look) left ∙ ap (λ (y : View). y.used_look) (stored_only x cell value);
    heads = ap (λ (y : View). y.head_looks) left ∙ ap (λ (y : View). y.head_looks) (stored_only x cell value);
  }

  pub has_stored : Owns v word → HasStored word value v w
  has_stored own = record {
    ran = drawn.went;
    going = ap (λ (y : View). y.stopped) left ∙ ap (λ (y : View). y.stopped) (stored_only x cell value) ∙ drawn.went;
    room = drawn.room;
    ticket = drawn.ticket;
    later = drawn.later;
    left = left;
    seen = ap (λ values. get_or values word None) (store_volatile word value u w found event)
        ∙ get_or-set_same u.volatile word (Some value) None
        (let l = volatile_long u event.before in let b = own_below u word event.may.ready.0 in omega arith);
    crash = λ read may. (drawn.words word own).durable read
        (subst (λ values. MayBe (get_or values word None) read) (store_durable word value u w found event) may);
    words = λ k other owned. word_then v u w k (drawn.words k owned) (word_same u w k
        (ap (λ values. get_or values k None) (store_volatile word value u w found event) ∙ get_or-set_other u.volatile word k (Some value) None other)
        (ap (λ values. get_or values k None) (store_durable word value u w found event)));
  }

-- by what the word is
module _ (v : View) (word : ℕ) (cell : Cell) (is : cell_at v.setup.capacity word ≡ cell) where
  pub may_store : (value : ℕ) → IsOwn v cell → CanStore v cell value → IsShownFor v (Store word value)
  may_store value own can = subst (λ (c : Cell). IsOwn v c × CanStore v c value) (sym is) (own, can)

  pub not_held_at : times_held v cell ≡ 0 → IsHeldWord v word → ⊥
  not_held_at none held = let e = ap (times_held v) is in omega arith

  pub stored_at : (w : View) (value : ℕ) (s : HasStored word value v w)
      → w ≡ record (stored (used_up (drew v s.ticket)) cell value) { volatile = w.volatile; durable = w.durable }
  stored_at w value s = s.left ∙ ap (λ (c : Cell). record (stored (used_up (drew v s.ticket)) c value) {
    volatile = w.volatile;
    durable = w.durable;
  }) is
