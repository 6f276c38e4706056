-- What a seat may do it may do still once chance has settled a word.
use Rattle.std.proofs.Common.{◌≡◌, ◌<◌, ℕ, inl, inr, true, refl, sym, subst, lt-ltb, arith}
use Rattle.core_model.specs.declared.event.Event.{Event}
use Rattle.core_model.specs.declared.event.Event.TheVariants.{Tick, Load, Store, Settle, LookUsed, TakeFresh, KeepUsed, LookHead, LookLink, Pop, Push, LookAnchor, TakeAll, Give}
use Rattle.core_model.specs.Cells.{Cell, used_cell, head_cell, info_cell, anchor_cell, link_cell, root_cell, data_cell, no_cell, cell_at, index_of, is_cell}
use Rattle.core_model.specs.Effects.{last_of}
use Rattle.core_model.specs.Guards.{IsFreelyClaimed, IsOwn}
use Rattle.core_model.specs.Memory.{memory_of}
use Rattle.core_model.specs.View.{View, times_claimed}
use Rattle.core_model.proofs.PlaceLemmas.{cell_at_index}
use Rattle.core_model.proofs.QuietLemmas.{own_same}
use Rattle.core_model.proofs.SoundLemmas.{taken}
use Rattle.seat_state.proofs.EndLemmas.{last_there}
use Rattle.heap_table.specs.Plays.{HasSoundState}
use Rattle.heap_rule.specs.Shown.{Can, CanAnchor, CanList, CanStore, Shows, ShowsEmpty, as_empty, as_free, as_full, by_anchor, by_claim, by_look, of_its_class}
use Rattle.heap_rule.proofs.DrawLemmas.{settled_can}
use Rattle.heap_rule.proofs.SettleLemmas.{own_there}
use Rattle.seat_index.proofs.ViewBlocks.{block_cell}
use Rattle.seat_costs.specs.Draws.{Settles}
use Rattle.seat_costs.proofs.DrawLemmas.{early_rest, early_words}

module _ (v early : View) (has : HasSoundState v) (settles : Settles v early) where
  abbrev u : View
  u = record v { volatile = early.volatile; durable = early.durable }

  own_still : (cell : Cell) → IsOwn v cell → IsOwn u cell
  own_still cell own = let same = own_same v u refl cell in omega arith

  shows_still : (cell : Cell) (x : ℕ) → is_cell v.setup.capacity cell ≡ true → Shows v cell x → Shows u cell x
  shows_still cell x is shows =
      (early_words v early settles (index_of cell) (subst (IsOwn v) (sym (cell_at_index v.setup.capacity cell is))
      ((has.sound.good.words has.seat v has.below has.at).volatile cell x is shows).0)).volatile x shows

  empty_still : (d : ℕ) → is_cell v.setup.capacity (anchor_cell d) ≡ true → ShowsEmpty v d → ShowsEmpty u d
  empty_still d is (by_claim raw) = by_claim raw
  empty_still d is (by_anchor anchor shows empty) = by_anchor anchor (shows_still (anchor_cell d) anchor is shows) empty
  empty_still d is (by_look classed seen of empty) = by_look classed seen of empty

  anchor_still : (d value : ℕ) → is_cell v.setup.capacity (anchor_cell d) ≡ true → CanAnchor v d value → CanAnchor u d value
  anchor_still d value is as_empty = as_empty
  anchor_still d value is (as_full free (inl empty)) = as_full free (inl (empty_still d is empty))
  anchor_still d value is (as_full free (inr split)) = as_full free (inr split)

  store_still : (cell : Cell) (value : ℕ) → is_cell v.setup.capacity cell ≡ true → CanStore v cell value → CanStore u cell value
  store_still used_cell value is can = can
  store_still (head_cell list) value is can = can
  store_still (info_cell d) value is can = can
  store_still (anchor_cell d) value is can = anchor_still d value is can
  store_still (link_cell d) value is can = can
  store_still (root_cell i) value is can = can
  store_still (data_cell word) value is can = record { uncached = can.uncached; in_batch = can.in_batch }
  store_still no_cell value is can = can

  free_still : (d : ℕ) → IsFreelyClaimed v d → IsFreelyClaimed u d
  free_still d free = record { claimed = free.claimed; not_cutting = free.not_cutting }

  list_claimed : (d list : ℕ) → CanList v d list → 0 < times_claimed d v
  list_claimed d list (as_free free empty) = free.claimed
  list_claimed d list (of_its_class class is classed of) = omega arith

  claimed_below : (d : ℕ) → 0 < times_claimed d v → d < v.setup.capacity
  claimed_below d claimed = taken v.setup (memory_of v.setup.capacity has.words) has.views has.seat v has.below has.at has.sound.good d claimed

  list_still : (d list : ℕ) → d < v.setup.capacity → CanList v d list → CanList u d list
  list_still d list below (as_free free empty) = as_free (free_still d free) (empty_still d (lt-ltb d v.setup.capacity below) empty)
  list_still d list below (of_its_class class is classed of) = of_its_class class is classed of

  back : (event : Event) → Can u event → Can early event
  back event = subst (λ x. Can x event) (sym (early_rest v early settles))

  pub can_still : (event : Event) → Can v event → Can early event
  can_still (Tick shift) can = elim settles [
    | inl same ↦ subst (λ x. Can x (Tick shift)) (sym same) can
    | inr settled ↦ settled_can v early settled.0 settled.2.0 settled.2.1 shift can
  ]
  can_still (Load word) can = back (Load word) (record {
    going = can.going;
    ticket = can.ticket;
    shown = own_still (cell_at v.setup.capacity word) can.shown;
  })
  can_still (Store word value) can = back (Store word value) (record {
    going = can.going;
    ticket = can.ticket;
    shown = (
      own_still (cell_at v.setup.capacity word) can.shown.0,
      store_still (cell_at v.setup.capacity word) value (own_there v word can.shown.0) can.shown.1,
    );
  })
  can_still (Settle word) can = back (Settle word) (record {
    going = can.going;
    ticket = can.ticket;
    shown = own_still (cell_at v.setup.capacity word) can.shown;
  })
  can_still LookUsed can = back LookUsed (record { going = can.going; ticket = can.ticket; shown = can.shown })
  can_still (TakeFresh n) can = back (TakeFresh n) (record {
    going = can.going;
    ticket = can.ticket;
    shown = record { is_seen = can.shown.is_seen; some = can.shown.some; room = can.shown.room };
  })
  can_still KeepUsed can = back KeepUsed (record { going = can.going; ticket = can.ticket; shown = can.shown })
  can_still (LookHead list) can = back (LookHead list) (record { going = can.going; ticket = can.ticket; shown = can.shown })
  can_still LookLink can = back LookLink (record {
    going = can.going;
    ticket = can.ticket;
    shown = record { is_seen = can.shown.is_seen; some = can.shown.some };
  })
  can_still Pop can = back Pop (record {
    going = can.going;
    ticket = can.ticket;
    shown = record { is_seen = can.shown.is_seen; link = can.shown.link };
  })
  can_still (Push d) can = let below = claimed_below d (list_claimed d _ can.shown.listed) in back (Push d) (record {
    going = can.going;
    ticket = can.ticket;
    shown = record {
      is_seen = can.shown.is_seen;
      durable = can.shown.durable;
      linked = shows_still (link_cell d) _ (lt-ltb d v.setup.capacity below) can.shown.linked;
      listed = list_still d _ below can.shown.listed;
    };
  })
  can_still (LookAnchor d) can = back (LookAnchor d) (record {
    going = can.going;
    ticket = can.ticket;
    shown = elim can.shown [
      | inl free ↦ inl (free_still d free)
      | inr batch ↦ inr batch
    ];
  })
  can_still (TakeAll d) can = back (TakeAll d) (record {
    going = can.going;
    ticket = can.ticket;
    shown = record {
      claimed = can.shown.claimed;
      is_seen = can.shown.is_seen;
      of = can.shown.of;
      partial = can.shown.partial;
      uncached = can.shown.uncached;
    };
  })
  can_still (Give d) can = let there = last_there v.batch.blocks can.shown.some in back (Give d) (record {
    going = can.going;
    ticket = can.ticket;
    shown = record {
      batch = can.shown.batch;
      some = can.shown.some;
      is_seen = can.shown.is_seen;
      of = can.shown.of;
      linked = λ more. shows_still (data_cell (last_of v.batch.blocks)) _ (block_cell v has (last_of v.batch.blocks) (omega arith))
          (can.shown.linked more);
    };
  })
