-- What is so of a view that some sound state has, and what a store leaves of it.
use Rattle.std.proofs.Common.{◌≡◌, ℕ, zero, suc, ◌≤◌, ◌<◌, inl, inr, nat_lt, get_or, length, None, Some, refl, ap, ◌∙◌, arith}
use Rattle.std.proofs.lemmas.Bool.{cases_lt}
use Rattle.std.proofs.lemmas.List.{get_or-set_same}
use Rattle.heap_model.specs.Geometry.{image_words, superblock_of}
use Rattle.core_model.specs.declared.event.Event.TheVariants.{Load, Store, Settle}
use Rattle.core_model.specs.Cells.{Cell, used_cell, head_cell, info_cell, anchor_cell, link_cell, root_cell, data_cell, no_cell, cell_at}
use Rattle.core_model.specs.Effects.{learn, stored, stored_anchor, used_up}
use Rattle.core_model.specs.Guards.{IsOwn, MayChangeWord}
use Rattle.core_model.specs.Memory.{Memory, memory_of, used}
use Rattle.core_model.specs.View.{View, times_raw, times_block}
use Rattle.core_model.proofs.OwnLemmas.{one_at_most}
use Rattle.core_model.proofs.SoundLemmas.{taken}
use Rattle.core_model.proofs.TotalLemmas.{total_at}
use Rattle.heap_table.specs.Plays.{HasSoundState, IsEvent}
use Rattle.heap_rule.specs.Shown.{Shows}
use Rattle.heap_rule.proofs.SettleLemmas.{own_there, own_index, own_below}
use Rattle.seat_index.proofs.ViewBlocks.{block_cut}
use Rattle.heap_rule.proofs.ViewLemmas.{shown}

module _ (v : View) (s : HasSoundState v) where
  abbrev m : Memory
  m = memory_of v.setup.capacity s.words

  pub raw_once : (d : ℕ) → times_raw d v ≤ 1
  raw_once d = let raw = total_at (times_raw d) s.views s.seat v s.below s.at in let p = s.sound.good.shaped.placed.one_place d in
      let one = one_at_most (nat_lt d (used m)) in omega arith

  pub raw_inside : (d : ℕ) → 0 < times_raw d v → d < v.setup.capacity
  raw_inside d some = taken v.setup m s.views s.seat v s.below s.at s.sound.good d (omega arith)

  pub no_block : (word : ℕ) → 0 < times_raw (superblock_of v.setup.capacity word) v → times_block word v ≡ 0
  no_block word raw = elim (cases_lt 0 (times_block word v)) [
    | inl some ↦ absurd (let d = superblock_of v.setup.capacity word in let cut = (block_cut v s word some).0 in
        let mine = total_at (times_raw d) s.views s.seat v s.below s.at in let p = s.sound.good.shaped.placed.one_place d in
        let one = one_at_most (nat_lt d (used m)) in omega arith)
    | inr none ↦ omega arith
  ]

  pub raw_blank : (word : ℕ) → 0 < times_raw (superblock_of v.setup.capacity word) v → MayChangeWord v word
  raw_blank word raw = let none = no_block word raw in record { uncached = omega arith; in_batch = inl (omega arith) }

  pub volatile_long : length v.volatile ≡ image_words v.setup.capacity
  volatile_long = (s.sound.good.set_up s.seat v s.below s.at).volatile

  pub durable_long : length v.durable ≡ image_words v.setup.capacity
  durable_long = (s.sound.good.set_up s.seat v s.below s.at).durable

-- a store changes nothing else that is recorded
anchor_recorded : (v : View) (d value : ℕ) → ((stored_anchor v d value).volatile ≡ v.volatile) × ((stored_anchor v d value).durable ≡ v.durable)
anchor_recorded v d zero = (refl, refl)
anchor_recorded v d (suc n) = (refl, refl)

stored_recorded : (v : View) (cell : Cell) (value : ℕ) → ((stored v cell value).volatile ≡ v.volatile) × ((stored v cell value).durable ≡ v.durable)
stored_recorded v used_cell value = (refl, refl)
stored_recorded v (head_cell list) value = (refl, refl)
stored_recorded v (info_cell d) value = (refl, refl)
stored_recorded v (anchor_cell d) value = anchor_recorded v d value
stored_recorded v (link_cell d) value = (refl, refl)
stored_recorded v (root_cell i) value = (refl, refl)
stored_recorded v (data_cell word) value = (refl, refl)
stored_recorded v no_cell value = (refl, refl)

-- what is learned of an own word is shown
learned_shown : (word value : ℕ) (v w : View) → HasSoundState v → IsOwn v (cell_at v.setup.capacity word)
    → w.volatile ≡ learn v.volatile word value → Shows w (cell_at v.setup.capacity word) value
learned_shown word value v w has own learned = ap (λ n. get_or w.volatile n None) (own_index v word own)
    ∙ ap (λ l. get_or l word None) learned
    ∙ get_or-set_same v.volatile word (Some value) None (let long = volatile_long v has in let below = own_below v word own in omega arith)

pub load_shown : (word value : ℕ) (v w : View) → IsEvent (Load word) v value w → Shows w (cell_at v.setup.capacity word) value
load_shown word value v w e = learned_shown word value v w e.before e.may.ready (ap (λ (u : View). u.volatile) e.after)

module _ (word value : ℕ) (v w : View) (found : ℕ) where
  pub store_volatile : IsEvent (Store word value) v found w → w.volatile ≡ learn v.volatile word value
  store_volatile e = ap (λ (u : View). u.volatile) e.after
      ∙ (stored_recorded (record (used_up v) { volatile = learn v.volatile word value }) (cell_at v.setup.capacity word) value).0

  pub store_durable : IsEvent (Store word value) v found w → w.durable ≡ v.durable
  store_durable e = ap (λ (u : View). u.durable) e.after
      ∙ (stored_recorded (record (used_up v) { volatile = learn v.volatile word value }) (cell_at v.setup.capacity word) value).1

  pub store_shown : IsEvent (Store word value) v found w → Shows w (cell_at v.setup.capacity word) value
  store_shown e = learned_shown word value v w e.before e.may.ready.0 (store_volatile e)

  pub settle_left : IsEvent (Settle word) v found w → Shows v (cell_at v.setup.capacity word) value
      → w ≡ record v { volatile = learn v.volatile word value; durable = learn v.durable word value }
  settle_left e shows = e.after ∙ ap (λ n. record v { volatile = learn v.volatile word n; durable = learn v.durable word n })
      (shown v e.before (cell_at v.setup.capacity word) value (own_there v word e.may.ready) shows)
