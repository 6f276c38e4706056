-- What a view shows for a shift is shown after a word was settled too: what was recorded of it is what loads see.
use Rattle.std.proofs.Common.{◌≡◌, ℕ, ◌<◌, inl, inr, true, Option, Some, None, List, [], ◌∷◌, get_or, set, length, refl, ap, sym, subst, ◌∙◌, lt-ltb, arith}
use Rattle.std.proofs.lemmas.Bool.{cases_eq}
use Rattle.std.proofs.lemmas.List.{get_or-set_same, get_or-set_other}
use Rattle.core_model.specs.declared.event.Event.TheVariants.{Tick, Settle}
use Rattle.core_model.specs.declared.event.Shift.{Shift}
use Rattle.core_model.specs.declared.event.Shift.TheVariants.{Cut, Alloc, Free, Lift, Large, Split}
use Rattle.core_model.specs.Cells.{Cell, info_cell, data_cell, anchor_cell, cell_at, index_of, is_cell}
use Rattle.core_model.specs.Memory.{memory_of}
use Rattle.core_model.specs.View.{View}
use Rattle.core_model.specs.Effects.{learn, last_of, class_blocks}
use Rattle.core_model.proofs.OwnerLemmas.{in_lists_total}
use Rattle.core_model.proofs.PlaceLemmas.{cell_at_index}
use Rattle.core_model.proofs.RangeLemmas.{block_of}
use Rattle.core_model.proofs.TotalLemmas.{eq-eqb-one}
use Rattle.heap_model.specs.Counting.{times}
use Rattle.heap_rule.specs.Fences.{SettlesOwn, is_own, not_own, SettlesEarly, no_store, a_store}
use Rattle.heap_table.specs.Plays.{HasSoundState, IsEvent}
use Rattle.heap_rule.specs.Shown.{Shows, ShowsDurable, ShowsEmpty, by_claim, by_anchor, by_look, ShowsLinks, CanShift, Can}
use Rattle.heap_rule.specs.Seated.{SeatView}
use Rattle.heap_rule.proofs.SettleLemmas.{own_below}
use Rattle.heap_rule.proofs.ViewLemmas.{shown, info_there}
use Rattle.seat_index.proofs.ViewBlocks.{below_capacity, block_cell, cut_cell}
use Rattle.seat_state.proofs.EndLemmas.{last_there}

module _ (v w : View) (word found : ℕ) (event : IsEvent (Settle word) v found w) where
  abbrev x : ℕ
  x = (memory_of v.setup.capacity event.before.words).volatile (cell_at v.setup.capacity word)

  abbrev made : View
  made = record v { volatile = learn v.volatile word x; durable = learn v.durable word x }

  long_volatile : word < length v.volatile
  long_volatile = let s = event.before in let l = (s.sound.good.set_up s.seat v s.below s.at).volatile in
      let b = own_below v word event.may.ready in omega arith

  long_durable : word < length v.durable
  long_durable = let s = event.before in let l = (s.sound.good.set_up s.seat v s.below s.at).durable in
      let b = own_below v word event.may.ready in omega arith

  -- of the word that is settled, the recorded value is that of the word
  value_is : (cell : Cell) (value : ℕ) → is_cell v.setup.capacity cell ≡ true → index_of cell ≡ word → Shows v cell value → x ≡ value
  value_is cell value is here shows = ap (memory_of v.setup.capacity event.before.words).volatile (sym (ap (cell_at v.setup.capacity) here)
      ∙ cell_at_index v.setup.capacity cell is) ∙ shown v event.before cell value is shows

  shows_made : (cell : Cell) (value : ℕ) → is_cell v.setup.capacity cell ≡ true → Shows v cell value → Shows made cell value
  shows_made cell value is shows = elim (cases_eq (index_of cell) word) as (λ _. Shows made cell value) [
    | inl here ↦ ap (λ n. get_or (set v.volatile word (Some x)) n None) here ∙ get_or-set_same v.volatile word (Some x) None long_volatile
        ∙ ap Some (value_is cell value is here shows)
    | inr other ↦ get_or-set_other v.volatile word (index_of cell) (Some x) None other ∙ shows
  ]

  durable_made : (cell : Cell) (value : ℕ) → is_cell v.setup.capacity cell ≡ true → Shows v cell value → ShowsDurable v cell value
      → ShowsDurable made cell value
  durable_made cell value is shows durable = elim (cases_eq (index_of cell) word) as (λ _. ShowsDurable made cell value) [
    | inl here ↦ ap (λ n. get_or (set v.durable word (Some x)) n None) here ∙ get_or-set_same v.durable word (Some x) None long_durable
        ∙ ap Some (value_is cell value is here shows)
    | inr other ↦ get_or-set_other v.durable word (index_of cell) (Some x) None other ∙ durable
  ]

  abbrev s : HasSoundState v
  s = event.before

  empty_made : (d : ℕ) → d < v.setup.capacity → ShowsEmpty v d → ShowsEmpty made d
  empty_made d less (by_claim raw) = by_claim raw
  empty_made d less (by_anchor anchor shows empty) = by_anchor anchor (shows_made (anchor_cell d) anchor (lt-ltb d v.setup.capacity less) shows) empty
  empty_made d less (by_look classed is_seen of empty) = by_look classed is_seen of empty

  links_made : (bs : List ℕ) → ((b : ℕ) → 0 < times b bs → is_cell v.setup.capacity (data_cell b) ≡ true) → ShowsLinks v bs → ShowsLinks made bs
  links_made [] cells links = tt
  links_made (b ∷ []) cells links = tt
  links_made (b ∷ c ∷ bs) cells links = (
    shows_made (data_cell b) c (cells b (let one = eq-eqb-one b b refl in omega arith)) links.0,
    links_made (c ∷ bs) (λ y some. cells y (omega arith)) links.1,
  )

  shift_made : (shift : Option Shift) → CanShift v shift → CanShift made shift
  shift_made None can = tt
  shift_made (Some (Cut d)) can = record {
    cutting = can.cutting;
    class = can.class;
    is_class = can.is_class;
    info_is = shows_made (info_cell d) can.class (info_there v s d can.durable) can.info_is;
    durable_info_is = durable_made (info_cell d) can.class (info_there v s d can.durable) can.info_is can.durable_info_is;
    durable = can.durable;
    linked = links_made (class_blocks v.setup.capacity can.class d)
        (λ b some. cut_cell v.setup.capacity can.class d b can.is_class (block_of v.setup.capacity can.class d b some)
        (below_capacity v s d can.durable)) can.linked;
    uncached = can.uncached;
  }
  shift_made (Some (Alloc class)) can = record { is_class = can.is_class; cached = can.cached }
  shift_made (Some (Free block)) can = record {
    class = can.class;
    held = can.held;
    linked = λ some. shows_made (data_cell block) _ (block_cell v s block (let t = in_lists_total block can.class v.small can.held in
        omega arith)) (can.linked some);
  }
  shift_made (Some (Lift class)) can = record {
    is_class = can.is_class;
    cached = can.cached;
    same = can.same;
    unchanged = can.unchanged;
    linked = λ some. shows_made (data_cell (last_of v.batch.blocks)) _
        (block_cell v s (last_of v.batch.blocks) (let t = last_there v.batch.blocks some in omega arith)) (can.linked some);
  }
  shift_made (Some (Large d n)) can = record {
    some = can.some;
    durable = can.durable;
    each = λ e from until. let join = can.each e from until in let less = below_capacity v s e (let low = can.durable in omega arith) in record {
      claimed = join.claimed;
      empty = elim join.empty [
        | inl shows ↦ inl (empty_made e less shows)
        | inr split ↦ inr split
      ];
      info_is = shows_made (info_cell e) _ (lt-ltb e v.setup.capacity less) join.info_is;
      durable_info_is = durable_made (info_cell e) _ (lt-ltb e v.setup.capacity less) join.info_is join.durable_info_is;
    };
  }
  shift_made (Some (Split block)) can = record { held = can.held; first = can.first }

  pub settled_can : (shift : Option Shift) → Can v (Tick shift) → Can w (Tick shift)
  settled_can shift can = subst (λ u. Can u (Tick shift)) (sym event.after)
      (record { going = can.going; ticket = tt; shown = shift_made shift can.shown })

-- after a word may have been settled
own_can : (word : ℕ) (v w : SeatView) (shift : Option Shift) → SettlesOwn word v w → Can v.view (Tick shift) → Can w.view (Tick shift)
own_can word v w shift (is_own own found event) can = settled_can v.view w.view word found event shift can
own_can word v w shift (not_own not same) can = subst (λ u. Can u (Tick shift)) (sym same) can

own_going : (word : ℕ) (v w : SeatView) → SettlesOwn word v w → w.view.stopped ≡ v.view.stopped
own_going word v w (is_own own found event) = ap (λ (u : View). u.stopped) event.after
own_going word v w (not_own not same) = ap (λ (u : View). u.stopped) same

pub early_can : (r : ℕ) (v w : SeatView) (shift : Option Shift) → SettlesEarly r v w → Can v.view (Tick shift) → Can w.view (Tick shift)
early_can r v w shift (no_store none same) can = subst (λ (u : SeatView). Can u.view (Tick shift)) (sym same) can
early_can r v w shift (a_store word is settles keeps) can = own_can word v w shift settles can

pub early_going : (r : ℕ) (v w : SeatView) → SettlesEarly r v w → w.view.stopped ≡ v.view.stopped
early_going r v w (no_store none same) = ap (λ (u : SeatView). u.view.stopped) same
early_going r v w (a_store word is settles keeps) = own_going word v w settles
