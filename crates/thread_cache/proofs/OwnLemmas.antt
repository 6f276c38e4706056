-- What a step on an own word leaves, behind the draw of its ticket.
use Rattle.std.proofs.Common.{◌≡◌, ◌<◌, ◌⊎◌, ℕ, ◌+◌, inl, inr, Bool, true, false, cond, nat_eq, Option, None, Some, refl, ap, sym, subst, ◌∙◌, arith}
use Rattle.std.proofs.lemmas.Bool.{cases_lt}
use Rattle.std.proofs.lemmas.List.{get_or-set_same}
use Rattle.heap_model.specs.Counting.{times, total}
use Rattle.heap_model.specs.Geometry.{image_words}
use Rattle.heap_model.specs.Sizes.{IsClass, words_of_class}
use Rattle.heap_model.proofs.SizeLemmas.{two_words}
use Rattle.line_memory.specs.Marks.{IsMarked}
use Rattle.core_model.specs.declared.event.Event.TheVariants.{Load, Settle, Store}
use Rattle.core_model.specs.Cells.{Cell, used_cell, head_cell, info_cell, anchor_cell, link_cell, root_cell, data_cell, no_cell, cell_at}
use Rattle.core_model.specs.Effects.{last_of, stored, used_up, drew}
use Rattle.core_model.specs.View.{Batch, View, no_batch}
use Rattle.core_model.proofs.OwnerLemmas.{which_class}
use Rattle.seat_state.proofs.BlockRanges.{in_classes_word}
use Rattle.heap_table.specs.Plays.{HasSoundState, IsEvent}
use Rattle.heap_rule.specs.Fences.{IsLineMarked, IsSeatFence, Owns}
use Rattle.heap_rule.specs.Seated.{SeatView}
use Rattle.heap_rule.specs.Shown.{Can, CanStore, IsShownFor}
use Rattle.heap_rule.proofs.RawLemmas.{volatile_long}
use Rattle.heap_rule.proofs.SettleLemmas.{own_below}
use Rattle.seat_index.proofs.ViewBlocks.{block_class}
use Rattle.seat_costs.specs.Costs.{Costs, one_draw}
use Rattle.seat_costs.specs.Rows.{HasDrawn, Row, SameLooks, Stops, ViewRow, after_ticket, parts}
use Rattle.seat_costs.specs.Words.{IsDurableAt, IsHeldWord, KeepsWord, MayBe, seen_at, times_held}
use Rattle.seat_costs.proofs.OnceLemmas.{not_held}
use Rattle.seat_costs.proofs.RowLemmas.{not_both}
use Rattle.seat_costs.proofs.StoreLemmas.{fenced}
use Rattle.seat_costs.proofs.WordLemmas.{owns_held}
use Rattle.seat_costs.proofs.StoredLemmas.{stored_only}
use Rattle.seat_costs.specs.Stores.{HasStored}
use Rattle.std.specs.Bool.{⊤}
use Rattle.std.specs.Prelude.{Result, Ok, Err, OnErr, OnOk, IfErr}
use Rattle.line_memory.specs.declared.memory.Stopped.{Stopped}
use Rattle.thread_cache.specs.Own.{Drew, HasFenced, HasValue, HasMarkedLine, MayHave, MayRead, RunsOn}

-- what a draw and a step behind it leave, where the step changes no part
module _ (v u w : View) (drawn : HasDrawn v u) where
  runs_on : w.stopped ≡ u.stopped → parts w ≡ parts u → w.last_ticket ≡ u.last_ticket → RunsOn v w
  runs_on stopped parts_are last = record {
    ran = drawn.went;
    going = stopped ∙ ap (λ (x : View). x.stopped) drawn.left ∙ drawn.went;
    parts_are = parts_are ∙ ap parts drawn.left;
    later = let now : w.last_ticket ≡ Some drawn.ticket = last ∙ ap (λ (x : View). x.last_ticket) drawn.left in
        let is = ap after_ticket now in let least = drawn.later in omega arith;
  }

  pub same_looks : SameLooks v u → w.used_look ≡ u.used_look → w.head_looks ≡ u.head_looks → SameLooks v w
  same_looks before used heads = record { used = used ∙ before.used; heads = heads ∙ before.heads }

-- at every exit
pub runs_drew : (v w : View) → RunsOn v w → Drew v w
runs_drew v w runs = record { drew = λ went. runs.later; parts_are = λ going. runs.parts_are }

pub stop_drew : (v w : View) (step : ℕ) → Stops step v w → Drew v w
stop_drew v w step stop = record {
  drew = λ went. let from = stop.now went in let last = ap after_ticket stop.last in omega arith;
  parts_are = λ going. not_both stop.at going;
}

-- a load
module _ (v u : View) (word : ℕ) (drawn : HasDrawn v u) (own : Owns v word) where
  pub can_load : Can u (Load word)
  can_load = subst (λ (x : View). Can x (Load word)) (sym drawn.left) (record { going = drawn.went; ticket = refl; shown = own })

  pub can_settle : Can u (Settle word)
  can_settle = subst (λ (x : View). Can x (Settle word)) (sym drawn.left) (record { going = drawn.went; ticket = tt; shown = own })

  module _ (w : View) (found : ℕ) (event : IsEvent (Load word) u found w) where
    pub loaded : HasValue word found v w
    loaded = record {
      runs = runs_on v u w drawn (ap (λ (x : View). x.stopped) event.after) (ap parts event.after) (ap (λ (x : View). x.last_ticket) event.after);
      seen = ap (λ (x : View). seen_at x word) event.after
          ∙ get_or-set_same u.volatile word (Some found) None (let l = volatile_long u event.before in
          let b = own_below u word event.may.ready in omega arith);
    }

    pub load_looks : SameLooks v u → SameLooks v w
    load_looks before = same_looks v u w drawn before (ap (λ (x : View). x.used_look) event.after) (ap (λ (x : View). x.head_looks) event.after)

-- a word of a held block is none of a cached one
module _ (v : View) (has : HasSoundState v) where
  uncached : (word : ℕ) → 0 < times_held v (data_cell word) → total (times word) v.caches ≡ 0
  uncached word held = elim (cases_lt 0 (total (times word) v.caches)) [
    | inl some ↦ let h = which_class word v.caches some in
        let is = (has.sound.good.blocks has.seat v has.below has.at).cached h.n word h.there in
        let class : IsClass h.n = subst IsClass is (block_class v has word (omega arith)) in
        let two = two_words h.n class in
        let own = in_classes_word word word 0 h.n v.caches (omega arith) (let e : 0 + h.n ≡ h.n = omega arith in let f = ap words_of_class e in
        omega arith) h.there in
        let none = not_held v has word (omega arith) in absurd (omega arith)
    | inr none ↦ omega arith
  ]

  can_cell : (value : ℕ) (cell : Cell) → 0 < times_held v cell → v.batch ≡ no_batch → CanStore v cell value
  can_cell value used_cell held bare = absurd (omega arith)
  can_cell value (head_cell list) held bare = absurd (omega arith)
  can_cell value (info_cell d) held bare = absurd (omega arith)
  can_cell value (anchor_cell d) held bare = absurd (omega arith)
  can_cell value (link_cell d) held bare = absurd (omega arith)
  can_cell value (root_cell i) held bare = tt
  can_cell value (data_cell word) held bare = record { uncached = uncached word held; in_batch = inl (ap (λ (b : Batch). times word b.blocks) bare) }
  can_cell value no_cell held bare = absurd (omega arith)

-- what a store makes of an empty batch is none
one_of : (test : Bool) → cond test false false ≡ false
one_of true = refl
one_of false = refl

still_none : (word : ℕ) (b : Batch) → b ≡ no_batch → record b { linked = cond (nat_eq word (last_of b.blocks)) false b.linked } ≡ b
still_none word b bare = subst (λ (x : Batch). record x { linked = cond (nat_eq word (last_of x.blocks)) false x.linked } ≡ x) (sym bare)
    (ap (λ l. record no_batch { linked = l }) (one_of (nat_eq word 0)))

-- a store to a held word changes no part
held_parts : (x v : View) (cell : Cell) (value : ℕ) → 0 < times_held v cell → x.batch ≡ no_batch → parts (stored x cell value) ≡ parts x
held_parts x v used_cell value held bare = absurd (omega arith)
held_parts x v (head_cell list) value held bare = absurd (omega arith)
held_parts x v (info_cell d) value held bare = absurd (omega arith)
held_parts x v (anchor_cell d) value held bare = absurd (omega arith)
held_parts x v (link_cell d) value held bare = absurd (omega arith)
held_parts x v (root_cell i) value held bare = refl
held_parts x v (data_cell word) value held bare = ap (λ b. record (parts x) { batch = b }) (still_none word x.batch bare)
held_parts x v no_cell value held bare = absurd (omega arith)

-- what is known of a word that was not stored to yet
may_read_then : (v u : View) (word : ℕ) → KeepsWord v u word → (read : ℕ) → MayRead u word read → MayRead v word read
may_read_then v u word keeps read (inl seen) = by_seen (seen_at v word) refl where
  by_seen : (o : Option ℕ) → seen_at v word ≡ o → MayRead v word read
  by_seen None none = inl (subst (λ o. MayBe o read) (sym none) tt)
  by_seen (Some x) some = inl (subst (λ o. MayBe o read) (sym some) (subst (λ o. MayBe o read) (keeps.volatile x some) seen))
may_read_then v u word keeps read (inr left) = keeps.durable read left

module _ (v : View) (word value : ℕ) (held : IsHeldWord v word) (bare : v.batch ≡ no_batch) where
  pub may_store_held : HasSoundState v → IsShownFor v (Store word value)
  may_store_held has = (owns_held v word held, can_cell v has value (cell_at v.setup.capacity word) held bare)

  module _ (w : View) where
    pub has_stored : HasStored word value v w → HasValue word value v w
    has_stored done = record {
      runs = record {
        ran = done.ran;
        going = done.going;
        parts_are = ap parts done.left ∙ held_parts x v (cell_at v.setup.capacity word) value held bare;
        later = let last : w.last_ticket ≡ Some done.ticket = ap (λ (y : View). y.last_ticket) done.left
            ∙ ap (λ (y : View). y.last_ticket) (stored_only x (cell_at v.setup.capacity word) value) in
            let is = ap after_ticket last in let least = done.later in omega arith;
      };
      seen = done.seen;
    } where
      x : View
      x = used_up (drew v done.ticket)

    pub store_drew : (result : Result ⊤ Stopped) → OnOk result (HasStored word value v w) → IfErr result (λ e. Stops e.step v w) → Drew v w
    store_drew (Ok x) done stops = runs_drew v w (has_stored done).runs
    store_drew (Err e) done stops = stop_drew v w e.step stops

-- a crash leaves the value, or what was left or seen before
pub store_crash : (v w : SeatView) (word value : ℕ) → IsHeldWord v.view word → (result : Result ⊤ Stopped)
    → OnOk result (HasStored word value v.view w.view) → OnErr result (Row one_draw v w) → MayHave word value v.view w.view
store_crash v w word value held (Ok x) done none = record {
  each = λ read may. elim may as (λ _. (read ≡ value) ⊎ MayRead v.view word read) [
    | inl seen ↦ inl (subst (λ o. MayBe o read) done.seen seen)
    | inr left ↦ inr (done.crash read left)
  ];
}
store_crash v w word value held (Err e) done row = record {
  each = λ read may. inr (may_read_then v.view w.view word (row.view.words word held) read may);
}

-- a write-back, and a fence
module _ (v u w : SeatView) (drawn : HasDrawn v.view u.view) where
  pub marked_line : (word : ℕ) → IsLineMarked word u w → HasMarkedLine word v w
  marked_line word line = record {
    runs = runs_on v.view u.view w.view drawn (ap (λ (y : View). y.stopped) line.view) (ap parts line.view)
        (ap (λ (y : View). y.last_ticket) line.view);
    marked = λ k below same. line.in_line k (subst (λ n. k < image_words n) (sym (ap (λ (y : View). y.setup.capacity) drawn.left)) below) same;
  }

  pub line_row : (costs : Costs) (word : ℕ) → Row costs v u → IsLineMarked word u w → Row costs v w
  line_row costs word row line = record {
    view = subst (ViewRow costs v.view) (sym line.view) row.view;
    marks = λ k held on. elim (row.marks k held on) as (λ _. IsMarked w.marks k ⊎ IsDurableAt w.view k) [
      | inl still ↦ inl (line.kept k still)
      | inr durable ↦ inr (subst (λ (y : View). IsDurableAt y k) (sym line.view) durable)
    ];
  }

  pub line_looks : (word : ℕ) → IsLineMarked word u w → SameLooks v.view u.view → SameLooks v.view w.view
  line_looks word line before = same_looks v.view u.view w.view drawn before (ap (λ (y : View). y.used_look) line.view)
      (ap (λ (y : View). y.head_looks) line.view)

  pub fence_looks : IsSeatFence u w → SameLooks v.view u.view → SameLooks v.view w.view
  fence_looks fence before = same_looks v.view u.view w.view drawn before (ap (λ (y : View). y.used_look) fence.rest)
      (ap (λ (y : View). y.head_looks) fence.rest)

  pub has_fenced : u.marks ≡ v.marks → IsSeatFence u w → HasFenced v w
  has_fenced marks fence = record {
    runs = runs_on v.view u.view w.view drawn (ap (λ (y : View). y.stopped) fence.rest) (ap parts fence.rest)
        (ap (λ (y : View). y.last_ticket) fence.rest);
    durable = λ word own marked. fenced u w fence word (subst (λ (y : View). Owns y word) (sym drawn.left) own)
        (subst (λ m. IsMarked m word) (sym marks) marked);
  }
