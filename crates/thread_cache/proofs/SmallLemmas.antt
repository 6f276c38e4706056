-- What holding and freeing a block of a class leaves.
use Rattle.std.proofs.Common.{◌≡◌, ◌≢◌, ◌≤◌, ◌<◌, ℕ, ◌+◌, inl, inr, Bool, true, false, cond, ◌&&◌, nat_eq, nat_le, nat_lt, List, [], ◌∷◌, Option, None, Some, length, set, refl, ap, sym, subst, ◌∙◌, le-leb, leb-true, lt-ltb, ltb-true, arith}
use Rattle.std.specs.Bool.{⊤}
use Rattle.std.specs.Prelude.{Result, Ok, Err, OnOk, IfErr}
use Rattle.std.proofs.lemmas.Bool.{cases_lt}
use Rattle.heap_model.specs.Blocks.{IsIn}
use Rattle.heap_model.specs.Counting.{times, total, one_if, without}
use Rattle.heap_model.specs.Geometry.{start_word, superblocks_end}
use Rattle.heap_model.specs.Sizes.{IsClass, blocks_of, words_of_class}
use Rattle.heap_model.proofs.SizeLemmas.{two_words}
use Rattle.line_memory.specs.declared.memory.Stopped.{Stopped}
use Rattle.core_model.specs.declared.event.Event.TheVariants.{Store, Tick}
use Rattle.core_model.specs.declared.event.Shift.TheVariants.{Alloc, Free}
use Rattle.core_model.specs.Cells.{Cell, used_cell, head_cell, info_cell, anchor_cell, link_cell, root_cell, data_cell, no_cell, cell_at, index_of}
use Rattle.core_model.specs.Effects.{drew, first_of, last_of, learn, rest_of, stored, used_up}
use Rattle.core_model.specs.ViewAfter.{after_free}
use Rattle.core_model.specs.Guards.{IsOwn}
use Rattle.core_model.specs.View.{Batch, View, of_class, times_block}
use Rattle.core_model.proofs.OwnerLemmas.{in_lists_total}
use Rattle.core_model.proofs.PlaceLemmas.{and_both, and_is, cell_at_index, not-eq, skip}
use Rattle.core_model.proofs.ClassListLemmas.{first_rest, in_classes_set, within_without}
use Rattle.seat_state.proofs.EndLemmas.{last_there}
use Rattle.seat_state.proofs.BlockRanges.{in_classes_word}
use Rattle.heap_rule.specs.Fences.{Owns}
use Rattle.heap_rule.specs.Seated.{SeatView, TellsDraw}
use Rattle.heap_rule.specs.Shown.{Can, CanFree, CanStore, Shows}
use Rattle.heap_rule.proofs.WordsLeftLemmas.{draw_frees}
use Rattle.heap_rule.proofs.RawLemmas.{store_shown}
use Rattle.heap_rule.proofs.SettleLemmas.{own_index}
use Rattle.heap_rule.proofs.StoredLemmas.{of_none}
use Rattle.seat_index.proofs.ViewBlocks.{block_once, block_range}
use Rattle.heap_table.specs.Plays.{HasSoundState, IsEvent}
use Rattle.superblock_lists.proofs.PopLemmas.{still_owns}
use Rattle.seat_costs.specs.Costs.{Costs, IsWithin, no_costs, one_draw}
use Rattle.seat_costs.specs.Draws.{Settles}
use Rattle.seat_costs.specs.Rows.{HasDrawn, HoldingRow, Parts, Passes, Row, RowBut, SameLooks, Stops, StoringRow, parts}
use Rattle.seat_costs.specs.Words.{IsHeldWord, times_held}
use Rattle.seat_costs.proofs.DrawLemmas.{early_rest, early_words, row_of_stop, shifted_is, stops}
use Rattle.seat_costs.proofs.RowLemmas.{but_fewer, but_then, row_but, stops_passed}
use Rattle.seat_costs.proofs.WordLemmas.{owns_held, still_held}
use Rattle.seat_costs.proofs.StoredLemmas.{drawn_as}
use Rattle.seat_model.proofs.ChangedBlocks.{class_in}
use Rattle.thread_cache.specs.Small.{HasAllocated, HasCached, HasWay, IsHeldOutside, MayHoldLess, block_of, with_freed}

-- a held block is the seat's once, and so neither cached nor in the batch
module _ (v : View) (has : HasSoundState v) (class block : ℕ) (is : IsClass class) (held : 0 < times block (of_class v.small class)) where
  had : 0 < times_block block v
  had = let small = in_lists_total block class v.small held in omega arith

  held_once : (total (times block) v.caches ≡ 0) × (times block v.batch.blocks ≡ 0)
  held_once = let once = block_once v has block in let small = in_lists_total block class v.small held in (omega arith, omega arith)

  block_is : cell_at v.setup.capacity block ≡ data_cell block
  block_is = let range = block_range v has block had in cell_at_index v.setup.capacity (data_cell block)
      (and_is (nat_le (start_word v.setup.capacity 0) block) (nat_lt block (superblocks_end v.setup.capacity))
      (le-leb (start_word v.setup.capacity 0) block range.0) (lt-ltb block (superblocks_end v.setup.capacity) range.1))

  block_own : IsOwn v (data_cell block)
  block_own = let two = two_words class is in let there = in_classes_word block block 0 class v.small (omega arith)
      (subst (λ c. block < block + words_of_class c) (let e : class ≡ 0 + class = omega arith in e) (omega arith)) held in omega arith

  block_owned : Owns v block
  block_owned = subst (IsOwn v) (sym block_is) block_own

  pub can_lead : (u : View) (value : ℕ) → HasDrawn v u → Can u (Store block value)
  can_lead u value drawn = subst (λ (x : View). Can x (Store block value)) (sym drawn.left) (record {
    going = drawn.went;
    ticket = refl;
    shown = subst (λ (cell : Cell). IsOwn (drawn_as v drawn.ticket u) cell × CanStore (drawn_as v drawn.ticket u) cell value) (sym block_is)
        (block_own, (let once = held_once in record { uncached = once.0; in_batch = inl once.1 }));
  })

  -- it is not the last one of the batch, so a store to it leaves the batch as it is
  not_last : block ≢ last_of v.batch.blocks
  not_last same = elim (cases_lt 0 (length v.batch.blocks)) [
    | inl some ↦ absurd (let none = held_once in let there = subst (λ n. 0 < times n v.batch.blocks) (sym same)
        (last_there v.batch.blocks (omega arith)) in let no = none.1 in omega arith)
    | inr none ↦ let zero_last = of_none v.batch.blocks (omega arith) in let range = block_range v has block had in let low = range.0 in
        omega (arith, same, zero_last, low)
  ]

  batch_is : record v.batch { linked = cond (nat_eq block (last_of v.batch.blocks)) false v.batch.linked } ≡ v.batch
  batch_is = ap (λ l. record v.batch { linked = l }) (skip (nat_eq block (last_of v.batch.blocks)) false v.batch.linked
      (not-eq block (last_of v.batch.blocks) not_last))

  pub way_left : (u w : View) (first found : ℕ) → HasDrawn v u → first ≡ first_of (of_class u.caches class)
      → IsEvent (Store block first) u found w → HasWay block class v w
  way_left u w first found drawn first_is event = record {
    ran = drawn.went;
    going = ap (λ (x : View). x.stopped) left ∙ drawn.went;
    parts_are = ap parts left ∙ ap (λ (b : Batch). record (parts v) { batch = b }) batch_is;
    way = λ _. subst (Shows w (data_cell block)) (first_is ∙ ap (λ (x : View). first_of (of_class x.caches class)) drawn.left)
        (subst (λ (cell : Cell). Shows w cell first) here (store_shown block first u w found event));
  } where
    here : cell_at u.setup.capacity block ≡ data_cell block
    here = ap (λ (x : View). cell_at x.setup.capacity block) drawn.left ∙ block_is

    left : w ≡ record (used_up (drawn_as v drawn.ticket u)) {
      volatile = learn u.volatile block first;
      batch = record v.batch { linked = cond (nat_eq block (last_of v.batch.blocks)) false v.batch.linked };
    }
    left = event.after
        ∙ ap (λ (cell : Cell). stored (record (used_up u) { volatile = learn u.volatile block first }) cell first) here
        ∙ ap (λ (x : View). record (used_up x) {
          volatile = learn u.volatile block first;
          batch = record x.batch { linked = cond (nat_eq block (last_of x.batch.blocks)) false x.batch.linked };
        }) drawn.left

  pub no_way : (u : View) → HasDrawn v u → length (of_class u.caches class) ≡ 0 → HasWay block class v u
  no_way u drawn none = record {
    ran = drawn.went;
    going = ap (λ (x : View). x.stopped) drawn.left ∙ drawn.went;
    parts_are = ap parts drawn.left;
    way = λ some. absurd (let same = ap (λ (x : View). length (of_class x.caches class)) drawn.left in omega (arith, some, none));
  }

  -- the block is freed
  module _ (t : View) (way : HasWay block class v t) where
    way_early : (early : View) → Settles t early → HasWay block class v early
    way_early early settles = record {
      ran = way.ran;
      going = ap (λ (x : View). x.stopped) (early_rest t early settles) ∙ way.going;
      parts_are = ap parts (early_rest t early settles) ∙ way.parts_are;
      way = λ some. (early_words t early settles block (still_owns v t way.parts_are block block_owned)).volatile
          (first_of (of_class v.caches class)) (way.way some);
    }

  abbrev free_shown : (t : View) → HasWay block class v t → CanFree t block
  free_shown t way = record {
    class = class;
    held = subst (λ (p : Parts). 0 < times block (of_class p.small class)) (sym way.parts_are) held;
    linked = subst (λ (p : Parts). 1 ≤ length (of_class p.caches class) → Shows t (data_cell block) (first_of (of_class p.caches class)))
        (sym way.parts_are) way.way;
  }

  pub can_free : (t : View) → HasWay block class v t → Can t (Tick (Some (Free block)))
  can_free t way = record { going = way.going; ticket = tt; shown = free_shown t way }

  module _ (t early w : View) (found : ℕ) (way : HasWay block class v t) (settles : Settles t early)
      (event : IsEvent (Tick (Some (Free block))) early found w) where
    freed_is : w.stopped ≡ None → w ≡ after_free (drew early found) class block
    freed_is going = draw_frees block early w found event going (free_shown early (way_early t way early settles))

    pub cached : w.stopped ≡ None → HasCached block class v w
    cached going = record {
      ran = way.ran;
      going = going;
      parts_are = ap parts (freed_is going)
          ∙ ap (λ (p : Parts). with_freed class block (block ∷ of_class p.caches class) p) (way_early t way early settles).parts_are;
    }

    pub cached_told : (result : Result ⊤ Stopped) → TellsDraw w result → OnOk result (HasCached block class v w)
    cached_told (Ok x) going = cached going
    cached_told (Err e) told = tt

    pub free_stopped : {a : Costs} → Passes a v t → (result : Result ⊤ Stopped) → TellsDraw w result → IfErr result (λ e. Stops e.step v w)
    free_stopped passes (Ok x) going = tt
    free_stopped passes (Err e) told = stops_passed v t w e.step way.ran way.going passes
        (stops t early settles (Some (Free block)) w found event e.step way.going told)

    pub may_hold_less : MayHoldLess block class v w
    may_hold_less = by_stop w.stopped refl where
      by_stop : (o : Option ℕ) → w.stopped ≡ o → MayHoldLess block class v w
      by_stop None going = let p = (cached going).parts_are in record {
        large = ap (λ (x : Parts). x.large) p;
        small = inr (ap (λ (x : Parts). x.small) p);
      }
      by_stop (Some step) stop = let row = row_of_stop t early settles (Some (Free block)) w found event step way.going stop in record {
        large = row.large ∙ ap (λ (x : Parts). x.large) way.parts_are;
        small = inl (row.small ∙ ap (λ (x : Parts). x.small) way.parts_are);
      }

pub within_itself : {a : Costs} → IsWithin a a
within_itself = record { draws = omega arith; wins = omega arith; gives = omega arith; cuts = omega arith; taken = omega arith; moves = omega arith }

-- a word outside the block is not counted for it
outside : (b words word : ℕ) → (IsIn (record { first_word = b; words = words }) word → ⊥) → one_if (nat_le b word && nat_lt word (b + words)) ≡ 0
outside b words word out = by_test (nat_le b word && nat_lt word (b + words)) refl where
  by_test : (test : Bool) → (nat_le b word && nat_lt word (b + words)) ≡ test → one_if (nat_le b word && nat_lt word (b + words)) ≡ 0
  by_test true e = let both = and_both (nat_le b word) (nat_lt word (b + words)) e in
      absurd (out (record { from = leb-true b word both.0; until = ltb-true word (b + words) both.1 }))
  by_test false e = ap one_if e

-- the words of all other held blocks are held still
module _ (v : View) (class block : ℕ) (below : class < length v.small) (held : 0 < times block (of_class v.small class)) where
  abbrev without_it : View
  without_it = record v { small = set v.small class (without block (of_class v.small class)) }

  held_words : (k : ℕ) (cell : Cell) → index_of cell ≡ k → (IsIn (block_of class block) k → ⊥) → times_held without_it cell ≡ times_held v cell
  held_words k used_cell at out = refl
  held_words k (head_cell list) at out = refl
  held_words k (info_cell d) at out = refl
  held_words k (anchor_cell d) at out = refl
  held_words k (link_cell d) at out = refl
  held_words k (root_cell i) at out = refl
  held_words k (data_cell word) at out =
      let plus : 0 + class ≡ class = omega arith in
      let all = in_classes_set word 0 class v.small (without block (of_class v.small class)) below in
      let some = within_without (words_of_class (0 + class)) word block (of_class v.small class) held in
      let none = outside block (words_of_class (0 + class)) word (subst (λ c. IsIn (block_of c block) word → ⊥) (sym plus)
      (subst (λ n. IsIn (block_of class block) n → ⊥) (sym at) out)) in
      omega (arith, all, some, none)
  held_words k no_cell at out = refl

  pub held_outside : (w : View) → w.setup ≡ v.setup → w.roots ≡ v.roots → MayHoldLess block class v w → (k : ℕ)
      → IsHeldOutside v (block_of class block) k → IsHeldWord w k
  held_outside w setup roots may k kept = elim may.small as (λ _. IsHeldWord w k) [
    | inl same ↦ still_held v w setup same may.large roots k kept.0
    | inr less ↦ still_held without_it w setup less may.large roots k
        (let same = held_words k (cell_at v.setup.capacity k) (own_index v k (owns_held v k kept.0)) kept.1 in let h = kept.0 in omega (arith, same, h))
  ]

-- a row that stores to no held word, as one that may
pub row_storing : {a : Costs} (word : ℕ) (v w : SeatView) → Row a v w → StoringRow word a v w
row_storing {a} word v w p = record {
  small = p.view.small;
  large = p.view.large;
  but = but_fewer (λ k. IsHeldWord v.view k × (k ≢ word)) a v w (λ k both. both.0) within_itself (row_but v w p);
}

is_first : (class block : ℕ) → IsClass class → IsIn (block_of class block) block
is_first class block is = let two = two_words class is in record { from = omega arith; until = omega arith }

pub lead_row : (v t : SeatView) (class block : ℕ) → IsClass class → StoringRow block one_draw v t
    → RowBut (IsHeldOutside v.view (block_of class block)) (record no_costs { draws = 2 }) v t
lead_row v t class block is storing = but_fewer (IsHeldOutside v.view (block_of class block)) (record no_costs { draws = 2 }) v t
    (λ k kept. (kept.0, λ same. kept.1 (subst (IsIn (block_of class block)) (sym same) (is_first class block is))))
    (record { draws = omega arith; wins = omega arith; gives = omega arith; cuts = omega arith; taken = omega arith; moves = omega arith }) storing.but

-- the store, and the draw with the change
pub freed_row : (v t w : SeatView) (has : HasSoundState v.view) (class block : ℕ) (is : IsClass class)
    (held : 0 < times block (of_class v.view.small class))
    → StoringRow block one_draw v t → HoldingRow one_draw t w → MayHoldLess block class v.view w.view
    → RowBut (IsHeldOutside v.view (block_of class block)) (record no_costs { draws = 2 }) v w
freed_row v t w has class block is held storing holding may = but_then v t w
    (but_fewer Kept one_draw v t (λ k kept. (kept.0, λ same. kept.1 (subst (IsIn (block_of class block)) (sym same) (is_first class block is))))
    within_itself storing.but)
    (but_fewer Kept one_draw t w (λ k kept. (
      still_held v.view t.view storing.but.passes.setup storing.small storing.large storing.but.passes.roots k kept.0,
      held_outside v.view class block (class_in v.view has class is) held w.view (holding.passes.setup ∙ storing.but.passes.setup)
          (holding.passes.roots ∙ storing.but.passes.roots) may k kept,
    )) within_itself holding) where
      Kept : ℕ → Type 0
      Kept = IsHeldOutside v.view (block_of class block)

-- the first block of a cache is held
rest_length : (bs : List ℕ) → 1 ≤ length bs → length (rest_of bs) + 1 ≡ length bs
rest_length [] some = absurd (omega (arith, some))
rest_length (b ∷ bs) some = omega arith

module _ (v early w : View) (class found : ℕ) (settles : Settles v early) (event : IsEvent (Tick (Some (Alloc class))) early found w) where
  pub allocated : (first words : ℕ) → 1 ≤ length (of_class v.caches class) → length (of_class v.caches class) ≤ blocks_of class
      → first ≡ first_of (of_class v.caches class) → words ≡ words_of_class class → w.stopped ≡ None
      → HasAllocated class (record { first_word = first; words = words }) v w
  allocated first words some most is size going = record {
    going = going;
    size = size;
    cache = rest_of (of_class v.caches class);
    first = λ _. first_rest (of_class v.caches class) some ∙ ap (λ b. b ∷ rest_of (of_class v.caches class)) (sym is);
    short = let rest = rest_length (of_class v.caches class) some in omega (arith, rest, most);
    cut = λ rose. absurd (let same = ap (λ (x : View). x.cuts) (shifted_is v early settles (Some (Alloc class)) w found event going) in
        omega (arith, same, rose));
    parts_are = ap parts (shifted_is v early settles (Some (Alloc class)) w found event going)
        ∙ ap (λ b. record (parts v) {
          small = set v.small class (b ∷ of_class v.small class);
          caches = set v.caches class (rest_of (of_class v.caches class));
        }) (sym is);
  }

  pub alloc_looks : w.stopped ≡ None → SameLooks v w
  alloc_looks going = let left = shifted_is v early settles (Some (Alloc class)) w found event going in
      record { used = ap (λ (x : View). x.used_look) left; heads = ap (λ (x : View). x.head_looks) left }
