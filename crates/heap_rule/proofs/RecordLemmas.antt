-- Of own words that stay own, a step leaves what is recorded as it is, but of the one that it is on.
use Rattle.std.proofs.Common.{◌≡◌, ◌≢◌, ◌<◌, ◌≤◌, ◌+◌, ℕ, zero, suc, Bool, true, false, cond, nat_eq, nat_lt, List, [], ◌∷◌, get_or, Option, None, Some, refl, ap, sym, subst, ◌∙◌, eqb-true, lt-ltb, arith}
use Rattle.std.proofs.lemmas.List.{get_or-set_other}
use Rattle.heap_model.specs.Counting.{times, one_if}
use Rattle.heap_model.specs.Words.{full_anchor, head_first}
use Rattle.core_model.specs.declared.event.Event.{Event}
use Rattle.core_model.specs.declared.event.Event.TheVariants.{Tick, Load, Store, Settle, LookUsed, TakeFresh, KeepUsed, LookHead, LookLink, Pop, Push, LookAnchor, TakeAll, Give}
use Rattle.core_model.specs.declared.event.Shift.{Shift}
use Rattle.core_model.specs.declared.event.Shift.TheVariants.{Cut, Alloc, Free, Lift, Large, Split}
use Rattle.core_model.specs.Cells.{Cell, info_cell, anchor_cell, link_cell, cell_at, index_of, is_cell}
use Rattle.core_model.specs.Effects.{before, claimed, drew, given, learn, learn_fresh, lost, only_own, popped, pushed, pushed_classed, pushed_raw, seen, seen_of, seen_word, stopped, taken_all, taken_fresh, trimmed, won}
use Rattle.core_model.specs.ViewAfter.{shifted}
use Rattle.core_model.specs.Guards.{IsOwn}
use Rattle.core_model.specs.Memory.{Memory, memory_of, used}
use Rattle.core_model.specs.View.{Setup, View, known, no_batch, times_claimed, times_classed, times_own, times_raw}
use Rattle.core_model.proofs.PlaceLemmas.{cell_at_index, not-lt}
use Rattle.core_model.proofs.QuietLemmas.{own_same}
use Rattle.core_model.proofs.TotalLemmas.{total_at}
use Rattle.heap_table.specs.Plays.{IsEvent}
use Rattle.heap_rule.specs.Records.{IsOn, KeepsRecord}
use Rattle.heap_rule.proofs.RawLemmas.{store_durable, store_volatile}
use Rattle.heap_rule.proofs.SettleLemmas.{own_index}

-- an own word of a trimmed view
pub only_at : (v : View) (index n : ℕ) (values : List (Option ℕ)) → 0 < times_own v (cell_at v.setup.capacity (index + n))
    → get_or (only_own v index values) n None ≡ get_or values n None
only_at v index n [] own = refl
only_at v index zero (value ∷ values) own =
    ap (λ test. cond test value None) (lt-ltb 0 (times_own v (cell_at v.setup.capacity index))
    (subst (λ j. 0 < times_own v (cell_at v.setup.capacity j)) (let e : index + 0 ≡ index = omega arith in e) own))
only_at v index (suc n) (value ∷ values) own = only_at v (index + 1) n values
    (subst (λ j. 0 < times_own v (cell_at v.setup.capacity j)) (let e : index + suc n ≡ index + 1 + n = omega arith in e) own)

-- the word is none of superblock d's descriptor
record IsElsewhere (word d : ℕ) : Type 0 where
  info : word ≢ index_of (info_cell d)
  anchor : word ≢ index_of (anchor_cell d)
  link : word ≢ index_of (link_cell d)

-- what is learned of fresh superblocks is of their descriptors
learn_elsewhere : (values : List (Option ℕ)) (u n word : ℕ) → ((d : ℕ) → u ≤ d → d < u + n → IsElsewhere word d)
    → get_or (learn_fresh values u n) word None ≡ get_or values word None
learn_elsewhere values u zero word apart = refl
learn_elsewhere values u (suc n) word apart = let here = apart u (omega arith) (omega arith) in
    learn_elsewhere (learn (learn (learn values (index_of (info_cell u)) 0) (index_of (anchor_cell u)) 0) (index_of (link_cell u)) 0)
    (u + 1) n word (λ d from until. apart d (omega arith) (omega arith))
    ∙ get_or-set_other (learn (learn values (index_of (info_cell u)) 0) (index_of (anchor_cell u)) 0) (index_of (link_cell u)) word
    (Some 0) None here.link
    ∙ get_or-set_other (learn values (index_of (info_cell u)) 0) (index_of (anchor_cell u)) word (Some 0) None here.anchor
    ∙ get_or-set_other values (index_of (info_cell u)) word (Some 0) None here.info

module _ (v w : View) (word : ℕ) (own : IsOwn v (cell_at v.setup.capacity word)) (still : IsOwn w (cell_at v.setup.capacity word)) where
  abbrev cell : Cell
  cell = cell_at v.setup.capacity word

  -- what is recorded is that of x, which has recorded the same
  plain : (x : View) → w ≡ x → x.volatile ≡ v.volatile → x.durable ≡ v.durable → KeepsRecord word v w
  plain x same volatile durable = record {
    volatile = ap (λ (u : View). known u.volatile cell) same ∙ ap (λ values. known values cell) volatile;
    durable = ap (λ (u : View). known u.durable cell) same ∙ ap (λ values. known values cell) durable;
  }

  -- or of it trimmed
  cut : (x : View) → w ≡ trimmed x → x.setup ≡ v.setup → x.volatile ≡ v.volatile → x.durable ≡ v.durable → KeepsRecord word v w
  cut x same setup volatile durable = record {
    volatile = ap (λ (u : View). known u.volatile cell) same ∙ only_at x 0 (index_of cell) x.volatile here ∙ ap (λ values. known values cell) volatile;
    durable = ap (λ (u : View). known u.durable cell) same ∙ only_at x 0 (index_of cell) x.durable here ∙ ap (λ values. known values cell) durable;
  } where
    in_x : 0 < times_own x cell
    in_x = subst (λ n. 0 < n) (sym (own_same x (trimmed x) refl cell)) (subst (λ (u : View). 0 < times_own u cell) same still)

    here : 0 < times_own x (cell_at x.setup.capacity (0 + index_of cell))
    here = subst (λ (k : Setup). 0 < times_own x (cell_at k.capacity (0 + index_of cell))) (sym setup)
        (subst (λ n. 0 < times_own x (cell_at v.setup.capacity n)) (let e : word ≡ 0 + index_of cell = (let at = own_index v word own in
        omega arith) in e) in_x)

  -- a word that is learned is another
  learned : (at value : ℕ) (values : List (Option ℕ)) → (at ≡ word → ⊥) → known (learn values at value) cell ≡ known values cell
  learned at value values other = get_or-set_other values at (index_of cell) (Some value) None (λ same. other (sym same ∙ own_index v word own))

  shifts : (m : Memory) (u : View) (shift : Option Shift) → w ≡ shifted m u shift → u.setup ≡ v.setup → u.volatile ≡ v.volatile
      → u.durable ≡ v.durable → KeepsRecord word v w
  shifts m u None after setup volatile durable = plain _ after volatile durable
  shifts m u (Some (Cut d)) after setup volatile durable = cut _ after setup volatile durable
  shifts m u (Some (Alloc class)) after setup volatile durable = plain _ after volatile durable
  shifts m u (Some (Free block)) after setup volatile durable = plain _ after volatile durable
  shifts m u (Some (Lift class)) after setup volatile durable = plain _ after volatile durable
  shifts m u (Some (Large d n)) after setup volatile durable = cut _ after setup volatile durable
  shifts m u (Some (Split block)) after setup volatile durable = plain _ after volatile durable

  draw_keeps : (shift : Option Shift) (ticket : ℕ) → IsEvent (Tick shift) v ticket w → KeepsRecord word v w
  draw_keeps shift ticket e = by_budget (nat_lt ticket v.setup.budget) e.after where
    by_budget : (below : Bool) → w ≡ cond below (shifted (memory_of v.setup.capacity e.before.words) (drew v ticket) shift) (stopped v ticket)
        → KeepsRecord word v w
    by_budget true after = shifts (memory_of v.setup.capacity e.before.words) (drew v ticket) shift after refl refl refl
    by_budget false after = plain _ after refl refl

  load_keeps : (at found : ℕ) → IsEvent (Load at) v found w → (at ≡ word → ⊥) → KeepsRecord word v w
  load_keeps at found e other = record {
    volatile = ap (λ (u : View). known u.volatile cell) e.after ∙ learned at found v.volatile other;
    durable = ap (λ (u : View). known u.durable cell) e.after;
  }

  store_keeps : (at value found : ℕ) → IsEvent (Store at value) v found w → (at ≡ word → ⊥) → KeepsRecord word v w
  store_keeps at value found e other = record {
    volatile = ap (λ values. known values cell) (store_volatile at value v w found e) ∙ learned at value v.volatile other;
    durable = ap (λ values. known values cell) (store_durable at value v w found e);
  }

  settle_keeps : (at found : ℕ) → IsEvent (Settle at) v found w → (at ≡ word → ⊥) → KeepsRecord word v w
  settle_keeps at found e other = record {
    volatile = ap (λ (u : View). known u.volatile cell) e.after ∙ learned at _ v.volatile other;
    durable = ap (λ (u : View). known u.durable cell) e.after ∙ learned at _ v.durable other;
  }

  -- superblocks that were never taken are no seat's
  fresh_elsewhere : (n found : ℕ) (e : IsEvent (TakeFresh n) v found w) → found ≡ seen v.seen_used → (d : ℕ) → seen v.seen_used ≤ d
      → d < seen v.seen_used + n → IsElsewhere word d
  fresh_elsewhere n found e same d from until = record {
    info = apart (info_cell d) (lt-ltb d v.setup.capacity inside) none_raw;
    anchor = apart (anchor_cell d) (lt-ltb d v.setup.capacity inside) none_raw;
    link = apart (link_cell d) (lt-ltb d v.setup.capacity inside) none;
  } where
    m : Memory
    m = memory_of v.setup.capacity e.before.words

    inside : d < v.setup.capacity
    inside = let room = e.may.ready.room in omega arith

    none : times_claimed d v ≡ 0
    none = let raw = total_at (times_raw d) e.before.views e.before.seat v e.before.below e.before.at in
        let classed = total_at (λ (u : View). times_classed d u.classed) e.before.views e.before.seat v e.before.below e.before.at in
        let place = e.before.sound.good.shaped.placed.one_place d in
        let past = ap one_if (not-lt d (used (memory_of v.setup.capacity e.before.words)) (let is = e.found_is in omega arith)) in omega arith

    none_raw : times_raw d v ≡ 0
    none_raw = let all = none in omega arith

    apart : (c : Cell) → is_cell v.setup.capacity c ≡ true → times_own v c ≡ 0 → word ≢ index_of c
    apart c is none_own at = let here = subst (λ (x : Cell). 0 < times_own v x) (ap (cell_at v.setup.capacity) at
        ∙ cell_at_index v.setup.capacity c is) own in omega arith

  fresh_keeps : (n found : ℕ) → IsEvent (TakeFresh n) v found w → KeepsRecord word v w
  fresh_keeps n found e = by_test (nat_eq found (seen v.seen_used)) refl e.after where
    by_test : (test : Bool) → nat_eq found (seen v.seen_used) ≡ test
        → w ≡ cond test (taken_fresh v n) (record (lost v found) { seen_used = None }) → KeepsRecord word v w
    by_test true is after = record {
      volatile = ap (λ (u : View). known u.volatile cell) after ∙ learn_elsewhere v.volatile (seen v.seen_used) n (index_of cell) apart;
      durable = ap (λ (u : View). known u.durable cell) after ∙ learn_elsewhere v.durable (seen v.seen_used) n (index_of cell) apart;
    } where
      apart : (d : ℕ) → seen v.seen_used ≤ d → d < seen v.seen_used + n → IsElsewhere (index_of cell) d
      apart d from until = subst (λ k. IsElsewhere k d) (sym (own_index v word own))
          (fresh_elsewhere n found e (eqb-true found (seen v.seen_used) is) d from until)
    by_test false is after = plain _ after refl refl

  claim_keeps : (u : View) (d list : ℕ) → w ≡ claimed u d list → u.volatile ≡ v.volatile → u.durable ≡ v.durable → KeepsRecord word v w
  claim_keeps u d zero after volatile durable = plain _ after volatile durable
  claim_keeps u d (suc class) after volatile durable = plain _ after volatile durable

  pop_keeps : (found : ℕ) → IsEvent Pop v found w → KeepsRecord word v w
  pop_keeps found e = by_test (nat_eq found (seen_word v.seen_head)) e.after where
    by_test : (test : Bool) → w ≡ cond test (popped v (before (head_first (seen_word v.seen_head))))
        (record (lost v found) { seen_head = None }) → KeepsRecord word v w
    by_test true after = claim_keeps _ (before (head_first (seen_word v.seen_head))) (seen_of v.seen_head) after refl refl
    by_test false after = plain _ after refl refl

  push_keeps : (d found : ℕ) → IsEvent (Push d) v found w → KeepsRecord word v w
  push_keeps d found e = by_test (nat_eq found (seen_word v.seen_head)) e.after where
    by_raw : (raw : Bool) → w ≡ cond raw (pushed_raw v d) (pushed_classed v d) → KeepsRecord word v w
    by_raw true after = cut _ after refl refl refl
    by_raw false after = cut _ after refl refl refl

    by_test : (test : Bool) → w ≡ cond test (pushed v d) (record (lost v found) { seen_head = None }) → KeepsRecord word v w
    by_test true after = by_raw (nat_lt 0 (times d v.raw + times d v.split)) after
    by_test false after = plain _ after refl refl

  take_all_keeps : (d found : ℕ) → IsEvent (TakeAll d) v found w → KeepsRecord word v w
  take_all_keeps d found e = by_test (nat_eq found (seen_word v.seen_anchor)) e.after where
    by_test : (test : Bool) → w ≡ cond test (taken_all (memory_of v.setup.capacity e.before.words) v d)
        (record (lost v found) { seen_anchor = None }) → KeepsRecord word v w
    by_test true after = cut _ after refl refl refl
    by_test false after = plain _ after refl refl

  abbrev gave : View
  gave = record (won v) { batch = no_batch; seen_anchor = None; gives = v.gives + 1 }

  give_keeps : (d found : ℕ) → IsEvent (Give d) v found w → KeepsRecord word v w
  give_keeps d found e = by_test (nat_eq found (seen_word v.seen_anchor)) e.after where
    by_class : (class : ℕ) → w ≡ trimmed (claimed gave d class) → KeepsRecord word v w
    by_class zero after = cut _ after refl refl refl
    by_class (suc class) after = cut _ after refl refl refl

    by_full : (full : Bool) → w ≡ trimmed (cond full (claimed gave d v.batch.class) gave) → KeepsRecord word v w
    by_full true after = by_class v.batch.class after
    by_full false after = cut _ after refl refl refl

    by_test : (test : Bool) → w ≡ cond test (given v d) (record (lost v found) { seen_anchor = None }) → KeepsRecord word v w
    by_test true after = by_full (nat_eq (seen_word v.seen_anchor) full_anchor) after
    by_test false after = plain _ after refl refl

  keeps_record : (event : Event) (found : ℕ) → IsEvent event v found w → (IsOn event word → ⊥) → KeepsRecord word v w
  keeps_record (Tick shift) found e other = draw_keeps shift found e
  keeps_record (Load at) found e other = load_keeps at found e other
  keeps_record (Store at value) found e other = store_keeps at value found e other
  keeps_record (Settle at) found e other = settle_keeps at found e other
  keeps_record LookUsed found e other = plain _ e.after refl refl
  keeps_record (TakeFresh n) found e other = fresh_keeps n found e
  keeps_record KeepUsed found e other = plain _ e.after refl refl
  keeps_record (LookHead list) found e other = plain _ e.after refl refl
  keeps_record LookLink found e other = plain _ e.after refl refl
  keeps_record Pop found e other = pop_keeps found e
  keeps_record (Push d) found e other = push_keeps d found e
  keeps_record (LookAnchor d) found e other = plain _ e.after refl refl
  keeps_record (TakeAll d) found e other = take_all_keeps d found e
  keeps_record (Give d) found e other = give_keeps d found e

pub records_stay : (event : Event) (v w : View) (found word : ℕ) → IsEvent event v found w → IsOwn v (cell_at v.setup.capacity word)
    → IsOwn w (cell_at v.setup.capacity word) → (IsOn event word → ⊥) → KeepsRecord word v w
records_stay event v w found word e own still other = keeps_record v w word own still event found e other
