-- What the splitting of a large block leaves.
use Rattle.std.proofs.Common.{◌≡◌, ◌≢◌, ◌<◌, ◌≤◌, ℕ, zero, suc, ◌+◌, ◌-◌, ◌*◌, ◌/◌, inl, inr, ◌++◌, List, [], ◌∷◌, cond, nat_eq, Option, None, Some, refl, ap, sym, subst, ◌∙◌, eq-eqb, ne_eqb, lt-ltb, arith}
use Rattle.std.proofs.lemmas.Bool.{cases_eq, cases_lt}
use Rattle.std.proofs.lemmas.List.{append-nil}
use Rattle.heap_model.proofs.ListLemmas.{times_append}
use Rattle.heap_model.specs.declared.block.Block.{Block}
use Rattle.heap_model.specs.Counting.{one_if, times, without}
use Rattle.heap_model.specs.Geometry.{anchor_word, start_word, superblock_words, superblocks_end, superblock_of}
use Rattle.core_model.specs.declared.event.Event.TheVariants.{Store, Tick}
use Rattle.core_model.specs.declared.event.Shift.TheVariants.{Split}
use Rattle.core_model.specs.Cells.{Cell, anchor_cell, cell_at}
use Rattle.core_model.specs.Effects.{span_count, steps}
use Rattle.core_model.specs.Guards.{IsOwn, MaySplit}
use Rattle.core_model.specs.Held.{IsHeld, a_large}
use Rattle.core_model.specs.View.{Setup, View}
use Rattle.core_model.proofs.FrameLemmas.{times_without, without_none}
use Rattle.core_model.proofs.TotalLemmas.{ne-eqb-none}
use Rattle.heap_table.specs.Plays.{HasSoundState, IsEvent}
use Rattle.heap_rule.specs.Fences.{Owns}
use Rattle.heap_rule.specs.Seated.{KeepsStores, SeatView}
use Rattle.heap_rule.specs.Shown.{IsShownFor, Shows, as_empty}
use Rattle.heap_rule.proofs.HeldLemmas.{held_placed}
use Rattle.heap_rule.proofs.RawLemmas.{raw_inside, raw_once}
use Rattle.large_block.specs.Splits.{HasCleared, HasClearedAll, HasSplit, MayHaveSplit, all_cleared, down, with_cleared, with_split}
use Rattle.large_block.proofs.FreshLemmas.{fresh_claimed}
use Rattle.seat_costs.specs.Costs.{no_costs, one_draw}
use Rattle.seat_costs.specs.Draws.{Settles}
use Rattle.seat_costs.specs.Rows.{HoldingRow, Parts, Row, Stops, parts}
use Rattle.seat_costs.specs.Words.{IsHeldWord, seen_at}
use Rattle.seat_costs.proofs.DrawLemmas.{row_of_stop, shifted_is, was_going}
use Rattle.seat_costs.proofs.RowLemmas.{holding_then, holding_within, row_then, row_within, stops_passed}
use Rattle.seat_costs.proofs.ShiftLemmas.{told_shift_row}
use Rattle.seat_costs.proofs.StoredLemmas.{may_store, not_held_at, stored_at}
use Rattle.seat_costs.specs.Stores.{HasStored}
use Rattle.seat_costs.proofs.WordLemmas.{anchor_at}

-- what does not stand in a list is not taken out of it
without_absent : (x : ℕ) (ys : List ℕ) → times x ys ≡ 0 → without x ys ≡ ys
without_absent x [] none = refl
without_absent x (y ∷ ys) none = elim (cases_eq y x) as (λ _. cond (nat_eq y x) ys (y ∷ without x ys) ≡ y ∷ ys) [
  | inl here ↦ absurd (let e = ap one_if (eq-eqb y x here) in omega arith)
  | inr other ↦ ap (λ t. cond t ys (y ∷ without x ys)) (ne_eqb y x other) ∙ ap (λ l. y ∷ l) (without_absent x ys (omega arith))
]

without_behind : (x : ℕ) (ys zs : List ℕ) → times x ys ≡ 0 → without x (ys ++ x ∷ zs) ≡ ys ++ zs
without_behind x [] zs none = ap (λ t. cond t zs (x ∷ without x zs)) (eq-eqb x x refl)
without_behind x (y ∷ ys) zs none = elim (cases_eq y x) as (λ _. cond (nat_eq y x) (ys ++ x ∷ zs) (y ∷ without x (ys ++ x ∷ zs)) ≡ y ∷ ys ++ zs) [
  | inl here ↦ absurd (let e = ap one_if (eq-eqb y x here) in omega arith)
  | inr other ↦ ap (λ t. cond t (ys ++ x ∷ zs) (y ∷ without x (ys ++ x ∷ zs))) (ne_eqb y x other)
      ∙ ap (λ l. y ∷ l) (without_behind x ys zs (omega arith))
]

times_other : (e x : ℕ) (ys : List ℕ) → x ≢ e → times e (without x ys) ≡ times e ys
times_other e x ys other = elim (cases_lt 0 (times x ys)) as (λ _. times e (without x ys) ≡ times e ys) [
  | inl some ↦ let t = times_without e x ys some in let none = ne-eqb-none x e other in omega arith
  | inr none ↦ without_none e x ys (omega arith)
]

-- of those that are not reached yet as many are left
split_still : (d k e : ℕ) (p : Parts) → d + k ≤ e → times e (all_cleared d k p).split ≡ times e p.split
split_still d zero e p behind = refl
split_still d (suc k) e p behind = times_other e (d + k) (all_cleared d k p).split (λ same. omega (arith, same, behind))
    ∙ split_still d k e p (omega arith)

-- all of them, the list that had them behind others
cleared_is : (d n k : ℕ) (p : Parts) (kept : List ℕ) → p.split ≡ kept ++ steps d 1 n → ((e : ℕ) → d ≤ e → e < d + n → times e kept ≡ 0) → k ≤ n
    → all_cleared d k p ≡ record p { raw = down d k ++ p.raw; split = kept ++ steps (d + k) 1 (n - k) }
cleared_is d n zero p kept is none less = ap (λ l. record p { split = l }) (is
    ∙ ap (λ i. kept ++ steps i 1 n) (let e : d ≡ d + 0 = omega arith in e) ∙ ap (λ m. kept ++ steps (d + 0) 1 m) (let e : n ≡ n - 0 = omega arith in e))
cleared_is d n (suc k) p kept is none less =
    ap (with_cleared (d + k)) (cleared_is d n k p kept is none (omega arith))
    ∙ ap (λ l. record p { raw = (d + k) ∷ down d k ++ p.raw; split = l }) (
    ap (λ m. without (d + k) (kept ++ steps (d + k) 1 m)) (let e : n - k ≡ suc (n - suc k) = omega arith in e)
    ∙ without_behind (d + k) kept (steps (d + k + 1) 1 (n - suc k)) (none (d + k) (omega arith) (omega arith))
    ∙ ap (λ i. kept ++ steps i 1 (n - suc k)) (let e : d + k + 1 ≡ d + suc k = omega arith in e))

pub cleared_all : (d n : ℕ) (p : Parts) (kept : List ℕ) → p.split ≡ kept ++ steps d 1 n → ((e : ℕ) → d ≤ e → e < d + n → times e kept ≡ 0)
    → all_cleared d n p ≡ record p { raw = down d n ++ p.raw; split = kept }
cleared_all d n p kept is none = cleared_is d n n p kept is none (omega arith)
    ∙ ap (λ l. record p { raw = down d n ++ p.raw; split = l }) (ap (λ m. kept ++ steps (d + n) 1 m) (let e : n - n ≡ 0 = omega arith in e)
    ∙ append-nil kept)

-- an anchor is stored to
module _ (v : View) (has : HasSoundState v) (e : ℕ) (split : 0 < times e v.split) where
  pub split_inside : e < v.setup.capacity
  split_inside = raw_inside v has e (omega arith)

  owned : (i : ℕ) → i < v.setup.capacity → Shows v (anchor_cell i) 0 → Owns v (anchor_word i)
  owned i less shows = subst (λ (cell : Cell). IsOwn v cell) (sym (anchor_at v.setup.capacity i less))
      ((has.sound.good.words has.seat v has.below has.at).volatile (anchor_cell i) 0 (lt-ltb i v.setup.capacity less) shows).0

  module _ (word : ℕ) (at : word ≡ anchor_word e) where
    is_anchor : cell_at v.setup.capacity word ≡ anchor_cell e
    is_anchor = ap (cell_at v.setup.capacity) at ∙ anchor_at v.setup.capacity e split_inside

    pub may_clear : IsShownFor v (Store word 0)
    may_clear = may_store v word (anchor_cell e) is_anchor 0 (omega arith) as_empty

    pub anchor_not_held : IsHeldWord v word → ⊥
    anchor_not_held = not_held_at v word (anchor_cell e) is_anchor refl

    pub anchor_cleared : (w : View) → HasStored word 0 v w → HasCleared e v w
    anchor_cleared w stored = let once = raw_once v has e in record {
      ran = stored.ran;
      going = stored.going;
      parts_are = ap parts (stored_at v word (anchor_cell e) is_anchor w 0 stored)
          ∙ ap (λ l. record (parts v) { raw = e ∷ l; split = without e v.split; cutting = without e v.cutting })
          (without_absent e v.raw (omega arith))
          ∙ ap (λ l. record (parts v) { raw = e ∷ v.raw; split = without e v.split; cutting = l }) (without_absent e v.cutting (omega arith));
      anchor = subst (λ n. seen_at w n ≡ Some 0) at stored.seen;
      others = λ i other less shows. (stored.words (anchor_word i) (λ is. let same = is ∙ at in omega (arith, same, other))
          (owned i less shows)).volatile 0 shows;
    }

-- how far the anchors are 0
pub record Clearing (d e : ℕ) (v t : SeatView) : Type 0 where
  pub going : t.view.stopped ≡ None
  pub parts_are : parts t.view ≡ all_cleared d (e - d) (parts v.view)
  pub anchors : (i : ℕ) → d ≤ i → i < e → Shows t.view (anchor_cell i) 0
  pub losses : t.view.losses ≡ v.view.losses
  pub row : Row (record no_costs { draws = e - d }) v t

pub still_split : (v t : SeatView) (d e : ℕ) → d ≤ e → Clearing d e v t → 0 < times e v.view.split → 0 < times e t.view.split
still_split v t d e from clearing split = let s = ap (λ (p : Parts). times e p.split) clearing.parts_are in
    let l = split_still d (e - d) e (parts v.view) (omega arith) in omega arith

pub clearing_on : (v t w : SeatView) (d e : ℕ) → d ≤ e → e ≤ v.view.setup.capacity → Clearing d e v t → HasCleared e t.view w.view
    → w.view.losses ≡ t.view.losses → Row one_draw t w → Clearing d (e + 1) v w
clearing_on v t w d e from inside clearing cleared losses row = record {
  going = cleared.going;
  parts_are = cleared.parts_are ∙ ap (with_cleared e) clearing.parts_are
      ∙ ap (λ i. with_cleared i (all_cleared d (e - d) (parts v.view))) (let s : e ≡ d + (e - d) = omega arith in s)
      ∙ ap (λ k. all_cleared d k (parts v.view)) (let s : suc (e - d) ≡ e + 1 - d = omega arith in s);
  anchors = λ i low until. elim (cases_eq i e) as (λ _. Shows w.view (anchor_cell i) 0) [
    | inl same ↦ subst (λ j. Shows w.view (anchor_cell j) 0) (sym same) cleared.anchor
    | inr other ↦ cleared.others i other (let c = ap (λ (k : Setup). k.capacity) clearing.row.view.passes.setup in
        omega (arith, other)) (clearing.anchors i low (omega (arith, other)))
  ];
  losses = losses ∙ clearing.losses;
  row = row_within (record no_costs { draws = e + 1 - d }) v w (record {
    draws = omega arith;
    wins = omega arith;
    gives = omega arith;
    cuts = omega arith;
    taken = omega arith;
    moves = omega arith;
  }) (row_then v t w clearing.row row);
}

-- the superblocks of a held large block
module _ (v : View) (has : HasSoundState v) (block : ℕ) (may : MaySplit v block) where
  abbrev pub first : ℕ
  first = superblock_of v.setup.capacity block

  abbrev pub large : Block
  large = record { first_word = start_word v.setup.capacity first; words = superblock_words * span_count first v.large }

  pub large_held : IsHeld v large
  large_held = a_large first (span_count first v.large) may.held refl

  pub large_inside : first + span_count first v.large ≤ v.setup.capacity
  large_inside = let p = held_placed v has large large_held in let until = p.until in let low = p.low in omega arith

  module _ (b : Block) (only : (a : Block) → IsHeld v a → 8 * a.first_word ≡ 8 * block → a ≡ b) where
    pub counted : b.words / superblock_words ≡ span_count first v.large
    counted = let words = ap (λ (a : Block). a.words) (only large large_held (let e = may.first in omega arith)) in omega arith

  pub block_small : block < superblocks_end v.setup.capacity
  block_small = let p = held_placed v has large large_held in let until = p.until in let low = p.low in let some = p.some in
      let at = may.first in omega arith

pub clearing_row : (v t w : SeatView) (d n e : ℕ) → d ≤ e → e < d + n → Clearing d e v t → Row one_draw t w → Row (record no_costs { draws = n }) v w
clearing_row v t w d n e from until clearing row = row_within (record no_costs { draws = n }) v w
    (record { draws = omega arith; wins = omega arith; gives = omega arith; cuts = omega arith; taken = omega arith; moves = omega arith })
    (row_then v t w clearing.row row)

-- the draw with which the block is held no more
module _ (v t : SeatView) (stores : KeepsStores v t) (block : ℕ)
    (event : v.view.stopped ≡ None → (early : View) × Settles v.view early × (found : ℕ) × IsEvent (Tick (Some (Split block))) early found t.view)
    (idle : (step : ℕ) → v.view.stopped ≡ Some step → t ≡ v) where
  abbrev d : ℕ
  d = superblock_of v.view.setup.capacity block

  abbrev n : ℕ
  n = span_count d v.view.large

  view_idle : (step : ℕ) → v.view.stopped ≡ Some step → t.view ≡ v.view
  view_idle step stop = ap (λ (x : SeatView). x.view) (idle step stop)

  ran : t.view.stopped ≡ None → v.view.stopped ≡ None
  ran going = was_going (Some (Split block)) v.view t.view event view_idle going

  pub opening_row : HoldingRow one_draw v t
  opening_row = told_shift_row v t stores (Split block) event idle

  opened : t.view.stopped ≡ None → (parts t.view ≡ with_split d (parts v.view)) × (d + n ≤ t.view.floor)
  opened going = let e = event (ran going) in let is = shifted_is v.view e.0 e.1 (Some (Split block)) t.view e.2 e.3 going in
      (ap parts is, let f = ap (λ (x : View). x.floor) is in omega arith)

  pub each_split : t.view.stopped ≡ None → (e : ℕ) → d ≤ e → e < d + n → 0 < times e t.view.split
  each_split going e from until = let s = ap (λ (p : Parts). times e p.split) (opened going).0 in
      let c = fresh_claimed v.view.split d n e from until in omega arith

  -- refused
  pub none_split : (step : ℕ) → t.view.stopped ≡ Some step → MayHaveSplit d v.view t.view
  none_split step stop = by_stop v.view.stopped refl where
    by_stop : (o : Option ℕ) → v.view.stopped ≡ o → MayHaveSplit d v.view t.view
    by_stop None went = let e = event went in let row = row_of_stop v.view e.0 e.1 (Some (Split block)) t.view e.2 e.3 step went stop in
        record { small = row.small; large = inl row.large }
    by_stop (Some before) had = let same = view_idle before had in
        record { small = ap (λ (x : View). x.small) same; large = inl (ap (λ (x : View). x.large) same) }

  pub refused_within : HoldingRow (record no_costs { draws = n + 1 }) v t
  refused_within = holding_within (record no_costs { draws = n + 1 }) v t
      (record { draws = omega arith; wins = omega arith; gives = omega arith; cuts = omega arith; taken = omega arith; moves = omega arith })
      opening_row

  -- and then the anchors
  module _ (w : SeatView) (going : t.view.stopped ≡ None) (row : Row (record no_costs { draws = n }) t w) where
    pub split_row : HoldingRow (record no_costs { draws = n + 1 }) v w
    split_row = holding_within (record no_costs { draws = n + 1 }) v w
        (record { draws = omega arith; wins = omega arith; gives = omega arith; cuts = omega arith; taken = omega arith; moves = omega arith })
        (holding_then v t w opening_row row)

    pub split_may : MayHaveSplit d v.view w.view
    split_may = record {
      small = row.view.small ∙ ap (λ (p : Parts). p.small) (opened going).0;
      large = inr (row.view.large ∙ ap (λ (p : Parts). p.large) (opened going).0);
    }

    pub split_stops : (step : ℕ) → Stops step t.view w.view → Stops step v.view w.view
    split_stops step stop = stops_passed v.view t.view w.view step (ran going) going opening_row.passes stop

    pub split_done : HasSoundState t.view → HasClearedAll d n t.view w.view → HasSplit d v.view w.view
    split_done has cleared = record {
      going = cleared.going;
      durable = let f = row.view.passes.floor in let o = (opened going).1 in omega arith;
      parts_are = cleared.parts_are ∙ ap (all_cleared d n) (opened going).0 ∙ cleared_all d n (with_split d (parts v.view)) v.view.split refl none;
      anchors = cleared.anchors;
    } where
      none : (e : ℕ) → d ≤ e → e < d + n → times e v.view.split ≡ 0
      none e from until = let once = raw_once t.view has e in let both = times_append e v.view.split (steps d 1 n) in
          let here = fresh_claimed [] d n e from until in
          let s = ap (λ (p : Parts). times e p.split) (opened going).0 in omega arith
