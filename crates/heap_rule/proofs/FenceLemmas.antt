-- A row of words that are settled one after the other.
use Rattle.std.proofs.Common.{◌≡◌, ◌≢◌, ℕ, ◌<◌, ◌↔◌, ◌⊎◌, inl, inr, false, Some, None, List, [], ◌∷◌, ◌++◌, get_or, set, length, refl, ap, sym, subst, ◌∙◌, true≢false, arith, zero, suc, ◌+◌, Bool, true, ◌/◌}
use Rattle.std.proofs.lemmas.Bool.{cases_eq, cases_lt}
use Rattle.std.proofs.lemmas.List.{get_or-set_same, get_or-set_other}
use Rattle.heap_model.specs.Counting.{times, one_if}
use Rattle.line_memory.specs.Marks.{mark_at, IsMarked}
use Rattle.core_model.specs.declared.event.Event.TheVariants.{Settle}
use Rattle.core_model.specs.Cells.{cell_at}
use Rattle.core_model.specs.Effects.{learn}
use Rattle.core_model.specs.Memory.{memory_of}
use Rattle.core_model.specs.View.{Setup, View, known}
use Rattle.core_model.proofs.FrameLemmas.{times_append}
use Rattle.core_model.proofs.QuietLemmas.{own_same}
use Rattle.core_model.proofs.TotalLemmas.{eq-eqb-one, ne-eqb-none}
use Rattle.heap_rule.specs.Fences.{Owns, Settles, IsRecordedDurable, KeepsRecords, IsSeatFence, SettlesOwn, is_own, not_own}
use Rattle.heap_table.specs.Plays.{IsEvent}
use Rattle.heap_rule.specs.Seated.{SeatView}
use Rattle.heap_rule.proofs.SettleLemmas.{own_there, own_index, own_below}
use Rattle.heap_rule.proofs.ViewLemmas.{shown}
use Rattle.heap_rule.specs.Shown.{Shows, ShowsDurable}

module _ (v w : View) (word found : ℕ) (event : IsEvent (Settle word) v found w) where
  abbrev x : ℕ
  x = (memory_of v.setup.capacity event.before.words).volatile (cell_at v.setup.capacity word)

  abbrev made : View
  made = record v { volatile = learn v.volatile word x; durable = learn v.durable word x }

  pub settle_setup : w.setup ≡ v.setup
  settle_setup = ap (λ (u : View). u.setup) event.after

  pub settle_going : w.stopped ≡ v.stopped
  settle_going = ap (λ (u : View). u.stopped) event.after

  pub owns_after : (k : ℕ) → Owns w k ↔ Owns v k
  owns_after k = subst (λ u. Owns u k ↔ Owns v k) (sym event.after) (
    λ own. subst (λ n. 0 < n) (own_same v made refl (cell_at v.setup.capacity k)) own,
    λ own. subst (λ n. 0 < n) (sym (own_same v made refl (cell_at v.setup.capacity k))) own,
  )

  long_volatile : word < length v.volatile
  long_volatile = let s = event.before in let l = (s.sound.good.set_up s.seat v s.below s.at).volatile in
      let b = own_below v word event.may.ready in omega arith

  long_durable : word < length v.durable
  long_durable = let s = event.before in let l = (s.sound.good.set_up s.seat v s.below s.at).durable in
      let b = own_below v word event.may.ready in omega arith

  pub is_durable : IsRecordedDurable w word
  is_durable = subst (λ u. IsRecordedDurable u word) (sym event.after) (record {
    value = x;
    volatile = ap (λ n. get_or (set v.volatile word (Some x)) n None) (own_index v word event.may.ready)
        ∙ get_or-set_same v.volatile word (Some x) None long_volatile;
    durable = ap (λ n. get_or (set v.durable word (Some x)) n None) (own_index v word event.may.ready)
        ∙ get_or-set_same v.durable word (Some x) None long_durable;
  })

  -- of another own word the same is recorded
  pub other_kept : (k : ℕ) → k ≢ word → Owns v k → KeepsRecords v w k
  other_kept k other own = subst (λ u. KeepsRecords v u k) (sym event.after) (record {
    volatile = ap (λ n. get_or (set v.volatile word (Some x)) n None) (own_index v k own)
        ∙ get_or-set_other v.volatile word k (Some x) None other ∙ sym (ap (λ n. get_or v.volatile n None) (own_index v k own));
    durable = ap (λ n. get_or (set v.durable word (Some x)) n None) (own_index v k own) ∙ get_or-set_other v.durable word k (Some x) None other
        ∙ sym (ap (λ n. get_or v.durable n None) (own_index v k own));
  })

  pub stays_durable : (k : ℕ) → Owns v k → IsRecordedDurable v k → IsRecordedDurable w k
  stays_durable k own before = elim (cases_eq k word) as (λ _. IsRecordedDurable w k) [
    | inl same ↦ subst (IsRecordedDurable w) (sym same) is_durable
    | inr other ↦ let kept = other_kept k other own in record {
      value = before.value;
      volatile = subst (λ (s : Setup). Shows w (cell_at s.capacity k) before.value) (sym settle_setup) (kept.volatile ∙ before.volatile);
      durable = subst (λ (s : Setup). ShowsDurable w (cell_at s.capacity k) before.value) (sym settle_setup) (kept.durable ∙ before.durable);
    }
  ]

  -- what loads see of an own word stays as it was recorded
  pub stays_seen : (k value : ℕ) → Owns v k → Shows v (cell_at v.setup.capacity k) value → Shows w (cell_at v.setup.capacity k) value
  stays_seen k value own before = elim (cases_eq k word) as (λ _. Shows w (cell_at v.setup.capacity k) value) [
    | inl same ↦ subst (λ z. Shows w (cell_at v.setup.capacity z) value) (sym same)
        (here (subst (λ z. Shows v (cell_at v.setup.capacity z) value) same before))
    | inr other ↦ (other_kept k other own).volatile ∙ before
  ] where
    here : Shows v (cell_at v.setup.capacity word) value → Shows w (cell_at v.setup.capacity word) value
    here is = subst (λ u. Shows u (cell_at v.setup.capacity word) value) (sym event.after) (
        ap (λ n. get_or (set v.volatile word (Some x)) n None) (own_index v word event.may.ready)
        ∙ get_or-set_same v.volatile word (Some x) None long_volatile
        ∙ ap Some (shown v event.before (cell_at v.setup.capacity word) value (own_there v word event.may.ready) is))

  pub rest_stays : w ≡ record v { volatile = w.volatile; durable = w.durable }
  rest_stays = subst (λ u. u ≡ record v { volatile = u.volatile; durable = u.durable }) (sym event.after) refl

settles_one_more : (v u w : View) (words : List ℕ) (word found : ℕ) → Settles v words u → IsEvent (Settle word) u found w
    → Settles v (words ++ word ∷ []) w
settles_one_more v u w [] word found is event = (w, (found, subst (λ z. IsEvent (Settle word) z found w) is event), refl)
settles_one_more v u w (y ∷ words) word found is event = (is.0, is.1, settles_one_more is.0 u w words word found is.2 event)

-- what a word's settling says speaks of the view alone
pub settles_at : (word : ℕ) (u v w : SeatView) → u.view ≡ v.view → SettlesOwn word u w → SettlesOwn word v w
settles_at word u v w same (is_own own found event) = is_own (subst (λ z. Owns z word) same own) found
    (subst (λ z. IsEvent (Settle word) z found w.view) same event)
settles_at word u v w same (not_own not kept) = not_own (λ own. not (subst (λ z. Owns z word) (sym same) own)) (kept ∙ same)

keeps_then : (v u w : View) (k : ℕ) → u.setup ≡ v.setup → KeepsRecords v u k → KeepsRecords u w k → KeepsRecords v w k
keeps_then v u w k same a b = record {
  volatile = subst (λ (s : Setup). known w.volatile (cell_at s.capacity k) ≡ known u.volatile (cell_at s.capacity k)) same b.volatile ∙ a.volatile;
  durable = subst (λ (s : Setup). known w.durable (cell_at s.capacity k) ≡ known u.durable (cell_at s.capacity k)) same b.durable ∙ a.durable;
}

rest_then : (v u w : View) → u ≡ record v { volatile = u.volatile; durable = u.durable } → w ≡ record u { volatile = w.volatile; durable = w.durable }
    → w ≡ record v { volatile = w.volatile; durable = w.durable }
rest_then v u w a b = b ∙ ap (λ (z : View). record z { volatile = w.volatile; durable = w.durable }) a

-- how far a fence has come
pub record IsRow (v w : SeatView) (words : List ℕ) : Type 0 where
  pub settles : Settles v.view words w.view
  pub own : (k : ℕ) → Owns w.view k ↔ Owns v.view k
  pub in_row : (k : ℕ) → 0 < times k words → IsMarked v.marks k × Owns v.view k × IsRecordedDurable w.view k
  pub seen : (k value : ℕ) → Owns v.view k → Shows v.view (cell_at v.view.setup.capacity k) value → Shows w.view (cell_at v.view.setup.capacity k) value
  pub others : (k : ℕ) → Owns v.view k → (IsMarked v.marks k → ⊥) → KeepsRecords v.view w.view k
  pub rest : w.view ≡ record v.view { volatile = w.view.volatile; durable = w.view.durable }
  pub all : (k : ℕ) → IsMarked v.marks k → Owns v.view k → (0 < times k words) ⊎ IsMarked w.marks k
  pub left : (k : ℕ) → IsMarked w.marks k → IsMarked v.marks k
  pub going : w.view.stopped ≡ v.view.stopped
  pub stores : w.stores ≡ v.stores

pub row_start : (v : SeatView) → IsRow v v []
row_start v = record {
  settles = refl;
  own = λ k. (λ o. o, λ o. o);
  in_row = λ k some. absurd (omega arith);
  seen = λ k value own is. is;
  others = λ k own none. record { volatile = refl; durable = refl };
  rest = refl;
  all = λ k marked own. inr marked;
  left = λ k marked. marked;
  going = refl;
  stores = refl;
}

module _ (v u w : SeatView) (words : List ℕ) (word : ℕ) (row : IsRow v u words) (marked : IsMarked u.marks word) (stores : w.stores ≡ u.stores)
    (marks : w.marks ≡ set u.marks word false) where
  other_mark : (k : ℕ) → k ≢ word → mark_at w.marks k ≡ mark_at u.marks k
  other_mark k other = ap (λ l. get_or l k false) marks ∙ get_or-set_other u.marks word k false false other

  still_marked : (k : ℕ) → IsMarked w.marks k → IsMarked u.marks k
  still_marked k is = elim (cases_eq k word) as (λ _. IsMarked u.marks k) [
    | inl same ↦ subst (IsMarked u.marks) (sym same) marked
    | inr other ↦ sym (other_mark k other) ∙ is
  ]

  same_setup : u.view.setup ≡ v.view.setup
  same_setup = ap (λ (z : View). z.setup) row.rest

  pub row_step : SettlesOwn word u w → (next : List ℕ) × IsRow v w next
  row_step (is_own own found event) = (
    words ++ word ∷ [],
    record {
      settles = settles_one_more v.view u.view w.view words word found row.settles event;
      own = λ k. let a = owns_after u.view w.view word found event k in let b = row.own k in (λ o. b.0 (a.0 o), λ o. a.1 (b.1 o));
      in_row = λ k some. elim (cases_lt 0 (times k words)) [
        | inl old ↦ let r = row.in_row k old in (r.0, r.1, stays_durable u.view w.view word found event k ((row.own k).1 r.1) r.2)
        | inr none ↦ let here = is_word k (let a = times_append k words (word ∷ []) in omega arith) in (
          subst (IsMarked v.marks) here (row.left word marked),
          subst (Owns v.view) here ((row.own word).0 own),
          subst (IsRecordedDurable w.view) here (is_durable u.view w.view word found event),
        )
      ];
      seen = λ k value owned is. subst (λ (s : Setup). Shows w.view (cell_at s.capacity k) value) same_setup
          (stays_seen u.view w.view word found event k value ((row.own k).1 owned)
          (subst (λ (s : Setup). Shows u.view (cell_at s.capacity k) value) (sym same_setup) (row.seen k value owned is)));
      others = λ k owned none. elim (cases_eq k word) as (λ _. KeepsRecords v.view w.view k) [
        | inl same ↦ absurd (none (subst (IsMarked v.marks) (sym same) (row.left word marked)))
        | inr other ↦ keeps_then v.view u.view w.view k same_setup (row.others k owned none)
            (other_kept u.view w.view word found event k other ((row.own k).1 owned))
      ];
      rest = rest_then v.view u.view w.view row.rest (rest_stays u.view w.view word found event);
      all = λ k m o. elim (cases_eq k word) as (λ _. (0 < times k (words ++ word ∷ [])) ⊎ IsMarked w.marks k) [
        | inl same ↦ inl (let a = times_append k words (word ∷ []) in let one = eq-eqb-one word k (sym same) in omega arith)
        | inr other ↦ elim (row.all k m o) as (λ _. (0 < times k (words ++ word ∷ [])) ⊎ IsMarked w.marks k) [
          | inl old ↦ inl (let a = times_append k words (word ∷ []) in omega arith)
          | inr left ↦ inr (other_mark k other ∙ left)
        ]
      ];
      left = λ k m. row.left k (still_marked k m);
      going = settle_going u.view w.view word found event ∙ row.going;
      stores = stores ∙ row.stores;
    },
  ) where
    is_word : (k : ℕ) → 0 < times k (word ∷ []) → word ≡ k
    is_word k there = elim (cases_eq word k) as (λ _. word ≡ k) [
      | inl same ↦ same
      | inr other ↦ absurd (let z = ne-eqb-none word k other in omega arith)
    ]
  row_step (not_own not same) = (
    words,
    record {
      settles = subst (λ z. Settles v.view words z) (sym same) row.settles;
      own = λ k. subst (λ z. Owns z k ↔ Owns v.view k) (sym same) (row.own k);
      in_row = λ k some. let r = row.in_row k some in (r.0, r.1, subst (λ z. IsRecordedDurable z k) (sym same) r.2);
      seen = λ k value owned is. subst (λ z. Shows z (cell_at v.view.setup.capacity k) value) (sym same) (row.seen k value owned is);
      others = λ k owned none. subst (λ z. KeepsRecords v.view z k) (sym same) (row.others k owned none);
      rest = subst (λ (z : View). z ≡ record v.view { volatile = z.volatile; durable = z.durable }) (sym same) row.rest;
      all = λ k m o. elim (cases_eq k word) as (λ _. (0 < times k words) ⊎ IsMarked w.marks k) [
        | inl here ↦ absurd (not (subst (Owns u.view) here ((row.own k).1 o)))
        | inr other ↦ elim (row.all k m o) as (λ _. (0 < times k words) ⊎ IsMarked w.marks k) [
          | inl old ↦ inl old
          | inr left ↦ inr (other_mark k other ∙ left)
        ]
      ];
      left = λ k m. row.left k (still_marked k m);
      going = ap (λ (z : View). z.stopped) same ∙ row.going;
      stores = stores ∙ row.stores;
    },
  )

pub row_whole : (v w : SeatView) (words : List ℕ) → IsRow v w words → ((k : ℕ) → mark_at w.marks k ≡ false) → IsSeatFence v w
row_whole v w words row clear = record {
  words = words;
  settles = row.settles;
  exactly = λ k. (λ some. let r = row.in_row k some in (r.0, r.1), λ is. in_words k is.0 is.1);
  durable = λ k m o. (row.in_row k (in_words k m o)).2;
  seen = row.seen;
  others = row.others;
  rest = row.rest;
  clear = clear;
  stores = row.stores;
} where
  in_words : (k : ℕ) → IsMarked v.marks k → Owns v.view k → 0 < times k words
  in_words k m o = elim (row.all k m o) as (λ _. 0 < times k words) [
    | inl some ↦ some
    | inr left ↦ absurd (true≢false (sym left ∙ clear k))
  ]

-- only words that have a mark are marked
mark_below : (marks : List Bool) (k : ℕ) → get_or marks k false ≡ true → k < length marks
mark_below [] k marked = let e = ap one_if marked in absurd (omega arith)
mark_below (m ∷ marks) zero marked = omega arith
mark_below (m ∷ marks) (suc k) marked = let rest = mark_below marks k marked in omega arith

-- a line that is marked leaves the marks that there were
pub line_kept : (old new : List Bool) (line : ℕ) → ((k : ℕ) → k < length old → k / 8 ≡ line → get_or new k false ≡ true)
    → ((k : ℕ) → k / 8 ≢ line → get_or new k false ≡ get_or old k false) → (k : ℕ) → get_or old k false ≡ true → get_or new k false ≡ true
line_kept old new line inside others k marked = elim (cases_eq (k / 8) line) as (λ _. get_or new k false ≡ true) [
  | inl same ↦ inside k (mark_below old k marked) same
  | inr other ↦ others k other ∙ marked
]
