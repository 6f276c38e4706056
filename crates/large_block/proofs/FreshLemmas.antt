-- What the taking of superblocks leaves.
use Rattle.std.proofs.Common.{◌≡◌, ◌≢◌, ◌<◌, ◌≤◌, ℕ, zero, suc, ◌+◌, inl, inr, ◌++◌, List, [], ◌∷◌, Bool, get_or, length, max, Option, None, Some, refl, ap, sym, subst, ◌∙◌, length-set, lt-ltb, arith}
use Rattle.std.specs.Bool.{⊤}
use Rattle.std.specs.Prelude.{Result, Ok, Err}
use Rattle.std.specs.Result.{is_ok}
use Rattle.std.proofs.lemmas.Bool.{cases_eq}
use Rattle.std.proofs.lemmas.List.{get_or-set_same}
use Rattle.heap_model.specs.Counting.{times}
use Rattle.heap_model.specs.Geometry.{anchor_word, image_words, info_word, link_word}
use Rattle.heap_model.proofs.ListLemmas.{times_append}
use Rattle.core_model.specs.declared.event.Event.TheVariants.{KeepUsed, TakeFresh}
use Rattle.core_model.specs.Cells.{Cell, anchor_cell, info_cell}
use Rattle.core_model.specs.Effects.{learn, learn_fresh, lost, seen, steps, taken_fresh, used_up}
use Rattle.core_model.specs.Guards.{IsOwn}
use Rattle.core_model.specs.View.{LastLook, View, times_claimed, times_raw}
use Rattle.core_model.proofs.FrameLemmas.{below_is, below_not, times_steps}
use Rattle.core_model.proofs.PlaceLemmas.{cell_at_index}
use Rattle.heap_table.specs.Plays.{HasSoundState, IsEvent}
use Rattle.heap_rule.specs.Fences.{Owns}
use Rattle.heap_rule.specs.Seated.{SeatView, Tells}
use Rattle.heap_rule.proofs.WordsLeftLemmas.{fresh_lost, fresh_won}
use Rattle.heap_rule.proofs.RawLemmas.{durable_long, raw_inside, volatile_long}
use Rattle.large_block.specs.declared.fresh.Take.{Take as TakeAnswer}
use Rattle.large_block.specs.declared.fresh.Take.TheVariants.{Got, Past}
use Rattle.large_block.specs.Fresh.{AreBlankFrom, AreInThisHandAlone, HasKept, HasLostMark, HasMarked, HasTakenFresh, Marks, SeesUsed, Takes, with_fresh}
use Rattle.superblock_lists.specs.Pops.{looked}
use Rattle.seat_costs.specs.Costs.{Costs, no_costs, one_draw, one_win}
use Rattle.seat_costs.specs.Rows.{HasDrawn, Parts, Row, ViewRow, after_ticket, next_of, parts}
use Rattle.seat_costs.specs.Words.{KeepsWord, left_at, seen_at}
use Rattle.seat_costs.proofs.EventLemmas.{fresh_lost_row}
use Rattle.seat_costs.proofs.RowLemmas.{row_then, row_within, view_row_then}
use Rattle.seat_costs.proofs.StoredLemmas.{drawn_as}
use Rattle.seat_costs.proofs.WordLemmas.{durable_then}

-- 0 that is known stays known where 0 is learned
zero_still : (values : List (Option ℕ)) (at word : ℕ) → get_or values word None ≡ Some 0 → get_or (learn values at 0) word None ≡ Some 0
zero_still [] at word is = is
zero_still (x ∷ xs) zero zero is = refl
zero_still (x ∷ xs) zero (suc word) is = is
zero_still (x ∷ xs) (suc at) zero is = is
zero_still (x ∷ xs) (suc at) (suc word) is = zero_still xs at word is

fresh_still : (values : List (Option ℕ)) (u n word : ℕ) → get_or values word None ≡ Some 0 → get_or (learn_fresh values u n) word None ≡ Some 0
fresh_still values u zero word is = is
fresh_still values u (suc n) word is = fresh_still (learn (learn (learn values (info_word u) 0) (anchor_word u) 0) (link_word u) 0) (u + 1) n word
    (zero_still (learn (learn values (info_word u) 0) (anchor_word u) 0) (link_word u) word
    (zero_still (learn values (info_word u) 0) (anchor_word u) word (zero_still values (info_word u) word is)))

-- 0 is known of the info and the anchor of each superblock that is taken
abbrev AreZero : List (Option ℕ) → ℕ → Type 0
AreZero values e = (get_or values (info_word e) None ≡ Some 0) × (get_or values (anchor_word e) None ≡ Some 0)

fresh_zero : (c : ℕ) (values : List (Option ℕ)) (u n e : ℕ) → length values ≡ image_words c → u + n ≤ c → u ≤ e → e < u + n
    → AreZero (learn_fresh values u n) e
fresh_zero c values u zero e long room from until = absurd (omega arith)
fresh_zero c values u (suc n) e long room from until = elim (cases_eq e u) as (λ _. AreZero (learn_fresh values u (suc n)) e) [
  | inl same ↦ subst (AreZero (learn_fresh values u (suc n))) (sym same) (
    fresh_still three (u + 1) n (info_word u) (zero_still two (link_word u) (info_word u)
        (zero_still one (anchor_word u) (info_word u) (get_or-set_same values (info_word u) (Some 0) None (omega arith)))),
    fresh_still three (u + 1) n (anchor_word u) (zero_still two (link_word u) (anchor_word u)
        (get_or-set_same one (anchor_word u) (Some 0) None (let l = length-set values (info_word u) (Some 0) in omega arith))),
  )
  | inr other ↦ fresh_zero c three (u + 1) n e (length-set two (link_word u) (Some 0) ∙ length-set one (anchor_word u) (Some 0)
      ∙ length-set values (info_word u) (Some 0) ∙ long) (omega arith) (omega (arith, other)) (omega arith)
] where
  one : List (Option ℕ)
  one = learn values (info_word u) 0

  two : List (Option ℕ)
  two = learn one (anchor_word u) 0

  three : List (Option ℕ)
  three = learn two (link_word u) 0

-- each of them is claimed
pub fresh_claimed : (xs : List ℕ) (d n e : ℕ) → d ≤ e → e < d + n → 0 < times e (xs ++ steps d 1 n)
fresh_claimed xs d n e from until = let both = times_append e xs (steps d 1 n) in let here = times_steps e d n in let a = below_not e d from in
    let b = below_is e (d + n) until in omega arith

module _ (v u w : View) (n used found : ℕ) (drawn : HasDrawn v u) (mark : v.seen_used ≡ Some used) (event : IsEvent (TakeFresh n) u found w) where
  marked : found ≡ seen u.seen_used → HasMarked n used v w
  marked same = record {
    going = ap (λ (x : View). x.stopped) left ∙ drawn.went;
    parts_are = ap parts left ∙ ap (λ o. with_fresh (seen o) n (parts v)) mark;
    mark = ap (λ (x : View). x.seen_used) left ∙ ap (λ o. Some (seen o + n)) mark;
    room = let r = room in let s = ap (λ (x : View). x.setup.capacity) drawn.left in omega arith;
    look = ap (λ (x : View). x.used_look) left;
    wins = ap (λ (x : View). x.wins) left;
    taken = ap (λ (x : View). x.taken) left;
    heads = ap (λ (x : View). x.head_looks) left;
    later = let l = ap next_of left in let d = drawn.later in omega arith;
    blank = record {
      info = λ e from until. ap (λ l. get_or l (info_word e) None) volatile
          ∙ (fresh_zero u.setup.capacity u.volatile used n e (volatile_long u event.before) room from until).0;
      durable_info = λ e from until. ap (λ l. get_or l (info_word e) None) durable
          ∙ (fresh_zero u.setup.capacity u.durable used n e (durable_long u event.before) room from until).0;
      anchor = λ e from until. ap (λ l. get_or l (anchor_word e) None) volatile
          ∙ (fresh_zero u.setup.capacity u.volatile used n e (volatile_long u event.before) room from until).1;
      durable_anchor = λ e from until. ap (λ l. get_or l (anchor_word e) None) durable
          ∙ (fresh_zero u.setup.capacity u.durable used n e (durable_long u event.before) room from until).1;
    };
  } where
    left : w ≡ taken_fresh (drawn_as v drawn.ticket u) n
    left = fresh_won n u w found event same ∙ ap (λ (x : View). taken_fresh x n) drawn.left

    volatile : w.volatile ≡ learn_fresh u.volatile used n
    volatile = ap (λ (x : View). x.volatile) left ∙ ap (λ o. learn_fresh u.volatile (seen o) n) mark

    durable : w.durable ≡ learn_fresh u.durable used n
    durable = ap (λ (x : View). x.durable) left ∙ ap (λ o. learn_fresh u.durable (seen o) n) mark

    room : used + n ≤ u.setup.capacity
    room = let r = event.may.ready.room in let s = ap (λ (x : View). seen x.seen_used) drawn.left ∙ ap seen mark in omega arith

  mark_lost : ViewRow one_draw v u → found ≢ seen u.seen_used → HasLostMark 1 v w
  mark_lost row other = record {
    ran = drawn.went;
    going = ap (λ (x : View). x.stopped) left ∙ drawn.went;
    room = drawn.room;
    more = let e = ap (λ (x : View). x.draws) left in omega arith;
    parts_are = ap parts left;
    wins = ap (λ (x : View). x.wins) left;
    taken = ap (λ (x : View). x.taken) left;
    cuts = ap (λ (x : View). x.cuts) left;
    heads = ap (λ (x : View). x.head_looks) left;
    row = view_row_then v u w row (fresh_lost_row n u w found event other);
  } where
    left : w ≡ record (lost (drawn_as v drawn.ticket u) found) { seen_used = None }
    left = fresh_lost n u w found event other ∙ ap (λ (x : View). record (lost x found) { seen_used = None }) drawn.left

  pub exchanged : ViewRow one_draw v u → (won : Bool) (result : Result ⊤ ℕ) → Tells (seen u.seen_used) found result → won ≡ is_ok result
      → Marks n used won v w
  exchanged row won (Ok x) told is = subst (λ b. Marks n used b v w) (sym is) (marked told)
  exchanged row won (Err x) told is = subst (λ b. Marks n used b v w) (sym is) (mark_lost row told.1)

-- the mark is made durable
pub zero_kept : (v w : View) (word : ℕ) → KeepsWord v w word → seen_at v word ≡ Some 0 → left_at v word ≡ Some 0 → left_at w word ≡ Some 0
zero_kept v w word keeps seen left = let d = durable_then v w word keeps (record { value = 0; seen = seen; left = left }) in
    d.left ∙ sym d.seen ∙ keeps.volatile 0 seen

-- infos and anchors of claimed superblocks are own words
pub raw_owns : (v : View) (e : ℕ) → e < v.setup.capacity → 0 < times_raw e v → Owns v (info_word e) × Owns v (anchor_word e)
raw_owns v e below raw = (
  subst (λ (cell : Cell). IsOwn v cell) (sym (cell_at_index v.setup.capacity (info_cell e) (lt-ltb e v.setup.capacity below))) raw,
  subst (λ (cell : Cell). IsOwn v cell) (sym (cell_at_index v.setup.capacity (anchor_cell e) (lt-ltb e v.setup.capacity below))) raw,
)

pub blank_still : (v w : View) (d n : ℕ) → ((e : ℕ) → d ≤ e → e < d + n → Owns v (info_word e) × Owns v (anchor_word e))
    → ((word : ℕ) → Owns v word → KeepsWord v w word) → AreBlankFrom d n v → AreBlankFrom d n w
blank_still v w d n owns words blank = record {
  info = λ e from until. (words (info_word e) (owns e from until).0).volatile 0 (blank.info e from until);
  durable_info = λ e from until. zero_kept v w (info_word e) (words (info_word e) (owns e from until).0) (blank.info e from until)
      (blank.durable_info e from until);
  anchor = λ e from until. (words (anchor_word e) (owns e from until).1).volatile 0 (blank.anchor e from until);
  durable_anchor = λ e from until. zero_kept v w (anchor_word e) (words (anchor_word e) (owns e from until).1) (blank.anchor e from until)
      (blank.durable_anchor e from until);
}

pub mark_kept : (v u w : View) (used found : ℕ) → HasDrawn v u → v.seen_used ≡ Some used → IsEvent KeepUsed u found w → HasKept used v w
mark_kept v u w used found drawn mark event = record {
  going = ap (λ (x : View). x.stopped) left ∙ drawn.went;
  parts_are = ap parts left;
  durable = let f = ap (λ (x : View). x.floor) left in let s = ap seen mark in omega arith;
  look = ap (λ (x : View). x.used_look) left;
  wins = ap (λ (x : View). x.wins) left;
  taken = ap (λ (x : View). x.taken) left;
  heads = ap (λ (x : View). x.head_looks) left;
  later = let l = ap next_of left in let d = drawn.later in omega arith;
  blank = λ d n raw. blank_still v w d n (λ e from until. raw_owns v e (inside e (raw e from until)) (raw e from until)) words;
} where
  left : w ≡ record (drawn_as v drawn.ticket u) { ticket = None; floor = max v.floor (seen v.seen_used) }
  left = event.after ∙ ap (λ (x : View). record (used_up x) { floor = max x.floor (seen x.seen_used) }) drawn.left

  inside : (e : ℕ) → 0 < times_raw e v → e < v.setup.capacity
  inside e raw = let i = raw_inside u event.before e (let c = ap (times_raw e) drawn.left in omega arith) in
      let s = ap (λ (x : View). x.setup.capacity) drawn.left in omega arith

  words : (word : ℕ) → Owns v word → KeepsWord v w word
  words word own = subst (λ x. KeepsWord v x word) (sym left) (let p = drawn.words word own in record { volatile = p.volatile; durable = p.durable })

-- what all of it costs
abbrev pub taking : ℕ → Costs
taking n = record no_costs { draws = 3; wins = 1; taken = n }

pub taking_row : (v t u : SeatView) (n : ℕ) → Row one_draw v t → Row (record one_win { draws = 1; taken = n }) t u → Row (taking n) v u
taking_row v t u n look take = row_within (taking n) v u (record {
  draws = omega arith;
  wins = omega arith;
  gives = omega arith;
  cuts = omega arith;
  taken = omega arith;
  moves = omega arith;
}) (row_then v t u look take)

pub keeping_row : (v t u w : SeatView) (n : ℕ) → Row one_draw v t → Row (record one_win { draws = 1; taken = n }) t u → Row one_draw u w
    → Row (taking n) v w
keeping_row v t u w n look take keep = row_within (taking n) v w
    (record { draws = omega arith; wins = omega arith; gives = omega arith; cuts = omega arith; taken = omega arith; moves = omega arith })
    (row_then v u w (row_then v t u look take) keep)

-- the ticket behind which the next one rose
pub drawn_ticket : (o : Option ℕ) (next : ℕ) → next < after_ticket o → (ticket : ℕ) × (o ≡ Some ticket) × (next ≤ ticket) × (ticket < after_ticket o)
drawn_ticket None next less = absurd (omega arith)
drawn_ticket (Some ticket) next less = (ticket, refl, omega arith, omega arith)

-- all in a row
pub taken_then : (v t u w : View) (n used : ℕ) → SeesUsed used v t → HasMarked n used t u → HasKept (used + n) u w → HasTakenFresh n used v w
taken_then v t u w n used sees marked kept = record {
  going = kept.going;
  parts_are = kept.parts_are ∙ marked.parts_are ∙ ap (with_fresh used n) sees.goes_on.parts_are;
  durable = kept.durable;
  blank = kept.blank used n (λ e from until. let c = fresh_claimed t.raw used n e from until in
      let s = ap (λ (p : Parts). times e p.raw) marked.parts_are in omega arith) marked.blank;
  room = let r = marked.room in let s = ap (λ (p : Parts). p.setup.capacity) sees.goes_on.parts_are in omega arith;
  seen = ap (λ (l : LastLook). l.word) look;
  wins = kept.wins ∙ marked.wins ∙ ap (λ k. k + 1) sees.goes_on.wins;
  taken = kept.taken ∙ marked.taken ∙ ap (λ k. k + n) sees.taken;
  heads = kept.heads ∙ marked.heads ∙ sees.heads;
  made = let t_is = drawn_ticket t.last_ticket (next_of v) sees.later in record {
    ticket = t_is.0;
    by = ap (λ (l : LastLook). l.ticket) look ∙ t_is.1;
    since = t_is.2;
    below = let a = t_is.3 in let b = marked.later in let c = kept.later in omega arith;
    taken_least = let s = ap (λ (l : LastLook). l.taken) look in let n = sees.taken in omega arith;
    taken_most = let s = ap (λ (l : LastLook). l.taken) look in let n = sees.taken in omega arith;
  };
} where
  look : w.used_look ≡ looked used t
  look = kept.look ∙ marked.look ∙ sees.look

pub lost_later : (v t w : View) (used : ℕ) → SeesUsed used v t → ViewRow one_draw v t → HasLostMark 1 t w → HasLostMark 2 v w
lost_later v t w used sees row lost = let go = sees.goes_on in record {
  ran = go.ran;
  going = lost.going;
  room = go.room;
  more = let x = go.more in let y = lost.more in omega arith;
  parts_are = lost.parts_are ∙ go.parts_are;
  wins = lost.wins ∙ go.wins;
  taken = lost.taken ∙ sees.taken;
  cuts = lost.cuts ∙ sees.cuts;
  heads = lost.heads ∙ sees.heads;
  row = view_row_then v t w row lost.row;
}

-- they are in one hand
pub alone : ((v : View) (s : HasSoundState v) (d : ℕ) → 0 < times_claimed d v → (j : ℕ) (u : View) → j ≢ s.seat → j < length s.views
    → get_or s.views j u ≡ u → times_claimed d u ≡ 0)
    → (v w : View) (n : ℕ) (take : TakeAnswer) → Takes n take v w → AreInThisHandAlone n take w
alone one v w n (Past used) is = tt
alone one v w n (Got d) is = λ e from until. (claimed e from until, λ s. one w s e (claimed e from until)) where
  claimed : (e : ℕ) → d ≤ e → e < d + n → 0 < times_claimed e w
  claimed e from until = let c = fresh_claimed v.raw d n e from until in let s = ap (λ (p : Parts). times e p.raw) is.parts_are in omega arith
