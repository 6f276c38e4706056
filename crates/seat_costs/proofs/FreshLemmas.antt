-- Superblocks that are taken for the first time, and looks that last looks keep.
use Rattle.std.proofs.Common.{◌≡◌, ◌≢◌, ◌<◌, ◌≤◌, ℕ, zero, suc, ◌+◌, inl, inr, Bool, true, false, cond, nat_eq, nat_lt, get_or, length, set, List, [], ◌∷◌, Option, None, Some, refl, ap, sym, subst, ◌∙◌, lt-ltb, arith}
use Rattle.std.proofs.lemmas.Bool.{cases_eq, cases_lt}
use Rattle.std.proofs.lemmas.List.{get_or-set_other, get_or-set_same}
use Rattle.heap_model.specs.Geometry.{anchor_word, info_word, link_word}
use Rattle.core_model.specs.declared.event.Event.TheVariants.{LookHead, LookUsed, TakeFresh}
use Rattle.core_model.specs.Cells.{Cell, anchor_cell, cell_at, info_cell, link_cell}
use Rattle.core_model.specs.Effects.{learn, learn_fresh, look, lost, seen, taken_fresh, used_up, won}
use Rattle.core_model.specs.View.{LastLook, View}
use Rattle.core_model.proofs.PlaceLemmas.{cell_at_index}
use Rattle.heap_table.specs.Plays.{IsEvent}
use Rattle.heap_rule.specs.Seated.{KeepsStores, SeatView}
use Rattle.line_memory.specs.Marks.{mark_at}
use Rattle.seat_costs.specs.Costs.{one_draw, one_win}
use Rattle.seat_costs.specs.Rows.{HasDrawn, IsKeptOrMade, IsMade, KeepsMarks, Row, ViewRow, head_look, next_of}
use Rattle.seat_costs.specs.Words.{IsHeldWord, times_held}
use Rattle.seat_costs.proofs.AlikeLemmas.{recording, row_as, row_words, took_row}
use Rattle.seat_costs.proofs.EventLemmas.{either_row}
use Rattle.seat_costs.proofs.RowLemmas.{marks_then}
use Rattle.seat_costs.proofs.WordLemmas.{word_same}

-- a held word is none of a descriptor
module _ (v : View) (k : ℕ) (held : IsHeldWord v k) where
  not_at : (cell : Cell) (word : ℕ) → cell_at v.setup.capacity word ≡ cell → times_held v cell ≡ 0 → k ≢ word
  not_at cell word is none same = let e = ap (times_held v) (ap (cell_at v.setup.capacity) same ∙ is) in omega arith

  fresh_word : (values : List (Option ℕ)) (u n : ℕ) → u + n ≤ v.setup.capacity → get_or (learn_fresh values u n) k None ≡ get_or values k None
  fresh_word values u zero room = refl
  fresh_word values u (suc n) room =
      fresh_word (learn (learn (learn values (info_word u) 0) (anchor_word u) 0) (link_word u) 0) (u + 1) n (omega arith)
      ∙ get_or-set_other (learn (learn values (info_word u) 0) (anchor_word u) 0) (link_word u) k (Some 0) None
      (not_at (link_cell u) (link_word u) (cell_at_index v.setup.capacity (link_cell u) below) refl)
      ∙ get_or-set_other (learn values (info_word u) 0) (anchor_word u) k (Some 0) None
      (not_at (anchor_cell u) (anchor_word u) (cell_at_index v.setup.capacity (anchor_cell u) below) refl)
      ∙ get_or-set_other values (info_word u) k (Some 0) None (not_at (info_cell u) (info_word u)
      (cell_at_index v.setup.capacity (info_cell u) below) refl) where
        below : nat_lt u v.setup.capacity ≡ true
        below = lt-ltb u v.setup.capacity (omega arith)

pub fresh_row : (n : ℕ) (v w : View) (found : ℕ) → IsEvent (TakeFresh n) v found w → ViewRow (record one_win { taken = n }) v w
fresh_row n v w found e = by_test (nat_eq found (seen v.seen_used)) e.after where
  by_test : (test : Bool) → w ≡ cond test (taken_fresh v n) (record (lost v found) { seen_used = None }) → ViewRow (record one_win { taken = n }) v w
  by_test true after = row_as v (taken_fresh v n) w after (row_words v (record (won v) { taken = v.taken + n }) (taken_fresh v n) refl
      (λ k held. word_same (record (won v) { taken = v.taken + n }) (taken_fresh v n) k
      (fresh_word v k held v.volatile (seen v.seen_used) n e.may.ready.room) (fresh_word v k held v.durable (seen v.seen_used) n e.may.ready.room))
      (took_row v n))
  by_test false after = either_row v w found (omega arith) (omega arith) (ap recording after)

-- the look was made by the ticket that was drawn
module _ (v u : View) (drawn : HasDrawn v u) (row : ViewRow one_draw v u) where
  made : (word : ℕ) → IsMade (next_of v) (next_of u) v.taken u.taken (look u word)
  made word = record {
    ticket = drawn.ticket;
    by = ap (λ (x : View). x.ticket) drawn.left;
    since = drawn.later;
    below = let n = ap next_of drawn.left in omega arith;
    taken_least = let t = row.passes.more.taken in omega arith;
    taken_most = omega arith;
  }

  pub look_head_row : (list found : ℕ) (w : View) → IsEvent (LookHead list) u found w → ViewRow one_draw v w
  look_head_row list found w e = row_as v (record (used_up u) {
    seen_head = Some (record { of = list; word = found });
    seen_link = None;
    head_looks = set u.head_looks list (look u found);
  }) w e.after (record {
    passes = record {
      setup = row.passes.setup;
      roots = row.passes.roots;
      role_is = row.passes.role_is;
      floor = row.passes.floor;
      next = row.passes.next;
      tickets = row.passes.tickets;
      more = let m = row.passes.more in record {
        draws = m.draws;
        wins = m.wins;
        losses = m.losses;
        gives = m.gives;
        moves = m.moves;
        cuts = m.cuts;
        taken = m.taken;
      };
      most = let m = row.passes.most in record { draws = m.draws; wins = m.wins; gives = m.gives; cuts = m.cuts; taken = m.taken; moves = m.moves };
      looks = record { used = row.passes.looks.used; heads = heads; no_less = row.passes.looks.no_less };
    };
    small = row.small;
    large = row.large;
    words = λ k held. let p = row.words k held in record { volatile = p.volatile; durable = p.durable };
  }) where
    heads : (k : ℕ) → IsKeptOrMade v u (head_look v k) (get_or (set u.head_looks list (look u found)) k u.used_look)
    heads k = elim (cases_eq k list) as (λ _. IsKeptOrMade v u (head_look v k) (get_or (set u.head_looks list (look u found)) k u.used_look)) [
      | inl same ↦ inr (subst (IsMade (next_of v) (next_of u) v.taken u.taken)
          (sym (ap (λ n. get_or (set u.head_looks list (look u found)) n u.used_look) same
          ∙ get_or-set_same u.head_looks list (look u found) u.used_look
          (let long = (e.before.sound.good.set_up e.before.seat u e.before.below e.before.at).looks in let less = e.may.ready in omega arith)))
          (made found))
      | inr other ↦ subst (IsKeptOrMade v u (head_look v k)) (sym (get_or-set_other u.head_looks list k (look u found) u.used_look other))
          (row.passes.looks.heads k)
    ]

  pub look_used_row : (found : ℕ) (w : View) → IsEvent LookUsed u found w → ViewRow one_draw v w
  look_used_row found w e = row_as v (record (used_up u) { seen_used = Some found; used_look = look u found }) w e.after (record {
    passes = record {
      setup = row.passes.setup;
      roots = row.passes.roots;
      role_is = row.passes.role_is;
      floor = row.passes.floor;
      next = row.passes.next;
      tickets = row.passes.tickets;
      more = let m = row.passes.more in record {
        draws = m.draws;
        wins = m.wins;
        losses = m.losses;
        gives = m.gives;
        moves = m.moves;
        cuts = m.cuts;
        taken = m.taken;
      };
      most = let m = row.passes.most in record { draws = m.draws; wins = m.wins; gives = m.gives; cuts = m.cuts; taken = m.taken; moves = m.moves };
      looks = record { used = inr (made found); heads = heads; no_less = less };
    };
    small = row.small;
    large = row.large;
    words = λ k held. let p = row.words k held in record { volatile = p.volatile; durable = p.durable };
  }) where
    -- a list that no look was ever made at would show this look; there are looks at all lists
    heads : (k : ℕ) → IsKeptOrMade v u (head_look v k) (get_or u.head_looks k (look u found))
    heads k = elim (cases_lt k (length u.head_looks)) as (λ _. IsKeptOrMade v u (head_look v k) (get_or u.head_looks k (look u found))) [
      | inl there ↦ subst (IsKeptOrMade v u (head_look v k)) (in_range u.head_looks k u.used_look (look u found) there) (row.passes.looks.heads k)
      | inr past ↦ inr (subst (IsMade (next_of v) (next_of u) v.taken u.taken) (sym (past_end u.head_looks k (look u found) past)) (made found))
    ] where
      in_range : (xs : List LastLook) (i : ℕ) (a b : LastLook) → i < length xs → get_or xs i a ≡ get_or xs i b
      in_range [] i a b less = absurd (omega arith)
      in_range (x ∷ xs) zero a b less = refl
      in_range (x ∷ xs) (suc i) a b less = in_range xs i a b (omega arith)

      past_end : (xs : List LastLook) (i : ℕ) (a : LastLook) → length xs ≤ i → get_or xs i a ≡ a
      past_end [] i a past = refl
      past_end (x ∷ xs) zero a past = absurd (omega arith)
      past_end (x ∷ xs) (suc i) a past = past_end xs i a (omega arith)

    less : v.used_look.word + u.taken ≤ found + v.used_look.taken
    less = let told = (e.before.sound.good.knows e.before.seat u e.before.below e.before.at).looked in let is = e.found_is in
        let same = ap (λ (x : View). x.used_look) drawn.left in
        let word = ap (λ (l : LastLook). l.word) same in let taken = ap (λ (l : LastLook). l.taken) same in omega arith

-- what is recorded
abbrev seen_words : View → List (Option ℕ) × List (Option ℕ)
seen_words v = (v.volatile, v.durable)

-- with the marks
module _ (v u : SeatView) (drawn : HasDrawn v.view u.view) (row : Row one_draw v u) where
  look_marks : (w : SeatView) → seen_words u.view ≡ seen_words w.view → KeepsStores u w → KeepsMarks (IsHeldWord v.view) v w
  look_marks w same stores k held marked = marks_then v u w k (word_same u.view w.view k (ap (λ s. get_or s.0 k None) (sym same))
      (ap (λ s. get_or s.1 k None) (sym same)))
      (row.marks k held) (λ still. inl (ap (λ marks. mark_at marks k) stores.marks ∙ still)) marked

  pub head_seat_row : (list found : ℕ) (w : SeatView) → IsEvent (LookHead list) u.view found w.view → KeepsStores u w → Row one_draw v w
  head_seat_row list found w e stores = record {
    view = look_head_row v.view u.view drawn row.view list found w.view e;
    marks = look_marks w (sym (ap seen_words e.after)) stores;
  }

  pub used_seat_row : (found : ℕ) (w : SeatView) → IsEvent LookUsed u.view found w.view → KeepsStores u w → Row one_draw v w
  used_seat_row found w e stores = record {
    view = look_used_row v.view u.view drawn row.view found w.view e;
    marks = look_marks w (sym (ap seen_words e.after)) stores;
  }
