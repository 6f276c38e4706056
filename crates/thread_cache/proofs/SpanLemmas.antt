-- What holding and freeing a large block leaves.
use Rattle.std.proofs.Common.{◌-◌, ◌<◌, None, eq-eqb, ne_eqb, ◌≡◌, ◌≤◌, ℕ, zero, suc, ◌+◌, ◌*◌, ◌∷◌, ◌++◌, [], cond, nat_le, nat_lt, refl, ap, sym, ◌∙◌, le-leb, lt-ltb, arith}
use Rattle.heap_model.specs.declared.block.Block.{Block}
use Rattle.heap_model.specs.Counting.{times, without}
use Rattle.heap_model.specs.Geometry.{start_word, superblock_words}
use Rattle.core_model.specs.Effects.{steps, without_claim, without_range}
use Rattle.core_model.specs.View.{LastLook, View}
use Rattle.core_model.proofs.PlaceLemmas.{and_is}
use Rattle.core_model.proofs.TotalLemmas.{eq-eqb-one}
use Rattle.heap_rule.specs.Shown.{CanList, as_free, by_claim}
use Rattle.heap_rule.specs.Seated.{SeatView}
use Rattle.large_block.specs.Fresh.{HasTakenFresh, IsPast, with_fresh}
use Rattle.large_block.specs.Holds.{HasHeld, with_large}
use Rattle.large_block.specs.Splits.{down}
use Rattle.large_block.proofs.FreshLemmas.{drawn_ticket}
use Rattle.thread_cache.specs.Large.{HasAllocatedLarge, HasNoRoom, large_costs, large_free_costs, list_costs}
use Rattle.superblock_lists.specs.Pushes.{HasPushed, without_claim_of}
use Rattle.seat_costs.specs.Costs.{Costs, no_costs, one_push}
use Rattle.seat_costs.specs.Idle.{IsIdle}
use Rattle.seat_costs.specs.Rows.{HoldingRow, Parts, Row, next_of, parts}
use Rattle.seat_costs.proofs.RowLemmas.{holding_then, holding_within, row_then, row_within, then_holding}

-- none is left of the superblocks that a large block takes
none_left : (d n k m : ℕ) → k + m ≤ n → without_range d n (steps (d + k) 1 m) ≡ []
none_left d n k zero less = refl
none_left d n k (suc m) less =
    ap (λ t. cond t (without_range d n (steps (d + k + 1) 1 m)) ((d + k) ∷ without_range d n (steps (d + k + 1) 1 m)))
    (and_is (nat_le d (d + k)) (nat_lt (d + k) (d + n)) (le-leb d (d + k) (omega arith)) (lt-ltb (d + k) (d + n) (omega arith)))
    ∙ ap (λ i. without_range d n (steps i 1 m)) (let e : d + k + 1 ≡ d + (k + 1) = omega arith in e)
    ∙ none_left d n (k + 1) m (omega arith)

taken_and_held : (d n : ℕ) (p : Parts) → p.raw ≡ [] → p.split ≡ []
    → with_large d n (with_fresh d n p) ≡ record p { large = record { first = d; count = n } ∷ p.large }
taken_and_held d n p raw split =
    ap (λ l. record p {
      large = record { first = d; count = n } ∷ p.large;
      raw = without_range d n (l ++ steps d 1 n);
      split = without_range d n p.split;
    }) raw
    ∙ ap (λ l. record p { large = record { first = d; count = n } ∷ p.large; raw = l; split = without_range d n p.split })
    (ap (λ i. without_range d n (steps i 1 n)) (let e : d ≡ d + 0 = omega arith in e) ∙ none_left d n 0 n (omega arith) ∙ sym raw)
    ∙ ap (λ l. record p { large = record { first = d; count = n } ∷ p.large; split = l }) (ap (without_range d n) split ∙ sym split)

pub allocated : (v t w : View) (n d : ℕ) (b : Block) → IsIdle v → HasTakenFresh n d v t → HasHeld d n b t w → next_of t ≤ next_of w
    → w.taken ≡ t.taken → HasAllocatedLarge n b v w
allocated v t w n d b idle taken held later same = record {
  going = held.going;
  first = d;
  parts_are = held.parts_are ∙ ap (with_large d n) taken.parts_are ∙ taken_and_held d n (parts v) idle.raw idle.split;
  block = held.block ∙ ap (λ (p : Parts). record { first_word = start_word p.setup.capacity d; words = superblock_words * n }) taken.parts_are;
  room = taken.room;
  seen = ap (λ (l : LastLook). l.word) held.look ∙ taken.seen;
  made = let m = taken.made in record {
    ticket = m.ticket;
    by = ap (λ (l : LastLook). l.ticket) held.look ∙ m.by;
    since = m.since;
    below = let b = m.below in omega arith;
    taken_least = let l = m.taken_least in let s = ap (λ (l : LastLook). l.taken) held.look in omega arith;
    taken_most = let l = m.taken_most in let s = ap (λ (l : LastLook). l.taken) held.look in omega arith;
  };
  taken = same ∙ taken.taken;
}

pub no_room : (v w : View) (n used : ℕ) → IsPast n used v w → HasNoRoom n (record { class_head = 0; free_head = 0; used = used }) v w
no_room v w n used past = let ticket = drawn_ticket w.last_ticket (next_of v) past.later in record {
  going = past.going;
  parts_are = past.parts_are;
  wins = past.wins;
  taken = past.taken;
  cuts = past.cuts;
  heads = past.heads;
  class_unread = refl;
  free_unread = refl;
  used_look = record {
    ticket = ticket.0;
    by = ap (λ (l : LastLook). l.ticket) past.look ∙ ticket.1;
    word_is = ap (λ (l : LastLook). l.word) past.look;
    wins = ap (λ (l : LastLook). l.wins) past.look;
    taken = ap (λ (l : LastLook). l.taken) past.look;
  };
  since = ticket.2;
  below = ticket.3;
  past = past.past;
}

-- the rows
abbrev pub taking : ℕ → Costs
taking n = record no_costs { draws = 3; wins = 1; taken = n }

pub not_held_row : (v t w : SeatView) (n : ℕ) → Row (taking n) v t → Row (record no_costs { draws = 2 }) t w → Row (large_costs n) v w
not_held_row v t w n take row = row_within (large_costs n) v w (record {
  draws = omega arith;
  wins = omega arith;
  gives = omega arith;
  cuts = omega arith;
  taken = omega arith;
  moves = omega arith;
}) (row_then v t w take row)

pub held_row : (v t w : SeatView) (n : ℕ) → Row (taking n) v t → HoldingRow (record no_costs { draws = 2 }) t w → HoldingRow (large_costs n) v w
held_row v t w n take row = holding_within (large_costs n) v w (record {
  draws = omega arith;
  wins = omega arith;
  gives = omega arith;
  cuts = omega arith;
  taken = omega arith;
  moves = omega arith;
}) (then_holding v t w take row)

-- the first of some numbers stands in the list that has them from the last on, and without it the others are left
has_first : (d m : ℕ) → 0 < times d (down d (suc m))
has_first d zero = let one = eq-eqb-one (d + 0) d (omega arith) in omega arith
has_first d (suc m) = let more = has_first d m in omega arith

without_first : (d m : ℕ) → without d (down d (suc m)) ≡ down (d + 1) m
without_first d zero = ap (λ t. cond t [] ((d + 0) ∷ [])) (eq-eqb (d + 0) d (omega arith))
without_first d (suc m) =
    ap (λ t. cond t (down d (suc m)) ((d + suc m) ∷ without d (down d (suc m)))) (ne_eqb (d + suc m) d (λ same. omega (arith, same)))
    ∙ ap (λ l. (d + suc m) ∷ l) (without_first d m)
    ∙ ap (λ i. i ∷ down (d + 1) m) (let e : d + suc m ≡ d + 1 + m = omega arith in e)

-- the first of the superblocks that are left may be listed
module _ (v : View) (d m : ℕ) (raw : v.raw ≡ down d (suc m)) (cutting : v.cutting ≡ []) where
  first_there : 0 < times d v.raw
  first_there = let s = ap (times d) raw in let first = has_first d m in omega arith

  pub can_list : CanList v d 0
  can_list = as_free (record { claimed = let l = first_there in omega arith; not_cutting = ap (times d) cutting }) (by_claim first_there)

  pub listed_parts : v.split ≡ [] → without_claim_of d (parts v) ≡ record (parts v) { raw = down (d + 1) m }
  listed_parts split =
      ap (λ t. cond t (record (parts v) { raw = without d v.raw; split = without d v.split })
      (record (parts v) { classed = without_claim d v.classed }))
      (lt-ltb 0 (times d v.raw + times d v.split) (let l = first_there in omega arith))
      ∙ ap (λ l. record (parts v) { raw = l; split = without d v.split }) (ap (without d) raw ∙ without_first d m)
      ∙ ap (λ l. record (parts v) { raw = down (d + 1) m; split = l }) (ap (without d) split ∙ sym split)

-- how far they are listed
pub record Listing (d n e : ℕ) (v t : SeatView) : Type 0 where
  pub going : t.view.stopped ≡ None
  pub most : e ≤ d + n
  pub parts_are : parts t.view ≡ record (parts v.view) { raw = down e (d + n - e) }
  pub row : Row (list_costs (e - d)) v t

module _ (v t : SeatView) (d n e : ℕ) (from : d ≤ e) (until : e < d + n) (listing : Listing d n e v t) (cutting : v.view.cutting ≡ []) where
  raw_is : t.view.raw ≡ down e (suc (d + n - (e + 1)))
  raw_is = ap (λ (p : Parts). p.raw) listing.parts_are ∙ ap (down e) (let s : d + n - e ≡ suc (d + n - (e + 1)) = omega arith in s)

  cutting_is : t.view.cutting ≡ []
  cutting_is = ap (λ (p : Parts). p.cutting) listing.parts_are ∙ cutting

  pub can_push : CanList t.view e 0
  can_push = can_list t.view e (d + n - (e + 1)) raw_is cutting_is

  module _ (w : SeatView) (row : Row (record one_push { draws = 3 }) t w) where
    pub listing_row : Row (list_costs n) v w
    listing_row = row_within (list_costs n) v w (record {
      draws = omega arith;
      wins = omega arith;
      gives = omega arith;
      cuts = omega arith;
      taken = omega arith;
      moves = omega arith;
    }) (row_then v t w listing.row row)

    pub listing_on : v.view.split ≡ [] → HasPushed 0 e 3 t.view w.view → Listing d n (e + 1) v w
    listing_on split pushed = record {
      going = pushed.going;
      most = omega arith;
      parts_are = pushed.parts_are ∙ listed_parts t.view e (d + n - (e + 1)) raw_is cutting_is (ap (λ (p : Parts). p.split) listing.parts_are ∙ split)
          ∙ ap (λ (p : Parts). record p { raw = down (e + 1) (d + n - (e + 1)) }) listing.parts_are;
      row = row_within (list_costs (e + 1 - d)) v w (record {
        draws = omega arith;
        wins = omega arith;
        gives = omega arith;
        cuts = omega arith;
        taken = omega arith;
        moves = omega arith;
      }) (row_then v t w listing.row row);
    }

pub freed_row : (v t w : SeatView) (n : ℕ) → HoldingRow (record no_costs { draws = n + 1 }) v t → Row (list_costs n) t w
    → HoldingRow (large_free_costs n) v w
freed_row v t w n split row = holding_within (large_free_costs n) v w
    (record { draws = omega arith; wins = omega arith; gives = omega arith; cuts = omega arith; taken = omega arith; moves = omega arith })
    (holding_then v t w split row)
