-- The filling of a cache from the list of its class.
use Rattle.std.proofs.Common.{◌≡◌, ◌<◌, ◌≤◌, ◌-◌, inl, inr, ℕ, [], ◌∷◌, set, refl, ap, subst, ◌∙◌, arith}
use Rattle.heap_model.specs.Sizes.{IsClass}
use Rattle.core_model.specs.Effects.{without_claim}
use Rattle.core_model.specs.View.{Setup, View, of_class}
use Rattle.heap_rule.specs.Seated.{SeatView}
use Rattle.heap_rule.specs.Shown.{CanList, as_free}
use Rattle.heap_table.specs.Plays.{HasSoundState}
use Rattle.cache_fill.specs.declared.refills.FromClass.{FromClass}
use Rattle.cache_fill.specs.declared.refills.FromClass.TheVariants.{Filled as FilledFromClass, Empty}
use Rattle.cache_fill.specs.Refills.{FillsFrom, HasFilled, HasMoved, IsNoneOfClass, fill_costs}
use Rattle.cache_fill.specs.Takes.{HasTakenFree, IsAllFree, with_taken}
use Rattle.cache_fill.proofs.TakeLemmas.{Taking}
use Rattle.superblock_lists.specs.declared.pops.Pop.{Pop}
use Rattle.superblock_lists.specs.declared.pops.Pop.TheVariants.{Empty as EmptyList}
use Rattle.superblock_lists.specs.Pops.{HasPopped, IsEmptyList, Pops}
use Rattle.superblock_lists.specs.Pushes.{HasPushed, IsClaimOf}
use Rattle.superblock_lists.proofs.AnchorLemmas.{claim_added, claim_free, claim_of_class, claim_pushed, claim_still, raw_none}
use Rattle.seat_costs.specs.Costs.{Costs, no_costs, one_move, one_win}
use Rattle.seat_costs.specs.Rows.{Parts, Row, ViewRow, head_look, next_of, parts}
use Rattle.seat_costs.proofs.RowLemmas.{view_row_none, view_row_within}
use Rattle.cache_fill.proofs.FillRowLemmas.{added_off, fill_then, looked_is, nothing_won}

-- a superblock of the class was popped
module _ (v t : View) (class d : ℕ) (is : IsClass class) (popped : HasPopped class d v t) where
  added : parts t ≡ record (parts v) { classed = record { descriptor = d; class = class } ∷ v.classed }
  added = popped.parts_are ∙ claim_added class d (parts v) is

  pub popped_claim : IsClaimOf class d t
  popped_claim = claim_of_class class d (parts v) t is popped.parts_are

  pub popped_uncached : of_class v.caches class ≡ [] → of_class t.caches class ≡ []
  popped_uncached none = ap (λ (p : Parts). of_class p.caches class) added ∙ none

  pub taken_fills : (x : View) → x.cuts ≤ v.cuts → HasTakenFree d class t x → HasFilled class v x
  taken_fills x uncut taken = record {
    going = taken.going;
    blocks = taken.blocks;
    some = taken.some;
    most = let f = taken.few in omega arith;
    whole = λ rose. absurd (omega (arith, uncut, rose));
    parts_are = taken.parts_are ∙ ap (with_taken d class taken.blocks) added ∙ added_off v d class (set v.caches class taken.blocks);
  }

  module _ (x : View) (has : HasSoundState x) (free : IsAllFree d t x) where
    claim : IsClaimOf class d x
    claim = claim_still t x d class free.parts_are popped_claim

    pub free_lists : CanList x d 0
    free_lists = as_free (claim_free x has class d claim) free.empty

    -- its push is a move
    pub free_moves : (w : View) → HasPushed 0 d 3 x w → ViewRow (record one_move { draws = 3 }) x w
    free_moves w pushed = pushed.moved refl (let none = raw_none x has class d claim in omega arith)

    pub moved_on : (w : View) → HasPushed 0 d 3 x w → v.draws < w.draws → ViewRow (fill_costs 0 0 v w) v w → HasMoved v w
    moved_on w pushed more row = record {
      ran = popped.ran;
      going = pushed.going;
      room = popped.room;
      more = more;
      parts_are = claim_pushed x has class d claim x w 0 refl pushed
          ∙ ap (λ (p : Parts). record p { classed = without_claim d p.classed }) (free.parts_are ∙ added)
          ∙ added_off v d class v.caches;
      row = row;
    }

-- the list of the class was empty
pub none_of_class : (v w : View) (class head : ℕ) → ViewRow (fill_costs 3 0 v w) v w → IsEmptyList class head v w → IsNoneOfClass class head v w
none_of_class v w class head row empty =
    let look = looked_is w (head_look w class) head (next_of v) empty.look empty.later in record {
      ran = empty.ran;
      going = empty.going;
      parts_are = empty.parts_are;
      none = empty.none;
      look = look.0;
      since = look.1;
      last = look.2;
      row = row;
    }

-- what the look at an empty list cost
pub empty_list_row : (list head : ℕ) (v w : SeatView) (pop : Pop) → pop ≡ EmptyList head → Pops list pop v.view w.view
    → Row (record one_win { draws = 3 }) v w → Row (record no_costs { draws = 3 }) v w
empty_list_row list head v w pop is done row = let empty : IsEmptyList list head v.view w.view = subst (λ p. Pops list p v.view w.view) is done in
    record { view = nothing_won v.view w.view empty.wins empty.taken row.view; marks = row.marks }

pub empty_class_row : {a : Costs} (class head : ℕ) (v w : SeatView) (from : FromClass) → from ≡ Empty head → FillsFrom class from v.view w.view
    → Row a v w → Row (fill_costs 3 0 v.view w.view) v w
empty_class_row class head v w from is done row = let none : IsNoneOfClass class head v.view w.view =
    subst (λ f. FillsFrom class f v.view w.view) is done in
    record { view = none.row; marks = row.marks }

-- how far the tries have come
pub filling_begins : (v : View) → Taking (fill_costs 0 0 v v) v v
filling_begins v = record {
  row = view_row_within (fill_costs 0 0 v v) v v
      (record { draws = omega arith; wins = omega arith; gives = omega arith; cuts = omega arith; taken = omega arith; moves = omega arith })
      (view_row_none v);
  parts_are = refl;
  both = λ ran. ran;
  fresh = inl refl;
}

pub filling_on : (v t w : View) → Taking (fill_costs 0 0 v t) v t → HasMoved t w → Taking (fill_costs 0 0 v w) v w
filling_on v t w filling moved = record {
  row = fill_then v t w filling.row moved.row;
  parts_are = moved.parts_are ∙ filling.parts_are;
  both = λ ran. filling.both moved.ran;
  fresh = inr moved.going;
}

pub filling_less : (t w : View) → HasMoved t w → w.setup.budget - w.draws < t.setup.budget - t.draws
filling_less t w moved = let same = ap (λ (k : Setup). k.budget) moved.row.passes.setup in let room = moved.room in let more = moved.more in omega arith

filled_later : (v t w : View) (class : ℕ) → parts t ≡ parts v → t.cuts ≤ v.cuts → HasFilled class t w → HasFilled class v w
filled_later v t w class same uncut filled = record {
  going = filled.going;
  blocks = filled.blocks;
  some = filled.some;
  most = filled.most;
  whole = λ rose. filled.whole (omega (arith, uncut, rose));
  parts_are = filled.parts_are ∙ ap (λ (p : Parts). record p { caches = set p.caches class filled.blocks }) same;
}

pub filling_done : (v t w : View) (class : ℕ) (from : FromClass) → Taking (fill_costs 0 0 v t) v t → FillsFrom class from t w → FillsFrom class from v w
filling_done v t w class FilledFromClass filling has = record {
  filled = filled_later v t w class filling.parts_are (let most = filling.row.passes.most.cuts in omega (arith, most)) has.filled;
  row = fill_then v t w filling.row has.row;
}
filling_done v t w class (Empty head) filling none = record {
  ran = filling.both none.ran;
  going = none.going;
  parts_are = none.parts_are ∙ filling.parts_are;
  none = none.none;
  look = none.look;
  since = let n = filling.row.passes.next in let s = none.since in omega arith;
  last = none.last;
  row = fill_then v t w filling.row none.row;
}
