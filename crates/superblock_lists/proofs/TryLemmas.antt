-- How far the tries of a pop have come.
use Rattle.std.proofs.Common.{◌≡◌, ◌<◌, ℕ, ◌-◌, ◌⊎◌, inl, inr, None, Some, refl, ap, subst, ◌∙◌, arith}
use Rattle.core_model.specs.Effects.{lost, popped}
use Rattle.core_model.specs.View.{Setup, View}
use Rattle.superblock_lists.specs.declared.pops.Pop.{Pop as PopAnswer}
use Rattle.superblock_lists.specs.declared.pops.Pop.TheVariants.{Got, Empty}
use Rattle.superblock_lists.specs.Pops.{HasLost, KeepsOtherLooks, Pops}
use Rattle.seat_costs.specs.Costs.{no_costs, one_win}
use Rattle.seat_costs.specs.Rows.{Stops, ViewRow, parts}
use Rattle.seat_costs.proofs.RowLemmas.{not_both, stops_later, view_row_none, view_row_then, view_row_within}
use Rattle.superblock_lists.proofs.PopLemmas.{others_then, popped_later, same_looks}

-- how far the tries have come
pub record Trying (list : ℕ) (v t : View) : Type 0 where
  pub row : ViewRow no_costs v t
  pub parts_are : parts t ≡ parts v
  pub wins : t.wins ≡ v.wins
  pub taken : t.taken ≡ v.taken
  pub cuts : t.cuts ≡ v.cuts
  pub others : KeepsOtherLooks list v t
  pub both : (ran : t.stopped ≡ None) → v.stopped ≡ None
  pub idle : (step : ℕ) → v.stopped ≡ Some step → t ≡ v
  pub fresh : (t ≡ v) ⊎ (t.stopped ≡ None)

pub tries_begin : (list : ℕ) (v : View) → Trying list v v
tries_begin list v = record {
  row = view_row_none v;
  parts_are = refl;
  wins = refl;
  taken = refl;
  cuts = refl;
  others = same_looks list v v refl refl;
  both = λ ran. ran;
  idle = λ step stop. refl;
  fresh = inl refl;
}

pub tries_on : (list : ℕ) (v t w : View) → Trying list v t → HasLost list 3 t w → Trying list v w
tries_on list v t w trying lost = record {
  row = view_row_within no_costs v w (record {
    draws = omega arith;
    wins = omega arith;
    gives = omega arith;
    cuts = omega arith;
    taken = omega arith;
    moves = omega arith;
  }) (view_row_then v t w trying.row lost.row);
  parts_are = lost.parts_are ∙ trying.parts_are;
  wins = lost.wins ∙ trying.wins;
  taken = lost.taken ∙ trying.taken;
  cuts = lost.cuts ∙ trying.cuts;
  others = others_then list v t w trying.others lost.others;
  both = λ ran. trying.both lost.ran;
  idle = λ step stop. not_both stop (trying.both lost.ran);
  fresh = inr lost.going;
}

pub tries_stop : (list : ℕ) (v t w : View) (step : ℕ) → Trying list v t → Stops step t w → Stops step v w
tries_stop list v t w step trying stop = elim trying.fresh [
  | inl same ↦ subst (λ u. Stops step u w) same stop
  | inr going ↦ stops_later v t w step (trying.both going) going trying.row stop
]

pub tries_done : (v t w : View) (list : ℕ) (pop : PopAnswer) → Trying list v t → Pops list pop t w → Pops list pop v w
tries_done v t w list (Got d) trying popped = popped_later v t w list d
    (trying.both popped.ran) trying.parts_are trying.wins trying.others trying.row popped
tries_done v t w list (Empty head) trying empty = record {
  ran = trying.both empty.ran;
  going = empty.going;
  parts_are = empty.parts_are ∙ trying.parts_are;
  wins = empty.wins ∙ trying.wins;
  taken = empty.taken ∙ trying.taken;
  cuts = empty.cuts ∙ trying.cuts;
  is_seen = empty.is_seen;
  none = empty.none;
  look = empty.look;
  others = others_then list v t w trying.others empty.others;
  later = let x = trying.row.passes.next in let y = empty.later in omega arith;
}

pub tries_row : (list : ℕ) (v t w : View) → Trying list v t → ViewRow (record one_win { draws = 3 }) t w → ViewRow (record one_win { draws = 3 }) v w
tries_row list v t w trying row = view_row_then v t w trying.row row

pub tries_less : (list : ℕ) (t w : View) → HasLost list 3 t w → w.setup.budget - w.draws < t.setup.budget - t.draws
tries_less list t w lost = let same = ap (λ (k : Setup). k.budget) lost.row.passes.setup in let room = lost.room in let more = lost.more in omega arith
