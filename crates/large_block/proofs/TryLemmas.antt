-- How far the tries to take superblocks have come.
use Rattle.std.proofs.Common.{◌≡◌, ◌<◌, ℕ, ◌+◌, ◌-◌, ◌⊎◌, inl, inr, None, refl, ap, subst, ◌∙◌, arith}
use Rattle.core_model.specs.Effects.{lost}
use Rattle.core_model.specs.View.{Setup, View}
use Rattle.large_block.specs.declared.fresh.Take.{Take as TakeAnswer}
use Rattle.large_block.specs.declared.fresh.Take.TheVariants.{Got, Past}
use Rattle.large_block.specs.Fresh.{HasLostMark, Takes, with_fresh}
use Rattle.seat_costs.specs.Costs.{no_costs}
use Rattle.seat_costs.specs.Rows.{IsMade, Stops, ViewRow, next_of, parts}
use Rattle.seat_costs.proofs.RowLemmas.{stops_later, view_row_none, view_row_then, view_row_within}
use Rattle.large_block.proofs.FreshLemmas.{taking}

-- how far the tries have come
pub record Trying (v t : View) : Type 0 where
  pub row : ViewRow no_costs v t
  pub parts_are : parts t ≡ parts v
  pub wins : t.wins ≡ v.wins
  pub taken : t.taken ≡ v.taken
  pub cuts : t.cuts ≡ v.cuts
  pub heads : t.head_looks ≡ v.head_looks
  pub both : t.stopped ≡ None → v.stopped ≡ None
  pub fresh : (t ≡ v) ⊎ (t.stopped ≡ None)

pub tries_begin : (v : View) → Trying v v
tries_begin v = record {
  row = view_row_none v;
  parts_are = refl;
  wins = refl;
  taken = refl;
  cuts = refl;
  heads = refl;
  both = λ ran. ran;
  fresh = inl refl;
}

pub tries_on : (v t w : View) → Trying v t → HasLostMark 2 t w → Trying v w
tries_on v t w trying lost = record {
  row = view_row_within no_costs v w (record {
    draws = omega arith;
    wins = omega arith;
    gives = omega arith;
    cuts = omega arith;
    taken = omega arith;
    moves = omega arith;
  }) (view_row_then v t w trying.row lost.row);
  parts_are = lost.parts_are ∙ trying.parts_are;
  wins = lost.wins ∙ trying.wins;
  taken = lost.taken ∙ trying.taken;
  cuts = lost.cuts ∙ trying.cuts;
  heads = lost.heads ∙ trying.heads;
  both = λ ran. trying.both lost.ran;
  fresh = inr lost.going;
}

pub tries_stop : (v t w : View) (step : ℕ) → Trying v t → Stops step t w → Stops step v w
tries_stop v t w step trying stop = elim trying.fresh [
  | inl same ↦ subst (λ u. Stops step u w) same stop
  | inr going ↦ stops_later v t w step (trying.both going) going trying.row stop
]

pub tries_row : (v t w : View) (n : ℕ) → Trying v t → ViewRow (taking n) t w → ViewRow (taking n) v w
tries_row v t w n trying row = view_row_within (taking n) v w (record {
  draws = omega arith;
  wins = omega arith;
  gives = omega arith;
  cuts = omega arith;
  taken = omega arith;
  moves = omega arith;
}) (view_row_then v t w trying.row row)

pub tries_less : (t w : View) → HasLostMark 2 t w → w.setup.budget - w.draws < t.setup.budget - t.draws
tries_less t w lost = let same = ap (λ (k : Setup). k.budget) lost.row.passes.setup in let room = lost.room in let more = lost.more in omega arith

pub tries_done : (v t w : View) (n : ℕ) (take : TakeAnswer) → Trying v t → Takes n take t w → Takes n take v w
tries_done v t w n (Got d) trying got = record {
  going = got.going;
  parts_are = got.parts_are ∙ ap (with_fresh d n) trying.parts_are;
  durable = got.durable;
  blank = got.blank;
  room = let r = got.room in let s = ap (λ (k : Setup). k.capacity) trying.row.passes.setup in
      omega arith;
  seen = got.seen;
  wins = got.wins ∙ ap (λ k. k + 1) trying.wins;
  taken = got.taken ∙ ap (λ k. k + n) trying.taken;
  heads = got.heads ∙ trying.heads;
  made = made;
} where
  made : IsMade (next_of v) (next_of w) v.taken v.taken w.used_look
  made = let m = got.made in record {
    ticket = m.ticket;
    by = m.by;
    since = let s = m.since in let n = trying.row.passes.next in omega arith;
    below = m.below;
    taken_least = let l = m.taken_least in let n = trying.taken in omega arith;
    taken_most = let l = m.taken_most in let n = trying.taken in omega arith;
  }
tries_done v t w n (Past used) trying past = record {
  going = past.going;
  parts_are = past.parts_are ∙ trying.parts_are;
  wins = past.wins ∙ trying.wins;
  taken = past.taken ∙ trying.taken;
  cuts = past.cuts ∙ trying.cuts;
  look = past.look;
  past = let p = past.past in let s = ap (λ (k : Setup). k.capacity) trying.row.passes.setup in omega arith;
  heads = past.heads ∙ trying.heads;
  later = let x = trying.row.passes.next in let y = past.later in omega arith;
}
