-- What a call for a block of a class leaves, once its cache was filled.
use Rattle.std.proofs.Common.{◌≡◌, ◌<◌, ◌≤◌, ℕ, ◌+◌, ◌-◌, get_or, length, refl, ap, ◌∙◌, arith}
use Rattle.std.proofs.lemmas.List.{set-set}
use Rattle.heap_model.specs.declared.block.Block.{Block}
use Rattle.heap_model.specs.Sizes.{blocks_of}
use Rattle.heap_model.specs.Words.{head_first}
use Rattle.core_model.specs.View.{LastLook, Parts, View, of_class}
use Rattle.core_model.proofs.BlockLemmas.{of_class_same}
use Rattle.heap_rule.specs.Seated.{SeatView}
use Rattle.seat_costs.specs.Costs.{Costs, no_costs, one_draw}
use Rattle.seat_costs.specs.Rows.{HoldingRow, IsHeldBoth, Row, SameLooks, head_look, next_of, parts}
use Rattle.seat_costs.proofs.RowLemmas.{but_fewer, holding_within, row_but, row_then, row_within, then_holding}
use Rattle.thread_cache.specs.Small.{HasAllocated, alloc_costs, light_alloc, with_allocated}
use Rattle.cache_fill.specs.Refills.{HasFilled, HasSeenEmpty, IsFilledInOrder}

-- the costs of filling a cache
abbrev refill_costs : ℕ → ℕ → Costs
refill_costs class moves = record no_costs { draws = blocks_of class + 11; wins = 2; cuts = 1; taken = 1; moves = moves }

abbrev light_refill : ℕ → Costs
light_refill moves = record no_costs { draws = 9; wins = 2; moves = moves }

module _ (v t : SeatView) (class : ℕ) where
  pub full_row : Row (refill_costs class (t.view.moves - v.view.moves)) v t → HoldingRow (alloc_costs class (t.view.moves - v.view.moves)) v t
  full_row row = but_fewer (IsHeldBoth v.view t.view) (alloc_costs class (t.view.moves - v.view.moves)) v t (λ k both. both.0)
      (record { draws = omega arith; wins = omega arith; gives = omega arith; cuts = omega arith; taken = omega arith; moves = omega arith })
      (row_but v t row)

  pub full_light : Row (light_refill (t.view.moves - v.view.moves)) v t → HoldingRow (light_alloc (t.view.moves - v.view.moves)) v t
  full_light row = but_fewer (IsHeldBoth v.view t.view) (light_alloc (t.view.moves - v.view.moves)) v t (λ k both. both.0)
      (record { draws = omega arith; wins = omega arith; gives = omega arith; cuts = omega arith; taken = omega arith; moves = omega arith })
      (row_but v t row)

  module _ (w : SeatView) (row : Row (refill_costs class (t.view.moves - v.view.moves)) v t) where
    pub stopped_row : Row one_draw t w → Row (alloc_costs class (w.view.moves - v.view.moves)) v w
    stopped_row none = row_within (alloc_costs class (w.view.moves - v.view.moves)) v w
        (let m = row.view.passes.more.moves in let n = none.view.passes.more.moves in
        record {
          draws = omega arith;
          wins = omega arith;
          gives = omega arith;
          cuts = omega arith;
          taken = omega arith;
          moves = omega (arith, m, n);
        })
        (row_then v t w row none)

    pub alloc_row : HoldingRow one_draw t w → HoldingRow (alloc_costs class (w.view.moves - v.view.moves)) v w
    alloc_row holding = holding_within (alloc_costs class (w.view.moves - v.view.moves)) v w
        (let m = row.view.passes.more.moves in let n = holding.passes.more.moves in
        record {
          draws = omega arith;
          wins = omega arith;
          gives = omega arith;
          cuts = omega arith;
          taken = omega arith;
          moves = omega (arith, m, n);
        })
        (then_holding v t w row holding)

    pub alloc_light : (t.view.cuts ≡ v.view.cuts → Row (light_refill (t.view.moves - v.view.moves)) v t) → HoldingRow one_draw t w
        → w.view.cuts ≡ v.view.cuts → HoldingRow (light_alloc (w.view.moves - v.view.moves)) v w
    alloc_light light holding same = holding_within (light_alloc (w.view.moves - v.view.moves)) v w
        (let m = row.view.passes.more.moves in let n = holding.passes.more.moves in
        record {
          draws = omega arith;
          wins = omega arith;
          gives = omega arith;
          cuts = omega arith;
          taken = omega arith;
          moves = omega (arith, m, n);
        })
        (then_holding v t w (light (let a = row.view.passes.more.cuts in let b = holding.passes.more.cuts in omega (arith, a, b, same))) holding)

-- the cache was filled before
pub filled_alloc : (v t w : View) (class : ℕ) (b : Block) → class < length v.caches → length (of_class v.caches class) ≡ 0
    → HasFilled class v t → w.cuts ≤ t.cuts → HasAllocated class b t w → HasAllocated class b v w
filled_alloc v t w class b less none filled uncut allocated = record {
  going = allocated.going;
  size = allocated.size;
  cache = allocated.cache;
  first = λ some. absurd (omega (arith, some, none));
  short = allocated.short;
  cut = λ rose.
      let whole = filled.whole (omega (arith, uncut, rose)) in
      let some = filled.some in
      let was : of_class t.caches class ≡ filled.blocks = ap (λ (p : Parts). of_class p.caches class) filled.parts_are
      ∙ of_class_same v.caches class filled.blocks class refl less in
      let all = ap length was in
      let first = ap length (allocated.first (omega (arith, some, all))) in
      omega (arith, whole, all, first);
  parts_are = allocated.parts_are ∙ ap (with_allocated class b.first_word allocated.cache) filled.parts_are
      ∙ ap (λ l. record (with_allocated class b.first_word allocated.cache (parts v)) { caches = l })
      (set-set v.caches class filled.blocks allocated.cache);
}

-- a draw with a change of the seat's parts looks at no list
pub order_held : (class : ℕ) (v w : SeatView) → HoldingRow one_draw v w → IsFilledInOrder class v.view w.view
order_held class v w row = let taken = row.passes.most.taken in let more = row.passes.more.taken in let cuts = row.passes.most.cuts in record {
  cut = λ rose. absurd (omega (arith, cuts, rose));
  claimed = λ rose. absurd (omega (arith, cuts, rose));
  uncut = λ same. omega (arith, taken, more);
  fresh = λ rose. absurd (omega (arith, taken, rose));
}

looks_still : (list : ℕ) (t w : View) → SameLooks t w → head_look w list ≡ head_look t list
looks_still list t w same = ap (λ l. get_or l list w.used_look) same.heads ∙ ap (λ u. get_or t.head_looks list u) same.used

abbrev seen_still : (list : ℕ) (v t w : View) → SameLooks t w → next_of t ≤ next_of w → HasSeenEmpty list v t → HasSeenEmpty list v w
seen_still list v t w same next seen = record {
  made = let m = seen.made in record {
    ticket = m.ticket;
    by = ap (λ (l : LastLook). l.ticket) (looks_still list t w same) ∙ m.by;
    since = m.since;
    below = let b = m.below in omega (arith, b, next);
    taken_least = let e = ap (λ (l : LastLook). l.taken) (looks_still list t w same) in let l = m.taken_least in omega (arith, e, l);
    taken_most = let e = ap (λ (l : LastLook). l.taken) (looks_still list t w same) in let l = m.taken_most in omega (arith, e, l);
  };
  empty = ap (λ (l : LastLook). head_first l.word) (looks_still list t w same) ∙ seen.empty;
}

pub order_still : (class : ℕ) (v : View) (t w : SeatView) → IsFilledInOrder class v t.view → SameLooks t.view w.view → HoldingRow one_draw t w
    → IsFilledInOrder class v w.view
order_still class v t w order same row = let taken = row.passes.most.taken in let more = row.passes.more.taken in
    let cuts = row.passes.most.cuts in let more_cuts = row.passes.more.cuts in record {
      cut = λ rose. seen_still class v t.view w.view same row.passes.next (order.cut (omega (arith, cuts, rose)));
      claimed = λ rose. let won = order.claimed (omega (arith, cuts, rose)) in
          let e = ap (λ (l : LastLook). l.wins) (looks_still class t.view w.view same) in
          let least = row.passes.more.wins in let most = row.passes.most.wins in let moved = row.passes.most.moves in
          omega (arith, won, e, least, most, moved);
      uncut = λ uncut. let before = order.uncut (omega (arith, cuts, more_cuts, uncut)) in omega (arith, taken, more, before);
      fresh = λ rose. let none = order.fresh (omega (arith, taken, rose)) in record {
        of_class = seen_still class v t.view w.view same row.passes.next none.of_class;
        free = seen_still 0 v t.view w.view same row.passes.next none.free;
        order = none.order;
      };
    }
