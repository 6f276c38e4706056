-- What an offer and an accept leave and cost, whatever they answer.
use Rattle.std.proofs.Common.{◌≡◌, ◌≤◌, ℕ, ◌+◌, Bool, true, false, cond, List, [], ◌∷◌, length, ap, arith}
use Rattle.heap_model.specs.declared.block.Block.{Block}
use Rattle.heap_seat.specs.Calls.{IsSmallCall}
use Rattle.core_model.specs.Splitting.{chosen_spans}
use Rattle.core_model.specs.View.{Setup, Span, View, one_if_some}
use Rattle.seat_index.specs.declared.owned.Holding.{Holding}
use Rattle.seat_index.specs.declared.owned.Holding.TheVariants as holding
use Rattle.seat_index.specs.Holdings.{HoldsAlone}
use Rattle.heap_rule.specs.Seated.{SeatView}
use Rattle.seat_costs.specs.Costs.{NoneFalls, RisesBy, one_draw}
use Rattle.seat_costs.specs.Rows.{Passes, SameLooks, next_of}
use Rattle.seat_model.specs.CacheState.{CacheState, CallCounts, heap_view, heap_view_of, opened_kinds}
use Rattle.thread_cache.specs.Handing.{OnlyDraws}
use Rattle.thread_cache.specs.Keeps.{KeepsCosts}
use Rattle.thread_cache.proofs.CallLemmas.{SmallStep, at_state, counts_small}

-- what both leave and cost, whatever they answer
pub record IsHandled (v w : View) : Type 0 where
  pub setup : w.setup ≡ v.setup
  pub roots : w.roots ≡ v.roots
  pub floor : v.floor ≤ w.floor
  pub next : next_of v ≤ next_of w
  pub more : NoneFalls v w
  pub most : RisesBy one_draw v w
  pub no_less : v.used_look.word + w.used_look.taken ≤ w.used_look.word + v.used_look.taken

pub handled : (v w : View) (offers accepts : ℕ) → Passes one_draw (record v { offers = offers; accepts = accepts }) w → IsHandled v w
handled v w offers accepts p = record {
  setup = p.setup;
  roots = p.roots;
  floor = p.floor;
  next = p.next;
  more = let m = p.more in record {
    draws = m.draws;
    wins = m.wins;
    losses = m.losses;
    gives = m.gives;
    moves = m.moves;
    cuts = m.cuts;
    taken = m.taken;
  };
  most = let m = p.most in record { draws = m.draws; wins = m.wins; gives = m.gives; cuts = m.cuts; taken = m.taken; moves = m.moves };
  no_less = p.looks.no_less;
}

-- how many large blocks are held then
pub fewer_spans : (test : ℕ → Bool) (spans : List Span) → length (chosen_spans test spans) ≤ length spans
fewer_spans test [] = omega arith
fewer_spans test (span ∷ spans) = by_test (test span.first) (fewer_spans test spans) where
  by_test : (t : Bool) → length (chosen_spans test spans) ≤ length spans
      → length (cond t (span ∷ chosen_spans test spans) (chosen_spans test spans)) ≤ length (span ∷ spans)
  by_test true rest = omega arith
  by_test false rest = omega arith

pub one_span : (u : View) (b : Block) (h : Holding) → HoldsAlone u b h → length u.large ≤ 1
one_span u b (holding.Small class) alone = let e = ap length alone.none_large in omega arith
one_span u b (holding.Large d n) alone = let e = ap length alone.once in omega arith

module _ (s : CacheState) (x y : SeatView) (n : CallCounts) (step : SmallStep s x y n) (leaves : IsHandled x.view y.view) where
  does : IsHandled s.view y.view
  does = at_state (λ v. IsHandled v y.view) s x step.call.was leaves

  pub handed_counted : SameLooks x.view y.view → IsSmallCall (heap_view s) (heap_view_of y.view y.marks n)
  handed_counted = counts_small s x y n step (record {
    capacity = ap (λ (k : Setup). k.capacity) does.setup;
    kinds = ap opened_kinds does.setup;
    budget = ap (λ (k : Setup). k.budget) does.setup;
    tickets = does.next;
    used = does.no_less;
  }) (let least = does.more.taken in let most = does.most.taken in omega arith)

  pub handed_draws : y.view.losses ≡ x.view.losses → OnlyDraws s.view y.view
  handed_draws same = let l = at_state (λ v. y.view.losses ≡ v.losses) s x step.call.was same in let more = does.more in let most = does.most in
      let a = more.moves in let b = most.moves in let c = more.wins in let d = most.wins in let e = more.gives in let f = most.gives in
      let g = more.cuts in let h = most.cuts in let i = more.taken in let j = most.taken in let k = most.draws in
      record { draws = omega arith; wins = omega arith; losses = l; taken = omega arith; cuts = omega arith; gives = omega arith; moves = omega arith }

  pub handed_keeps : x.view.accepts + length y.view.large ≤ y.view.accepts + length x.view.large
      → KeepsCosts s.view s.small_calls s.large_calls y.view n.small_calls n.large_calls
  handed_keeps paid = record {
    setup = does.setup;
    roots = does.roots;
    floor = does.floor;
    none_falls = does.more;
    small_rise = let e = step.small in omega arith;
    large_rise = let e = step.large in omega arith;
    draws = let e = step.small in let f = step.large in let l = does.more.losses in let m = does.more.moves in let d = does.most.draws in omega arith;
    wins = let f = step.large in let d = does.most.wins in let m = does.more.moves in omega arith;
    gives = let f = step.large in let d = does.most.gives in omega arith;
    cuts = let f = step.large in let d = does.most.cuts in omega arith;
    light = let e = step.small in let f = step.large in let l = does.more.losses in let d = does.most.draws in
        let c = does.more.cuts in let g = does.more.gives in let t = does.more.taken in
        let ran = ap one_if_some step.call.ran in let spans : s.view.accepts + length y.view.large ≤ y.view.accepts + length s.view.large =
        at_state (λ v. v.accepts + length y.view.large ≤ y.view.accepts + length v.large) s x step.call.was paid in omega arith;
  }
