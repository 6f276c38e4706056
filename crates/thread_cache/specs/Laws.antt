-- What every call keeps goes on from call to call: the laws of what it keeps.
use Rattle.std.proofs.Common.{ℕ, refl, ◌∙◌, arith}
use Rattle.seat_costs.proofs.AskedLemmas.{asked_none, asked_then}
use Rattle.seat_model.specs.CacheState.{CacheState, CacheValue}
use Rattle.thread_cache.specs.Keeps.{KeepsCounts, KeepsHeap, KeepsSeat}

-- no call costs nothing
costs_none : (s : CacheState) → KeepsCounts s s
costs_none s = record {
  setup = refl;
  roots = refl;
  floor = omega arith;
  none_falls = record {
    draws = omega arith;
    wins = omega arith;
    losses = omega arith;
    gives = omega arith;
    moves = omega arith;
    cuts = omega arith;
    taken = omega arith;
  };
  small_rise = omega arith;
  large_rise = omega arith;
  draws = omega arith;
  wins = omega arith;
  gives = omega arith;
  cuts = omega arith;
  light = omega arith;
}

-- the costs of two rows of calls are those of both
pub costs_row : (s t u : CacheState) → KeepsCounts s t → KeepsCounts t u → KeepsCounts s u
costs_row s t u p q = record {
  setup = q.setup ∙ p.setup;
  roots = q.roots ∙ p.roots;
  floor = let x = p.floor in let y = q.floor in omega arith;
  none_falls = let a = p.none_falls in let b = q.none_falls in record {
    draws = let x = a.draws in let y = b.draws in omega arith;
    wins = let x = a.wins in let y = b.wins in omega arith;
    losses = let x = a.losses in let y = b.losses in omega arith;
    gives = let x = a.gives in let y = b.gives in omega arith;
    moves = let x = a.moves in let y = b.moves in omega arith;
    cuts = let x = a.cuts in let y = b.cuts in omega arith;
    taken = let x = a.taken in let y = b.taken in omega arith;
  };
  small_rise = let x = p.small_rise in let y = q.small_rise in omega arith;
  large_rise = let x = p.large_rise in let y = q.large_rise in omega arith;
  draws = let x = p.draws in let y = q.draws in omega arith;
  wins = let x = p.wins in let y = q.wins in omega arith;
  gives = let x = p.gives in let y = q.gives in omega arith;
  cuts = let x = p.cuts in let y = q.cuts in omega arith;
  light = let x = p.light in let y = q.light in omega arith;
}

pub keeps_none_law : (s : CacheState) → KeepsHeap s s
keeps_none_law s = (refl, costs_none s, refl)

pub keeps_row_law : (s t u : CacheState) → KeepsHeap s t → KeepsHeap t u → KeepsHeap s u
keeps_row_law s t u p q = (q.0 ∙ p.0, costs_row s t u p.1 q.1, q.2 ∙ p.2)

pub seat_none_law : {C : Type 0} (gives : C → ℕ → C → Type 0) (s : CacheValue C) → KeepsSeat gives s s
seat_none_law gives s = record { heap = keeps_none_law s.state; asked = asked_none s.state.view s.chance }

pub seat_row_law : {C : Type 0} (gives : C → ℕ → C → Type 0) (s t u : CacheValue C) → KeepsSeat gives s t → KeepsSeat gives t u → KeepsSeat gives s u
seat_row_law gives s t u p q = record { heap = keeps_row_law s.state t.state u.state p.heap q.heap; asked = asked_then p.asked q.asked }
