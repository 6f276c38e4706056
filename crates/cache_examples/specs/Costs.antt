-- Worked examples by computation: what rows of calls leave of the heap, and what they may cost.
use Rattle.std.proofs.Common.{◌≡◌, ◌≤◌, ◌+◌, ◌-◌, ◌*◌, ℕ, [], ◌∷◌, Some, length, refl, ap, sym, subst, ◌∙◌, arith}
use Rattle.heap_rule.specs.Seated.{SeatView}
use Rattle.core_model.specs.View.{Role, Setup, View}
use Rattle.seat_costs.specs.Asked.{AsksFor}
use Rattle.seat_costs.specs.Examples.{counts}
use Rattle.seat_model.specs.CacheState.{CacheState, CacheValue, no_looks}
use Rattle.thread_cache.specs.Keeps.{IsNew, KeepsCosts, KeepsHeap, KeepsSeat, light_draws, most_draws, most_gives, most_wins, traces}
use Rattle.cache_examples.specs.Seats.{before, later}

-- the most of a call, and of a light one
pub the_most : most_draws ∷ most_wins ∷ most_gives ∷ light_draws ∷ [] ≡ 131072 ∷ 32768 ∷ 16384 ∷ 64 ∷ []
the_most = refl

-- what calls that are not light leave behind: a cut, two gives, a superblock taken and a stop; and an accept, which may bring a large block
pub five_traces : traces (record before { cuts = 1; gives = 2; taken = 1; stopped = Some 9 }) ≡ 5
five_traces = refl

pub accepted_trace : traces (record before { accepts = 1 }) ≡ 1
accepted_trace = refl

pub no_trace : traces (record before { draws = 9; wins = 3; losses = 2; moves = 1 }) ≡ 0
no_trace = refl

-- so many small calls and other ones, so much later
abbrev pub Keeps : View → ℕ → ℕ → Type 0
Keeps w smalls larges = KeepsCosts before 0 0 w smalls larges

-- from a row of no call to these
pub keeps : (draws wins gives losses moves cuts smalls larges : ℕ)
    → draws ≤ smalls + 131072 * larges + 16 * losses + 16 * moves
    → draws ≤ smalls + 64 * larges + 131072 * (cuts + gives) + 16 * losses + 16 * moves
    → wins ≤ 32768 * larges + 2 * moves → gives ≤ 16384 * larges → cuts ≤ larges
    → Keeps (record (later draws wins gives before) { losses = losses; moves = moves; cuts = cuts }) smalls larges
keeps draws wins gives losses moves cuts smalls larges few few_light few_wins few_gives few_cuts = record {
  setup = refl;
  roots = refl;
  floor = omega arith;
  none_falls = record {
    draws = omega arith;
    wins = omega arith;
    losses = omega arith;
    gives = omega arith;
    moves = omega arith;
    cuts = omega arith;
    taken = omega arith;
  };
  small_rise = omega arith;
  large_rise = omega arith;
  draws = omega arith;
  wins = omega arith;
  gives = omega arith;
  cuts = omega arith;
  light = omega arith;
}

-- a small call by one ticket, and not by two
pub small_by_one : Keeps (later 1 0 0 before) 1 0
small_by_one = keeps 1 0 0 0 0 0 1 0 (omega arith) (omega arith) (omega arith) (omega arith) (omega arith)

pub small_by_two : Keeps (later 2 0 0 before) 1 0 → ⊥
small_by_two k = let most : 6 ≤ 5 = k.draws in omega (arith, most)

-- a light call by 64, and not by 65
pub light_by_64 : Keeps (later 64 2 0 before) 0 1
light_by_64 = keeps 64 2 0 0 0 0 0 1 (omega arith) (omega arith) (omega arith) (omega arith) (omega arith)

pub light_by_65 : Keeps (later 65 2 0 before) 0 1 → ⊥
light_by_65 k = let most : 69 ≤ 68 = k.light in omega (arith, most)

-- one lost exchange pays for 16 more
pub lost_by_80 : Keeps (record (later 80 2 0 before) { losses = 1; moves = 0; cuts = 0 }) 0 1
lost_by_80 = keeps 80 2 0 1 0 0 0 1 (omega arith) (omega arith) (omega arith) (omega arith) (omega arith)

pub lost_by_81 : Keeps (record (later 81 2 0 before) { losses = 1 }) 0 1 → ⊥
lost_by_81 k = let most : 85 ≤ 84 = k.light in omega (arith, most)

-- a call that gives a batch by the most and no more
pub heavy_by_the_most : Keeps (later 131072 32768 16384 before) 0 1
heavy_by_the_most = keeps 131072 32768 16384 0 0 0 0 1 (omega arith) (omega arith) (omega arith) (omega arith) (omega arith)

pub heavy_by_more : Keeps (later 131073 2 1 before) 0 1 → ⊥
heavy_by_more k = let most : 131077 ≤ 131076 = k.draws in omega (arith, most)

pub heavy_by_more_wins : Keeps (later 64 32769 0 before) 0 1 → ⊥
heavy_by_more_wins k = let most : 32769 ≤ 32768 = k.wins in omega (arith, most)

pub heavy_by_more_gives : Keeps (later 64 2 16385 before) 0 1 → ⊥
heavy_by_more_gives k = let most : 16385 ≤ 16384 = k.gives in omega (arith, most)

pub cuts_two : Keeps (record (later 64 2 0 before) { cuts = 2 }) 0 1 → ⊥
cuts_two k = let most : 2 ≤ 1 = k.cuts in omega (arith, most)

-- a small call cuts, wins and gives nothing
pub small_cut : Keeps (record (later 1 0 0 before) { cuts = 1 }) 1 0 → ⊥
small_cut k = let most : 1 ≤ 0 = k.cuts in omega (arith, most)

pub small_win : Keeps (later 1 1 0 before) 1 0 → ⊥
small_win k = let most : 1 ≤ 0 = k.wins in omega (arith, most)

pub small_give : Keeps (later 1 0 1 before) 1 0 → ⊥
small_give k = let most : 1 ≤ 0 = k.gives in omega (arith, most)

-- without a call nothing is drawn, and no call is uncounted
pub no_call : Keeps (later 1 0 0 before) 0 0 → ⊥
no_call k = let most : 5 ≤ 4 = k.draws in omega (arith, most)

pub one_call_less : KeepsCosts before 1 0 before 0 0 → ⊥
one_call_less k = let rise : 1 ≤ 0 = k.small_rise in omega (arith, rise)

pub one_large_call_less : KeepsCosts before 0 1 before 0 0 → ⊥
one_large_call_less k = let rise : 1 ≤ 0 = k.large_rise in omega (arith, rise)

-- setup, roots, the durable mark and the counts stay or rise
pub another_budget : Keeps (record (later 1 0 0 before) { setup = record before.setup { budget = 1001 } }) 1 0 → ⊥
another_budget k = let e : 1001 ≡ 1000 = ap (λ (setup : Setup). setup.budget) k.setup in omega (arith, e)

pub another_root : Keeps (record (later 1 0 0 before) { roots = 5 ∷ [] }) 1 0 → ⊥
another_root k = let e : 1 ≡ 0 = ap length k.roots in omega (arith, e)

pub mark_falls : Keeps (record (later 1 0 0 before) { floor = 0 }) 1 0 → ⊥
mark_falls k = let less : 1 ≤ 0 = k.floor in omega (arith, less)

pub draws_fall : Keeps (record before { draws = 3 }) 1 0 → ⊥
draws_fall k = let less : 4 ≤ 3 = k.none_falls.draws in omega (arith, less)

-- a seat that was just made has its seat's table, view, marks and stores, has counted no call, and tells of no refusal
pub just_made : (seat : SeatView) (s : CacheState) → (s.table ≡ seat.table) × (s.view ≡ seat.view) × (s.marks ≡ seat.marks) × (s.stores ≡ seat.stores)
    → (s.small_calls ≡ 0) × (s.large_calls ≡ 0) × (s.refusals ≡ 0) → (s.refused_bytes ≡ 0) × (s.refused_looks ≡ no_looks) → IsNew seat s
just_made seat s parts none refused = record {
  table = parts.0;
  view = parts.1;
  marks = parts.2;
  stores = parts.3;
  small = none.0;
  large = none.1;
  refusals = none.2;
  refused_bytes = refused.0;
  refused_looks = refused.1;
}

pub not_just_made : (seat : SeatView) (s : CacheState) → 1 ≤ s.small_calls + s.large_calls + s.refusals + s.refused_bytes → IsNew seat s → ⊥
not_just_made seat s some new = let small = new.small in let large = new.large in let refusals = new.refusals in
    let bytes = new.refused_bytes in omega (arith, some, small, large, refusals, bytes)

pub has_stored : (seat : SeatView) (s : CacheState) → seat.stores ≡ [] → s.stores ≡ 1080 ∷ [] → IsNew seat s → ⊥
has_stored seat s none one new = let e : 1 ≡ 0 = ap length (sym one ∙ new.stores ∙ none) in omega (arith, e)

pub of_another_seat : (seat : SeatView) (s : CacheState) → seat.view ≡ later 1 0 0 before → s.view ≡ before → IsNew seat s → ⊥
of_another_seat seat s view other new = let e : 4 ≡ 5 = ap (λ (v : View). v.draws) (sym other ∙ new.view ∙ view) in omega (arith, e)

-- what a call keeps is of one heap
pub keeps_the_table : (s t : CacheState) → KeepsHeap s t → t.table ≡ s.table
keeps_the_table s t k = k.0

-- no call of the trait offers a block
pub one_offered : (s t : CacheState) → s.view ≡ before → t.view ≡ record (later 1 0 0 before) { offers = 1 } → KeepsHeap s t → ⊥
one_offered s t was is k =
    let none : s.view.offers ≡ 0 = ap (λ (v : View). v.offers) was in
    let one : t.view.offers ≡ 1 = ap (λ (v : View). v.offers) is in
    let same : t.view.offers ≡ s.view.offers = ap (λ (r : Role). r.offers) k.2 in
    omega (arith, none, one, same)

-- and costs what its views and counts say
pub costs_of_the_views : (s t : CacheState) → s.view ≡ before → t.view ≡ later 65 2 0 before → t.small_calls ≡ s.small_calls
    → t.large_calls ≡ s.large_calls + 1 → KeepsHeap s t → ⊥
costs_of_the_views s t was is small large k =
    let light = k.1.light in
    let draws : s.view.draws ≡ 4 = ap (λ (v : View). v.draws) was in
    let drawn : t.view.draws ≡ 69 = ap (λ (v : View). v.draws) is in
    let none : traces s.view + length s.view.large + s.view.losses + s.view.moves ≡ 0 =
    ap (λ (v : View). traces v + length v.large + v.losses + v.moves) was in
    let none_too : traces t.view + length t.view.large + t.view.losses + t.view.moves ≡ 0 =
    ap (λ (v : View). traces v + length v.large + v.losses + v.moves) is in
    omega (arith, light, draws, drawn, none, none_too, small, large)

-- a seat asks its chance once for a ticket; this one counts the numbers that it has given
pub asks_none : (s t : CacheValue ℕ) → s.state.view ≡ before → t.state.view ≡ later 1 0 0 before → t.chance ≡ s.chance → KeepsSeat counts s t → ⊥
asks_none s t was is same k =
    let none : s.state.view.draws ≡ 4 = ap (λ (v : View). v.draws) was in
    let one : t.state.view.draws ≡ 5 = ap (λ (v : View). v.draws) is in
    let once : t.state.view.draws - s.state.view.draws ≡ 1 = omega (arith, none, one) in
    let asks : AsksFor counts 1 s.chance t.chance = subst (λ n. AsksFor counts n s.chance t.chance) once k.asked.asks in
    let first = asks.1.1 in let last = asks.2 in omega (arith, same, first, last)
