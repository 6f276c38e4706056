-- Rows one after the other.
use Rattle.std.proofs.Common.{◌≡◌, ◌≤◌, ◌⊎◌, inl, inr, ℕ, ◌+◌, ◌-◌, ◌*◌, Option, None, Some, refl, ap, sym, subst, ◌∙◌, arith}
use Rattle.line_memory.specs.Marks.{IsMarked, mark_at}
use Rattle.core_model.specs.View.{LastLook, Setup, View, one_if_some}
use Rattle.heap_rule.specs.Seated.{KeepsStores, SeatView}
use Rattle.seat_costs.specs.Costs.{Costs, IsWithin, NoneFalls, RisesBy, no_costs, sum_of}
use Rattle.seat_costs.specs.Rows.{HoldingRow, IsKeptOrMade, KeepsLooks, KeepsMarks, Passes, Row, RowBut, StoringRow, Stops, ViewRow, head_look, next_of}
use Rattle.seat_costs.specs.Words.{IsDurableAt, IsHeldWord, KeepsWord}
use Rattle.seat_costs.proofs.WordLemmas.{durable_then, still_held, word_same, word_then}

pub passes_none : (v : View) → Passes no_costs v v
passes_none v = record {
  setup = refl;
  roots = refl;
  role_is = refl;
  floor = omega arith;
  next = omega arith;
  tickets = omega arith;
  more = record {
    draws = omega arith;
    wins = omega arith;
    losses = omega arith;
    gives = omega arith;
    moves = omega arith;
    cuts = omega arith;
    taken = omega arith;
  };
  most = record { draws = omega arith; wins = omega arith; gives = omega arith; cuts = omega arith; taken = omega arith; moves = omega arith };
  looks = record { used = inl refl; heads = λ list. inl refl; no_less = omega arith };
}

pub view_row_none : (v : View) → ViewRow no_costs v v
view_row_none v = record { passes = passes_none v; small = refl; large = refl; words = λ k held. word_same v v k refl refl }

pub row_none : (v : SeatView) → Row no_costs v v
row_none v = record { view = view_row_none v.view; marks = λ k held marked. inl marked }

-- a look that was made earlier or later in a row
made_then : (u v w : View) (before now later : LastLook) → next_of u ≤ next_of v → next_of v ≤ next_of w → u.taken ≤ v.taken → v.taken ≤ w.taken
    → IsKeptOrMade u v before now → IsKeptOrMade v w now later → IsKeptOrMade u w before later
made_then u v w before now later first next few more p (inr made) =
    inr (record {
      ticket = made.ticket;
      by = made.by;
      since = let s = made.since in omega arith;
      below = made.below;
      taken_least = let t = made.taken_least in omega arith;
      taken_most = made.taken_most;
    })
made_then u v w before now later first next few more (inl same) (inl stays) = inl (stays ∙ same)
made_then u v w before now later first next few more (inr made) (inl stays) = let taken = ap (λ (l : LastLook). l.taken) stays in inr (record {
  ticket = made.ticket;
  by = ap (λ (l : LastLook). l.ticket) stays ∙ made.by;
  since = made.since;
  below = let b = made.below in omega arith;
  taken_least = let t = made.taken_least in omega arith;
  taken_most = let t = made.taken_most in omega arith;
})

looks_then : (u v w : View) → next_of u ≤ next_of v → next_of v ≤ next_of w → u.taken ≤ v.taken → v.taken ≤ w.taken → KeepsLooks u v
    → KeepsLooks v w → KeepsLooks u w
looks_then u v w first next few more p q = record {
  used = made_then u v w u.used_look v.used_look w.used_look first next few more p.used q.used;
  heads = λ list. made_then u v w (head_look u list) (head_look v list) (head_look w list) first next few more (p.heads list) (q.heads list);
  no_less = let a = p.no_less in let b = q.no_less in omega arith;
}

none_falls : (u v w : View) → NoneFalls u v → NoneFalls v w → NoneFalls u w
none_falls u v w p q = record {
  draws = let x = p.draws in let y = q.draws in omega arith;
  wins = let x = p.wins in let y = q.wins in omega arith;
  losses = let x = p.losses in let y = q.losses in omega arith;
  gives = let x = p.gives in let y = q.gives in omega arith;
  moves = let x = p.moves in let y = q.moves in omega arith;
  cuts = let x = p.cuts in let y = q.cuts in omega arith;
  taken = let x = p.taken in let y = q.taken in omega arith;
}

rises_then : {a b : Costs} (u v w : View) → RisesBy a u v → RisesBy b v w → RisesBy (sum_of a b) u w
rises_then u v w p q = record {
  draws = let x = p.draws in let y = q.draws in omega arith;
  wins = let x = p.wins in let y = q.wins in omega arith;
  gives = let x = p.gives in let y = q.gives in omega arith;
  cuts = let x = p.cuts in let y = q.cuts in omega arith;
  taken = let x = p.taken in let y = q.taken in omega arith;
  moves = let x = p.moves in let y = q.moves in omega arith;
}

pub passes_then : {a b : Costs} (u v w : View) → Passes a u v → Passes b v w → Passes (sum_of a b) u w
passes_then u v w p q = record {
  setup = q.setup ∙ p.setup;
  roots = q.roots ∙ p.roots;
  role_is = q.role_is ∙ p.role_is;
  floor = let x = p.floor in let y = q.floor in omega arith;
  next = let x = p.next in let y = q.next in omega arith;
  tickets = let x = p.tickets in let y = q.tickets in omega arith;
  more = none_falls u v w p.more q.more;
  most = rises_then u v w p.most q.most;
  looks = looks_then u v w p.next q.next p.more.taken q.more.taken p.looks q.looks;
}

-- the words that are held before a row are so behind it
pub row_holds : {a : Costs} (u v : View) → ViewRow a u v → (word : ℕ) → IsHeldWord u word → IsHeldWord v word
row_holds u v p word held = still_held u v p.passes.setup p.small p.large p.passes.roots word held

pub row_held : {a : Costs} (u v : View) → ViewRow a u v → (word : ℕ) → IsHeldWord v word → IsHeldWord u word
row_held u v p word held = still_held v u (sym p.passes.setup) (sym p.small) (sym p.large) (sym p.passes.roots) word held

pub view_row_then : {a b : Costs} (u v w : View) → ViewRow a u v → ViewRow b v w → ViewRow (sum_of a b) u w
view_row_then u v w p q = record {
  passes = passes_then u v w p.passes q.passes;
  small = q.small ∙ p.small;
  large = q.large ∙ p.large;
  words = λ k held. word_then u v w k (p.words k held) (q.words k (row_holds u v p k held));
}

-- a mark behind another row
pub marks_then : (u v w : SeatView) (k : ℕ) → KeepsWord v.view w.view k → (IsMarked u.marks k → IsMarked v.marks k ⊎ IsDurableAt v.view k)
    → (IsMarked v.marks k → IsMarked w.marks k ⊎ IsDurableAt w.view k)
    → IsMarked u.marks k → IsMarked w.marks k ⊎ IsDurableAt w.view k
marks_then u v w k keeps p q marked = elim (p marked) [
  | inl still ↦ q still
  | inr durable ↦ inr (durable_then v.view w.view k keeps durable)
]

-- the marks behind one row more
pub marks_behind : {a b : Costs} (u v w : SeatView) → ViewRow a u.view v.view → KeepsMarks (IsHeldWord u.view) u v → Row b v w
    → KeepsMarks (IsHeldWord u.view) u w
marks_behind u v w p marks q k held = let now = row_holds u.view v.view p k held in
    marks_then u v w k (q.view.words k now) (marks k held) (q.marks k now)

pub row_then : {a b : Costs} (u v w : SeatView) → Row a u v → Row b v w → Row (sum_of a b) u w
row_then u v w p q = record { view = view_row_then u.view v.view w.view p.view q.view; marks = marks_behind u v w p.view p.marks q }

-- what costs less costs no more
pub passes_within : {a : Costs} (b : Costs) (v w : View) → IsWithin a b → Passes a v w → Passes b v w
passes_within b v w less p = record {
  setup = p.setup;
  roots = p.roots;
  role_is = p.role_is;
  floor = p.floor;
  next = p.next;
  tickets = p.tickets;
  more = p.more;
  most = record {
    draws = let x = p.most.draws in let y = less.draws in omega arith;
    wins = let x = p.most.wins in let y = less.wins in omega arith;
    gives = let x = p.most.gives in let y = less.gives in omega arith;
    cuts = let x = p.most.cuts in let y = less.cuts in omega arith;
    taken = let x = p.most.taken in let y = less.taken in omega arith;
    moves = let x = p.most.moves in let y = less.moves in omega arith;
  };
  looks = p.looks;
}

pub view_row_within : {a : Costs} (b : Costs) (v w : View) → IsWithin a b → ViewRow a v w → ViewRow b v w
view_row_within b v w less p = record { passes = passes_within b v w less p.passes; small = p.small; large = p.large; words = p.words }

pub row_within : {a : Costs} (b : Costs) (v w : SeatView) → IsWithin a b → Row a v w → Row b v w
row_within b v w less p = record { view = view_row_within b v.view w.view less p.view; marks = p.marks }

-- each row moves as many superblocks as it moves
pub row_moves : {a : Costs} (v w : SeatView) → Row a v w → Row (record a { moves = w.view.moves - v.view.moves }) v w
row_moves v w p = record {
  view = record {
    passes = record {
      setup = p.view.passes.setup;
      roots = p.view.passes.roots;
      role_is = p.view.passes.role_is;
      floor = p.view.passes.floor;
      next = p.view.passes.next;
      tickets = p.view.passes.tickets;
      more = p.view.passes.more;
      most = let m = p.view.passes.most in record {
        draws = m.draws;
        wins = m.wins;
        gives = m.gives;
        cuts = m.cuts;
        taken = m.taken;
        moves = omega arith;
      };
      looks = p.view.passes.looks;
    };
    small = p.view.small;
    large = p.view.large;
    words = p.view.words;
  };
  marks = p.marks;
}

-- what a row draws, by what it lost and moved
pub row_draws : {a : Costs} (v w : SeatView) → Row a v w → w.view.draws + a.credit ≤ v.view.draws + a.draws + 4 *
    (w.view.losses - v.view.losses) + 16 * (w.view.moves - v.view.moves)
row_draws v w p = let d = p.view.passes.most.draws in let l = p.view.passes.more.losses in let m = p.view.passes.more.moves in omega arith

pub row_draws_exact : {a : Costs} (v w : SeatView) → Row a v w → w.view.draws + a.credit ≤ v.view.draws + a.draws + 4 *
    (w.view.losses - v.view.losses) + 16 * a.moves
row_draws_exact v w p = let d = row_draws v w p in let m = p.view.passes.most.moves in omega arith

-- a row whose marks all stay
pub row_of : {a : Costs} (v w : SeatView) → KeepsStores v w → ViewRow a v.view w.view → Row a v w
row_of v w stores p = record { view = p; marks = λ k held marked. inl (ap (λ marks. mark_at marks k) stores.marks ∙ marked) }

-- a row that changes no held block, as one that may
pub row_holding : {a : Costs} (v w : SeatView) → Row a v w → HoldingRow a v w
row_holding v w p = record { passes = p.view.passes; words = λ k both. p.view.words k both.0; marks = λ k both. p.marks k both.0 }

-- one before or behind a change of held blocks
pub holding_then : {a b : Costs} (u v w : SeatView) → HoldingRow a u v → Row b v w → HoldingRow (sum_of a b) u w
holding_then u v w p q = record {
  passes = passes_then u.view v.view w.view p.passes q.view.passes;
  words = λ k both. let now = row_held v.view w.view q.view k both.1 in word_then u.view v.view w.view k (p.words k (both.0, now)) (q.view.words k now);
  marks = λ k both. let now = row_held v.view w.view q.view k both.1 in
      marks_then u v w k (q.view.words k now) (p.marks k (both.0, now)) (q.marks k now);
}

pub then_holding : {a b : Costs} (u v w : SeatView) → Row a u v → HoldingRow b v w → HoldingRow (sum_of a b) u w
then_holding u v w p q = record {
  passes = passes_then u.view v.view w.view p.view.passes q.passes;
  words = λ k both. let now = row_holds u.view v.view p.view k both.0 in
      word_then u.view v.view w.view k (p.view.words k both.0) (q.words k (now, both.1));
  marks = λ k both. let now = row_holds u.view v.view p.view k both.0 in
      marks_then u v w k (q.words k (now, both.1)) (p.marks k both.0) (q.marks k (now, both.1));
}

-- one before or behind a store to a held word
pub storing_then : {a b : Costs} (word : ℕ) (u v w : SeatView) → StoringRow word a u v → Row b v w → StoringRow word (sum_of a b) u w
storing_then word u v w p q = record {
  small = q.view.small ∙ p.small;
  large = q.view.large ∙ p.large;
  but = record {
    passes = passes_then u.view v.view w.view p.but.passes q.view.passes;
    words = λ k both. word_then u.view v.view w.view k (p.but.words k both) (q.view.words k (now k both.0));
    marks = λ k both. marks_then u v w k (q.view.words k (now k both.0)) (p.but.marks k both) (q.marks k (now k both.0));
  };
} where
  now : (k : ℕ) → IsHeldWord u.view k → IsHeldWord v.view k
  now k held = still_held u.view v.view p.but.passes.setup p.small p.large p.but.passes.roots k held

pub then_storing : {a b : Costs} (word : ℕ) (u v w : SeatView) → Row a u v → StoringRow word b v w → StoringRow word (sum_of a b) u w
then_storing word u v w p q = record {
  small = q.small ∙ p.view.small;
  large = q.large ∙ p.view.large;
  but = record {
    passes = passes_then u.view v.view w.view p.view.passes q.but.passes;
    words = λ k both. word_then u.view v.view w.view k (p.view.words k both.0) (q.but.words k (row_holds u.view v.view p.view k both.0, both.1));
    marks = λ k both. marks_then u v w k (q.but.words k (row_holds u.view v.view p.view k both.0, both.1)) (p.marks k both.0)
        (q.but.marks k (row_holds u.view v.view p.view k both.0, both.1));
  };
}

pub holding_within : {a : Costs} (b : Costs) (v w : SeatView) → IsWithin a b → HoldingRow a v w → HoldingRow b v w
holding_within b v w less p = record { passes = passes_within b v.view w.view less p.passes; words = p.words; marks = p.marks }

-- rows that keep other words than the held ones add up where both keep these; a row that keeps some words keeps fewer
pub but_then : {Kept : ℕ → Type 0} {a b : Costs} (u v w : SeatView) → RowBut Kept a u v → RowBut Kept b v w → RowBut Kept (sum_of a b) u w
but_then u v w p q = record {
  passes = passes_then u.view v.view w.view p.passes q.passes;
  words = λ k kept. word_then u.view v.view w.view k (p.words k kept) (q.words k kept);
  marks = λ k kept. marks_then u v w k (q.words k kept) (p.marks k kept) (q.marks k kept);
}

pub but_fewer : {Kept : ℕ → Type 0} (Fewer : ℕ → Type 0) {a : Costs} (b : Costs) (v w : SeatView) → ((k : ℕ) → Fewer k → Kept k) → IsWithin a b
    → RowBut Kept a v w → RowBut Fewer b v w
but_fewer Fewer b v w fewer less p = record {
  passes = passes_within b v.view w.view less p.passes;
  words = λ k kept. p.words k (fewer k kept);
  marks = λ k kept. p.marks k (fewer k kept);
}

pub row_but : {a : Costs} (v w : SeatView) → Row a v w → RowBut (IsHeldWord v.view) a v w
row_but v w p = record { passes = p.view.passes; words = p.view.words; marks = p.marks }

-- some step, and none, are not one
pub not_both : {o : Option ℕ} {step : ℕ} → o ≡ Some step → o ≡ None → {A : Type 0} → A
not_both some none = absurd (let e = ap one_if_some (sym some ∙ none) in omega arith)

-- a stop in a later view that goes on
pub stops_passed : {a : Costs} (v t w : View) (step : ℕ) → v.stopped ≡ None → t.stopped ≡ None → Passes a v t → Stops step t w → Stops step v w
stops_passed v t w step ran going passes stop = record {
  at = stop.at;
  budget = subst (λ (k : Setup). k.budget ≤ step) passes.setup stop.budget;
  last = stop.last;
  now = λ _. let x = passes.next in let y = stop.now going in omega arith;
  before = λ ticket had. not_both had ran;
}

pub stops_later : {a : Costs} (v t w : View) (step : ℕ) → v.stopped ≡ None → t.stopped ≡ None → ViewRow a v t → Stops step t w → Stops step v w
stops_later v t w step ran going row stop = stops_passed v t w step ran going row.passes stop
