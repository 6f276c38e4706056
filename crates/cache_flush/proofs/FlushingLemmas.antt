-- How far the flush of a cache has come.
use Rattle.std.proofs.Common.{◌≡◌, ◌<◌, ◌≤◌, ℕ, zero, suc, ◌+◌, ◌-◌, List, [], ◌∷◌, ◌++◌, length, set, None, refl, ap, sym, ◌∙◌, length-append, arith}
use Rattle.std.proofs.lemmas.List.{set-set}
use Rattle.heap_model.specs.Sizes.{IsClass}
use Rattle.core_model.specs.View.{Setup, View, no_batch, of_class}
use Rattle.heap_table.specs.Plays.{HasSoundState}
use Rattle.cache_flush.specs.Flushes.{GivesRuns, HasFlushed, HasFlushedPrefix, gave_more, gave_none, cache_costs, cache_runs, flush_costs, with_cache}
use Rattle.cache_flush.specs.Runs.{runs_of}
use Rattle.cache_flush.proofs.LiftingLemmas.{cache_set}
use Rattle.seat_costs.specs.Rows.{Parts, Stops, ViewRow, parts}
use Rattle.seat_costs.proofs.RowLemmas.{stops_later, view_row_none, view_row_then, view_row_within}

-- how far a flush has come
pub record Flushing (class : ℕ) (v t : View) : Type 0 where
  pub ran : v.stopped ≡ None
  pub going : t.stopped ≡ None
  pub flushed : List ℕ
  pub rest : List ℕ
  pub both : of_class v.caches class ≡ flushed ++ rest
  pub more : 1 ≤ length flushed → v.draws < t.draws
  pub given : ℕ
  pub some : 1 ≤ length flushed → 1 ≤ given
  pub runs : cache_runs v class ≡ given + runs_of v.setup.capacity rest
  pub gives : t.gives ≡ v.gives + given
  pub by : GivesRuns class v t
  pub parts_are : parts t ≡ with_cache class rest (parts v)
  pub row : ViewRow (flush_costs (length flushed) given) v t

set_own : (lists : List (List ℕ)) (class : ℕ) → set lists class (of_class lists class) ≡ lists
set_own [] class = refl
set_own (bs ∷ lists) zero = refl
set_own (bs ∷ lists) (suc class) = ap (λ l. bs ∷ l) (set_own lists class)

append_three : (xs ys zs : List ℕ) → (xs ++ ys) ++ zs ≡ xs ++ (ys ++ zs)
append_three [] ys zs = refl
append_three (x ∷ xs) ys zs = ap (λ l. x ∷ l) (append_three xs ys zs)

pub flushing_begins : (v : View) (class : ℕ) → v.stopped ≡ None → Flushing class v v
flushing_begins v class going = record {
  ran = going;
  going = going;
  flushed = [];
  rest = of_class v.caches class;
  both = refl;
  more = λ some. absurd (omega arith);
  given = 0;
  some = λ some. absurd (omega arith);
  runs = omega arith;
  gives = omega arith;
  by = gave_none v refl;
  parts_are = ap (λ l. record (parts v) { caches = l }) (sym (set_own v.caches class));
  row = view_row_none v;
}

module _ (v t : View) (has : HasSoundState v) (class : ℕ) (is : IsClass class) (flushing : Flushing class v t) where
  pub flushing_cache : of_class t.caches class ≡ flushing.rest
  flushing_cache = ap (λ (p : Parts). of_class p.caches class) flushing.parts_are ∙ cache_set v has class is flushing.rest

  pub flushing_batch : v.batch ≡ no_batch → t.batch ≡ no_batch
  flushing_batch none = ap (λ (p : Parts). p.batch) flushing.parts_are ∙ none

  few_left : length flushing.flushed + length (of_class t.caches class) ≡ length (of_class v.caches class)
  few_left = let all = ap length flushing.both in let sum = length-append flushing.flushed flushing.rest in let r = ap length flushing_cache in
      omega arith

  runs_left : flushing.given + cache_runs t class ≡ cache_runs v class
  runs_left = let same = ap (λ (p : Parts). runs_of p.setup.capacity (of_class t.caches class)) flushing.parts_are in
      let r = ap (runs_of v.setup.capacity) flushing_cache in let all = flushing.runs in omega arith

  pub flushing_row : ViewRow (cache_costs v class) v t
  flushing_row = let f = few_left in let r = runs_left in view_row_within (cache_costs v class) v t
      (record { draws = omega arith; wins = omega arith; gives = omega arith; cuts = omega arith; taken = omega arith; moves = omega arith })
      flushing.row

  pub flushing_most : (w : View) → ViewRow (cache_costs t class) t w → ViewRow (cache_costs v class) v w
  flushing_most w row = let f = few_left in let r = runs_left in view_row_within (cache_costs v class) v w
      (record { draws = omega arith; wins = omega arith; gives = omega arith; cuts = omega arith; taken = omega arith; moves = omega arith })
      (view_row_then v t w flushing.row row)

  pub flushing_stops : (w : View) (step : ℕ) → Stops step t w → Stops step v w
  flushing_stops w step stop = stops_later v t w step flushing.ran flushing.going flushing.row stop

  pub flushing_done : length (of_class t.caches class) ≡ 0 → HasFlushed class v t
  flushing_done none = record {
    going = flushing.going;
    more = λ some. flushing.more (let f = few_left in omega arith);
    gave = λ some. let g = flushing.some (let f = few_left in omega arith) in let e = flushing.gives in omega arith;
    gives = let no_runs = ap (runs_of v.setup.capacity) no_rest in let all = flushing.runs in let e = flushing.gives in omega arith;
    by = flushing.by;
    parts_are = flushing.parts_are ∙ ap (λ bs. with_cache class bs (parts v)) no_rest;
  } where
    empty : (bs : List ℕ) → length bs ≡ 0 → bs ≡ []
    empty [] e = refl
    empty (b ∷ bs) e = absurd (omega arith)

    no_rest : flushing.rest ≡ []
    no_rest = empty flushing.rest (let r = ap length flushing_cache in omega arith)

  pub flushing_on : (w : View) → HasFlushedPrefix class t w → Flushing class v w
  flushing_on w prefix = record {
    ran = flushing.ran;
    going = prefix.going;
    flushed = flushing.flushed ++ prefix.flushed;
    rest = prefix.rest;
    more = λ some. let before = flushing.row.passes.more.draws in let now = prefix.more in omega arith;
    given = flushing.given + 1;
    some = λ some. omega arith;
    runs = let left = runs_left in let e = prefix.runs in let same =
        ap (λ (p : Parts). runs_of p.setup.capacity prefix.rest) flushing.parts_are in omega arith;
    gives = let before = flushing.gives in let now = prefix.gives in omega arith;
    by = gave_more t w flushing.by prefix.by;
    both = flushing.both ∙ ap (λ bs. flushing.flushed ++ bs) (sym flushing_cache ∙ prefix.both)
        ∙ sym (append_three flushing.flushed prefix.flushed prefix.rest);
    parts_are = prefix.parts_are ∙ ap (with_cache class prefix.rest) flushing.parts_are
        ∙ ap (λ l. record (parts v) { caches = l }) (set-set v.caches class flushing.rest prefix.rest);
    row = let many = length-append flushing.flushed prefix.flushed in
        view_row_within (flush_costs (length (flushing.flushed ++ prefix.flushed)) (flushing.given + 1)) v w
        (record {
          draws = omega arith;
          wins = omega arith;
          gives = omega arith;
          cuts = omega arith;
          taken = omega arith;
          moves = omega arith;
        }) (view_row_then v t w flushing.row prefix.row);
  }

pub flushing_less : (class : ℕ) (t w : View) → HasFlushedPrefix class t w → w.setup.budget - w.draws < t.setup.budget - t.draws
flushing_less class t w prefix = let same = ap (λ (k : Setup). k.budget) prefix.row.passes.setup in let room = prefix.room in
    let more = prefix.more in omega arith
