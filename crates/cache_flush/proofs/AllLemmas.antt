-- How far the flushing of all caches has come.
use Rattle.std.proofs.Common.{◌≡◌, ◌<◌, ◌≤◌, ℕ, suc, ◌+◌, inl, inr, List, [], ◌∷◌, get_or, length, set, None, refl, ap, sym, subst, ◌∙◌, arith}
use Rattle.std.proofs.lemmas.Bool.{cases_eq, cases_lt}
use Rattle.std.proofs.lemmas.List.{get_or_default, get_or-set_other}
use Rattle.heap_model.specs.Counting.{times, total}
use Rattle.heap_model.specs.Sizes.{IsClass, last_class}
use Rattle.core_model.specs.View.{View, of_class}
use Rattle.core_model.proofs.OwnerLemmas.{in_lists_total}
use Rattle.core_model.proofs.TotalLemmas.{eq-eqb-one, total_set}
use Rattle.seat_index.proofs.ViewBlocks.{block_class}
use Rattle.heap_table.specs.Plays.{HasSoundState}
use Rattle.seat_costs.specs.Rows.{Parts, Stops, ViewRow, parts}
use Rattle.seat_costs.proofs.RowLemmas.{stops_later, view_row_none, view_row_then, view_row_within}
use Rattle.cache_flush.specs.All.{GivesCaches, HasFlushedAll, all_costs, cached, cached_runs, gave_cache, gave_no_cache}
use Rattle.cache_flush.specs.Flushes.{HasFlushed, cache_costs, cache_runs, flush_costs}
use Rattle.cache_flush.specs.Runs.{runs_of}
use Rattle.cache_flush.proofs.LiftingLemmas.{cache_set}
use Rattle.cache_flush.proofs.RunLemmas.{runs_few}

-- there is no block of class 0, which is none
pub first_none : (v : View) → HasSoundState v → length (of_class v.caches 0) ≡ 0
first_none v has = by_blocks (of_class v.caches 0) refl where
  by_blocks : (bs : List ℕ) → of_class v.caches 0 ≡ bs → length bs ≡ 0
  by_blocks [] is = refl
  by_blocks (b ∷ bs) is =
      let there : 0 < times b (of_class v.caches 0) = subst (λ l. 0 < times b l) (sym is) (let one = eq-eqb-one b b refl in omega arith) in
      let info_is = (has.sound.good.blocks has.seat v has.below has.at).cached 0 b there in
      let had = in_lists_total b 0 v.caches there in
      let class : IsClass 0 = subst IsClass info_is (block_class v has b (omega arith)) in
      let some = class.some in absurd (omega arith)

-- the caches of the classes below a number are empty
pub record FlushedBelow (number : ℕ) (v t : View) : Type 0 where
  pub ran : v.stopped ≡ None
  pub going : t.stopped ≡ None
  pub parts_are : parts t ≡ record (parts v) { caches = t.caches }
  pub empty : (class : ℕ) → IsClass class → class < number → of_class t.caches class ≡ []
  pub flushed : ℕ
  pub more : 1 ≤ flushed → v.draws < t.draws
  pub gave : 1 ≤ flushed → v.gives < t.gives
  pub few : flushed + cached t ≡ cached v
  pub given : ℕ
  pub runs : given + cached_runs t ≡ cached_runs v
  pub gives : t.gives ≡ v.gives + given
  pub by : GivesCaches v t
  pub row : ViewRow (flush_costs flushed given) v t

pub all_begins : (v : View) → v.stopped ≡ None → FlushedBelow 1 v v
all_begins v going = record {
  ran = going;
  going = going;
  parts_are = refl;
  empty = λ class is low. let some = is.some in absurd (omega arith);
  flushed = 0;
  more = λ some. absurd (omega arith);
  gave = λ some. absurd (omega arith);
  few = omega arith;
  given = 0;
  runs = omega arith;
  gives = omega arith;
  by = gave_no_cache v refl;
  row = view_row_none v;
}

module _ (v t : View) (has : HasSoundState t) (number : ℕ) (is : IsClass number) (so_far : FlushedBelow number v t) where
  below : number < length t.caches
  below = let long = (has.sound.good.set_up has.seat t has.below has.at).caches in let last = is.last in omega arith

  -- the cache of the class, among all
  without_one : total length (set t.caches number []) + length (of_class t.caches number) ≡ cached t
  without_one = let sum = total_set length t.caches number (of_class t.caches number) [] below
      (get_or_default t.caches number (of_class t.caches number) [] below) in omega arith

  less_one : total (runs_of t.setup.capacity) (set t.caches number []) + cache_runs t number ≡ cached_runs t
  less_one = let sum = total_set (runs_of t.setup.capacity) t.caches number (of_class t.caches number) [] below
      (get_or_default t.caches number (of_class t.caches number) [] below) in omega arith

  pub all_most : (w : View) → ViewRow (cache_costs t number) t w → ViewRow (all_costs v) v w
  all_most w row = let f = so_far.few in let one = without_one in let r = so_far.runs in let less = less_one in
      view_row_within (all_costs v) v w (record {
        draws = omega arith;
        wins = omega arith;
        gives = omega arith;
        cuts = omega arith;
        taken = omega arith;
        moves = omega arith;
      }) (view_row_then v t w so_far.row row)

  pub all_stops : (w : View) (step : ℕ) → Stops step t w → Stops step v w
  all_stops w step stop = stops_later v t w step so_far.ran so_far.going so_far.row stop

  pub all_on : (w : View) → HasFlushed number t w → ViewRow (cache_costs t number) t w → FlushedBelow (number + 1) v w
  all_on w done row =
      let caches : w.caches ≡ set t.caches number [] = ap (λ (p : Parts). p.caches) done.parts_are in record {
        ran = so_far.ran;
        going = done.going;
        parts_are = done.parts_are ∙ ap (λ (p : Parts). record p { caches = set t.caches number [] }) so_far.parts_are
            ∙ ap (λ l. record (parts v) { caches = l }) (sym caches);
        empty = λ class is_class low. elim (cases_eq class number) as (λ _. of_class w.caches class ≡ []) [
          | inl same ↦ ap (λ n. of_class w.caches n) same ∙ ap (λ l. of_class l number) caches ∙ cache_set t has number is []
          | inr other ↦ ap (λ l. of_class l class) caches ∙ get_or-set_other t.caches number class [] [] other
              ∙ so_far.empty class is_class (omega (arith, other))
        ];
        flushed = so_far.flushed + length (of_class t.caches number);
        more = λ some. elim (cases_lt 0 so_far.flushed) as (λ _. v.draws < w.draws) [
          | inl before ↦ let past = so_far.more before in let rest = row.passes.more.draws in omega arith
          | inr none ↦ let past = so_far.row.passes.more.draws in let now = done.more (omega arith) in omega arith
        ];
        gave = λ some. elim (cases_lt 0 so_far.flushed) as (λ _. v.gives < w.gives) [
          | inl before ↦ let past = so_far.gave before in let rest = row.passes.more.gives in omega arith
          | inr none ↦ let past = so_far.row.passes.more.gives in let now = done.gave (omega arith) in omega arith
        ];
        few = let one = without_one in let f = so_far.few in let e = ap (λ l. total length l) caches in omega arith;
        given = so_far.given + cache_runs t number;
        runs = let less = less_one in let r = so_far.runs in let e = ap
            (λ (p : Parts). total (runs_of p.setup.capacity) p.caches) done.parts_are in omega arith;
        gives = let before = so_far.gives in let now = done.gives in omega arith;
        by = gave_cache number t w so_far.by done.by;
        row = view_row_within (flush_costs (so_far.flushed + length (of_class t.caches number)) (so_far.given + cache_runs t number)) v w
            (record {
              draws = omega arith;
              wins = omega arith;
              gives = omega arith;
              cuts = omega arith;
              taken = omega arith;
              moves = omega arith;
            }) (view_row_then v t w so_far.row row);
      }

-- there are no more runs than blocks
pub all_runs_few : (c : ℕ) (xs : List (List ℕ)) → total (runs_of c) xs ≤ total length xs
all_runs_few c [] = omega arith
all_runs_few c (x ∷ xs) = let few = runs_few c x in let rest = all_runs_few c xs in omega arith

-- a list of lists that are all empty has no member
none_cached : (xs : List (List ℕ)) → ((i : ℕ) → i < length xs → length (get_or xs i []) ≡ 0) → total length xs ≡ 0
none_cached [] none = refl
none_cached (x ∷ xs) none = let first = none 0 (omega arith) in let rest = none_cached xs (λ i less. none (suc i) (omega arith)) in omega arith

-- and so has one of a seat that has no block of a class
pub none_of_all : (t : View) → HasSoundState t → ((class : ℕ) → IsClass class → of_class t.caches class ≡ []) → cached t ≡ 0
none_of_all t has empty = none_cached t.caches (λ i less. elim (cases_lt 0 i) as (λ _. length (of_class t.caches i) ≡ 0) [
  | inl some ↦ ap length (empty i (record { some = some; last = let long = (has.sound.good.set_up has.seat t has.below has.at).caches in omega arith }))
  | inr zeroth ↦ let same : i ≡ 0 = omega arith in ap (λ n. length (of_class t.caches n)) same ∙ first_none t has
])

pub all_done : (v t : View) (number : ℕ) → HasSoundState t → last_class < number → FlushedBelow number v t → HasFlushedAll v t
all_done v t number has past so_far =
    let empty : (class : ℕ) → IsClass class → of_class t.caches class ≡ [] = λ class is. so_far.empty class is (let last = is.last in omega arith) in
    let none = none_of_all t has empty in record {
      going = so_far.going;
      more = λ some. so_far.more (let f = so_far.few in omega arith);
      gave = λ some. so_far.gave (let f = so_far.few in omega arith);
      gives = let left = all_runs_few t.setup.capacity t.caches in let r = so_far.runs in let e = so_far.gives in omega arith;
      by = so_far.by;
      parts_are = so_far.parts_are;
      empty = empty;
    }

pub all_row : (v t : View) (number : ℕ) → FlushedBelow number v t → ViewRow (all_costs v) v t
all_row v t number so_far = let f = so_far.few in let r = so_far.runs in
    view_row_within (all_costs v) v t (record {
      draws = omega arith;
      wins = omega arith;
      gives = omega arith;
      cuts = omega arith;
      taken = omega arith;
      moves = omega arith;
    }) so_far.row
