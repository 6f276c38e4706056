-- What emptying all caches costs, and what it leaves between calls.
use Rattle.std.proofs.Common.{◌≡◌, ◌<◌, ◌≤◌, ℕ, zero, suc, ◌+◌, ◌-◌, inl, inr, List, [], ◌∷◌, get_or, length, None, Result, Ok, Err, OnOk, IfErr, lit≤, ap, subst, ◌∙◌, arith}
use Rattle.std.specs.Bool.{⊤}
use Rattle.std.proofs.lemmas.Bool.{cases_lt}
use Rattle.heap_model.specs.Counting.{total}
use Rattle.heap_model.specs.Sizes.{IsClass, blocks_of, class_sizes}
use Rattle.heap_model.proofs.SizeLemmas.{four_blocks}
use Rattle.line_memory.specs.declared.memory.Stopped.{Stopped}
use Rattle.core_model.specs.View.{View, of_class, one_if_some}
use Rattle.heap_table.specs.Plays.{HasSoundState}
use Rattle.cache_flush.specs.All.{HasFlushedAll, all_costs, cached}
use Rattle.cache_flush.proofs.AllLemmas.{all_runs_few, first_none}
use Rattle.seat_costs.specs.Idle.{HasShortCaches, IsIdle}
use Rattle.seat_costs.specs.Rows.{Parts, Passes, Stops, next_of}
use Rattle.seat_costs.proofs.RowLemmas.{not_both}
use Rattle.seat_model.specs.CacheState.{IsBetweenCalls}
use Rattle.thread_cache.proofs.LargeLemmas.{IsFew, IsPaid, draws_later, paid_most, stop_later}

-- the sum of so many values of a function, from one on
abbrev sum_from : (ℕ → ℕ) → ℕ → ℕ → ℕ
sum_from most from zero = 0
sum_from most from (suc n) = most from + sum_from most (from + 1) n

total_few : (xs : List (List ℕ)) (most : ℕ → ℕ) (from : ℕ) → ((i : ℕ) → i < length xs → length (get_or xs i []) ≤ most (from + i))
    → total length xs ≤ sum_from most from (length xs)
total_few [] most from few = omega arith
total_few (x ∷ xs) most from few =
    let first : length x ≤ most from = subst (λ k. length x ≤ most k) (let e : from + 0 ≡ from = omega arith in e) (few 0 (omega arith)) in
    let rest = total_few xs most (from + 1) (λ i less. subst (λ k. length (get_or xs i []) ≤ most k)
    (let e : from + suc i ≡ from + 1 + i = omega arith in e) (few (suc i) (omega arith))) in omega arith

-- short caches have so many blocks at most, all together
abbrev most_short : ℕ → ℕ
most_short class = blocks_of class - 1

all_short : sum_from most_short 0 21 ≤ 10889
unfolding blocks_of class_sizes
all_short = lit≤ tt

pub cached_few : (v : View) → HasSoundState v → HasShortCaches v → cached v ≤ 10889
cached_few v has short =
    let long = (has.sound.good.set_up has.seat v has.below has.at).caches in
    let few = total_few v.caches most_short 0 (λ i less. elim (cases_lt 0 i) as (λ _. length (get_or v.caches i []) ≤ most_short (0 + i)) [
      | inl some ↦ let is : IsClass i = record { some = some; last = omega arith } in let l = short.each i is in
          subst (λ k. length (get_or v.caches i []) ≤ most_short k) (let e : i ≡ 0 + i = omega arith in
          e) (let m : length (get_or v.caches i []) ≤ blocks_of i - 1 = omega arith in m)
      | inr zeroth ↦ let none = first_none v has in let same : i ≡ 0 = omega arith in let is = ap (λ k. length (of_class v.caches k)) same in
          omega arith
    ]) in
    let sum = ap (sum_from most_short 0) long in let most = all_short in omega arith

pub quiet_few : (v : View) → HasSoundState v → HasShortCaches v → IsFew (all_costs v)
quiet_few v has short = let few = cached_few v has short in let runs = all_runs_few v.setup.capacity v.caches in
    record { draws = omega arith; wins = omega arith; gives = omega arith; cuts = omega arith }

-- it gave a batch or stopped
pub quiet_paid : (v w : View) (result : Result ⊤ Stopped) → v.stopped ≡ None → 1 ≤ cached v → IsFew (all_costs v) → Passes (all_costs v) v w
    → w.large ≡ v.large → OnOk result (HasFlushedAll v w) → IfErr result (λ e. Stops e.step v w) → IsPaid v w
quiet_paid v w (Ok a) ran some few passes same done stop = paid_most (all_costs v) v w few passes
    (let gave = done.gave some in let c = passes.more.cuts in let t = passes.more.taken in let spans = ap length same in
    let going = ap one_if_some ran in omega arith)
quiet_paid v w (Err e) ran some few passes same done stop = paid_most (all_costs v) v w few passes
    (let c = passes.more.cuts in let g = passes.more.gives in let t = passes.more.taken in let spans = ap length same in
    let going = ap one_if_some ran in let stops = ap one_if_some stop.at in omega arith)

-- the seat is idle then, and has no block cached
pub quiet_between : (v w : View) (result : Result ⊤ Stopped) → IsIdle v → OnOk result (HasFlushedAll v w) → IfErr result (λ e. Stops e.step v w)
    → IsBetweenCalls w
quiet_between v w (Ok a) idle done stop going = (
  record {
    batch = ap (λ (p : Parts). p.batch) done.parts_are ∙ idle.batch;
    raw = ap (λ (p : Parts). p.raw) done.parts_are ∙ idle.raw;
    split = ap (λ (p : Parts). p.split) done.parts_are ∙ idle.split;
    cutting = ap (λ (p : Parts). p.cutting) done.parts_are ∙ idle.cutting;
    classed = ap (λ (p : Parts). p.classed) done.parts_are ∙ idle.classed;
  },
  record { each = λ class is. let none = ap length (done.empty class is) in let four = four_blocks class is in omega arith },
)
quiet_between v w (Err e) idle done stop going = not_both stop.at going

pub quiet_later : (v w : View) (result : Result ⊤ Stopped) → v.stopped ≡ None → 1 ≤ cached v → Passes (all_costs v) v w
    → OnOk result (HasFlushedAll v w) → IfErr result (λ e. Stops e.step v w) → next_of v < next_of w
quiet_later v w (Ok a) ran some passes done stop = draws_later v w passes (done.more some)
quiet_later v w (Err e) ran some passes done stop = stop_later v w e.step ran stop

-- a cache that has a block, among all
pub one_cached : (v : View) (class : ℕ) → 0 < length (of_class v.caches class) → 1 ≤ cached v
one_cached v class some = in_total v.caches class some where
  in_total : (xs : List (List ℕ)) (i : ℕ) → 0 < length (get_or xs i []) → 1 ≤ total length xs
  in_total [] i some = absurd (omega arith)
  in_total (x ∷ xs) zero some = omega arith
  in_total (x ∷ xs) (suc i) some = let rest = in_total xs i some in omega arith
