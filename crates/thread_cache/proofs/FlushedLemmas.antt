-- A free of a block of a class, and the flush behind it.
use Rattle.std.proofs.Common.{◌≡◌, ◌≤◌, ◌<◌, ℕ, ◌+◌, inl, inr, [], ◌∷◌, length, refl, ap, ◌∙◌, arith}
use Rattle.std.proofs.lemmas.List.{get_or-set_same, set-set}
use Rattle.heap_model.specs.Counting.{times}
use Rattle.heap_model.specs.Sizes.{IsClass, blocks_of}
use Rattle.heap_model.proofs.SizeLemmas.{four_blocks}
use Rattle.core_model.specs.View.{View, of_class, no_batch}
use Rattle.heap_rule.specs.Seated.{SeatView}
use Rattle.heap_table.specs.Plays.{HasSoundState}
use Rattle.cache_flush.specs.Flushes.{HasFlushed, cache_costs, cache_runs, with_cache}
use Rattle.cache_flush.specs.Runs.{runs_of}
use Rattle.cache_flush.proofs.RunLemmas.{runs_few}
use Rattle.seat_costs.specs.Costs.{Costs, no_costs}
use Rattle.seat_costs.specs.Idle.{IsIdle}
use Rattle.seat_costs.specs.Rows.{Parts, Row, RowBut, parts}
use Rattle.seat_costs.proofs.RowLemmas.{but_fewer, but_then, row_but}
use Rattle.seat_model.proofs.ChangedBlocks.{class_in}
use Rattle.thread_cache.specs.Small.{HasCached, HasFreed, IsHeldOutside, MayHoldLess, block_of, free_costs, with_freed}
use Rattle.thread_cache.proofs.SmallLemmas.{held_outside, within_itself}

-- the cache is flushed once it has as many blocks as a superblock
module _ (v t : View) (has : HasSoundState v) (class block : ℕ) (is : IsClass class) (cached : HasCached block class v t) where
  in_caches : class < length v.caches
  in_caches = let long = (has.sound.good.set_up has.seat v has.below has.at).caches in let last = is.last in omega arith

  cache_is : of_class t.caches class ≡ block ∷ of_class v.caches class
  cache_is = ap (λ (p : Parts). of_class p.caches class) cached.parts_are
      ∙ get_or-set_same v.caches class (block ∷ of_class v.caches class) [] in_caches

  pub one_more : length (of_class t.caches class) ≡ length (of_class v.caches class) + 1
  one_more = let e = ap length cache_is in omega arith

  pub freed_short : length (of_class t.caches class) < blocks_of class → HasFreed block class v t
  freed_short few = record {
    going = cached.going;
    cache = block ∷ of_class v.caches class;
    kept = λ less. refl;
    flushed = λ more. absurd (let m = one_more in omega (arith, few, more));
    gave = λ more. absurd (let m = one_more in omega (arith, few, more));
    gives = λ more. absurd (let m = one_more in omega (arith, few, more));
    by = λ more. absurd (let m = one_more in omega (arith, few, more));
    short = let m = one_more in omega (arith, few);
    parts_are = cached.parts_are;
  }

  same_runs : cache_runs t class ≡ runs_of v.setup.capacity (block ∷ of_class v.caches class)
  same_runs = ap (λ (p : Parts). runs_of p.setup.capacity (of_class t.caches class)) cached.parts_are ∙ ap (runs_of v.setup.capacity) cache_is

  pub freed_flushed : (w : View) → v.gives ≤ t.gives → t.gives ≤ v.gives + 0 → blocks_of class ≤ length (of_class t.caches class)
      → HasFlushed class t w → HasFreed block class v w
  freed_flushed w before none many flushed = record {
    going = flushed.going;
    cache = [];
    kept = λ less. absurd (let m = one_more in omega (arith, many, less));
    flushed = λ more. refl;
    gave = λ more. let four = four_blocks class is in let now = flushed.gave (omega (arith, many)) in omega (arith, before, now);
    gives = λ more. let now = flushed.gives in let r = same_runs in omega (arith, before, none, now);
    by = λ more. (t, (cached, flushed.by));
    short = let four = four_blocks class is in omega arith;
    parts_are = flushed.parts_are ∙ ap (with_cache class []) cached.parts_are
        ∙ ap (λ l. record (with_freed class block [] (parts v)) { caches = l }) (set-set v.caches class (block ∷ of_class v.caches class) []);
  }

  pub idle_still : IsIdle v → t.batch ≡ no_batch
  idle_still idle = ap (λ (p : Parts). p.batch) cached.parts_are ∙ idle.batch

pub freed_behind : {a : Costs} (v w x : SeatView) (class block : ℕ) → MayHoldLess block class v.view w.view → Row a w x
    → MayHoldLess block class v.view x.view
freed_behind v w x class block may row = record {
  large = row.view.large ∙ may.large;
  small = elim may.small [ inl same ↦ inl (row.view.small ∙ same) | inr less ↦ inr (row.view.small ∙ less) ];
}

-- a free, and the flush behind it
pub flushed_row : (v t w : SeatView) (has : HasSoundState v.view) (class block : ℕ) (is : IsClass class)
    (held : 0 < times block (of_class v.view.small class)) → MayHoldLess block class v.view t.view
    → length (of_class t.view.caches class) ≤ blocks_of class
    → RowBut (IsHeldOutside v.view (block_of class block)) (record no_costs { draws = 2 }) v t → Row (cache_costs t.view class) t w
    → RowBut (IsHeldOutside v.view (block_of class block)) (free_costs (blocks_of class)) v w
flushed_row v t w has class block is held may few row flush = let runs = runs_few t.view.setup.capacity (of_class t.view.caches class) in
    but_fewer Kept (free_costs (blocks_of class)) v w (λ k kept. kept)
    (record {
      draws = omega (arith, few);
      wins = omega (arith, few);
      gives = omega (arith, few);
      cuts = omega arith;
      taken = omega arith;
      moves = omega (arith, few);
    })
    (but_then v t w row (but_fewer Kept (cache_costs t.view class) t w
    (λ k kept. held_outside v.view class block (class_in v.view has class is) held t.view row.passes.setup row.passes.roots may k kept)
    within_itself (row_but t w flush))) where
      Kept : ℕ → Type 0
      Kept = IsHeldOutside v.view (block_of class block)

pub free_costs_most : (class : ℕ) (v t : SeatView) (block : ℕ) → RowBut (IsHeldOutside v.view (block_of class block))
    (record no_costs { draws = 2 }) v t → RowBut (IsHeldOutside v.view (block_of class block)) (free_costs (blocks_of class)) v t
free_costs_most class v t block row = but_fewer (IsHeldOutside v.view (block_of class block)) (free_costs (blocks_of class)) v t (λ k kept. kept)
    (record { draws = omega arith; wins = omega arith; gives = omega arith; cuts = omega arith; taken = omega arith; moves = omega arith }) row
