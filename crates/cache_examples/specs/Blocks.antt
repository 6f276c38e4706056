-- Worked examples by computation: small blocks that are held and freed.
use Rattle.std.proofs.Common.{◌≤◌, ◌+◌, ◌≡◌, ◌<◌, ℕ, suc, List, [], ◌∷◌, length, refl, ap, ◌∙◌, arith}
use Rattle.heap_model.specs.Sizes.{blocks_of, class_sizes, words_of_class}
use Rattle.core_model.specs.Effects.{first_of}
use Rattle.core_model.specs.View.{Parts, View, of_class}
use Rattle.thread_cache.specs.Small.{HasAllocated, HasFreed, block_of}
use Rattle.cache_examples.specs.Runs.{all_given, first_given, full_cache, gives_both, no_run, without_tickets}
use Rattle.cache_examples.specs.Seats.{before, with_cached, with_held}

-- the first of two cached blocks, and the only one
pub first_of_two : HasAllocated 20 (block_of 20 1080) (with_cached (1080 ∷ 2872 ∷ []) before) (with_held (1080 ∷ []) (with_cached (2872 ∷ []) before))
unfolding blocks_of class_sizes
first_of_two = record { going = refl; size = refl; cache = 2872 ∷ []; first = λ some. refl; short = omega arith; cut = λ rose. absurd (omega (arith, rose)); parts_are = refl }

pub the_only_one : HasAllocated 20 (block_of 20 1080) (with_cached (1080 ∷ []) before) (with_held (1080 ∷ []) before)
unfolding blocks_of class_sizes
the_only_one = record { going = refl; size = refl; cache = []; first = λ some. refl; short = omega arith; cut = λ rose. absurd (omega (arith, rose)); parts_are = refl }

-- one of those that an empty cache was filled with
pub one_of_three : HasAllocated 20 (block_of 20 1080) before (with_held (1080 ∷ []) (with_cached (4664 ∷ 2872 ∷ []) before))
unfolding blocks_of class_sizes
one_of_three = record {
  going = refl;
  size = refl;
  cache = 4664 ∷ 2872 ∷ [];
  first = λ some. absurd (omega (arith, some));
  short = omega arith;
  cut = λ rose. absurd (omega (arith, rose));
  parts_are = refl;
}

-- another than the only one, or than the first of two
one_is_some : 1 ≤ length (of_class (with_cached (1080 ∷ []) before).caches 20)
one_is_some = omega arith

pub not_the_only_one : HasAllocated 20 (block_of 20 2872) (with_cached (1080 ∷ []) before) (with_held (2872 ∷ []) before) → ⊥
not_the_only_one held = let e : 1080 ≡ 2872 = ap first_of (held.first one_is_some) in omega (arith, e)

pub not_the_first : HasAllocated 20 (block_of 20 2872) (with_cached (1080 ∷ 2872 ∷ []) before)
    (with_held (2872 ∷ []) (with_cached (1080 ∷ []) before)) → ⊥
not_the_first held = let e : 1080 ≡ 2872 = ap first_of (held.first (omega arith)) in omega (arith, e)

-- a superblock of four blocks was cut, and only two of the others are in the cache
pub cut_and_lost : HasAllocated 20 (block_of 20 1080) before
    (record (with_held (1080 ∷ []) (with_cached (4664 ∷ 2872 ∷ []) before)) { cuts = 1 }) → ⊥
unfolding blocks_of class_sizes
cut_and_lost held =
    let cache : 4664 ∷ 2872 ∷ [] ≡ held.cache = ap (λ (p : Parts). of_class p.caches 20) held.parts_are in
    let two : 2 ≡ length held.cache = ap length cache in
    let three : length held.cache + 1 ≡ 4 = held.cut (omega arith) in
    omega (arith, two, three)

-- a cache with as many blocks as a superblock is left
pub cache_too_long : HasAllocated 20 (block_of 20 9272) before (with_held (9272 ∷ []) (with_cached (1080 ∷ 2872 ∷ 4664 ∷ 6456 ∷ []) before)) → ⊥
unfolding blocks_of class_sizes
cache_too_long held =
    let cache : 1080 ∷ 2872 ∷ 4664 ∷ 6456 ∷ [] ≡ held.cache = ap (λ (p : Parts). of_class p.caches 20) held.parts_are in
    let long : 4 ≡ length held.cache = ap length cache in
    let short : length held.cache < 4 = held.short in
    omega (arith, long, short)

-- it is cached still, or of another size
pub still_cached : HasAllocated 20 (block_of 20 1080) (with_cached (1080 ∷ []) before) (with_held (1080 ∷ []) (with_cached (1080 ∷ []) before)) → ⊥
still_cached held =
    let first : 1080 ∷ [] ≡ 1080 ∷ held.cache = held.first one_is_some in
    let cache : 1080 ∷ [] ≡ held.cache = ap (λ (p : Parts). of_class p.caches 20) held.parts_are in
    let one : 1 ≡ suc (length held.cache) = ap length first in
    let two : 1 ≡ length held.cache = ap length cache in
    omega (arith, one, two)

pub too_small : HasAllocated 20 (record { first_word = 1080; words = 2 }) (with_cached (1080 ∷ []) before) (with_held (1080 ∷ []) before) → ⊥
unfolding words_of_class class_sizes
too_small held = let e : 2 ≡ 1792 = held.size in omega (arith, e)

-- a freed block goes before the two of its cache
abbrev pub holds_one : List ℕ → View
holds_one blocks = with_held (1080 ∷ []) (with_cached blocks before)

pub three_cached : HasFreed 1080 20 (holds_one (2872 ∷ 4664 ∷ [])) (with_cached (1080 ∷ 2872 ∷ 4664 ∷ []) before)
unfolding blocks_of class_sizes
three_cached = record {
  going = refl;
  cache = 1080 ∷ 2872 ∷ 4664 ∷ [];
  kept = λ short. refl;
  flushed = λ long. absurd (omega (arith, long));
  gave = λ long. omega (arith, long);
  gives = λ long. omega (arith, long);
  by = λ long. absurd (omega (arith, long));
  short = omega arith;
  parts_are = refl;
}

-- not behind them, and they are not flushed: a superblock has four
three_are_few : length (of_class (holds_one (2872 ∷ 4664 ∷ [])).caches 20) + 1 < blocks_of 20
unfolding blocks_of class_sizes
three_are_few = omega arith

pub goes_behind : HasFreed 1080 20 (holds_one (2872 ∷ 4664 ∷ [])) (with_cached (2872 ∷ 4664 ∷ 1080 ∷ []) before) → ⊥
goes_behind freed =
    let kept : freed.cache ≡ 1080 ∷ 2872 ∷ 4664 ∷ [] = freed.kept three_are_few in
    let cache : 2872 ∷ 4664 ∷ 1080 ∷ [] ≡ freed.cache = ap (λ (p : Parts). of_class p.caches 20) freed.parts_are in
    let e : 2872 ≡ 1080 = ap first_of (cache ∙ kept) in omega (arith, e)

pub flushed_early : HasFreed 1080 20 (holds_one (2872 ∷ 4664 ∷ [])) before → ⊥
flushed_early freed =
    let kept : freed.cache ≡ 1080 ∷ 2872 ∷ 4664 ∷ [] = freed.kept three_are_few in
    let cache : [] ≡ freed.cache = ap (λ (p : Parts). of_class p.caches 20) freed.parts_are in
    let e : 0 ≡ 1080 = ap first_of (cache ∙ kept) in omega (arith, e)

-- the fourth flushes the cache: two runs by two batches
abbrev pub holds_fourth : View
holds_fourth = holds_one (2872 ∷ 9272 ∷ 11064 ∷ [])

pub all_flushed : HasFreed 1080 20 holds_fourth all_given
unfolding blocks_of class_sizes
all_flushed = record {
  going = refl;
  cache = [];
  kept = λ short. absurd (omega (arith, short));
  flushed = λ long. refl;
  gave = λ long. omega arith;
  gives = λ long. refl;
  by = λ long. (full_cache, (record { ran = refl; going = refl; parts_are = refl }, gives_both));
  short = omega arith;
  parts_are = refl;
}

four_are_many : blocks_of 20 ≤ length (of_class holds_fourth.caches 20) + 1
unfolding blocks_of class_sizes
four_are_many = omega arith

-- the second run stays in the cache
pub second_run_stays : HasFreed 1080 20 holds_fourth (record first_given { gives = 2 }) → ⊥
second_run_stays freed =
    let none : freed.cache ≡ [] = freed.flushed four_are_many in
    let cache : 9272 ∷ 11064 ∷ [] ≡ freed.cache = ap (λ (p : Parts). of_class p.caches 20) freed.parts_are in
    let e : 9272 ≡ 0 = ap first_of (cache ∙ none) in omega (arith, e)

-- one batch for both runs, three, or none
pub by_one_batch : HasFreed 1080 20 holds_fourth (record all_given { gives = 1 }) → ⊥
by_one_batch freed = let e : 1 ≡ 2 = freed.gives four_are_many in omega (arith, e)

pub by_three_batches : HasFreed 1080 20 holds_fourth (record all_given { gives = 3 }) → ⊥
by_three_batches freed = let e : 3 ≡ 2 = freed.gives four_are_many in omega (arith, e)

pub by_no_batch : HasFreed 1080 20 holds_fourth (record all_given { gives = 0 }) → ⊥
by_no_batch freed = let less : 0 < 0 = freed.gave four_are_many in omega (arith, less)

-- not run by run: a seat without a ticket left gives none
pub without_a_run : HasFreed 1080 20 (record holds_fourth { setup = without_tickets.setup }) (record all_given { setup = without_tickets.setup }) → ⊥
without_a_run freed =
    let by = freed.by four_are_many in
    let cache : of_class by.0.caches 20 ≡ 1080 ∷ 2872 ∷ 9272 ∷ 11064 ∷ [] = ap (λ (p : Parts). of_class p.caches 20) by.1.0.parts_are in
    let none = ap (λ (u : View). of_class u.caches 20) (no_run 20 by.0 (record all_given { setup = without_tickets.setup }) refl by.1.1) in
    let e : 0 ≡ 1080 = ap first_of (none ∙ cache) in omega (arith, e)

-- the block is held still
pub still_held : HasFreed 1080 20 (holds_one []) (with_held (1080 ∷ []) (with_cached (1080 ∷ []) before)) → ⊥
still_held freed = let e : 1 ≡ 0 = ap (λ (p : Parts). length (of_class p.small 20)) freed.parts_are in omega (arith, e)
