-- What each shift makes of a seat's notes may be noted, and fits the view after it.
use Rattle.std.proofs.Common.{◌≡◌, ℕ, ◌+◌, ◌<◌, ◌≤◌, true, Some, cond, nat_eq, length, refl, sym, subst, ◌∙◌, arith}
use Rattle.heap_model.specs.Geometry.{lists, superblock_of}
use Rattle.size_table.specs.declared.size_class.SizeClass.{SizeClass}
use Rattle.core_model.specs.declared.event.Shift.TheVariants.{Cut, Alloc, Free, Lift, Large, Split}
use Rattle.core_model.specs.View.{View, of_class}
use Rattle.core_model.specs.Effects.{first_of, rest_of, span_count}
use Rattle.core_model.specs.Guards.{MayAlloc}
use Rattle.seat_state.specs.declared.notes.SeatNotes.{SeatNotes}
use Rattle.seat_index.specs.declared.owned.Change.TheVariants as change
use Rattle.heap_rule.specs.Noted.{CanUncache, FitsNotes, cache_of, uncached}
use Rattle.heap_rule.specs.Seated.{IsKeptOf, FitsShift}
use Rattle.heap_rule.specs.Shown.{CanFree, CanLift, CanCut}
use Rattle.heap_rule.proofs.ShiftLemmas.{alloc_fits, batch_fits, cache_first, cached_above, count_fits, cut_below, cut_fits, free_class, free_fits, large_fits, less, lift_fits, some_count, split_fits}

can_uncache : (n : SeatNotes) (v : View) → IsKeptOf n v → (class : ℕ) → MayAlloc v class → CanUncache n class
can_uncache n v kept class may = record {
  below = (let l = less n v kept class may in let long = kept.caches.long in omega arith);
  few = (let long = kept.caches.long in omega arith);
  some = some_count n v kept class may;
}

pub alloc_notes : (v : View) (class first : ℕ) → MayAlloc v class
    → (1 ≤ length (rest_of (of_class v.caches class)) → first_of (rest_of (of_class v.caches class)) ≡ first)
    → FitsNotes (change.Allocated class first) v (Some (Alloc class))
alloc_notes v class first may next_is n kept = (
  can_uncache n v kept class may,
  λ n' is. subst (λ (x : SeatNotes). FitsShift x v (Some (Alloc class))) (sym is) (alloc_fits n v kept class may first next_is),
)

pub lift_notes : (v : View) (class block first : ℕ) → CanLift v class → block ≡ first_of (of_class v.caches class)
    → (1 ≤ length (rest_of (of_class v.caches class)) → first_of (rest_of (of_class v.caches class)) ≡ first)
    → FitsNotes (change.Lifted class block first) v (Some (Lift class))
lift_notes v class block first can block_is next_is n kept = (
  record {
    cached = can_uncache n v kept class may;
    fits = batch_fits n v kept;
    above = (let a = cached_above n v kept class may in let e = same in omega arith);
  },
  λ n' is. subst (λ (x : SeatNotes). FitsShift x v (Some (Lift class))) (sym is) (subst (λ b. FitsShift (record n {
    caches = uncached n.caches class first;
    batch = record {
      descriptor = superblock_of v.setup.capacity b;
      class = class;
      first = cond (nat_eq n.batch.count 0) b n.batch.first;
      last = b;
      count = n.batch.count + 1;
      linked = true;
    };
  }) v (Some (Lift class))) same (lift_fits n v kept class may first next_is _ _ refl refl)),
) where
  may : MayAlloc v class
  may = record { is_class = can.is_class; cached = can.cached }

  same : (cache_of n.caches class).first ≡ block
  same = sym (block_is ∙ cache_first n v kept class (less n v kept class may) can.cached)

pub free_notes : (v : View) (class block : ℕ) (can : CanFree v block) → class ≡ can.class → FitsNotes (change.Freed class block) v (Some (Free block))
free_notes v class block can class_is n kept = (
  record {
    below = (let l = below in let long = kept.caches.long in omega arith);
    few = (let long = kept.caches.long in omega arith);
    fits = count_fits n v kept class below;
  },
  λ n' is. subst (λ (x : SeatNotes). FitsShift x v (Some (Free block))) (sym is) (free_fits n v kept block can class class_is),
) where
  below : class < lists
  below = let l = (free_class v kept.has block can).last in omega (arith, l, class_is)

pub cut_notes : (v : View) (d : ℕ) (class : SizeClass) (can : CanCut v d) → class.number ≡ can.class → FitsNotes (change.Cut d class) v (Some (Cut d))
cut_notes v d class can class_is n kept = (
  record { cache = (let l = class.is.last in let long = kept.caches.long in omega arith); below = cut_below v kept.has d can },
  λ n' is. subst (λ (x : SeatNotes). FitsShift x v (Some (Cut d))) (sym is.others)
      (cut_fits n v d can class.number _ _ n'.seen_anchor kept class_is class.is refl refl is.look),
)

pub large_notes : (v : View) (d count : ℕ) → FitsNotes (change.Large d count) v (Some (Large d count))
large_notes v d count n kept = (
  tt,
  λ n' is. subst (λ (x : SeatNotes). FitsShift x v (Some (Large d count))) (sym is.others)
      (large_fits n v d count n'.seen_anchor kept is.look),
)

pub split_notes : (v : View) (block d count : ℕ) → d ≡ superblock_of v.setup.capacity block → count ≡ span_count d v.large
    → FitsNotes (change.Split d count) v (Some (Split block))
split_notes v block d count d_is count_is n kept = (
  tt,
  λ n' is. subst (λ (x : SeatNotes). FitsShift x v (Some (Split block))) (sym is.others)
      (split_fits n v block d count n'.seen_anchor kept d_is count_is is.look),
)
