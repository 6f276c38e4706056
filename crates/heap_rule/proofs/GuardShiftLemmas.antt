-- What a view shows of the shift of a draw, the seat may do.
use Rattle.std.proofs.Common.{◌≡◌, ℕ, ◌+◌, ◌<◌, ◌≤◌, inl, inr, true, cond, nat_eq, length, Option, None, Some, refl, ap, sym, subst, ◌∙◌, eq-eqb, ne_eqb, arith}
use Rattle.heap_model.specs.Geometry.{start_word, superblock_of}
use Rattle.heap_model.specs.Sizes.{IsClass}
use Rattle.heap_model.specs.Chains.{Walks}
use Rattle.heap_model.specs.Words.{large_info}
use Rattle.heap_model.specs.Counting.{times}
use Rattle.core_model.specs.declared.event.Shift.{Shift}
use Rattle.core_model.specs.declared.event.Shift.TheVariants.{Cut, Alloc, Free, Lift, Large, Split}
use Rattle.core_model.specs.Cells.{info_cell, data_cell, is_cell}
use Rattle.core_model.specs.Memory.{Memory, memory_of, info, next}
use Rattle.core_model.specs.View.{View, of_class, times_block}
use Rattle.core_model.specs.Effects.{class_blocks, first_of, last_of}
use Rattle.core_model.specs.Guards.{MayCut, MayFree, MayLift, MayHoldLarge, MayShift}
use Rattle.core_model.proofs.OwnerLemmas.{in_lists_total}
use Rattle.heap_table.specs.Plays.{HasSoundState}
use Rattle.heap_rule.specs.Shown.{CanCut, CanFree, CanLift, CanHoldLarge, CanShift}
use Rattle.heap_rule.proofs.ViewLemmas.{shown, shown_durable, empty_shown, blocks_walk, info_there}
use Rattle.seat_index.proofs.ViewBlocks.{below_capacity, block_class, block_cell}
use Rattle.seat_state.proofs.EndLemmas.{last_there}

module _ (v : View) (s : HasSoundState v) where
  abbrev m : Memory
  m = memory_of v.setup.capacity s.words

  cut_may : (d : ℕ) → CanCut v d → MayCut m v d
  cut_may d can = record {
    cutting = can.cutting;
    class = subst IsClass (sym info_is) can.is_class;
    durable_class = shown_durable v s (info_cell d) can.class (info_there v s d can.durable) can.durable_info_is ∙ sym info_is;
    durable = let floor = (s.sound.good.knows s.seat v s.below s.at).floor in let low = can.durable in omega arith;
    linked = subst (λ c. Walks (next m) (start_word v.setup.capacity d) (class_blocks v.setup.capacity c d)) (sym info_is)
        (blocks_walk v s can.class d can.is_class less can.linked);
    uncached = ap (of_class v.caches) info_is ∙ can.uncached;
  } where
    less : d < v.setup.capacity
    less = below_capacity v s d can.durable

    info_is : info m d ≡ can.class
    info_is = shown v s (info_cell d) can.class (info_there v s d can.durable) can.info_is

  free_may : (block : ℕ) → CanFree v block → MayFree m v block
  free_may block can = record {
    is_class = block_class v s block own;
    held = subst (λ c. 0 < times block (of_class v.small c)) (sym info_is) can.held;
    linked = subst (λ c. 1 ≤ length (of_class v.caches c) → next m block ≡ first_of (of_class v.caches c)) (sym info_is)
        (λ some. shown v s (data_cell block) _ (block_cell v s block own) (can.linked some));
  } where
    own : 0 < times_block block v
    own = let held = in_lists_total block can.class v.small can.held in omega arith

    info_is : info m (superblock_of v.setup.capacity block) ≡ can.class
    info_is = (s.sound.good.blocks s.seat v s.below s.at).held can.class block can.held

  lift_may : (class : ℕ) → CanLift v class → MayLift m v class
  lift_may class can = record {
    is_class = can.is_class;
    cached = can.cached;
    behind = λ some. record {
      same = can.same some;
      unchanged = can.unchanged some;
      linked = shown v s (data_cell (last_of v.batch.blocks)) _
          (block_cell v s (last_of v.batch.blocks) (let there = last_there v.batch.blocks some in omega arith)) (can.linked some);
    };
  }

  large_may : (d n : ℕ) → CanHoldLarge v d n → MayHoldLarge m v d n
  large_may d n can = record {
    some = can.some;
    claimed = λ e from until. (can.each e from until).claimed;
    empty = λ e from until. let join = can.each e from until in let claimed = join.claimed in elim join.empty [
      | inl shows ↦ inl (empty_shown v s e (omega arith) shows)
      | inr split ↦ inr split
    ];
    durable = let floor = (s.sound.good.knows s.seat v s.below s.at).floor in let low = can.durable in omega arith;
    first = info_is d (omega arith) (let some = can.some in omega arith) ∙ ap (λ t. cond t (large_info n) 0) (eq-eqb d d refl);
    others = λ e from until. info_is e (omega arith) until ∙ ap (λ t. cond t (large_info n) 0) (ne_eqb e d (λ same. omega (arith, same)));
    durable_infos = λ e from until. shown_durable v s (info_cell e) _ (there e until) (can.each e from until).durable_info_is
        ∙ sym (info_is e from until);
  } where
    there : (e : ℕ) → e < d + n → is_cell v.setup.capacity (info_cell e) ≡ true
    there e until = info_there v s e (let low = can.durable in omega arith)

    info_is : (e : ℕ) → d ≤ e → e < d + n → info m e ≡ cond (nat_eq e d) (large_info n) 0
    info_is e from until = shown v s (info_cell e) _ (there e until) (can.each e from until).info_is

  pub shift_may : (shift : Option Shift) → CanShift v shift → MayShift m v shift
  shift_may None can = tt
  shift_may (Some (Cut d)) can = cut_may d can
  shift_may (Some (Alloc class)) can = can
  shift_may (Some (Free block)) can = free_may block can
  shift_may (Some (Lift class)) can = lift_may class can
  shift_may (Some (Large d n)) can = large_may d n can
  shift_may (Some (Split block)) can = can
