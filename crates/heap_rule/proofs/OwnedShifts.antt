-- What a seat keeps to tell its own words, after each change of its parts.
use Rattle.std.specs.Vec.{vec_capacity}
use Rattle.std.proofs.Common.{◌≡◌, ℕ, ◌<◌, ◌≤◌, Bool, true, nat_lt, Some, List, [], ◌∷◌, ◌++◌, get_or, set, length, refl, ap, sym, subst, ◌∙◌, length-set, Vec, Global, arith}
use Rattle.heap_model.specs.Sizes.{IsClass}
use Rattle.heap_model.specs.Counting.{times, without}
use Rattle.core_model.specs.declared.event.Shift.TheVariants.{Cut, Alloc, Free, Lift, Large, Split}
use Rattle.heap_model.specs.Geometry.{superblock_of}
use Rattle.core_model.specs.Memory.{Memory, memory_of, used, info}
use Rattle.core_model.specs.View.{View, of_class, times_raw}
use Rattle.core_model.specs.Effects.{steps, drew, class_blocks, first_of, rest_of, span_count, without_range, without_span}
use Rattle.core_model.specs.ViewAfter.{shifted}
use Rattle.core_model.specs.Guards.{MayAlloc, MaySplit}
use Rattle.core_model.specs.Sound.{Good}
use Rattle.core_model.proofs.BlockLemmas.{superblock_is, first_there}
use Rattle.core_model.proofs.OwnLemmas.{one_at_most}
use Rattle.core_model.proofs.RangeLemmas.{block_of}
use Rattle.core_model.proofs.TotalLemmas.{total_at}
use Rattle.seat_index.specs.declared.owned.Ownership.{Ownership}
use Rattle.seat_index.specs.declared.owned.Owned.{Owned}
use Rattle.seat_index.specs.declared.stacks.Stack.{Stack}
use Rattle.seat_index.specs.Stacks.{AreStacks, IsRestacked}
use Rattle.seat_index.specs.Owned.{OwnedParts, parts_of, IsOwnership, HaveOwnership, IsMarking, AreClasses, HasOwned, times_had}
use Rattle.heap_table.specs.Plays.{HasSoundState}
use Rattle.heap_rule.specs.Shown.{CanFree, CanLift, CanCut, CanHoldLarge}
use Rattle.seat_index.proofs.BlockMarks.{marked_alike, marked_more, alloc_times, alloc_classes, lift_times, lift_classes, free_times, free_classes, cached_times, cached_classes}
use Rattle.seat_index.proofs.OwnershipLemmas.{cut_ownerships}
use Rattle.seat_index.proofs.SpanOwnerships.{large_ownerships, split_ownerships}
use Rattle.seat_index.proofs.OwnedViews.{with_ownerships, taken_below}
use Rattle.seat_index.proofs.StackLemmas.{restacked}
use Rattle.heap_rule.proofs.ShiftLemmas.{free_info, free_class, cut_info}
use Rattle.seat_index.proofs.ViewBlocks.{block_cut}
use Rattle.seat_index.specs.declared.owned.Ownership.TheVariants as ownership

-- where blocks go from one place to another, and the seat's are the same
moved : (o : Owned) (batch : Vec ℕ Global) (stacks : Vec Stack Global) (p : OwnedParts) (small caches : List (List ℕ)) (blocks : List ℕ)
    (class : ℕ) → HasOwned o p
    → ((b : ℕ) → times_had b (record p { small = small; caches = caches; batch = blocks; batch_class = class }) ≡ times_had b p)
    → AreClasses o.classes.items (record p { small = small; caches = caches; batch = blocks; batch_class = class }) → batch.items ≡ blocks
    → vec_capacity batch ≡ vec_capacity o.batch → AreStacks stacks.items caches
    → HasOwned (record o { batch = batch; stacks = stacks }) (record p { small = small; caches = caches; batch = blocks; batch_class = class })
moved o batch stacks p small caches blocks class own same classes batch_is room stacks_are = record {
  words_long = own.words_long;
  classes_long = own.classes_long;
  ownerships_long = own.ownerships_long;
  roots_long = own.roots_long;
  blocks = marked_alike o.blocks (λ b. times_had b p) (λ b. times_had b
      (record p { small = small; caches = caches; batch = blocks; batch_class = class })) same own.blocks;
  classes = classes;
  ownerships = λ e. let b = own.ownerships e in record {
    unclassed = b.unclassed;
    is_classed = b.is_classed;
    class = b.class;
    is_large = b.is_large;
    count = b.count;
  };
  roots_are = own.roots_are;
  batch = batch_is;
  room = (let r = own.room in omega arith);
  stacks = stacks_are;
}

module _ (v : View) (s : HasSoundState v) (o : Owned) (own : HasOwned o (parts_of v)) (found : ℕ) where
  abbrev m : Memory
  m = memory_of v.setup.capacity s.words

  abbrev good : Good v.setup m s.views
  good = s.sound.good

  less_caches : (class : ℕ) → IsClass class → class < length v.caches
  less_caches class is = let l = (good.set_up s.seat v s.below s.at).caches in let c = is.last in omega arith

  less_small : (class : ℕ) → IsClass class → class < length v.small
  less_small class is = let l = (good.set_up s.seat v s.below s.at).small in let c = is.last in omega arith

  stacked : (class : ℕ) (stacks : Vec Stack Global) (change : List ℕ → List ℕ) → IsClass class
      → IsRestacked o.stacks.items stacks.items class change → AreStacks stacks.items (set v.caches class (change (of_class v.caches class)))
  stacked class stacks change is r = restacked o.stacks.items stacks.items v.caches class change own.stacks (let l = is.last in
      omega arith) (less_caches class is) r

  pub alloc_owned : (class : ℕ) (stacks : Vec Stack Global) → MayAlloc v class → IsRestacked o.stacks.items stacks.items class rest_of
      → HasOwned (record o { stacks = stacks }) (parts_of (shifted m (drew v found) (Some (Alloc class))))
  alloc_owned class stacks may r = moved o o.batch stacks (parts_of v) _ _ v.batch.blocks v.batch.class own
      (alloc_times (parts_of v) class (less_small class may.is_class) (less_caches class may.is_class) may.cached)
      (alloc_classes (parts_of v) class (less_small class may.is_class) (less_caches class may.is_class) may.cached o.classes.items own.classes)
      own.batch refl (stacked class stacks rest_of may.is_class r)

  pub free_owned : (block : ℕ) (stacks : Vec Stack Global) (can : CanFree v block)
      → IsRestacked o.stacks.items stacks.items can.class (λ cache. block ∷ cache)
      → HasOwned (record o { stacks = stacks }) (parts_of (shifted m (drew v found) (Some (Free block))))
  free_owned block stacks can r = subst (λ n. HasOwned (record o { stacks = stacks })
      (record (parts_of v) {
        small = set v.small n (without block (of_class v.small n));
        caches = set v.caches n (block ∷ of_class v.caches n);
      })) (sym (free_info v s block can))
      (moved o o.batch stacks (parts_of v) _ _ v.batch.blocks v.batch.class own (free_times (parts_of v) can.class block small caches can.held)
      (free_classes (parts_of v) can.class block small caches can.held o.classes.items own.classes) own.batch refl
      (stacked can.class stacks (λ cache. block ∷ cache) (free_class v s block can) r)) where
        small : can.class < length v.small
        small = less_small can.class (free_class v s block can)

        caches : can.class < length v.caches
        caches = less_caches can.class (free_class v s block can)

  pub lift_owned : (class : ℕ) (batch : Vec ℕ Global) (stacks : Vec Stack Global) → CanLift v class
      → batch.items ≡ o.batch.items ++ first_of (of_class v.caches class) ∷ [] → vec_capacity batch ≡ vec_capacity o.batch
      → IsRestacked o.stacks.items stacks.items class rest_of → HasOwned (record o { batch = batch; stacks = stacks })
      (parts_of (shifted m (drew v found) (Some (Lift class))))
  lift_owned class batch stacks can batch_is room r = moved o batch stacks (parts_of v) v.small _ _ class own
      (lift_times (parts_of v) class small caches can.cached)
      (lift_classes (parts_of v) class small caches can.cached o.classes.items same own.classes) (batch_is
      ∙ ap (λ l. l ++ first_of (of_class v.caches class) ∷ []) own.batch) room (stacked class stacks rest_of can.is_class r) where
        small : class < length v.small
        small = less_small class can.is_class

        caches : class < length v.caches
        caches = less_caches class can.is_class

        same : 1 ≤ length v.batch.blocks → v.batch.class ≡ class
        same some = let h = good.blocks s.seat v s.below s.at in let q = h.batched (first_of v.batch.blocks) (first_there v.batch.blocks some) in
            sym q.1 ∙ ap (info m) (can.same some) ∙ h.cached class (first_of (of_class v.caches class))
            (first_there (of_class v.caches class) can.cached)

  pub cut_owned : (d class : ℕ) (blocks : List Bool) (classes : Vec ℕ Global) (ownerships : Vec Ownership Global) (stacks : Vec Stack Global)
      (can : CanCut v d) → class ≡ can.class
      → IsMarking o.blocks blocks (class_blocks v.setup.capacity class d) true → classes.items ≡ set o.classes.items d class
      → ownerships.items ≡ set o.ownerships.items d ownership.Nothing
      → IsRestacked o.stacks.items stacks.items class (λ cache. class_blocks v.setup.capacity class d)
      → HasOwned (record o { blocks = blocks; classes = classes; ownerships = ownerships; stacks = stacks })
      (parts_of (shifted m (drew v found) (Some (Cut d))))
  cut_owned d class blocks classes ownerships stacks can class_is marking classes_are ownerships_are r =
      subst (λ n. HasOwned (record o { blocks = blocks; classes = classes; ownerships = ownerships; stacks = stacks })
      (record (parts_of v) { caches = set v.caches n (class_blocks v.setup.capacity n d); cutting = without d v.cutting })) info_is (record {
        words_long = marking.long ∙ own.words_long;
        classes_long = ap length classes_are ∙ length-set o.classes.items d class ∙ own.classes_long;
        ownerships_long = ap length ownerships_are ∙ length-set o.ownerships.items d ownership.Nothing ∙ own.ownerships_long;
        roots_long = own.roots_long;
        blocks = marked_more o.blocks blocks (λ b. times_had b (parts_of v)) _ cs marking
            (cached_times (parts_of v) class d cs caches empty) own.blocks;
        classes = (let a = cached_classes (parts_of v) class d cs caches empty o.classes.items (let l = own.classes_long in let t = less in
            omega arith) of_d none own.classes in
            subst (λ l. AreClasses l (record (parts_of v) { caches = set v.caches class cs; cutting = without d v.cutting })) (sym classes_are)
            (record { held = a.held; cached = a.cached; batched = a.batched }));
        ownerships = (let a = cut_ownerships o.ownerships.items (parts_of v) d (let l = own.ownerships_long in let t = less in
            omega arith) can.cutting own.ownerships in
            subst (λ l. (e : ℕ) → IsOwnership e (get_or l e ownership.Nothing)
            (record (parts_of v) { caches = set v.caches class cs; cutting = without d v.cutting })) (sym ownerships_are)
            (λ e. let b = a e in record {
              unclassed = b.unclassed;
              is_classed = b.is_classed;
              class = b.class;
              is_large = b.is_large;
              count = b.count;
            }));
        roots_are = own.roots_are;
        batch = own.batch;
        room = own.room;
        stacks = stacked class stacks (λ cache. cs) is r;
      }) where
        cs : List ℕ
        cs = class_blocks v.setup.capacity class d

        is : IsClass class
        is = subst IsClass (sym class_is) can.is_class

        info_is : class ≡ info m d
        info_is = class_is ∙ sym (cut_info v s d can)

        caches : class < length v.caches
        caches = less_caches class is

        empty : of_class v.caches class ≡ []
        empty = ap (of_class v.caches) class_is ∙ can.uncached

        less : d < v.setup.capacity
        less = taken_below v s d (let c = can.cutting in omega arith)

        of_d : (b : ℕ) → 0 < times b cs → superblock_of v.setup.capacity b ≡ d
        of_d b some = superblock_is v.setup.capacity class d b is (block_of v.setup.capacity class d b some)

        none : (b : ℕ) → 0 < times_had b (parts_of v) → superblock_of v.setup.capacity b ≡ d → get_or o.classes.items d 0 ≡ class
        none b had here = absurd (let c = (block_cut v s b had).0 in let p = good.shaped.placed.one_place (superblock_of v.setup.capacity b) in
            let most = one_at_most (nat_lt (superblock_of v.setup.capacity b) (used m)) in
            let t = total_at (times_raw (superblock_of v.setup.capacity b)) s.views s.seat v s.below s.at in
            let c2 = subst (λ n. 0 < times n v.cutting) (sym here) can.cutting in omega arith)

  pub large_owned : (d n : ℕ) (rest : List Ownership) (ownerships : Vec Ownership Global) → CanHoldLarge v d n
      → HaveOwnership o.ownerships.items rest d n (ownership.Large 0) → ownerships.items ≡ set rest d (ownership.Large n)
      → HasOwned (record o { ownerships = ownerships }) (parts_of (shifted m (drew v found) (Some (Large d n))))
  large_owned d n rest ownerships can owning ownerships_are = with_ownerships o ownerships (parts_of v) (without_range d n v.raw)
      (without_range d n v.split) v.cutting v.classed (record { first = d; count = n } ∷ v.large) own
      (ap length ownerships_are ∙ length-set rest d (ownership.Large n) ∙ owning.long)
      (subst (λ l. (e : ℕ) → IsOwnership e (get_or l e ownership.Nothing)
      (record (parts_of v) {
        large = record { first = d; count = n } ∷ v.large;
        raw = without_range d n v.raw;
        split = without_range d n v.split;
      })) (sym ownerships_are)
      (large_ownerships o.ownerships.items rest (parts_of v) d n can.some less owning own.ownerships
      (λ e low high. (can.each e low high).claimed))) where
        less : d < length rest
        less = let c = can.some in let g = (can.each d (omega arith) (omega arith)).claimed in let t = taken_below v s d (omega arith) in
            let l = owning.long in let k = own.ownerships_long in omega arith

  pub split_owned : (block d n : ℕ) (ownerships : Vec Ownership Global) → MaySplit v block → d ≡ superblock_of v.setup.capacity block
      → n ≡ span_count d v.large → HaveOwnership o.ownerships.items ownerships.items d n ownership.Unclassed
      → HasOwned (record o { ownerships = ownerships }) (parts_of (shifted m (drew v found) (Some (Split block))))
  split_owned block d n ownerships may d_is n_is owning = subst (λ e. HasOwned (record o { ownerships = ownerships })
      (record (parts_of v) { large = without_span e v.large; split = v.split ++ steps e 1 (span_count e v.large) })) d_is
      (subst (λ c. HasOwned (record o { ownerships = ownerships }) (record (parts_of v) {
        large = without_span d v.large;
        split = v.split ++ steps d 1 c;
      })) n_is
      (with_ownerships o ownerships (parts_of v) v.raw (v.split ++ steps d 1 n) v.cutting v.classed (without_span d v.large) own owning.long
      (split_ownerships o.ownerships.items ownerships.items (parts_of v) d n n_is some owning own.ownerships))) where
        some : 1 ≤ n
        some = let h = subst (λ e. 1 ≤ span_count e v.large) (sym d_is) may.held in omega (arith, h, n_is)
