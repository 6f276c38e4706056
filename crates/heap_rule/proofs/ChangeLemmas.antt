-- What each shift makes of what a seat keeps to tell its own words may be done, and fits the view after it.
use Rattle.std.proofs.Common.{◌≡◌, ℕ, ◌+◌, ◌-◌, ◌<◌, ◌≤◌, inl, inr, Option, Some, None, List, [], ◌∷◌, ◌++◌, length, ap, sym, subst, ◌∙◌, arith}
use Rattle.std.proofs.lemmas.Bool.{cases_eq, cases_lt}
use Rattle.heap_model.specs.Geometry.{largest_capacity_fits, superblock_of}
use Rattle.heap_model.specs.Counting.{times}
use Rattle.heap_model.specs.Sizes.{IsClass}
use Rattle.heap_model.proofs.SizeLemmas.{few_blocks}
use Rattle.size_table.specs.declared.size_class.SizeClass.{SizeClass}
use Rattle.core_model.specs.declared.event.Event.TheVariants.{Tick}
use Rattle.core_model.specs.declared.event.Shift.{Shift}
use Rattle.core_model.specs.declared.event.Shift.TheVariants.{Cut, Alloc, Free, Lift, Large, Split}
use Rattle.core_model.specs.Memory.{Memory, memory_of, info}
use Rattle.core_model.specs.View.{View, of_class, times_block}
use Rattle.core_model.specs.Effects.{first_of, span_count}
use Rattle.core_model.specs.Guards.{MayAlloc, MaySplit}
use Rattle.core_model.specs.Sound.{Good, IsCutBlock}
use Rattle.core_model.proofs.BlockLemmas.{first_there}
use Rattle.core_model.proofs.CountLemmas.{chain_short}
use Rattle.core_model.proofs.LinkFrameLemmas.{span_covers}
use Rattle.core_model.proofs.OwnerLemmas.{in_lists_total}
use Rattle.core_model.proofs.RangeLemmas.{block_of}
use Rattle.core_model.proofs.TotalLemmas.{eq-eqb-one, ne-eqb-none}
use Rattle.seat_state.proofs.BlockRanges.{cut_range}
use Rattle.seat_index.specs.declared.owned.Change.{Change}
use Rattle.seat_index.specs.declared.owned.Owned.{Owned}
use Rattle.seat_index.specs.Changed.{IsChanged}
use Rattle.heap_rule.specs.Noted.{FitsChange}
use Rattle.seat_index.specs.Owned.{OwnedParts, HasOwned, most_blocks, parts_of}
use Rattle.heap_table.specs.Plays.{HasSoundState, IsEvent}
use Rattle.seat_index.specs.Stacks.{IsRestacked}
use Rattle.heap_rule.specs.Shown.{CanFree, CanLift, CanCut, CanHoldLarge}
use Rattle.heap_rule.proofs.OwnedShifts.{alloc_owned, free_owned, lift_owned, cut_owned, large_owned, split_owned}
use Rattle.seat_index.proofs.OwnedViews.{quiet, taken_below}
use Rattle.heap_rule.proofs.ShiftLemmas.{free_class, free_own}
use Rattle.seat_index.proofs.StackLemmas.{has_stack}
use Rattle.heap_rule.proofs.TickLemmas.{drawn, spent}
use Rattle.seat_index.proofs.ViewBlocks.{below_capacity, block_cut, block_once, block_range}
use Rattle.seat_index.specs.declared.owned.Change.TheVariants as change

as_is : (o o' : Owned) (p : OwnedParts) → o' ≡ o → HasOwned o p → HasOwned o' p
as_is o o' p same own = subst (λ x. HasOwned x p) (sym same) own

-- a block's first word fits 32 bits
word_fits : (v : View) (s : HasSoundState v) (block : ℕ) → 0 < times_block block v → block < 4294967296
word_fits v s block own = let r = (block_range v s block own).1 in let small = s.sound.good.small in let fits = largest_capacity_fits in omega arith

pub alloc_change : (v : View) (class first : ℕ) → MayAlloc v class → FitsChange (change.Allocated class first) v (Some (Alloc class))
alloc_change v class first may s o own = (
  (has_stack o.stacks.items v.caches class own.stacks may.is_class).below,
  λ found o' is. as_is _ o' _ is.others (alloc_owned v s o own found class o'.stacks may is.stacks),
)

pub free_change : (v : View) (class block : ℕ) (can : CanFree v block) → class ≡ can.class → FitsChange (change.Freed class block) v (Some (Free block))
free_change v class block can class_is s o own = (
  (
    has_stack o.stacks.items v.caches class own.stacks (subst IsClass (sym class_is) (free_class v s block can)),
    word_fits v s block (free_own v s block can),
  ),
  λ found o' is. as_is _ o' _ is.others (free_owned v s o own found block o'.stacks can
      (subst (λ n. IsRestacked o.stacks.items o'.stacks.items n (λ cache. block ∷ cache)) class_is is.stacks)),
)

-- a batch to which a block comes has no more blocks than a superblock
batch_room : (v : View) → HasSoundState v → (class : ℕ) → CanLift v class → length v.batch.blocks < most_blocks
batch_room v s class can = let short = chain_short v.setup.capacity class d (first ∷ v.batch.blocks) can.is_class cut once in
    let few = few_blocks class can.is_class in omega arith where
      m : Memory
      m = memory_of v.setup.capacity s.words

      good : Good v.setup m s.views
      good = s.sound.good

      cs : List ℕ
      cs = of_class v.caches class

      first : ℕ
      first = first_of cs

      d : ℕ
      d = superblock_of v.setup.capacity first

      cached : 0 < times first cs
      cached = first_there cs can.cached

      own : 0 < times_block first v
      own = let t = in_lists_total first class v.caches cached in omega arith

      info_d : info m d ≡ class
      info_d = (good.blocks s.seat v s.below s.at).cached class first cached

      of_d : (b : ℕ) → 0 < times b (first ∷ v.batch.blocks) → (superblock_of v.setup.capacity b ≡ d) × (0 < times_block b v)
      of_d b some = elim (cases_lt 0 (times b v.batch.blocks)) [
        | inl batched ↦ (((good.blocks s.seat v s.below s.at).batched b batched).0 ∙ can.same (member v.batch.blocks batched), omega arith)
        | inr not ↦ let e = here (omega arith) in (ap (superblock_of v.setup.capacity) (sym e), subst (λ n. 0 < times_block n v) e own)
      ] where
        member : (xs : List ℕ) → 0 < times b xs → 1 ≤ length xs
        member [] there = absurd (omega arith)
        member (x ∷ xs) there = omega arith

        here : 0 < times b (first ∷ []) → first ≡ b
        here there = elim (cases_eq first b) as (λ _. first ≡ b) [
          | inl same ↦ same
          | inr other ↦ absurd (let z = ne-eqb-none first b other in omega arith)
        ]

      cut : (b : ℕ) → 0 < times b (first ∷ v.batch.blocks) → IsCutBlock v.setup.capacity class d b
      cut b some = let q = of_d b some in subst (λ n. IsCutBlock v.setup.capacity n d b) info_d
          (subst (λ e. IsCutBlock v.setup.capacity (info m e) e b) q.0 (block_cut v s b q.1).1)

      once : (b : ℕ) → IsCutBlock v.setup.capacity class d b → times b (first ∷ v.batch.blocks) ≤ 1
      once b is = let o = block_once v s b in elim (cases_eq first b) as (λ _. times b (first ∷ v.batch.blocks) ≤ 1) [
        | inl same ↦ let one = eq-eqb-one first b same in let c = subst (λ n. 0 < times n cs) same cached in
            let t = in_lists_total b class v.caches c in omega arith
        | inr other ↦ let z = ne-eqb-none first b other in omega arith
      ]

pub lift_change : (v : View) (class block first : ℕ) → CanLift v class → block ≡ first_of (of_class v.caches class)
    → FitsChange (change.Lifted class block first) v (Some (Lift class))
lift_change v class block first can block_is s o own = (
  record {
    below = (has_stack o.stacks.items v.caches class own.stacks can.is_class).below;
    room = (let r = batch_room v s class can in let l = ap length own.batch in let k = own.room in omega arith);
    fits = (let cached = in_lists_total (first_of (of_class v.caches class)) class v.caches
        (first_there (of_class v.caches class) can.cached) in subst (λ b. b < 4294967296) (sym block_is)
        (word_fits v s (first_of (of_class v.caches class)) (omega arith)));
  },
  λ found o' is. as_is _ o' _ is.others (lift_owned v s o own found class o'.batch o'.stacks can (is.batch
      ∙ ap (λ b. o.batch.items ++ b ∷ []) block_is) is.room is.stacks),
)

pub cut_change : (v : View) (d : ℕ) (class : SizeClass) (can : CanCut v d) → class.number ≡ can.class → FitsChange (change.Cut d class) v (Some (Cut d))
cut_change v d class can class_is s o own = (
  record {
    below = less;
    classes = (let l = own.classes_long in let t = less in omega arith);
    ownerships = (let l = own.ownerships_long in let t = less in omega arith);
    blocks = λ b some. let r = cut_range v.setup.capacity class.number d b class.is less (block_of v.setup.capacity class.number d b some) in
        let l = own.words_long in omega arith;
    stack = has_stack o.stacks.items v.caches class.number own.stacks class.is;
    fits = (let l = own.words_long in let small = s.sound.good.small in let fits = largest_capacity_fits in omega arith);
  },
  λ found o' changed. as_is _ o' _ changed.others (cut_owned v s o own found d class.number o'.blocks o'.classes o'.ownerships o'.stacks can
      class_is changed.blocks changed.classes changed.ownerships changed.stacks),
) where
  less : d < v.setup.capacity
  less = taken_below v s d (let c = can.cutting in omega arith)

pub large_change : (v : View) (d n : ℕ) → CanHoldLarge v d n → FitsChange (change.Large d n) v (Some (Large d n))
large_change v d n can s o own = (
  (
    can.some,
    (let some = can.some in let low = can.durable in let l = below_capacity v s (d + n - 1) (omega arith) in
        let k = own.ownerships_long in omega arith),
  ),
  λ found o' is. as_is _ o' _ is.others (large_owned v s o own found d n is.rest o'.ownerships can is.owning is.first),
)

pub split_change : (v : View) (block d n : ℕ) → MaySplit v block → d ≡ superblock_of v.setup.capacity block → n ≡ span_count d v.large
    → FitsChange (change.Split d n) v (Some (Split block))
split_change v block d n may d_is n_is s o own = (
  (let n_some = some in let last = span_covers d (d + n - 1) v.large (omega arith) (omega arith) (omega arith) in
      let t = taken_below v s (d + n - 1) (omega arith) in let k = own.ownerships_long in omega arith),
  λ found o' is. as_is _ o' _ is.others (split_owned v s o own found block d n o'.ownerships may d_is n_is is.owning),
) where
  some : 1 ≤ n
  some = let h = subst (λ e. 1 ≤ span_count e v.large) (sym d_is) may.held in omega (arith, h, n_is)

-- after a draw with no shift
pub alone_owned : (o : Owned) (v w : View) (found : ℕ) (event : IsEvent (Tick None) v found w) → HasOwned o (parts_of v)
    → found < v.setup.budget → HasOwned o (parts_of w)
alone_owned o v w found event own less = quiet o v w (ap parts_of (drawn v w None found event less)) own

-- after a draw with the shift, and one that stops
module _ (o : Owned) (v w : View) (shift : Option Shift) (found : ℕ) (event : IsEvent (Tick shift) v found w) (own : HasOwned o (parts_of v)) where
  pub draw_stays : v.setup.budget ≤ found → HasOwned o (parts_of w)
  draw_stays past = quiet o v w (ap parts_of (spent v w shift found event past)) own

  pub draw_owned : (o' : Owned) (c : Change) (capacity : ℕ) → FitsChange c v shift → capacity ≡ v.setup.capacity → IsChanged c capacity o o'
      → found < v.setup.budget → HasOwned o' (parts_of w)
  draw_owned o' c capacity fits capacity_is changed less = subst (λ u. HasOwned o' (parts_of u)) (sym (drawn v w shift found event less))
      ((fits event.before o own).1 found o' (subst (λ n. IsChanged c n o o') capacity_is changed))
