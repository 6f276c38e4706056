-- What is kept of a seat once a change of its parts is done, which goes with a draw.
use Rattle.std.proofs.Common.{◌≡◌, ℕ, suc, ◌+◌, ◌-◌, ◌*◌, ◌<◌, ◌≤◌, true, cond, nat_eq, Option, Some, List, ◌∷◌, get_or, set, length, refl, ap, ap₂, sym, subst, ◌∙◌, lt-ltb, arith}
use Rattle.heap_model.specs.Geometry.{lists, start_word, info_word, largest_capacity_fits, superblock_of}
use Rattle.heap_model.specs.Sizes.{IsClass, words_of_class, blocks_of}
use Rattle.heap_model.proofs.SizeLemmas.{four_blocks}
use Rattle.core_model.specs.declared.event.Shift.TheVariants.{Cut, Alloc, Free, Lift, Large, Split}
use Rattle.core_model.specs.Cells.{data_cell, info_cell}
use Rattle.core_model.specs.Memory.{memory_of, info, volatile_at, next, table_length}
use Rattle.core_model.specs.View.{View, of_class, times_block}
use Rattle.core_model.specs.Effects.{first_of, rest_of, cleared, span_count, class_blocks}
use Rattle.core_model.specs.Guards.{MayAlloc}
use Rattle.core_model.proofs.CountLemmas.{length_steps}
use Rattle.core_model.proofs.BlockLemmas.{first_there}
use Rattle.core_model.proofs.OwnerLemmas.{in_lists_total}
use Rattle.core_model.proofs.PlaceLemmas.{index_within}
use Rattle.seat_state.specs.declared.notes.Cache.{Cache}
use Rattle.seat_state.specs.declared.notes.SeatNotes.{SeatNotes}
use Rattle.seat_state.specs.declared.notes.Seen.{Seen}
use Rattle.seat_state.specs.Notes.{HasCaches, snapshot}
use Rattle.seat_state.proofs.CacheLemmas.{cache_set}
use Rattle.seat_state.proofs.EndLemmas.{first_append, last_append, length_append, rest_length, rest_first}
use Rattle.seat_state.proofs.NewSeat.{no_cache}
use Rattle.seat_state.proofs.WordLemmas.{entry_is, read_is}
use Rattle.heap_table.specs.Plays.{HasSoundState}
use Rattle.heap_rule.specs.Seated.{IsKeptOf, FitsShift}
use Rattle.heap_rule.specs.Shown.{CanFree, CanCut}
use Rattle.heap_rule.proofs.ChainLemmas.{info_read}
use Rattle.heap_rule.proofs.ViewLemmas.{shown, first_step}
use Rattle.seat_index.proofs.ViewBlocks.{below_capacity, block_class, block_cell, block_range, batch_short, cache_short, span_below}

-- a view has a cache for each class
pub long_caches : (v : View) → HasSoundState v → (class : ℕ) → class < lists → class < length v.caches
long_caches v s class less = let l = (s.sound.good.set_up s.seat v s.below s.at).caches in let b = less in omega arith

module _ (notes : SeatNotes) (v : View) (kept : IsKeptOf notes v) (class : ℕ) where
  abbrev cache : Cache
  cache = get_or notes.caches class no_cache

  abbrev cs : List ℕ
  cs = of_class v.caches class

  at_cache : class < lists → get_or notes.caches class cache ≡ cache
  at_cache less = entry_is notes.caches class cache no_cache (let l = kept.caches.long in let n = less in omega arith)

  pub cache_count : class < lists → length cs ≡ cache.count
  cache_count less = kept.caches.count class cache (at_cache less) less

  pub cache_first : class < lists → 1 ≤ length cs → first_of cs ≡ cache.first
  cache_first less some = kept.caches.first class cache (at_cache less) less some

  module _ (may : MayAlloc v class) where
    pub less : class < lists
    less = let l = may.is_class.last in omega arith

    first_is : first_of cs ≡ cache.first
    first_is = cache_first less may.cached

    pub some_count : 1 ≤ cache.count
    some_count = let n = cache_count less in let m = may.cached in omega arith

    pub cached_own : 0 < times_block (first_of cs) v
    cached_own = let t = in_lists_total (first_of cs) class v.caches (first_there cs may.cached) in omega arith

    pub cached_inside : cache.first < table_length v.setup.capacity
    cached_inside = let w = index_within v.setup.capacity (data_cell (first_of cs)) (block_cell v kept.has (first_of cs) cached_own) in
        let e = first_is in omega arith

    pub next_read : (s : HasSoundState v) (found : ℕ) → found ≡ get_or s.words cache.first 0 → 1 ≤ length (rest_of cs) → first_of (rest_of cs) ≡ found
    next_read s found found_is some =
        rest_first (next (memory_of v.setup.capacity s.words)) cs ((s.sound.good.blocks s.seat v s.below s.at).cache_linked class) some
        ∙ read_is v.setup.capacity s.words (volatile_at (data_cell (first_of cs))) (block_cell v s (first_of cs) cached_own)
        ∙ ap (λ n. get_or s.words n 0) first_is ∙ sym found_is

    pub cached_above : start_word v.setup.capacity 0 ≤ cache.first
    cached_above = let r = (block_range v kept.has (first_of cs) cached_own).0 in let e = first_is in omega arith

    module _ (first : ℕ) (next_is : 1 ≤ length (rest_of cs) → first_of (rest_of cs) ≡ first) where
      abbrev rest : Cache
      rest = record { first = first; count = cache.count - 1 }

      pub alloc_fits : FitsShift (record notes { caches = set notes.caches class rest }) v (Some (Alloc class))
      alloc_fits = λ s found. record {
        notes_are = record {
          ticket = refl;
          stopped = kept.notes_are.stopped;
          seen_used = kept.notes_are.seen_used;
          seen_head = kept.notes_are.seen_head;
          seen_link = kept.notes_are.seen_link;
          seen_anchor = kept.notes_are.seen_anchor;
        };
        caches = cache_set notes.caches v.caches class (rest_of cs) rest kept.caches less (long_caches v kept.has class less) next_is
            (let l = rest_length cs in let n = cache_count less in omega arith);
        batch = kept.batch;
      }

      pub lift_fits : (d head : ℕ) → d ≡ superblock_of v.setup.capacity cache.first
          → head ≡ cond (nat_eq notes.batch.count 0) cache.first notes.batch.first
          → FitsShift (record notes {
            caches = set notes.caches class rest;
            batch = record {
              descriptor = d;
              class = class;
              first = head;
              last = cache.first;
              count = notes.batch.count + 1;
              linked = true;
            };
          }) v (Some (Lift class))
      lift_fits d head d_is head_is = λ s found. record {
        notes_are = record {
          ticket = refl;
          stopped = kept.notes_are.stopped;
          seen_used = kept.notes_are.seen_used;
          seen_head = kept.notes_are.seen_head;
          seen_link = kept.notes_are.seen_link;
          seen_anchor = kept.notes_are.seen_anchor;
        };
        caches = cache_set notes.caches v.caches class (rest_of cs) rest kept.caches less (long_caches v kept.has class less) next_is
            (let l = rest_length cs in let n = cache_count less in omega arith);
        batch = record {
          descriptor = ap (superblock_of v.setup.capacity) first_is ∙ sym d_is;
          class = refl;
          first = first_append v.batch.blocks (first_of cs) ∙ ap₂ (λ n x. cond (nat_eq n 0) x (first_of v.batch.blocks))
              kept.batch.count first_is ∙ ap (λ x. cond (nat_eq notes.batch.count 0) cache.first x) kept.batch.first ∙ sym head_is;
          last = last_append v.batch.blocks (first_of cs) ∙ first_is;
          count = (let l = length_append v.batch.blocks (first_of cs) in let n = kept.batch.count in omega arith);
          linked = refl;
        };
      }

-- one more block counts
pub batch_fits : (notes : SeatNotes) (v : View) → IsKeptOf notes v → notes.batch.count + 1 < 18446744073709551616
batch_fits notes v kept = let b = batch_short v kept.has in let n = kept.batch.count in let small = kept.has.sound.good.small in
    let fits = largest_capacity_fits in omega arith

pub count_fits : (notes : SeatNotes) (v : View) (kept : IsKeptOf notes v) (class : ℕ) → class < lists
    → (get_or notes.caches class no_cache).count + 1 < 18446744073709551616
count_fits notes v kept class less = let b = cache_short v kept.has class in let n = cache_count notes v kept class less in
    let small = kept.has.sound.good.small in let fits = largest_capacity_fits in omega arith

-- a held block that may be freed is of the class of its list
module _ (v : View) (s : HasSoundState v) (block : ℕ) (can : CanFree v block) where
  pub free_own : 0 < times_block block v
  free_own = let held = in_lists_total block can.class v.small can.held in omega arith

  pub free_info : info (memory_of v.setup.capacity s.words) (superblock_of v.setup.capacity block) ≡ can.class
  free_info = (s.sound.good.blocks s.seat v s.below s.at).held can.class block can.held

  pub free_class : IsClass can.class
  free_class = subst IsClass free_info (block_class v s block free_own)

pub free_fits : (notes : SeatNotes) (v : View) (kept : IsKeptOf notes v) (block : ℕ) (can : CanFree v block) (class : ℕ) → class ≡ can.class
    → FitsShift (record notes {
      caches = set notes.caches class (record {
        first = block;
        count = (get_or notes.caches class no_cache).count + 1;
      });
    }) v (Some (Free block))
free_fits notes v kept block can class class_is = λ s found. record {
  notes_are = record {
    ticket = refl;
    stopped = kept.notes_are.stopped;
    seen_used = kept.notes_are.seen_used;
    seen_head = kept.notes_are.seen_head;
    seen_link = kept.notes_are.seen_link;
    seen_anchor = kept.notes_are.seen_anchor;
  };
  caches = subst (λ n. HasCaches (set notes.caches class new) (set v.caches n (block ∷ of_class v.caches n))) (class_is ∙ sym (free_info v s block can))
      (cache_set notes.caches v.caches class (block ∷ of_class v.caches class) new kept.caches less (long_caches v kept.has class less) (λ some. refl)
      (let n = cache_count notes v kept class less in let z : suc (length (of_class v.caches class)) ≡
      (get_or notes.caches class no_cache).count + 1 = omega arith in z));
  batch = kept.batch;
} where
  new : Cache
  new = record { first = block; count = (get_or notes.caches class no_cache).count + 1 }

  less : class < lists
  less = let l = (free_class v kept.has block can).last in omega arith

-- a word of a descriptor is one of the table
pub info_inside : (capacity d place : ℕ) → d < capacity → place ≡ info_word d → place < table_length capacity
info_inside capacity d place less place_is = let w = index_within capacity (info_cell d) (lt-ltb d capacity less) in omega arith

-- a held large block lies in the image, and its info says how many superblocks it takes
module _ (v : View) (s : HasSoundState v) (d : ℕ) (some : 1 ≤ span_count d v.large) where
  pub span_read : (place found : ℕ) → place ≡ info_word d → found ≡ get_or s.words place 0 → found ≡ 255 + 256 * span_count d v.large
  span_read place found place_is found_is = info_read v s d place found (span_below v s d some) place_is found_is
      ∙ ((s.sound.good.claims s.seat v s.below s.at).is_large d some).0

pub large_fits : (notes : SeatNotes) (v : View) (d count : ℕ) (anchor : Option Seen) → IsKeptOf notes v
    → snapshot anchor ≡ cleared d count (snapshot notes.seen_anchor) → FitsShift (record notes { seen_anchor = anchor }) v (Some (Large d count))
large_fits notes v d count anchor kept cleared_is = λ s found. record {
  notes_are = record {
    ticket = refl;
    stopped = kept.notes_are.stopped;
    seen_used = kept.notes_are.seen_used;
    seen_head = kept.notes_are.seen_head;
    seen_link = kept.notes_are.seen_link;
    seen_anchor = ap (cleared d count) kept.notes_are.seen_anchor ∙ sym cleared_is;
  };
  caches = kept.caches;
  batch = kept.batch;
}

pub split_fits : (notes : SeatNotes) (v : View) (block d count : ℕ) (anchor : Option Seen) → IsKeptOf notes v
    → d ≡ superblock_of v.setup.capacity block → count ≡ span_count d v.large
    → snapshot anchor ≡ cleared d count (snapshot notes.seen_anchor) → FitsShift (record notes { seen_anchor = anchor }) v (Some (Split block))
split_fits notes v block d count anchor kept d_is count_is cleared_is = λ s found. record {
  notes_are = record {
    ticket = refl;
    stopped = kept.notes_are.stopped;
    seen_used = kept.notes_are.seen_used;
    seen_head = kept.notes_are.seen_head;
    seen_link = kept.notes_are.seen_link;
    seen_anchor = ap (λ x. cleared (superblock_of v.setup.capacity block) (span_count (superblock_of v.setup.capacity block) v.large) x)
        kept.notes_are.seen_anchor
        ∙ ap (λ e. cleared e (span_count e v.large) (snapshot notes.seen_anchor)) (sym d_is)
        ∙ ap (λ n. cleared d n (snapshot notes.seen_anchor)) (sym count_is) ∙ sym cleared_is;
  };
  caches = kept.caches;
  batch = kept.batch;
}

-- a superblock that was made ready is of the class that its info says
module _ (v : View) (s : HasSoundState v) (d : ℕ) (can : CanCut v d) where
  pub cut_below : d < v.setup.capacity
  cut_below = below_capacity v s d can.durable

  pub cut_info : info (memory_of v.setup.capacity s.words) d ≡ can.class
  cut_info = shown v s (info_cell d) can.class (lt-ltb d v.setup.capacity cut_below) can.info_is

pub cut_fits : (notes : SeatNotes) (v : View) (d : ℕ) (can : CanCut v d) (class first count : ℕ) (anchor : Option Seen) → IsKeptOf notes v
    → class ≡ can.class → IsClass class → first ≡ start_word v.setup.capacity d → count ≡ blocks_of class
    → snapshot anchor ≡ cleared d 1 (snapshot notes.seen_anchor) → FitsShift
    (record notes { seen_anchor = anchor; caches = set notes.caches class (record { first = first; count = count }) }) v (Some (Cut d))
cut_fits notes v d can class first count anchor kept class_is is_class first_is count_is cleared_is = λ s found. record {
  notes_are = record {
    ticket = refl;
    stopped = kept.notes_are.stopped;
    seen_used = kept.notes_are.seen_used;
    seen_head = kept.notes_are.seen_head;
    seen_link = kept.notes_are.seen_link;
    seen_anchor = ap (cleared d 1) kept.notes_are.seen_anchor ∙ sym cleared_is;
  };
  caches = subst (λ n. HasCaches (set notes.caches class new) (set v.caches n (class_blocks v.setup.capacity n d))) (class_is
      ∙ sym (cut_info v s d can))
      (cache_set notes.caches v.caches class (class_blocks v.setup.capacity class d) new kept.caches less (long_caches v kept.has class less)
      (λ some. first_step (start_word v.setup.capacity d) (words_of_class class) (blocks_of class) (let four = four_blocks class is_class in
      omega arith) ∙ sym first_is)
      (length_steps (start_word v.setup.capacity d) (words_of_class class) (blocks_of class) ∙ sym count_is));
  batch = kept.batch;
} where
  new : Cache
  new = record { first = first; count = count }

  less : class < lists
  less = let l = is_class.last in omega arith
