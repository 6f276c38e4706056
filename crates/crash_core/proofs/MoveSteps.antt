-- The core when a block goes from a cache to what its seat holds.
use Rattle.std.proofs.Common.{◌≡◌, ◌≢◌, ℕ, ◌+◌, ◌-◌, ◌<◌, ◌≤◌, ◌↔◌, true, nat_eq, nat_lt, List, ◌∷◌, get_or, set, length, refl, ap, sym, subst, ◌∙◌, length-set, lt-ltb, ltb-true, arith}
use Rattle.std.specs.Vec.{with_item}
use Rattle.heap_model.specs.Geometry.{lists, start_word, superblocks_end, superblock_of}
use Rattle.heap_model.specs.Sizes.{words_of_class, last_class}
use Rattle.heap_model.specs.Counting.{times, total, one_if}
use Rattle.heap_model.proofs.SizeLemmas.{two_words}
use Rattle.crash_core.specs.declared.owners.BlockPlace.{BlockPlace}
use Rattle.crash_core.specs.declared.owners.BlockPlace.TheVariants as place
use Rattle.seat_state.specs.declared.notes.Cache.{Cache}
use Rattle.seat_state.specs.declared.notes.SeatNotes.{SeatNotes}
use Rattle.crash_core.specs.declared.state.CoreState.{CoreState}
use Rattle.core_model.specs.Memory.{next, info, memory_of}
use Rattle.core_model.specs.View.{Setup, View, of_class, times_block}
use Rattle.core_model.specs.Effects.{first_of, rest_of}
use Rattle.core_model.specs.ViewAfter.{after_alloc}
use Rattle.core_model.specs.Guards.{MayAlloc}
use Rattle.core_model.specs.Sound.{Good}
use Rattle.seat_state.specs.Notes.{HasCaches}
use Rattle.crash_core.specs.Standing.{IsSeatAt, place_for, no_block, held_in, cached_in, batched_in, IsPlace, IsKept, IsCore, KeepsViews, IsMoved, Decides, memory_at}
use Rattle.core_model.proofs.TotalLemmas.{total_at, eq-eqb-one, ne-eqb-none}
use Rattle.core_model.proofs.BlockLemmas.{inside_of, first_there, total_lists}
use Rattle.core_model.proofs.OwnerLemmas.{in_lists_total}
use Rattle.core_model.proofs.ClassListLemmas.{first_rest}
use Rattle.crash_core.proofs.StandingLemmas.{among, memory_in}
use Rattle.seat_state.proofs.CacheLemmas.{cache_set}
use Rattle.crash_core.proofs.BlockPlaces.{places_mine, places_theirs, place_alone}
use Rattle.seat_state.proofs.WordLemmas.{entry_is, entry_there}
use Rattle.seat_state.proofs.NewSeat.{no_cache}
use Rattle.seat_state.proofs.EndLemmas.{rest_length, rest_first}

cached_only : (p : BlockPlace) → 0 < cached_in p → (held_in p ≡ 0) × (cached_in p ≡ 1) × (batched_in p ≡ 0)
cached_only place.Nowhere some = absurd (omega arith)
cached_only place.Held some = absurd (omega arith)
cached_only place.Cached some = (refl, refl, refl)
cached_only place.Batched some = absurd (omega arith)

module _ (c : CoreState) (k : Setup) (views : List View) (i : ℕ) (v : View) (t : SeatNotes) (keeps : KeepsViews c k views)
    (below : i < length views) (at : get_or views i v ≡ v)
    (at_t : IsSeatAt c i t) where
  kept : IsKept c i t v
  kept = keeps.each i t v below at_t at

  good : Good k (memory_in c k) views
  good = keeps.sound.good

  -- a block of a seat lies in the superblocks
  pub block_range : (b : ℕ) → 0 < times_block b v → (start_word c.geometry.capacity 0 ≤ b) × (b < superblocks_end c.geometry.capacity)
  block_range b some =
      let tot = total_at (times_block b) views i v below at in
      let inside = good.shaped.chained.inside b (omega arith) in
      let is_class = good.shaped.chained.is_class (superblock_of k.capacity b) inside.0 in
      let ends = inside_of k.capacity (info (memory_in c k) (superblock_of k.capacity b)) (superblock_of k.capacity b) b is_class inside.1 in
      let low = ends.0 in let high = ends.1 in
      let less = good.shaped.durable.below (superblock_of k.capacity b) (omega arith) in let q = good.shaped.durable.behind in
      let r = good.shaped.durable.room in
      let two = two_words (info (memory_in c k) (superblock_of k.capacity b)) is_class in let cap = keeps.capacity in
      within (superblock_of k.capacity b) low high (omega arith) (omega arith) where
        within : (d : ℕ) → start_word k.capacity d ≤ b → b + words_of_class
            (info (memory_in c k) (superblock_of k.capacity b)) ≤ start_word k.capacity (d + 1)
            → 0 < words_of_class (info (memory_in c k) (superblock_of k.capacity b)) → d < k.capacity
            → (start_word c.geometry.capacity 0 ≤ b) × (b < superblocks_end c.geometry.capacity)
        within d low high two less = let cap = keeps.capacity in (omega arith, omega arith)

  module _ (class : ℕ) where
    abbrev e : Cache
    e = get_or t.caches class no_cache

    at_e : class < lists → get_or t.caches class e ≡ e
    at_e less = entry_is t.caches class e no_cache (let l = kept.caches.long in omega arith)

    pub count_is : class < lists → length (of_class v.caches class) ≡ e.count
    count_is less = kept.caches.count class e (at_e less) less

    pub may_alloc : class ≢ 0 → class ≤ last_class → (nat_lt 0 e.count ≡ true) ↔ MayAlloc v class
    may_alloc some last = (
      λ h. record {
        is_class = record { some = omega arith; last = last };
        cached = (let n = count_is (omega arith) in let more = ltb-true 0 e.count h in omega arith);
      },
      λ may. lt-ltb 0 e.count (let n = count_is (omega arith) in let m = may.cached in omega arith),
    )

    module _ (may : MayAlloc v class) where
      pub less : class < lists
      less = let l = may.is_class.last in omega arith

      pub some_count : 1 ≤ e.count
      some_count = let n = count_is less in let m = may.cached in omega arith

      pub first_is : first_of (of_class v.caches class) ≡ e.first
      first_is = kept.caches.first class e (at_e less) less may.cached

      long_small : class < length v.small
      long_small = let s = (good.set_up i v below at).small in let l = less in omega arith

      pub long_caches : class < length v.caches
      long_caches = let s = (good.set_up i v below at).caches in let l = less in omega arith

      pub in_cache : 0 < times e.first (of_class v.caches class)
      in_cache = subst (λ b. 0 < times b (of_class v.caches class)) first_is (first_there (of_class v.caches class) may.cached)

      pub in_caches : 0 < total (times e.first) v.caches
      in_caches = in_lists_total e.first class v.caches in_cache

      pub first_range : (start_word c.geometry.capacity 0 ≤ e.first) × (e.first < superblocks_end c.geometry.capacity)
      first_range = block_range e.first (let s = in_caches in omega arith)

      pub first_long : e.first < length c.blocks.items
      first_long = let r = first_range.1 in let b = keeps.blocks in let cap = keeps.capacity in omega arith

      pub old : IsPlace e.first (place_for i (get_or c.blocks.items e.first no_block)) v.small v.caches v.batch.blocks
      old = kept.blocks e.first

      pub was : (held_in (place_for i (get_or c.blocks.items e.first no_block)) ≡ 0)
          × (cached_in (place_for i (get_or c.blocks.items e.first no_block)) ≡ 1)
          × (batched_in (place_for i (get_or c.blocks.items e.first no_block)) ≡ 0)
      was = cached_only (place_for i (get_or c.blocks.items e.first no_block)) (let o = old.cached in let s = in_caches in omega arith)

      pub there : place_for i (get_or c.blocks.items e.first no_block) ≡ place.Nowhere → ⊥
      there none = let w = was.1 in let z = ap cached_in none in omega arith

      pub parts_at : (y : ℕ) → times y (of_class v.caches class) ≡ one_if (nat_eq (first_of (of_class v.caches class)) y) + times y
          (rest_of (of_class v.caches class))
      parts_at y = ap (times y) (first_rest (of_class v.caches class) may.cached)

      -- the cache without its first block
      pub caches_after : (first : ℕ) → first ≡ next (memory_at c) e.first
          → HasCaches (set t.caches class (record { first = first; count = e.count - 1 })) (set v.caches class (rest_of (of_class v.caches class)))
      caches_after first next_is = cache_set t.caches v.caches class (rest_of (of_class v.caches class))
          (record { first = first; count = e.count - 1 }) kept.caches less long_caches leads
          (rest_length (of_class v.caches class) ∙ ap (λ m. m - 1) (count_is less)) where
            leads : 1 ≤ length (rest_of (of_class v.caches class)) → first_of (rest_of (of_class v.caches class)) ≡ first
            leads some = rest_first (next (memory_in c k)) (of_class v.caches class) ((good.blocks i v below at).cache_linked class) some
                ∙ ap (next (memory_in c k)) first_is ∙ ap (λ n. next (memory_of n c.words.items) e.first) keeps.capacity ∙ sym next_is

      pub alloc : (first : ℕ) → first ≡ next (memory_at c) e.first
          → IsMoved c (record c {
            blocks = with_item c.blocks e.first (record { seat = i; place = place.Held });
            seats = with_item c.seats i (record t { caches = set t.caches class (record { first = first; count = e.count - 1 }) });
          })
          views i t (after_alloc v class)
      alloc first next_is = record {
        after = record t { caches = set t.caches class (record { first = first; count = e.count - 1 }) };
        seats = refl;
        ticket = refl;
        stopped = refl;
        words = refl;
        geometry = refl;
        budget = refl;
        carriers = refl;
        blocks = length-set c.blocks.items e.first (record { seat = i; place = place.Held });
        superblocks = refl;
        roots = refl;
        mine = record {
          notes = (let n = kept.notes in record {
            ticket = n.ticket;
            stopped = n.stopped;
            seen_used = n.seen_used;
            seen_head = n.seen_head;
            seen_link = n.seen_link;
            seen_anchor = n.seen_anchor;
          });
          caches = caches_after first next_is;
          batch = kept.batch;
          blocks = places_mine c.blocks.items i e.first place.Held (λ y p. IsPlace y p
              (set v.small class (first_of (of_class v.caches class) ∷ of_class v.small class))
              (set v.caches class (rest_of (of_class v.caches class))) v.batch.blocks) first_long
              (record {
                held = (let l = total_lists e.first v.small class (first_of (of_class v.caches class) ∷ of_class v.small class) long_small in
                    let one = eq-eqb-one (first_of (of_class v.caches class)) e.first first_is in let o = old.held in let w = was.0 in omega arith);
                cached = (let l = total_lists e.first v.caches class (rest_of (of_class v.caches class)) long_caches in
                    let one = eq-eqb-one (first_of (of_class v.caches class)) e.first first_is in let p = parts_at e.first in
                    let o = old.cached in let w = was.1 in omega arith);
                batched = (let o = old.batched in let w = was.2 in omega arith);
              })
              (λ y other. let o = kept.blocks y in let none = ne-eqb-none (first_of (of_class v.caches class)) y
              (λ h. other (sym h ∙ first_is)) in record {
                held = (let l = total_lists y v.small class (first_of (of_class v.caches class) ∷ of_class v.small class) long_small in
                    let h = o.held in omega arith);
                cached = (let l = total_lists y v.caches class (rest_of (of_class v.caches class)) long_caches in let p = parts_at y in
                    let h = o.cached in omega arith);
                batched = o.batched;
              });
          superblocks = kept.superblocks;
          roots = kept.roots;
        };
        others = λ j s u other most h. record {
          notes = h.notes;
          caches = h.caches;
          batch = h.batch;
          blocks = places_theirs c.blocks.items i j e.first place.Held (λ y p. IsPlace y p u.small u.caches u.batch.blocks) first_long other
              (place_alone i j (get_or c.blocks.items e.first no_block) other there) h.blocks;
          superblocks = h.superblocks;
          roots = h.roots;
        };
      }

-- what fits when a block may be held
pub record AllocFits (c : CoreState) (class : ℕ) (e : Cache) : Type 0 where
  pub last : class < lists
  pub count : 1 ≤ e.count
  pub from : start_word c.geometry.capacity 0 ≤ e.first
  pub until : e.first < superblocks_end c.geometry.capacity
  pub long : e.first < length c.blocks.items

pub alloc_fits : (c : CoreState) (i class : ℕ) (t : SeatNotes) → IsCore c → i < length c.seats.items → IsSeatAt c i t
    → Decides c i (λ m v. MayAlloc v class) true → AllocFits c class (get_or t.caches class no_cache)
alloc_fits c i class t core less at_t may =
    let below : i < length core.views = among core.keeps less in
    let here = entry_there core.views i below in
    let holds = (may core.setup core.views here.0 core.keeps below here.1).0 refl in
    let range = first_range c core.setup core.views i here.0 t core.keeps below here.1 at_t class holds in
    record {
      last = (let l = holds.is_class.last in omega arith);
      count = some_count c core.setup core.views i here.0 t core.keeps below here.1 at_t class holds;
      from = range.0;
      until = range.1;
      long = first_long c core.setup core.views i here.0 t core.keeps below here.1 at_t class holds;
    }

pub retold : (old new : CoreState) (views : List View) (i : ℕ) (t t' : SeatNotes) (w : View) → t ≡ t' → IsMoved old new views i t w
    → IsMoved old new views i t' w
retold old new views i t t' w same moved = subst (λ x. IsMoved old new views i x w) same moved
