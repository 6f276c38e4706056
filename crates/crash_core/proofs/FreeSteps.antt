-- The core when a held block goes in front of a cache.
use Rattle.std.proofs.Common.{◌≡◌, ◌≢◌, ℕ, suc, ◌+◌, ◌<◌, ◌≤◌, ◌↔◌, inl, inr, true, nat_eq, List, ◌∷◌, get_or, set, length, refl, ap, sym, subst, ◌∙◌, length-set, eq-eqb, eqb-true, arith}
use Rattle.std.proofs.lemmas.Bool.{cases_lt}
use Rattle.std.specs.Vec.{with_item}
use Rattle.heap_model.specs.Geometry.{lists, start_word, superblocks_end, superblock_of}
use Rattle.heap_model.specs.Sizes.{IsClass}
use Rattle.heap_model.specs.Counting.{times, total, without}
use Rattle.crash_core.specs.declared.owners.BlockPlace.{BlockPlace}
use Rattle.crash_core.specs.declared.owners.BlockPlace.TheVariants as place
use Rattle.seat_state.specs.declared.notes.Cache.{Cache}
use Rattle.seat_state.specs.declared.notes.SeatNotes.{SeatNotes}
use Rattle.crash_core.specs.declared.state.CoreState.{CoreState}
use Rattle.core_model.specs.Memory.{next, info, memory_of}
use Rattle.core_model.specs.View.{Setup, View, of_class, times_block}
use Rattle.core_model.specs.Effects.{first_of}
use Rattle.core_model.specs.ViewAfter.{after_free}
use Rattle.core_model.specs.Guards.{MayFree}
use Rattle.core_model.specs.Sound.{Good}
use Rattle.crash_core.specs.Standing.{IsSeatAt, place_for, no_block, held_in, cached_in, batched_in, IsPlace, IsKept, KeepsViews, IsMoved, memory_at}
use Rattle.core_model.proofs.TotalLemmas.{total_at, eq-eqb-one, ne-eqb-none}
use Rattle.core_model.proofs.BlockLemmas.{total_lists}
use Rattle.core_model.proofs.OwnerLemmas.{in_lists_total, which_class}
use Rattle.crash_core.proofs.StandingLemmas.{memory_in, seat_capacity}
use Rattle.seat_state.proofs.CountLemmas.{without_off, short, list_at_most}
use Rattle.crash_core.proofs.BlockPlaces.{places_mine, places_theirs, place_alone}
use Rattle.seat_state.proofs.WordLemmas.{entry_is}
use Rattle.seat_state.proofs.CacheLemmas.{cache_set}
use Rattle.crash_core.proofs.MoveSteps as moves
use Rattle.heap_model.proofs.ListLemmas.{without_at}

held_only : (p : BlockPlace) → 0 < held_in p → (held_in p ≡ 1) × (cached_in p ≡ 0) × (batched_in p ≡ 0)
held_only place.Nowhere some = absurd (omega arith)
held_only place.Held some = (refl, refl, refl)
held_only place.Cached some = absurd (omega arith)
held_only place.Batched some = absurd (omega arith)

module _ (c : CoreState) (k : Setup) (views : List View) (i : ℕ) (v : View) (t : SeatNotes) (keeps : KeepsViews c k views)
    (below : i < length views) (at : get_or views i v ≡ v)
    (at_t : IsSeatAt c i t) where
  kept : IsKept c i t v
  kept = keeps.each i t v below at_t at

  good : Good k (memory_in c k) views
  good = keeps.sound.good

  -- a seat has a block once at most
  pub once : (b : ℕ) → times_block b v ≤ 1
  once b = elim (cases_lt 0 (times_block b v)) [
    | inl some ↦ let tot = total_at (times_block b) views i v below at in let inside = good.shaped.chained.inside b (omega arith) in
        let o = good.shaped.chained.owned (superblock_of k.capacity b) b inside.0 inside.1 in omega arith
    | inr none ↦ omega arith
  ]

  -- a cache is no longer than the image
  pub cache_short : (class : ℕ) → length (of_class v.caches class) ≤ superblocks_end c.geometry.capacity
  cache_short class = short (superblocks_end c.geometry.capacity) (of_class v.caches class)
      (λ b some. let s = in_lists_total b class v.caches some in (moves.block_range c k views i v t keeps below at at_t b (omega arith)).1)
      (λ b. elim (cases_lt 0 (times b (of_class v.caches class))) [
        | inl some ↦ let o = once b in let l = list_at_most b class v.caches in omega arith
        | inr none ↦ omega arith
      ])

  module _ (block : ℕ) (held : 0 < held_in (place_for i (get_or c.blocks.items block no_block))) where
    was : (held_in (place_for i (get_or c.blocks.items block no_block)) ≡ 1)
        × (cached_in (place_for i (get_or c.blocks.items block no_block)) ≡ 0) × (batched_in (place_for i (get_or c.blocks.items block no_block)) ≡ 0)
    was = held_only (place_for i (get_or c.blocks.items block no_block)) held

    in_small : 0 < total (times block) v.small
    in_small = let o = (kept.blocks block).held in omega arith

    some_block : 0 < times_block block v
    some_block = let s = in_small in omega arith

    pub held_range : (start_word c.geometry.capacity 0 ≤ block) × (block < superblocks_end c.geometry.capacity)
    held_range = moves.block_range c k views i v t keeps below at at_t block some_block

    pub held_is : IsClass (info (memory_at c) (superblock_of c.geometry.capacity block))
    held_is = let tot = total_at (times_block block) views i v below at in let s = some_block in
        let inside = good.shaped.chained.inside block (omega arith) in
        subst (λ n. IsClass (info (memory_of n c.words.items) (superblock_of n block))) keeps.capacity
        (good.shaped.chained.is_class (superblock_of k.capacity block) inside.0)

    info_v : info (memory_in c k) (superblock_of v.setup.capacity block) ≡ info (memory_at c) (superblock_of c.geometry.capacity block)
    info_v = ap (λ n. info (memory_in c k) (superblock_of n block)) (seat_capacity c k views i v keeps below at)
        ∙ ap (λ n. info (memory_of n c.words.items) (superblock_of c.geometry.capacity block)) keeps.capacity

    module _ (class : ℕ) (class_is : class ≡ info (memory_at c) (superblock_of c.geometry.capacity block)) where
      is_class : IsClass class
      is_class = subst IsClass (sym class_is) held_is

      in_class : 0 < times block (of_class v.small class)
      in_class = let h = which_class block v.small in_small in
          let same : h.n ≡ class = sym ((good.blocks i v below at).held h.n block h.there) ∙ info_v ∙ sym class_is in
          subst (λ n. 0 < times block (of_class v.small n)) same h.there

      less : class < lists
      less = let l = is_class.last in omega arith

      abbrev e : Cache
      e = get_or t.caches class (record { first = 0; count = 0 })

      at_e : get_or t.caches class e ≡ e
      at_e = entry_is t.caches class e (record { first = 0; count = 0 }) (let l = kept.caches.long in let n = less in omega arith)

      count_is : length (of_class v.caches class) ≡ e.count
      count_is = kept.caches.count class e at_e less

      pub count_short : e.count ≤ superblocks_end c.geometry.capacity
      count_short = let n = count_is in let s = cache_short class in omega arith

      to_may : (1 ≤ length (of_class v.caches class) → next (memory_in c k) block ≡ first_of (of_class v.caches class))
          → MayFree (memory_in c k) v block
      to_may linked = let here : class ≡ info (memory_in c k) (superblock_of v.setup.capacity block) = class_is ∙ sym info_v in record {
        is_class = subst IsClass here is_class;
        held = subst (λ n. 0 < times block (of_class v.small n)) here in_class;
        linked = subst (λ n. 1 ≤ length (of_class v.caches n) → next (memory_in c k) block ≡ first_of (of_class v.caches n)) here linked;
      }

      pub free_alone : e.count ≡ 0 → MayFree (memory_in c k) v block
      free_alone none = to_may (λ some. absurd (let n = count_is in omega arith))

      pub free_linked : e.count ≢ 0 → (to : ℕ) → to ≡ next (memory_at c) block → (nat_eq to e.first ≡ true) ↔ MayFree (memory_in c k) v block
      free_linked some to to_is = (
        λ h. to_may (λ more. ap (λ n. next (memory_of n c.words.items) block) keeps.capacity ∙ sym to_is ∙ eqb-true to e.first h
            ∙ sym (kept.caches.first class e at_e less more)),
        λ may. eq-eqb to e.first (to_is ∙ ap (λ n. next (memory_of n c.words.items) block) (sym keeps.capacity)
            ∙ subst (λ n. 1 ≤ length (of_class v.caches n) → next (memory_in c k) block ≡ first_of (of_class v.caches n)) (info_v
            ∙ sym class_is) may.linked (let n = count_is in omega arith)
            ∙ kept.caches.first class e at_e less (let n = count_is in omega arith)),
      )

      long_small : class < length v.small
      long_small = let s = (good.set_up i v below at).small in let l = less in omega arith

      long_caches : class < length v.caches
      long_caches = let s = (good.set_up i v below at).caches in let l = less in omega arith

      pub block_long : block < length c.blocks.items
      block_long = let r = held_range.1 in let b = keeps.blocks in let g = keeps.capacity in omega arith

      there : place_for i (get_or c.blocks.items block no_block) ≡ place.Nowhere → ⊥
      there none = let w = was.0 in let z = ap held_in none in omega arith

      abbrev new : Cache
      new = record { first = block; count = e.count + 1 }

      freed : IsMoved c (record c {
        blocks = with_item c.blocks block (record { seat = i; place = place.Cached });
        seats = with_item c.seats i (record t { caches = set t.caches class new });
      }) views i t (after_free v class block)
      freed = record {
        after = record t { caches = set t.caches class new };
        seats = refl;
        ticket = refl;
        stopped = refl;
        words = refl;
        geometry = refl;
        budget = refl;
        carriers = refl;
        blocks = length-set c.blocks.items block (record { seat = i; place = place.Cached });
        superblocks = refl;
        roots = refl;
        mine = record {
          notes = (let n = kept.notes in record {
            ticket = n.ticket;
            stopped = n.stopped;
            seen_used = n.seen_used;
            seen_head = n.seen_head;
            seen_link = n.seen_link;
            seen_anchor = n.seen_anchor;
          });
          caches = cache_set t.caches v.caches class (block ∷ of_class v.caches class) new kept.caches less long_caches (λ some. refl)
              (let m = count_is in let z : suc (length (of_class v.caches class)) ≡ e.count + 1 = omega arith in z);
          batch = kept.batch;
          blocks = places_mine c.blocks.items i block place.Cached (λ y p. IsPlace y p
              (set v.small class (without block (of_class v.small class)))
              (set v.caches class (block ∷ of_class v.caches class)) v.batch.blocks) block_long
              (let o = kept.blocks block in let w = was in let one = once block in let a = w.0 in let b = w.1 in let f = w.2 in record {
                held = (let l = total_lists block v.small class (without block (of_class v.small class)) long_small in let h = o.held in
                    let s = in_class in let w0 = without_at block (of_class v.small class) (let l2 = list_at_most block class v.small in
                    omega arith) in let l3 = list_at_most block class v.small in omega arith);
                cached = (let l = total_lists block v.caches class (block ∷ of_class v.caches class) long_caches in
                    let self = eq-eqb-one block block refl in let h = o.cached in omega arith);
                batched = (let h = o.batched in omega arith);
              })
              (λ y other. let o = kept.blocks y in record {
                held = (let l = total_lists y v.small class (without block (of_class v.small class)) long_small in
                    let w0 = without_off y block (of_class v.small class) other in let h = o.held in omega arith);
                cached = (let l = total_lists y v.caches class (block ∷ of_class v.caches class) long_caches in
                    let none = ne-eqb-none block y (λ h. other (sym h)) in let h = o.cached in omega arith);
                batched = o.batched;
              });
          superblocks = kept.superblocks;
          roots = kept.roots;
        };
        others = λ j s u other most h. record {
          notes = h.notes;
          caches = h.caches;
          batch = h.batch;
          blocks = places_theirs c.blocks.items i j block place.Cached (λ y p. IsPlace y p u.small u.caches u.batch.blocks) block_long other
              (place_alone i j (get_or c.blocks.items block no_block) other there) h.blocks;
          superblocks = h.superblocks;
          roots = h.roots;
        };
      }

      pub free : IsMoved c (record c {
        blocks = with_item c.blocks block (record { seat = i; place = place.Cached });
        seats = with_item c.seats i (record t { caches = set t.caches class new });
      }) views i t
          (after_free v (info (memory_in c k) (superblock_of v.setup.capacity block)) block)
      free = subst (λ n. IsMoved c (record c {
        blocks = with_item c.blocks block (record { seat = i; place = place.Cached });
        seats = with_item c.seats i (record t { caches = set t.caches class new });
      }) views i t (after_free v n block))
          (class_is ∙ sym info_v) freed

  pub not_held : (block : ℕ) → held_in (place_for i (get_or c.blocks.items block no_block)) ≡ 0 → MayFree (memory_in c k) v block → ⊥
  not_held block none may = let s = in_lists_total block (info (memory_in c k) (superblock_of v.setup.capacity block)) v.small may.held in
      let o = (kept.blocks block).held in omega arith
