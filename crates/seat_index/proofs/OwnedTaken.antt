-- What a seat keeps to tell its own words, after it took the free blocks of a superblock into a cache.
use Rattle.std.proofs.Common.{◌≡◌, ℕ, ◌+◌, ◌*◌, ◌<◌, ◌≤◌, Bool, true, List, get_or, set, length, refl, ap, ap₂, sym, subst, ◌∙◌, length-set, Vec, Global, arith}
use Rattle.heap_model.specs.Geometry.{start_word, image_words, superblock_of}
use Rattle.heap_model.specs.Sizes.{IsClass, words_of_class, blocks_of}
use Rattle.heap_model.specs.Words.{anchor_state, anchor_first, anchor_count, full_state}
use Rattle.heap_model.specs.Counting.{times}
use Rattle.core_model.specs.declared.event.Event.TheVariants.{TakeAll}
use Rattle.core_model.specs.Memory.{Memory, memory_of, info, anchor, next}
use Rattle.core_model.specs.View.{View, of_class, times_classed}
use Rattle.core_model.specs.Effects.{seen_word, taken_all, claim_class, anchored_blocks, chain, first_of, without_claim}
use Rattle.core_model.specs.Sound.{Good, tally_of, times_cut, IsAnchoredBy, IsCutBlock}
use Rattle.core_model.proofs.BlockLemmas.{walks_chain, superblock_is, of_class_same}
use Rattle.core_model.proofs.CountLemmas.{chain_short}
use Rattle.core_model.proofs.TotalLemmas.{total_at}
use Rattle.seat_state.proofs.BlockRanges.{cut_range}
use Rattle.seat_index.specs.declared.owned.Ownership.{Ownership}
use Rattle.seat_index.specs.declared.owned.Ownership.TheVariants as ownership
use Rattle.seat_index.specs.declared.owned.Owned.{Owned}
use Rattle.seat_index.specs.declared.stacks.Stack.{Stack}
use Rattle.seat_index.specs.Stacks.{IsRestacked}
use Rattle.seat_index.specs.Owned.{parts_of, IsOwnership, IsMarking, AreClasses, HasOwned, times_had}
use Rattle.heap_table.specs.Plays.{IsEvent}
use Rattle.seat_index.proofs.BlockMarks.{marked_more, cached_times, cached_classes}
use Rattle.seat_index.proofs.ExchangeLemmas.{chain_length, chain_first, hit}
use Rattle.seat_index.proofs.OwnershipLemmas.{classed_ownerships}
use Rattle.seat_index.proofs.StackLemmas.{restacked}
use Rattle.seat_index.proofs.OwnedViews.{taken_below, class_kept}

-- the cache of the claim's class, once all free blocks were taken: the chain of the superblock
module _ (v w : View) (d found : ℕ) (event : IsEvent (TakeAll d) v found w) (same : found ≡ seen_word v.seen_anchor) where
  abbrev m0 : Memory
  m0 = memory_of v.setup.capacity event.before.words

  abbrev good0 : Good v.setup m0 event.before.views
  good0 = event.before.sound.good

  abbrev class : ℕ
  class = claim_class d v.classed

  abbrev pub taken_blocks : List ℕ
  taken_blocks = anchored_blocks m0 v.setup.capacity class d (seen_word v.seen_anchor)

  pub took : w ≡ taken_all m0 v d
  took = event.after ∙ hit found (seen_word v.seen_anchor) (taken_all m0 v d) _ same

  claim : IsClass class × (info m0 d ≡ class) × (anchor_state (anchor m0 d) < full_state)
  claim = (good0.claims event.before.seat v event.before.below event.before.at).is_classed d event.may.ready.claimed

  cut_d : 0 < times_cut good0.shape (tally_of event.before.views) d
  cut_d = let c = event.may.ready.claimed in let t = total_at (λ (u : View). times_classed d u.classed)
      event.before.views event.before.seat v event.before.below event.before.at in omega arith

  pub take_below : d < v.setup.capacity
  take_below = taken_below v event.before d (let c = event.may.ready.claimed in omega arith)

  anchored : IsAnchoredBy (next m0) v.setup.capacity class d (anchor m0 d) (good0.shape.chains d)
  anchored = subst (λ c. IsAnchoredBy (next m0) v.setup.capacity c d (anchor m0 d) (good0.shape.chains d)) claim.1
      (good0.shaped.chained.anchored d cut_d)

  blocks_are : taken_blocks ≡ good0.shape.chains d
  blocks_are = ap (λ a. chain (next m0) (start_word v.setup.capacity d + anchor_first a * words_of_class class) (anchor_count a)) (sym same
      ∙ event.found_is)
      ∙ ap (chain (next m0) (start_word v.setup.capacity d + anchor_first (anchor m0 d) * words_of_class class)) anchored.count
      ∙ walks_chain (next m0) (start_word v.setup.capacity d + anchor_first (anchor m0 d) * words_of_class class) (good0.shape.chains d) anchored.walks

  pub taken_cut : (b : ℕ) → 0 < times b taken_blocks → IsCutBlock v.setup.capacity class d b
  taken_cut b some = subst (λ c. IsCutBlock v.setup.capacity c d b) claim.1
      (good0.shaped.chained.chained d b cut_d (subst (λ l. 0 < times b l) blocks_are some))

  pub taken_of : (b : ℕ) → 0 < times b taken_blocks → superblock_of v.setup.capacity b ≡ d
  taken_of b some = superblock_is v.setup.capacity class d b claim.0 (taken_cut b some)

  pub took_caches : w.caches ≡ set v.caches class taken_blocks
  took_caches = ap (λ (u : View). u.caches) took

  less : class < length v.caches
  less = let l = (good0.set_up event.before.seat v event.before.below event.before.at).caches in let c = claim.0.last in omega arith

  pub cache_taken : of_class w.caches class ≡ taken_blocks
  cache_taken = ap (λ l. of_class l class) took_caches ∙ of_class_same v.caches class taken_blocks class refl less

  -- so many, from the first one on
  pub taken_count : (c count word : ℕ) → c ≡ class → count ≡ anchor_count word → seen_word v.seen_anchor ≡ word → count ≡ length (of_class w.caches c)
  taken_count c count word c_is count_is is = count_is ∙ ap anchor_count (sym is)
      ∙ sym (chain_length (next m0) _ (anchor_count (seen_word v.seen_anchor))) ∙ sym (ap length cache_taken)
      ∙ ap (λ n. length (of_class w.caches n)) (sym c_is)

  pub taken_first : (c first count word : ℕ) → c ≡ class → count ≡ anchor_count word → seen_word v.seen_anchor ≡ word
      → first ≡ start_word v.setup.capacity d + anchor_first word * words_of_class c → 1 ≤ count
      → first ≡ first_of (of_class w.caches c)
  taken_first c first count word c_is count_is is first_is some = first_is
      ∙ ap₂ (λ a n. start_word v.setup.capacity d + anchor_first a * words_of_class n) (sym is) c_is
      ∙ sym (chain_first (next m0) (start_word v.setup.capacity d + anchor_first (seen_word v.seen_anchor) * words_of_class class)
      (anchor_count (seen_word v.seen_anchor)) (let l = chain_length (next m0)
      (start_word v.setup.capacity d + anchor_first (seen_word v.seen_anchor) * words_of_class class)
      (anchor_count (seen_word v.seen_anchor)) in let e = ap anchor_count is in omega arith))
      ∙ sym (ap first_of cache_taken) ∙ ap (λ n. first_of (of_class w.caches n)) (sym c_is)

  -- all in the image
  pub taken_inside : (b : ℕ) → 0 < times b taken_blocks → b < image_words v.setup.capacity
  taken_inside b there = let inside = (cut_range v.setup.capacity class d b claim.0 take_below (taken_cut b there)).1 in omega arith

  -- no more than a superblock has
  pub taken_short : (c : ℕ) → c ≡ class → length (of_class w.caches c) ≤ blocks_of c
  taken_short c c_is = subst (λ n. length (of_class w.caches n) ≤ blocks_of n) (sym c_is)
      (subst (λ l. length l ≤ blocks_of class) (sym cache_taken) (chain_short v.setup.capacity class d taken_blocks claim.0 taken_cut once)) where
        once : (b : ℕ) → IsCutBlock v.setup.capacity class d b → times b taken_blocks ≤ 1
        once b is = subst (λ l. times b l ≤ 1) (sym blocks_are) (let o =
            good0.shaped.chained.owned d b cut_d (subst (λ n. IsCutBlock v.setup.capacity n d b) (sym claim.1) is) in omega arith)

  pub taken_owned : (o : Owned) (blocks : List Bool) (classes : Vec ℕ Global) (ownerships : Vec Ownership Global) (stacks : Vec Stack Global)
      → HasOwned o (parts_of v) → IsMarking o.blocks blocks taken_blocks true
      → classes.items ≡ set o.classes.items d class → ownerships.items ≡ set o.ownerships.items d ownership.Nothing
      → IsRestacked o.stacks.items stacks.items class (λ cache. taken_blocks)
      → HasOwned (record o { blocks = blocks; classes = classes; ownerships = ownerships; stacks = stacks }) (parts_of w)
  taken_owned o blocks classes ownerships stacks own marking classes_are ownerships_are r =
      subst (HasOwned (record o { blocks = blocks; classes = classes; ownerships = ownerships; stacks = stacks })) (sym (ap parts_of took)) (record {
        words_long = marking.long ∙ own.words_long;
        classes_long = ap length classes_are ∙ length-set o.classes.items d class ∙ own.classes_long;
        ownerships_long = ap length ownerships_are ∙ length-set o.ownerships.items d ownership.Nothing ∙ own.ownerships_long;
        roots_long = own.roots_long;
        blocks = marked_more o.blocks blocks (λ b. times_had b (parts_of v)) _ taken_blocks marking
            (cached_times (parts_of v) class d taken_blocks less event.may.ready.uncached) own.blocks;
        classes = (let a = cached_classes (parts_of v) class d taken_blocks less event.may.ready.uncached o.classes.items
            (let l = own.classes_long in let t = take_below in omega arith) taken_of same_class own.classes in
            subst (λ l. AreClasses l (record (parts_of v) { caches = set v.caches class taken_blocks; classed = without_claim d v.classed }))
            (sym classes_are) (record { held = a.held; cached = a.cached; batched = a.batched }));
        ownerships = (let a = classed_ownerships o.ownerships.items (parts_of v) d (let l = own.ownerships_long in let t = take_below in
            omega arith) event.may.ready.claimed own.ownerships in
            subst (λ l. (e : ℕ) → IsOwnership e (get_or l e ownership.Nothing)
            (record (parts_of v) { caches = set v.caches class taken_blocks; classed = without_claim d v.classed })) (sym ownerships_are)
            (λ e. let b = a e in record { unclassed = b.unclassed; is_classed = b.is_classed; class = b.class; is_large = b.is_large; count = b.count }));
        roots_are = own.roots_are;
        batch = own.batch;
        room = own.room;
        stacks = restacked o.stacks.items stacks.items v.caches class (λ cache. taken_blocks) own.stacks (let l = claim.0.last in omega arith) less r;
      }) where
        same_class : (b : ℕ) → 0 < times_had b (parts_of v) → superblock_of v.setup.capacity b ≡ d → get_or o.classes.items d 0 ≡ class
        same_class b had here = ap (λ n. get_or o.classes.items n 0) (sym here) ∙ class_kept v event.before o own b had ∙ ap (info m0) here ∙ claim.1
