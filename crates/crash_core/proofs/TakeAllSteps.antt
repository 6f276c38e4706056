-- The core when all free blocks of a superblock come into a cache.
use Rattle.std.proofs.Common.{◌≡◌, ◌≢◌, ℕ, ◌+◌, ◌*◌, ◌%◌, ◌<◌, ◌≤◌, ◌↔◌, true, nat_eq, List, [], get_or, set, length, None, Some, refl, ap, ap₂, sym, subst, ◌∙◌, length-set, eq-eqb, eqb-true, arith}
use Rattle.std.specs.Prelude.{Vec}
use Rattle.std.specs.declared.alloc.Global.{Global}
use Rattle.std.specs.Vec.{with_item}
use Rattle.heap_model.specs.Geometry.{lists, start_word, anchor_word}
use Rattle.heap_model.specs.Sizes.{IsClass, words_of_class}
use Rattle.heap_model.specs.Counting.{times, total}
use Rattle.heap_model.specs.Words.{anchor_state, anchor_first, anchor_count, full_anchor}
use Rattle.core_model.specs.declared.answer.StepAnswer.TheVariants.{Done, NotNow}
use Rattle.core_model.specs.declared.event.Event.TheVariants.{TakeAll}
use Rattle.crash_core.specs.declared.owners.BlockPlace.TheVariants as place
use Rattle.crash_core.specs.declared.owners.BlockOwner.{BlockOwner}
use Rattle.seat_state.specs.declared.notes.SeatNotes.{SeatNotes}
use Rattle.seat_state.specs.declared.notes.Seen.{Seen}
use Rattle.seat_state.specs.declared.superblocks.SuperblockUsage.TheVariants as usage
use Rattle.crash_core.specs.declared.state.CoreState.{CoreState}
use Rattle.core_model.specs.Memory.{anchor, info, next, memory_of}
use Rattle.core_model.specs.View.{Setup, View, one_if_some, of_class, times_block, times_classed}
use Rattle.core_model.specs.Effects.{chain, seen_word, seen_of, claim_class, anchored_blocks, taken_all, lost}
use Rattle.core_model.specs.Guards.{IsThere, MayTakeAll}
use Rattle.core_model.specs.Sound.{tally_of, times_cut, IsAnchoredBy, IsCutBlock, Good}
use Rattle.core_model.specs.Steps.{seat_after}
use Rattle.seat_state.specs.Superblocks.{usage_for, no_superblock, classed_in, IsUsage}
use Rattle.seat_state.specs.Notes.{HasCaches}
use Rattle.crash_core.specs.Standing.{IsSeatAt, HasBlocksOf, HasNewOwner, IsKept, IsCore, KeepsViews, Steps, Decides, memory_at}
use Rattle.core_model.proofs.SoundLemmas.{taken}
use Rattle.core_model.proofs.PlaceLemmas.{pick}
use Rattle.core_model.proofs.BlockLemmas.{walks_chain}
use Rattle.core_model.proofs.TotalLemmas.{total_at}
use Rattle.crash_core.proofs.StandingLemmas.{among, step_done, step_not, memory_in}
use Rattle.seat_state.proofs.UsageLemmas.{usages_theirs, usage_alone}
use Rattle.crash_core.proofs.ClaimLemmas.{class_given_up}
use Rattle.crash_core.proofs.KeptFacts as facts
use Rattle.seat_state.proofs.NewSeat.{no_cache}
use Rattle.crash_core.proofs.ChainSteps.{chain_is, block_fits, none_of, walk_first, caches_given, blocks_given, blocks_theirs}
use Rattle.seat_state.proofs.WordLemmas.{entry_is, entry_there}

module _ (c : CoreState) (k : Setup) (views : List View) (i : ℕ) (v : View) (t : SeatNotes) (keeps : KeepsViews c k views)
    (below : i < length views) (at : get_or views i v ≡ v)
    (at_t : IsSeatAt c i t) (d : ℕ) where
  kept : IsKept c i t v
  kept = keeps.each i t v below at_t at

  pub good : Good k (memory_in c k) views
  good = keeps.sound.good

  same : memory_at c ≡ memory_in c k
  same = ap (λ n. memory_of n c.words.items) (sym keeps.capacity)

  pub take_beyond : c.geometry.capacity ≤ d → MayTakeAll v d → ⊥
  take_beyond past may = let l = taken k (memory_in c k) views i v below at good d (let g = may.claimed in omega arith) in
      let cap = keeps.capacity in omega arith

  pub take_unclaimed : classed_in (usage_for i (get_or c.superblocks.items d no_superblock)) ≡ 0 → MayTakeAll v d → ⊥
  take_unclaimed none may = let g = may.claimed in let f = (kept.superblocks d).is_classed in omega arith

  class_at : 0 < classed_in (usage_for i (get_or c.superblocks.items d no_superblock)) → (class : ℕ) → class ≡ info (memory_at c) d
      → IsClass class × (class ≡ claim_class d v.classed)
  class_at some class class_is = let claim = (good.claims i v below at).is_classed d (let f = (kept.superblocks d).is_classed in omega arith) in
      let is : class ≡ claim_class d v.classed = class_is ∙ ap (λ m. info m d) same ∙ claim.1 in (subst IsClass (sym is) claim.0, is)

  pub take_class : 0 < classed_in (usage_for i (get_or c.superblocks.items d no_superblock)) → (class : ℕ) → class ≡ info (memory_at c) d
      → class < lists
  take_class some class class_is = let l = (class_at some class class_is).0.last in omega arith

  module _ (word : Seen) (some : t.seen_anchor ≡ Some word) where
    saw : v.seen_anchor ≡ Some (record { of = word.of; word = word.word })
    saw = facts.saw_anchor c k views i v t keeps below at at_t word some

    pub take_other : word.of ≢ d → MayTakeAll v d → ⊥
    take_other other may = other (sym (ap seen_of saw) ∙ may.of)

    pub take_not_partial : anchor_state word.word ≢ 1 → MayTakeAll v d → ⊥
    take_not_partial other may = other (sym (ap (λ x. anchor_state (seen_word x)) saw) ∙ may.partial)

    pub take_decided : word.of ≡ d → anchor_state word.word ≡ 1 → 0 < classed_in (usage_for i (get_or c.superblocks.items d no_superblock))
        → (class : ℕ) → class ≡ info (memory_at c) d
        → (nat_eq (get_or t.caches class no_cache).count 0 ≡ true) ↔ MayTakeAll v d
    take_decided of partial claimed class class_is = (
      λ e. record {
        claimed = (let f = (kept.superblocks d).is_classed in omega arith);
        is_seen = ap one_if_some saw;
        of = ap seen_of saw ∙ of;
        partial = ap (λ x. anchor_state (seen_word x)) saw ∙ partial;
        uncached = subst (λ n. of_class v.caches n ≡ []) is.1 (none_of (of_class v.caches class) (count_is
            ∙ eqb-true (get_or t.caches class no_cache).count 0 e));
      },
      λ may. eq-eqb (get_or t.caches class no_cache).count 0 (sym count_is ∙ ap length (ap (of_class v.caches) is.1 ∙ may.uncached)),
    ) where
      is : IsClass class × (class ≡ claim_class d v.classed)
      is = class_at claimed class class_is

      less : class < lists
      less = let l = is.0.last in omega arith

      count_is : length (of_class v.caches class) ≡ (get_or t.caches class no_cache).count
      count_is = kept.caches.count class (get_or t.caches class no_cache)
          (entry_is t.caches class (get_or t.caches class no_cache) no_cache (let l = kept.caches.long in let n = less in omega arith)) less

    module _ (may : MayTakeAll v d) (found : ℕ) (found_is : found ≡ anchor (memory_at c) d) where
      now : anchor (memory_in c k) d ≡ found
      now = sym (found_is ∙ ap (λ m. anchor m d) same)

      pub lost_take_all : found ≢ word.word → Steps c c k views i v (TakeAll d) NotNow
      lost_take_all differs = step_not c k views i v (TakeAll d) (λ ready seen. differs (sym now ∙ seen ∙ ap seen_word saw))

      module _ (as_it_was : found ≡ word.word) (class : ℕ) (class_is : class ≡ info (memory_at c) d) where
        as_seen : anchor (memory_in c k) d ≡ seen_word v.seen_anchor
        as_seen = now ∙ as_it_was ∙ sym (ap seen_word saw)

        pub d_less : d < k.capacity
        d_less = taken k (memory_in c k) views i v below at good d (let g = may.claimed in omega arith)

        is : IsClass class × (class ≡ claim_class d v.classed)
        is = class_at (let g = may.claimed in let f = (kept.superblocks d).is_classed in omega arith) class class_is

        pub class_fits : IsClass class
        class_fits = is.0

        less : class < lists
        less = let l = is.0.last in omega arith

        abbrev cs : List ℕ
        cs = good.shape.chains d

        abbrev from : ℕ
        from = start_word k.capacity d + anchor_first (anchor (memory_in c k) d) * words_of_class class

        cut_d : 0 < times_cut good.shape (tally_of views) d
        cut_d = let g = may.claimed in let tot = total_at (λ (u : View). times_classed d u.classed) views i v below at in omega arith

        info_is : info (memory_in c k) d ≡ class
        info_is = ap (λ m. info m d) (sym same) ∙ sym class_is

        anchored : IsAnchoredBy (next (memory_in c k)) k.capacity class d (anchor (memory_in c k) d) cs
        anchored = subst (λ n. IsAnchoredBy (next (memory_in c k)) k.capacity n d (anchor (memory_in c k) d) cs) info_is
            (good.shaped.chained.anchored d cut_d)

        in_chain : (b : ℕ) → 0 < times b cs → IsCutBlock k.capacity class d b
        in_chain b there = subst (λ n. IsCutBlock k.capacity n d b) info_is (good.shaped.chained.chained d b cut_d there)

        free : (b : ℕ) → 0 < times b cs → (times b cs ≡ 1) × (total (times_block b) views ≡ 0)
        free b there = let o = good.shaped.chained.owned d b cut_d (good.shaped.chained.chained d b cut_d there) in (omega arith, omega arith)

        some_free : length cs ≢ 0
        some_free none = two_not (ap anchor_state (sym (anchored.full.1 none)) ∙ ap anchor_state as_seen ∙ may.partial) where
          two_not : 2 % 4 ≡ 1 → ⊥
          two_not e = omega (arith, e)

        -- what the core gives to the seat is the chain
        pub whole : (first count : ℕ) → first ≡ start_word c.geometry.capacity d + anchor_first found * words_of_class class
            → count ≡ anchor_count found
            → (first ≡ from) × (count ≡ length cs) × (chain (λ n. get_or c.words.items n 0) first count ≡ cs)
        whole first count first_is count_is = (
          first_from,
          count_all,
          ap₂ (chain (λ n. get_or c.words.items n 0)) first_from count_all
              ∙ chain_is c k views keeps class d from cs is.0 d_less in_chain anchored.walks,
        ) where
          first_from : first ≡ from
          first_from = first_is ∙ ap₂ (λ n a. start_word n d + anchor_first a * words_of_class class) (sym keeps.capacity) (sym now)

          count_all : count ≡ length cs
          count_all = count_is ∙ ap anchor_count (sym now) ∙ anchored.count

        pub inside : (first count : ℕ) → first ≡ start_word c.geometry.capacity d + anchor_first found * words_of_class class
            → count ≡ anchor_count found
            → (b : ℕ) → 0 < times b (chain (λ n. get_or c.words.items n 0) first count) → (b < length c.blocks.items) × (b < length c.words.items)
        inside first count first_is count_is b there = let w = (whole first count first_is count_is).2 in
            block_fits c k views keeps class d b is.0 d_less (in_chain b (subst (λ xs. 0 < times b xs) w there))

        caches_are : set v.caches (claim_class d v.classed) (anchored_blocks (memory_in c k) v.setup.capacity (claim_class d v.classed) d
            (seen_word v.seen_anchor)) ≡ set v.caches class cs
        caches_are = ap₂ (set v.caches) (sym is.1)
            (ap (λ n. chain (next (memory_in c k)) (start_word n d + anchor_first (seen_word v.seen_anchor) * words_of_class
            (claim_class d v.classed)) (anchor_count (seen_word v.seen_anchor))) (ap (λ (x : Setup). x.capacity) (good.set_up i v below at).setup)
            ∙ ap (λ a. chain (next (memory_in c k)) (start_word k.capacity d + anchor_first a * words_of_class (claim_class d v.classed))
            (anchor_count a)) (sym as_seen)
            ∙ ap (λ n. chain (next (memory_in c k)) (start_word k.capacity d + anchor_first (anchor (memory_in c k) d) * words_of_class n)
            (anchor_count (anchor (memory_in c k) d))) (sym is.1)
            ∙ ap (chain (next (memory_in c k)) from) anchored.count ∙ walks_chain (next (memory_in c k)) from cs anchored.walks)

        pub take_all : v.stopped ≡ None → IsThere v.ticket → (first count : ℕ)
            → first ≡ start_word c.geometry.capacity d + anchor_first found * words_of_class class → count ≡ anchor_count found
            → (blocks : Vec BlockOwner Global) → HasNewOwner c.blocks.items blocks.items (chain (λ n. get_or c.words.items n 0) first count)
            (record { seat = i; place = place.Cached })
            → (at_word full : ℕ) → at_word ≡ anchor_word d → full ≡ full_anchor
            → Steps c (record c {
              words = with_item c.words at_word full;
              blocks = blocks;
              superblocks = with_item c.superblocks d (record { seat = i; usage = usage.Nothing });
              seats = with_item c.seats i (record t {
                ticket = None;
                seen_anchor = None;
                caches = set t.caches class (record { first = first; count = count });
              });
            }) k views i v (TakeAll d) Done
        take_all going ticket first count first_is count_is blocks given at_word full here full_is =
            step_done c c' k views i v t t' (TakeAll d) keeps below at at_t going ticket may as_seen (ap (λ (y : View). y.stopped) seat_is ∙ going)
            (ap₂ (set c.words.items) here (full_is ∙ sym (pick (nat_eq (anchor (memory_in c k) d) (seen_word v.seen_anchor)) full_anchor
            (anchor (memory_in c k) d) test)))
            refl (record {
              capacity = refl;
              budget = refl;
              carriers = refl;
              blocks = given.long;
              superblocks = length-set c.superblocks.items d (record { seat = i; usage = usage.Nothing });
              roots = refl;
            })
            (subst (IsKept c' i t') (sym seat_is) (record {
              notes = (let n = kept.notes in record {
                ticket = refl;
                stopped = n.stopped;
                seen_used = n.seen_used;
                seen_head = n.seen_head;
                seen_link = n.seen_link;
                seen_anchor = refl;
              });
              caches = subst (HasCaches (set t.caches class (record { first = first; count = count }))) (sym caches_are)
                  (caches_given c k views i v t keeps below at at_t class less cs empty free first count
                  (walk_first (next (memory_in c k)) from cs some_free anchored.walks ∙ sym w.0) (sym w.1));
              batch = kept.batch;
              blocks = subst (λ l. HasBlocksOf blocks.items i v.small l v.batch.blocks) (sym caches_are)
                  (blocks_given c k views i v t keeps below at at_t class less cs empty free blocks.items given_cs);
              superblocks = class_given_up c.superblocks.items i d v.raw v.split v.cutting v.classed v.large long may.claimed kept.superblocks;
              roots = kept.roots;
            }))
            (λ j r u other most h. record {
              notes = h.notes;
              caches = h.caches;
              batch = h.batch;
              blocks = blocks_theirs c k views i v t keeps below at at_t class less cs empty free blocks.items given_cs j r u other most h;
              superblocks = usages_theirs c.superblocks.items i j d usage.Nothing
                  (λ e y. IsUsage e y u.raw u.split u.cutting u.classed u.large) long other
                  (usage_alone i j (get_or c.superblocks.items d no_superblock) other mine) h.superblocks;
              roots = h.roots;
            })
          where
            t' : SeatNotes
            t' = record t { ticket = None; seen_anchor = None; caches = set t.caches class (record { first = first; count = count }) }

            c' : CoreState
            c' = record c {
              words = with_item c.words at_word full;
              blocks = blocks;
              superblocks = with_item c.superblocks d (record { seat = i; usage = usage.Nothing });
              seats = with_item c.seats i t';
            }

            w : (first ≡ from) × (count ≡ length cs) × (chain (λ n. get_or c.words.items n 0) first count ≡ cs)
            w = whole first count first_is count_is

            given_cs : HasNewOwner c.blocks.items blocks.items cs (record { seat = i; place = place.Cached })
            given_cs = subst (λ xs. HasNewOwner c.blocks.items blocks.items xs (record { seat = i; place = place.Cached })) w.2 given

            empty : of_class v.caches class ≡ []
            empty = ap (of_class v.caches) is.1 ∙ may.uncached

            long : d < length c.superblocks.items
            long = let l = d_less in let n = keeps.superblocks in omega arith

            mine : usage_for i (get_or c.superblocks.items d no_superblock) ≡ usage.Nothing → ⊥
            mine none = let g = may.claimed in let f = (kept.superblocks d).is_classed in let z = ap classed_in none in omega arith

            test : nat_eq (anchor (memory_in c k) d) (seen_word v.seen_anchor) ≡ true
            test = eq-eqb (anchor (memory_in c k) d) (seen_word v.seen_anchor) as_seen

            seat_is : seat_after (memory_in c k) v (TakeAll d) ≡ taken_all (memory_in c k) v d
            seat_is = pick (nat_eq (anchor (memory_in c k) d) (seen_word v.seen_anchor)) (taken_all (memory_in c k) v d)
                (record (lost v (anchor (memory_in c k) d)) { seen_anchor = None }) test

-- what fits when the blocks are taken
pub record TakeFits (c : CoreState) (d found class : ℕ) : Type 0 where
  pub is_class : IsClass class
  pub inside : (first count : ℕ) → first ≡ start_word c.geometry.capacity d + anchor_first found * words_of_class class → count ≡ anchor_count found
      → (b : ℕ) → 0 < times b (chain (λ n. get_or c.words.items n 0) first count) → (b < length c.blocks.items) × (b < length c.words.items)

pub take_fits : (c : CoreState) (i d : ℕ) (t : SeatNotes) (word : Seen) (found class : ℕ) → IsCore c → i < length c.seats.items → IsSeatAt c i t
    → t.seen_anchor ≡ Some word → Decides c i (λ m v. MayTakeAll v d) true
    → found ≡ anchor (memory_at c) d → found ≡ word.word → class ≡ info (memory_at c) d → TakeFits c d found class
take_fits c i d t word found class core less at_t some decides found_is as_it_was class_is =
    let below : i < length core.views = among core.keeps less in
    let here = entry_there core.views i below in
    let may = (decides core.setup core.views here.0 core.keeps below here.1).0 refl in record {
      is_class = class_fits c core.setup core.views i here.0 t core.keeps below here.1 at_t d word some may found found_is as_it_was class class_is;
      inside = inside c core.setup core.views i here.0 t core.keeps below here.1 at_t d word some may found found_is as_it_was class class_is;
    }

-- the class fits where the claim has one
pub class_below : (c : CoreState) (i d : ℕ) (t : SeatNotes) (class : ℕ) → IsCore c → i < length c.seats.items → IsSeatAt c i t
    → 0 < classed_in (usage_for i (get_or c.superblocks.items d no_superblock)) → class ≡ info (memory_at c) d → class < lists
class_below c i d t class core less at_t some class_is =
    let below : i < length core.views = among core.keeps less in
    let here = entry_there core.views i below in take_class c core.setup core.views i here.0 t core.keeps below here.1 at_t d some class class_is
