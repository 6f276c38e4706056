-- The core when the blocks that were made of a superblock come into a cache.
use Rattle.std.proofs.Common.{◌≡◌, ◌≢◌, ℕ, zero, suc, ◌<◌, ◌≤◌, ◌↔◌, inl, inr, Bool, true, nat_lt, List, [], get_or, set, length, refl, ap, ap₂, sym, subst, ◌∙◌, length-set, arith}
use Rattle.std.proofs.lemmas.Bool.{cases_lt}
use Rattle.std.specs.Prelude.{Vec, Option}
use Rattle.std.specs.declared.alloc.Global.{Global}
use Rattle.std.specs.Vec.{with_item}
use Rattle.heap_model.specs.Chains.{Walks}
use Rattle.heap_model.specs.Geometry.{lists, start_word}
use Rattle.heap_model.specs.Sizes.{IsClass, words_of_class, blocks_of, last_class}
use Rattle.heap_model.specs.Counting.{times, total, without}
use Rattle.heap_model.proofs.SizeLemmas.{four_blocks}
use Rattle.crash_core.specs.declared.owners.BlockPlace.TheVariants as place
use Rattle.crash_core.specs.declared.owners.BlockOwner.{BlockOwner}
use Rattle.seat_state.specs.declared.notes.SeatNotes.{SeatNotes}
use Rattle.seat_state.specs.declared.notes.Seen.{Seen}
use Rattle.seat_state.specs.declared.superblocks.SuperblockUsage.{SuperblockUsage}
use Rattle.seat_state.specs.declared.superblocks.SuperblockUsage.TheVariants as usage
use Rattle.seat_state.specs.declared.superblocks.SuperblockOwner.{SuperblockOwner}
use Rattle.crash_core.specs.declared.state.CoreState.{CoreState}
use Rattle.core_model.specs.Memory.{used, durable_used, durable_info, info, next, memory_of}
use Rattle.core_model.specs.View.{Setup, View, Claim, Span, of_class, times_block, times_raw}
use Rattle.core_model.specs.Effects.{chain, steps, first_of, class_blocks, cleared}
use Rattle.core_model.specs.ViewAfter.{after_cut}
use Rattle.core_model.specs.Guards.{MayCut}
use Rattle.core_model.specs.Sound.{tally_of, times_cut, IsCutBlock, Good}
use Rattle.seat_state.specs.Superblocks.{usage_for, no_superblock, cutting_in, IsUsage, HasSuperblocks}
use Rattle.seat_state.specs.Notes.{HasCaches, snapshot}
use Rattle.crash_core.specs.Standing.{IsSeatAt, HasBlocksOf, HasNewOwner, IsKept, IsCore, KeepsViews, IsMoved, Decides, memory_at}
use Rattle.core_model.proofs.TotalLemmas.{total_at}
use Rattle.heap_model.proofs.ListLemmas.{one_at_most, without_at}
use Rattle.core_model.proofs.CountLemmas.{length_steps, block_once}
use Rattle.core_model.proofs.BlockLemmas.{superblock_is}
use Rattle.core_model.proofs.RangeLemmas.{block_of}
use Rattle.crash_core.proofs.StandingLemmas.{among, memory_in}
use Rattle.seat_state.proofs.UsageLemmas.{usages_mine, usages_theirs, usage_alone}
use Rattle.seat_state.proofs.CountLemmas.{without_off}
use Rattle.seat_state.proofs.NewSeat.{no_cache}
use Rattle.crash_core.proofs.ChainSteps.{chain_is, block_fits, none_of, caches_given, blocks_given, blocks_theirs}
use Rattle.seat_state.proofs.WordLemmas.{entry_is, entry_there}

-- a superblock whose blocks were made is given up
cut_given_up : (owners : List SuperblockOwner) (i d : ℕ) (raw split cutting : List ℕ) (classed : List Claim) (large : List Span)
    → d < length owners → 0 < times d cutting
    → HasSuperblocks owners i raw split cutting classed large
    → HasSuperblocks (set owners d (record { seat = i; usage = usage.Nothing })) i raw split (without d cutting) classed large
cut_given_up owners i d raw split cutting classed large less some old =
    usages_mine owners i d usage.Nothing (λ e y. IsUsage e y raw split (without d cutting) classed large) less
    (gone (usage_for i (get_or owners d no_superblock)) (old d))
    (λ e other. let o = old e in record {
      is_raw = o.is_raw;
      is_split = o.is_split;
      is_cutting = without_off e d cutting other ∙ o.is_cutting;
      is_classed = o.is_classed;
      class = o.class;
      is_large = o.is_large;
      count = o.count;
    }) where
      gone : (x : SuperblockUsage) → IsUsage d x raw split cutting classed large → IsUsage d usage.Nothing raw split (without d cutting) classed large
      gone usage.Nothing o = absurd (let a = o.is_cutting in omega arith)
      gone usage.Raw o = absurd (let a = o.is_cutting in omega arith)
      gone usage.Split o = absurd (let a = o.is_cutting in omega arith)
      gone usage.Cutting o = record {
        is_raw = o.is_raw;
        is_split = o.is_split;
        is_cutting = without_at d cutting (let a = o.is_cutting in omega arith);
        is_classed = o.is_classed;
        class = o.class;
        is_large = o.is_large;
        count = o.count;
      }
      gone (usage.Classed class) o = absurd (let a = o.is_cutting in omega arith)
      gone (usage.Large count) o = absurd (let a = o.is_cutting in omega arith)

module _ (c : CoreState) (k : Setup) (views : List View) (i : ℕ) (v : View) (t : SeatNotes) (keeps : KeepsViews c k views)
    (below : i < length views) (at : get_or views i v ≡ v)
    (at_t : IsSeatAt c i t) (d : ℕ) where
  kept : IsKept c i t v
  kept = keeps.each i t v below at_t at

  good : Good k (memory_in c k) views
  good = keeps.sound.good

  same : memory_at c ≡ memory_in c k
  same = ap (λ n. memory_of n c.words.items) (sym keeps.capacity)

  cap : v.setup.capacity ≡ k.capacity
  cap = ap (λ (s : Setup). s.capacity) (good.set_up i v below at).setup

  s : IsUsage d (usage_for i (get_or c.superblocks.items d no_superblock)) v.raw v.split v.cutting v.classed v.large
  s = kept.superblocks d

  pub cut_unclaimed : cutting_in (usage_for i (get_or c.superblocks.items d no_superblock)) ≡ 0 → MayCut (memory_in c k) v d → ⊥
  cut_unclaimed none may = let g = may.cutting in let f = s.is_cutting in omega arith

  module _ (class : ℕ) (class_is : class ≡ info (memory_at c) d) where
    now : info (memory_in c k) d ≡ class
    now = ap (λ m. info m d) (sym same) ∙ sym class_is

    module _ (some : 1 ≤ class) (last : class ≤ last_class) where
      is : IsClass class
      is = record { some = some; last = last }

      less : class < lists
      less = omega arith

      count_is : length (of_class v.caches class) ≡ (get_or t.caches class no_cache).count
      count_is = kept.caches.count class (get_or t.caches class no_cache)
          (entry_is t.caches class (get_or t.caches class no_cache) no_cache (let l = kept.caches.long in let n = less in omega arith)) less

      pub cut_cached : (get_or t.caches class no_cache).count ≢ 0 → MayCut (memory_in c k) v d → ⊥
      cut_cached other may = other (sym count_is ∙ ap length (ap (of_class v.caches) (sym now) ∙ may.uncached))

      walks_are : Walks (next (memory_at c)) (start_word c.geometry.capacity d) (class_blocks c.geometry.capacity class d)
          ≡ Walks (next (memory_in c k)) (start_word v.setup.capacity d) (class_blocks v.setup.capacity (info (memory_in c k) d) d)
      walks_are = ap₂ (λ m n. Walks (next m) (start_word n d) (class_blocks n class d)) same (sym keeps.capacity ∙ sym cap)
          ∙ ap (λ x. Walks (next (memory_in c k)) (start_word v.setup.capacity d) (class_blocks v.setup.capacity x d)) (sym now)

      pub cut_decided : 0 < cutting_in (usage_for i (get_or c.superblocks.items d no_superblock)) → (mark held : ℕ)
          → mark ≡ durable_used (memory_at c) → d < mark → held ≡ durable_info (memory_at c) d → held ≡ class
          → (get_or t.caches class no_cache).count ≡ 0 → (answer : Bool)
          → (answer ≡ true) ↔ Walks (next (memory_at c)) (start_word c.geometry.capacity d) (class_blocks c.geometry.capacity class d)
          → (answer ≡ true) ↔ MayCut (memory_in c k) v d
      cut_decided cutting mark held mark_is durable held_is held_same none answer linked = (
        λ e. record {
          cutting = (let f = s.is_cutting in omega arith);
          class = subst IsClass (sym now) is;
          durable_class = ap (λ m. durable_info m d) (sym same) ∙ sym held_is ∙ held_same ∙ sym now;
          durable = (let e2 : durable_used (memory_in c k) ≡ mark = ap durable_used (sym same) ∙ sym mark_is in omega arith);
          linked = subst (λ (T : Type 0). T) walks_are (linked.0 e);
          uncached = subst (λ n. of_class v.caches n ≡ []) (sym now) (none_of (of_class v.caches class) (count_is ∙ none));
        },
        λ may. linked.1 (subst (λ (T : Type 0). T) (sym walks_are) may.linked),
      )

    module _ (may : MayCut (memory_in c k) v d) where
      pub cut_class : IsClass class
      cut_class = subst IsClass now may.class

      pub d_less : d < k.capacity
      d_less = let l = may.durable in let q = good.shaped.durable.behind in let r = good.shaped.durable.room in omega arith

      less_class : class < lists
      less_class = let l = cut_class.last in omega arith

      abbrev cs : List ℕ
      cs = class_blocks k.capacity class d

      blocks_are : class_blocks v.setup.capacity (info (memory_in c k) d) d ≡ cs
      blocks_are = ap₂ (λ n x. class_blocks n x d) cap now

      walks : Walks (next (memory_in c k)) (start_word k.capacity d) cs
      walks = subst (λ n. Walks (next (memory_in c k)) (start_word n d) (class_blocks n class d)) cap
          (subst (λ x. Walks (next (memory_in c k)) (start_word v.setup.capacity d) (class_blocks v.setup.capacity x d)) now may.linked)

      in_block : (b : ℕ) → 0 < times b cs → IsCutBlock k.capacity class d b
      in_block b some = block_of k.capacity class d b some

      not_cut : times_cut good.shape (tally_of views) d ≡ 0
      not_cut = let some = may.cutting in let tot = total_at (times_raw d) views i v below at in let p = good.shaped.placed.one_place d in
          let most = one_at_most (nat_lt d (used (memory_in c k))) in omega arith

      free : (b : ℕ) → 0 < times b cs → (times b cs ≡ 1) × (total (times_block b) views ≡ 0)
      free b some = (
        block_once k.capacity class d b cut_class (in_block b some),
        elim (cases_lt 0 (total (times_block b) views)) as (λ _. total (times_block b) views ≡ 0) [
          | inl there ↦ absurd (let x = (good.shaped.chained.inside b there).0 in let n = not_cut in
              let e = ap (times_cut good.shape (tally_of views)) (superblock_is k.capacity class d b cut_class (in_block b some)) in omega arith)
          | inr none ↦ omega arith
        ],
      )

      pub whole : (first count : ℕ) → first ≡ start_word c.geometry.capacity d → count ≡ blocks_of class
          → (first ≡ start_word k.capacity d) × (count ≡ length cs) × (chain (λ n. get_or c.words.items n 0) first count ≡ cs)
      whole first count first_is count_is = (
        first_from,
        count_all,
        ap₂ (chain (λ n. get_or c.words.items n 0)) first_from count_all
            ∙ chain_is c k views keeps class d (start_word k.capacity d) cs cut_class d_less in_block walks,
      ) where
        first_from : first ≡ start_word k.capacity d
        first_from = first_is ∙ ap (λ n. start_word n d) (sym keeps.capacity)

        count_all : count ≡ length cs
        count_all = count_is ∙ sym (length_steps (start_word k.capacity d) (words_of_class class) (blocks_of class))

      pub inside : (first count : ℕ) → first ≡ start_word c.geometry.capacity d → count ≡ blocks_of class
          → (b : ℕ) → 0 < times b (chain (λ n. get_or c.words.items n 0) first count) → (b < length c.blocks.items) × (b < length c.words.items)
      inside first count first_is count_is b there = block_fits c k views keeps class d b cut_class d_less
          (in_block b (subst (λ xs. 0 < times b xs) (whole first count first_is count_is).2 there))

      pub cut : (first count : ℕ) → first ≡ start_word c.geometry.capacity d → count ≡ blocks_of class → (blocks : Vec BlockOwner Global)
          → HasNewOwner c.blocks.items blocks.items (chain (λ n. get_or c.words.items n 0) first count) (record { seat = i; place = place.Cached })
          → (anchor : Option Seen) → snapshot anchor ≡ cleared d 1 (snapshot t.seen_anchor)
          → IsMoved c (record c {
            blocks = blocks;
            superblocks = with_item c.superblocks d (record { seat = i; usage = usage.Nothing });
            seats = with_item c.seats i (record t { caches = set t.caches class (record { first = first; count = count }); seen_anchor = anchor });
          }) views i t (after_cut (memory_in c k) v d)
      cut first count first_is count_is blocks given anchor anchor_is = record {
        after = record t { caches = set t.caches class (record { first = first; count = count }); seen_anchor = anchor };
        seats = refl;
        ticket = refl;
        stopped = refl;
        words = refl;
        geometry = refl;
        budget = refl;
        carriers = refl;
        blocks = given.long;
        superblocks = length-set c.superblocks.items d (record { seat = i; usage = usage.Nothing });
        roots = refl;
        mine = record {
          notes = (let n = kept.notes in record {
            ticket = n.ticket;
            stopped = n.stopped;
            seen_used = n.seen_used;
            seen_head = n.seen_head;
            seen_link = n.seen_link;
            seen_anchor = ap (cleared d 1) n.seen_anchor ∙ sym anchor_is;
          });
          caches = subst (HasCaches (set t.caches class (record { first = first; count = count }))) (sym caches_are)
              (caches_given c k views i v t keeps below at at_t class less_class cs empty free first count (first_step ∙ sym w.0) (sym w.1));
          batch = kept.batch;
          blocks = subst (λ l. HasBlocksOf blocks.items i v.small l v.batch.blocks) (sym caches_are)
              (blocks_given c k views i v t keeps below at at_t class less_class cs empty free blocks.items given_cs);
          superblocks = cut_given_up c.superblocks.items i d v.raw v.split v.cutting v.classed v.large long may.cutting kept.superblocks;
          roots = kept.roots;
        };
        others = λ j r u other most h. record {
          notes = h.notes;
          caches = h.caches;
          batch = h.batch;
          blocks = blocks_theirs c k views i v t keeps below at at_t class less_class cs empty free blocks.items given_cs j r u other most h;
          superblocks = usages_theirs c.superblocks.items i j d usage.Nothing
              (λ e y. IsUsage e y u.raw u.split u.cutting u.classed u.large) long other
              (usage_alone i j (get_or c.superblocks.items d no_superblock) other mine_usage) h.superblocks;
          roots = h.roots;
        };
      } where
        w : (first ≡ start_word k.capacity d) × (count ≡ length cs) × (chain (λ n. get_or c.words.items n 0) first count ≡ cs)
        w = whole first count first_is count_is

        given_cs : HasNewOwner c.blocks.items blocks.items cs (record { seat = i; place = place.Cached })
        given_cs = subst (λ xs. HasNewOwner c.blocks.items blocks.items xs (record { seat = i; place = place.Cached })) w.2 given

        empty : of_class v.caches class ≡ []
        empty = ap (of_class v.caches) (sym now) ∙ may.uncached

        caches_are : set v.caches (info (memory_in c k) d) (class_blocks v.setup.capacity (info (memory_in c k) d) d) ≡ set v.caches class cs
        caches_are = ap₂ (set v.caches) now blocks_are

        long : d < length c.superblocks.items
        long = let l = d_less in let n = keeps.superblocks in omega arith

        mine_usage : usage_for i (get_or c.superblocks.items d no_superblock) ≡ usage.Nothing → ⊥
        mine_usage none = let g = may.cutting in let f = s.is_cutting in let z = ap cutting_in none in omega arith

        first_step : first_of cs ≡ start_word k.capacity d
        first_step = first_steps (start_word k.capacity d) (words_of_class class) (blocks_of class) (let four = four_blocks class cut_class in
            omega arith) where
              first_steps : (from apart n : ℕ) → 0 < n → first_of (steps from apart n) ≡ from
              first_steps from apart zero some = absurd (omega arith)
              first_steps from apart (suc n) some = refl

-- what fits when the blocks come into the cache
pub record CutFits (c : CoreState) (d class : ℕ) : Type 0 where
  pub is_class : IsClass class
  pub below : d < c.geometry.capacity
  pub inside : (first count : ℕ) → first ≡ start_word c.geometry.capacity d → count ≡ blocks_of class
      → (b : ℕ) → 0 < times b (chain (λ n. get_or c.words.items n 0) first count) → (b < length c.blocks.items) × (b < length c.words.items)

pub cut_below : (c : CoreState) (i d : ℕ) → IsCore c → i < length c.seats.items → Decides c i (λ m v. MayCut m v d) true → d < c.geometry.capacity
cut_below c i d core less decides =
    let below : i < length core.views = among core.keeps less in
    let here = entry_there core.views i below in
    let may = (decides core.setup core.views here.0 core.keeps below here.1).0 refl in
    let l = may.durable in let q = core.keeps.sound.good.shaped.durable.behind in let r = core.keeps.sound.good.shaped.durable.room in
    let g = core.keeps.capacity in omega arith

pub cut_fits : (c : CoreState) (i d : ℕ) (t : SeatNotes) (class : ℕ) → IsCore c → i < length c.seats.items → IsSeatAt c i t
    → Decides c i (λ m v. MayCut m v d) true → class ≡ info (memory_at c) d → CutFits c d class
cut_fits c i d t class core less at_t decides class_is =
    let below : i < length core.views = among core.keeps less in
    let here = entry_there core.views i below in
    let may = (decides core.setup core.views here.0 core.keeps below here.1).0 refl in record {
      is_class = cut_class c core.setup core.views i here.0 t core.keeps below here.1 at_t d class class_is may;
      below = cut_below c i d core less decides;
      inside = inside c core.setup core.views i here.0 t core.keeps below here.1 at_t d class class_is may;
    }
