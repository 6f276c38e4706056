-- Changes of a seat's parts that go with a draw: a block goes from the cache to the held ones, or back.
use Rattle.std.proofs.Common.{◌≡◌, ℕ, ◌+◌, ◌<◌, ◌≤◌, inl, inr, nat_eq, List, [], ◌∷◌, get_or, set, length, refl, ap, sym, subst, ◌∙◌, length-set, arith}
use Rattle.std.proofs.lemmas.Bool.{cases_eq, cases_lt}
use Rattle.heap_model.specs.Geometry.{superblock_of}
use Rattle.heap_model.specs.Sizes.{IsClass, words_of_class}
use Rattle.heap_model.specs.Chains.{Walks}
use Rattle.heap_model.specs.Counting.{times, one_if, without}
use Rattle.core_model.specs.Memory.{Memory, head, anchor, info, link, next}
use Rattle.core_model.specs.View.{Setup, View, one_if_some, of_class, times_raw, times_classed, times_large, times_block, times_within}
use Rattle.core_model.specs.Effects.{seen_word, seen_of, first_of, rest_of}
use Rattle.core_model.specs.ViewAfter.{after_alloc, after_free}
use Rattle.core_model.specs.Guards.{IsThere, MayAlloc, MayFree}
use Rattle.core_model.specs.Sound.{CoreShape, tally_of, IsInShape, HasBlocks, KnowsHead, stale, times_parked, empties, Good}
use Rattle.core_model.proofs.TotalLemmas.{total_same, ne-eqb-none}
use Rattle.core_model.proofs.FrameLemmas.{times_without}
use Rattle.core_model.proofs.EventStepLemmas.{IsSeat, seat_at, good_step, adds_step}
use Rattle.core_model.proofs.QuietLemmas.{Counts, counts}
use Rattle.core_model.proofs.OwnLemmas.{words_grow}
use Rattle.core_model.proofs.BlockLemmas.{walks_first, of_class_same, of_class_other, total_lists}
use Rattle.core_model.proofs.OwnerLemmas.{in_blocks}
use Rattle.core_model.proofs.ClassListLemmas.{own_moved, first_rest, in_classes_set, within_without}

module _ (k : Setup) (m : Memory) (views : List View) (i : ℕ) (v : View) (below_i : i < length views) (at : get_or views i v ≡ v)
    (good : Good k m views) where
  pub seat : IsSeat k m good.shape v
  seat = seat_at k m views good i v below_i at

  -- a change of the seat's parts alone
  pub shift_step : (w : View) (g : CoreShape) → g.lists ≡ good.shape.lists → IsInShape k.capacity m g (tally_of (set views i w)) → IsSeat k m g w
      → counts w ≡ counts v → w.ticket ≡ v.ticket → w.roots ≡ v.roots → w.losses ≡ v.losses → stale m w ≤ stale m v
      → empties k.capacity (anchor m) (times_parked g (tally_of (set views i w))) ≤ empties k.capacity (anchor m)
      (times_parked good.shape (tally_of views))
      → Good k m (set views i w)
  shift_step w g same_lists shaped mine kept ticket roots losses stales empty = good_step k m m views i v w good g below_i at shaped mine
      (λ j u other b a h. record {
        set_up = h.set_up;
        claims = h.claims;
        blocks = h.blocks;
        knows = (let s = h.knows in record {
          seen_head = subst (λ y. IsThere u.seen_head → KnowsHead k.capacity (head m) (link m) y (seen_of u.seen_head)
              (seen_word u.seen_head) u.seen_link) (sym same_lists) s.seen_head;
          seen_used = s.seen_used;
          looked = s.looked;
          seen_anchor = s.seen_anchor;
          seen_empty = s.seen_empty;
          floor = s.floor;
        });
        words = h.words;
        tickets = h.tickets;
      })
      (adds_step k m m views i v w below_i at good.adds refl (ap (λ (c : Counts). c.draws) kept) (ap (λ (c : Counts). c.stopped) kept) roots
      (let t = ap one_if_some ticket in omega arith) (let t = ap (λ (c : Counts). c.taken) kept in omega arith))
      (record { mine = omega arith; more = let e = ap (λ (c : Counts). c.wins) kept in omega arith })
      (λ j u other b a. let e = ap (λ (c : Counts). c.wins) kept in omega arith)
      (let old = good.moves in let g = total_same (λ (x : View). x.gives) views i v w below_i at (ap (λ (c : Counts). c.gives) kept) in
      let n = total_same (λ (x : View). x.moves) views i v w below_i at (ap (λ (c : Counts). c.moves) kept) in omega arith)

  -- blocks go from one place of the seat to another
  pub moved : (w : View) → w.setup ≡ v.setup → w.roots ≡ v.roots → w.raw ≡ v.raw → w.split ≡ v.split → w.cutting ≡ v.cutting → w.classed ≡ v.classed
      → w.large ≡ v.large
      → ((b : ℕ) → times_block b w ≡ times_block b v) → tally_of (set views i w) ≡ tally_of views
  moved w setup roots raw split cutting classed large blocks = λ j. record {
    raw = λ d. (total_same (times_raw d) views i v w below_i at (let a = ap (times d) raw in let b = ap (times d) split in
        let c = ap (times d) cutting in let e : times_raw d w ≡ times_raw d v = omega arith in e)) j;
    classed = λ d. (total_same (λ (x : View). times_classed d x.classed) views i v w below_i at (ap (times_classed d) classed)) j;
    large = λ d. (total_same (λ (x : View). times_large d x.large) views i v w below_i at (ap (times_large d) large)) j;
    blocks = λ b. (total_same (times_block b) views i v w below_i at (blocks b)) j;
  }

  pub small_class : (class : ℕ) → IsClass class → (class < length v.small) × (class < length v.caches)
  small_class class is = let a = seat.set_up.small in let b = seat.set_up.caches in let last = is.last in (omega arith, omega arith)

  -- a block is held
  pub alloc : (class : ℕ) → MayAlloc v class → Good k m (set views i (after_alloc v class))
  alloc class may = shift_step w good.shape refl (subst (IsInShape k.capacity m good.shape) (sym tally) good.shaped)
      (let s = seat.set_up in record {
        set_up = record {
          setup = s.setup;
          roots = s.roots;
          small = length-set v.small class (b ∷ of_class v.small class) ∙ s.small;
          caches = length-set v.caches class (rest_of cs) ∙ s.caches;
          looks = s.looks;
          volatile = s.volatile;
          durable = s.durable;
        };
        claims = seat.claims;
        blocks = blocks_now;
        knows = (let n = seat.knows in record {
          seen_head = n.seen_head;
          seen_used = n.seen_used;
          looked = n.looked;
          seen_anchor = n.seen_anchor;
          seen_empty = n.seen_empty;
          floor = n.floor;
        });
        words = words_grow k.capacity m v w refl refl (λ cell. let e = own_moved v w refl refl refl refl refl refl refl in_same cell in
            omega arith) seat.words;
        tickets = (let t = seat.tickets in record {
          ticket = t.ticket;
          last = t.last;
          used_look = t.used_look;
          head_looks = t.head_looks;
          counts = t.counts;
          state = t.state;
          looked_then = t.looked_then;
          gives = t.gives;
          cuts = t.cuts;
        });
      })
      refl refl refl refl (omega arith) (let e = ap (λ t. empties k.capacity (anchor m) (times_parked good.shape t)) tally in omega arith) where
        w : View
        w = after_alloc v class

        cs : List ℕ
        cs = of_class v.caches class

        b : ℕ
        b = first_of (of_class v.caches class)

        fits : (class < length v.small) × (class < length v.caches)
        fits = small_class class may.is_class

        is_cs : cs ≡ b ∷ rest_of cs
        is_cs = first_rest cs may.cached

        blocks_same : (x : ℕ) → times_block x w ≡ times_block x v
        blocks_same x = let s = total_lists x v.small class (b ∷ of_class v.small class) fits.0 in
            let c = total_lists x v.caches class (rest_of cs) fits.1 in let e = ap (times x) is_cs in omega arith

        in_same : (word : ℕ) → in_blocks w word ≡ in_blocks v word
        in_same word = let s = in_classes_set word 0 class v.small (b ∷ of_class v.small class) fits.0 in
            let c = in_classes_set word 0 class v.caches (rest_of cs) fits.1 in
            let e = ap (times_within (words_of_class (0 + class)) word) is_cs in omega arith

        tally : tally_of (set views i w) ≡ tally_of views
        tally = moved w refl refl refl refl refl refl refl blocks_same

        blocks_now : HasBlocks v.setup.capacity (info m) (next m) (set v.small class (b ∷ of_class v.small class))
            (set v.caches class (rest_of cs)) v.batch
        blocks_now = let s = seat.blocks in record {
          held = λ n x some. elim (cases_eq n class) as (λ _. info m (superblock_of v.setup.capacity x) ≡ n) [
            | inl same ↦ let e = ap (times x) (of_class_same v.small class (b ∷ of_class v.small class) n same fits.0) in
                elim (cases_lt 0 (times x (of_class v.small class))) [
                  | inl old ↦ s.held class x old ∙ sym same
                  | inr new ↦ s.cached class x (let z = ap (times x) is_cs in omega arith) ∙ sym same
                ]
            | inr other ↦ s.held n x (let e = ap (times x) (of_class_other v.small class (b ∷ of_class v.small class) n other) in omega arith)
          ];
          cached = λ n x some. elim (cases_eq n class) as (λ _. info m (superblock_of v.setup.capacity x) ≡ n) [
            | inl same ↦ s.cached class x (let e = ap (times x) (of_class_same v.caches class (rest_of cs) n same fits.1) in
                let z = ap (times x) is_cs in omega arith) ∙ sym same
            | inr other ↦ s.cached n x (let e = ap (times x) (of_class_other v.caches class (rest_of cs) n other) in omega arith)
          ];
          batched = s.batched;
          cache_linked = λ n. elim (cases_eq n class) as (λ _. Walks (next m) (first_of (of_class (set v.caches class (rest_of cs)) n))
              (of_class (set v.caches class (rest_of cs)) n)) [
                | inl same ↦ subst (λ bs. Walks (next m) (first_of bs) bs) (sym (of_class_same v.caches class (rest_of cs) n same fits.1))
                    (rest_walks cs (s.cache_linked class))
                | inr other ↦ subst (λ bs. Walks (next m) (first_of bs) bs) (sym (of_class_other v.caches class (rest_of cs) n other)) (s.cache_linked n)
              ];
          batch_linked = s.batch_linked;
        } where
          rest_walks : (bs : List ℕ) → Walks (next m) (first_of bs) bs → Walks (next m) (first_of (rest_of bs)) (rest_of bs)
          rest_walks [] walk = tt
          rest_walks (x ∷ bs) walk = walks_first (next m) (next m x) bs walk.1

  -- a held block goes to the cache
  pub free : (block : ℕ) → MayFree m v block → Good k m (set views i (after_free v (info m (superblock_of v.setup.capacity block)) block))
  free block may = shift_step w good.shape refl (subst (IsInShape k.capacity m good.shape) (sym tally) good.shaped)
      (let s = seat.set_up in record {
        set_up = record {
          setup = s.setup;
          roots = s.roots;
          small = length-set v.small class (without block (of_class v.small class)) ∙ s.small;
          caches = length-set v.caches class (block ∷ cs) ∙ s.caches;
          looks = s.looks;
          volatile = s.volatile;
          durable = s.durable;
        };
        claims = seat.claims;
        blocks = blocks_now;
        knows = (let n = seat.knows in record {
          seen_head = n.seen_head;
          seen_used = n.seen_used;
          looked = n.looked;
          seen_anchor = n.seen_anchor;
          seen_empty = n.seen_empty;
          floor = n.floor;
        });
        words = words_grow k.capacity m v w refl refl (λ cell. let e = own_moved v w refl refl refl refl refl refl refl in_same cell in
            omega arith) seat.words;
        tickets = (let t = seat.tickets in record {
          ticket = t.ticket;
          last = t.last;
          used_look = t.used_look;
          head_looks = t.head_looks;
          counts = t.counts;
          state = t.state;
          looked_then = t.looked_then;
          gives = t.gives;
          cuts = t.cuts;
        });
      })
      refl refl refl refl (omega arith) (let e = ap (λ t. empties k.capacity (anchor m) (times_parked good.shape t)) tally in omega arith) where
        class : ℕ
        class = info m (superblock_of v.setup.capacity block)

        w : View
        w = after_free v class block

        cs : List ℕ
        cs = of_class v.caches class

        fits : (class < length v.small) × (class < length v.caches)
        fits = small_class class may.is_class

        out : (x : ℕ) → times x (without block (of_class v.small class)) + one_if (nat_eq block x) ≡ times x (of_class v.small class)
        out x = times_without x block (of_class v.small class) may.held

        blocks_same : (x : ℕ) → times_block x w ≡ times_block x v
        blocks_same x = let s = total_lists x v.small class (without block (of_class v.small class)) fits.0 in
            let c = total_lists x v.caches class (block ∷ cs) fits.1 in let e = out x in omega arith

        in_same : (word : ℕ) → in_blocks w word ≡ in_blocks v word
        in_same word = let s = in_classes_set word 0 class v.small (without block (of_class v.small class)) fits.0 in
            let c = in_classes_set word 0 class v.caches (block ∷ cs) fits.1 in
            let e = within_without (words_of_class (0 + class)) word block (of_class v.small class) may.held in omega arith

        tally : tally_of (set views i w) ≡ tally_of views
        tally = moved w refl refl refl refl refl refl refl blocks_same

        blocks_now : HasBlocks v.setup.capacity (info m) (next m) (set v.small class (without block (of_class v.small class)))
            (set v.caches class (block ∷ cs)) v.batch
        blocks_now = let s = seat.blocks in record {
          held = λ n x some. elim (cases_eq n class) as (λ _. info m (superblock_of v.setup.capacity x) ≡ n) [
            | inl same ↦ s.held class x (let e = ap (times x) (of_class_same v.small class
                (without block (of_class v.small class)) n same fits.0) in let o = out x in omega arith) ∙ sym same
            | inr other ↦ s.held n x (let e = ap (times x) (of_class_other v.small class (without block (of_class v.small class)) n other) in
                omega arith)
          ];
          cached = λ n x some. elim (cases_eq n class) as (λ _. info m (superblock_of v.setup.capacity x) ≡ n) [
            | inl same ↦ let e = ap (times x) (of_class_same v.caches class (block ∷ cs) n same fits.1) in elim (cases_eq block x) [
              | inl here ↦ ap (λ y. info m (superblock_of v.setup.capacity y)) (sym here) ∙ sym same
              | inr apart ↦ s.cached class x (let z = ne-eqb-none block x apart in omega arith) ∙ sym same
            ]
            | inr other ↦ s.cached n x (let e = ap (times x) (of_class_other v.caches class (block ∷ cs) n other) in omega arith)
          ];
          batched = s.batched;
          cache_linked = λ n. elim (cases_eq n class) as (λ _. Walks (next m) (first_of (of_class (set v.caches class (block ∷ cs)) n))
              (of_class (set v.caches class (block ∷ cs)) n)) [
                | inl same ↦ subst (λ bs. Walks (next m) (first_of bs) bs) (sym (of_class_same v.caches class (block ∷ cs) n same fits.1))
                    (refl, in_front cs may.linked (s.cache_linked class))
                | inr other ↦ subst (λ bs. Walks (next m) (first_of bs) bs) (sym (of_class_other v.caches class (block ∷ cs) n other)) (s.cache_linked n)
              ];
          batch_linked = s.batch_linked;
        } where
          in_front : (bs : List ℕ) → (1 ≤ length bs → next m block ≡ first_of bs) → Walks (next m) (first_of bs) bs → Walks (next m) (next m block) bs
          in_front [] leads walk = tt
          in_front (x ∷ bs) leads walk = (leads (omega arith), walk.1)
