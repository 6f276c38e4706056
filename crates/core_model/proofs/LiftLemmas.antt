-- A lift keeps memory and seats fitting together: the first cached block goes behind the batch.
use Rattle.std.proofs.Common.{◌≡◌, ℕ, ◌+◌, ◌<◌, ◌≤◌, inl, inr, nat_lt, nat_le, ◌&&◌, List, [], ◌∷◌, ◌++◌, get_or, set, length, refl, ap, sym, subst, ◌∙◌, length-set, arith}
use Rattle.std.proofs.lemmas.Bool.{cases_eq, cases_lt}
use Rattle.heap_model.specs.Geometry.{superblock_of}
use Rattle.heap_model.specs.Sizes.{words_of_class}
use Rattle.heap_model.specs.Chains.{Walks}
use Rattle.heap_model.specs.Counting.{times, one_if}
use Rattle.core_model.specs.Memory.{Memory, anchor, info, next}
use Rattle.core_model.specs.View.{Setup, View, of_class, times_block, times_within}
use Rattle.core_model.specs.Effects.{first_of, last_of, rest_of}
use Rattle.core_model.specs.ViewAfter.{after_lift}
use Rattle.core_model.specs.Guards.{MayLift}
use Rattle.core_model.specs.Sound.{CoreShape, tally_of, IsInShape, HasBlocks, stale, times_parked, empties, Good}
use Rattle.core_model.proofs.TotalLemmas.{eq-eqb-one, ne-eqb-none}
use Rattle.heap_model.proofs.ListLemmas.{times_append}
use Rattle.core_model.proofs.EventStepLemmas.{IsSeat}
use Rattle.core_model.proofs.QuietLemmas.{counts}
use Rattle.core_model.proofs.OwnLemmas.{words_grow}
use Rattle.core_model.proofs.BlockLemmas.{walks_first, walks_append, after_last, of_class_same, of_class_other, total_lists, first_there}
use Rattle.core_model.proofs.OwnerLemmas.{in_blocks}
use Rattle.core_model.proofs.ClassListLemmas.{own_moved, first_rest, in_classes_set, within_append}
use Rattle.core_model.proofs.ShiftLemmas

module _ (k : Setup) (m : Memory) (views : List View) (i : ℕ) (v : View) (below_i : i < length views) (at : get_or views i v ≡ v)
    (good : Good k m views) where
  abbrev seat : IsSeat k m good.shape v
  seat = ShiftLemmas.seat k m views i v below_i at good

  abbrev shift_step : (w : View) (g : CoreShape) → g.lists ≡ good.shape.lists → IsInShape k.capacity m g (tally_of (set views i w)) → IsSeat k m g w
      → counts w ≡ counts v → w.ticket ≡ v.ticket → w.roots ≡ v.roots → w.losses ≡ v.losses → stale m w ≤ stale m v
      → empties k.capacity (anchor m) (times_parked g (tally_of (set views i w))) ≤ empties k.capacity (anchor m)
      (times_parked good.shape (tally_of views))
      → Good k m (set views i w)
  shift_step = ShiftLemmas.shift_step k m views i v below_i at good

  -- the first block of the cache goes behind the batch
  pub lift : (class : ℕ) → MayLift m v class → Good k m (set views i (after_lift v class))
  lift class may = shift_step w good.shape refl (subst (IsInShape k.capacity m good.shape) (sym tally) good.shaped)
      (let s = seat.set_up in record {
        set_up = record {
          setup = s.setup;
          roots = s.roots;
          small = s.small;
          caches = length-set v.caches class (rest_of cs) ∙ s.caches;
          looks = s.looks;
          volatile = s.volatile;
          durable = s.durable;
        };
        claims = seat.claims;
        blocks = blocks_now;
        knows = (let n = seat.knows in record {
          seen_head = n.seen_head;
          seen_used = n.seen_used;
          looked = n.looked;
          seen_anchor = λ there. elim (n.seen_anchor there) [
            | inl claimed ↦ inl claimed
            | inr batch ↦ inr (
              sym (may.behind batch.1).same
                  ∙ batch.0,
              counts_one v.batch.blocks b,
            )
          ];
          seen_empty = n.seen_empty;
          floor = n.floor;
        });
        words = words_grow k.capacity m v w refl refl (λ cell. let e = own_moved v w refl refl refl refl refl refl refl in_same cell in
            omega arith) seat.words;
        tickets = (let t = seat.tickets in record {
          ticket = t.ticket;
          last = t.last;
          used_look = t.used_look;
          head_looks = t.head_looks;
          counts = t.counts;
          state = t.state;
          looked_then = t.looked_then;
          gives = t.gives;
          cuts = t.cuts;
        });
      })
      refl refl refl refl (omega arith) (let e = ap (λ t. empties k.capacity (anchor m) (times_parked good.shape t)) tally in omega arith) where
        w : View
        w = after_lift v class

        cs : List ℕ
        cs = of_class v.caches class

        b : ℕ
        b = first_of (of_class v.caches class)

        fits : (class < length v.small) × (class < length v.caches)
        fits = ShiftLemmas.small_class k m views i v below_i at good class may.is_class

        is_cs : cs ≡ b ∷ rest_of cs
        is_cs = first_rest cs may.cached

        counts_one : (bs : List ℕ) (x : ℕ) → 1 ≤ length (bs ++ x ∷ [])
        counts_one [] x = omega arith
        counts_one (y ∷ bs) x = omega arith

        info_b : info m (superblock_of v.setup.capacity b) ≡ class
        info_b = seat.blocks.cached class b (let e = ap (times b) is_cs in let one = eq-eqb-one b b refl in omega arith)

        blocks_same : (x : ℕ) → times_block x w ≡ times_block x v
        blocks_same x = let c = total_lists x v.caches class (rest_of cs) fits.1 in let e = ap (times x) is_cs in
            let a = times_append x v.batch.blocks (b ∷ []) in omega arith

        -- the batch's own class, where it has blocks
        same_class : 1 ≤ length v.batch.blocks → v.batch.class ≡ class
        same_class some = let behind = may.behind some in let q = seat.blocks.batched (first_of v.batch.blocks) (first_there v.batch.blocks some) in
            sym q.1 ∙ ap (info m) behind.same ∙ info_b

        batch_within : (word : ℕ) → times_within (words_of_class class) word v.batch.blocks ≡ times_within
            (words_of_class v.batch.class) word v.batch.blocks
        batch_within word = elim (cases_lt 0 (length v.batch.blocks)) [
          | inl some ↦ ap (λ c. times_within (words_of_class c) word v.batch.blocks) (sym (same_class some))
          | inr none ↦ of_none v.batch.blocks none
        ] where
          of_none : (bs : List ℕ) → length bs ≤ 0 → times_within (words_of_class class) word bs ≡ times_within (words_of_class v.batch.class) word bs
          of_none [] e = refl
          of_none (x ∷ bs) e = absurd (omega arith)

        in_same : (word : ℕ) → in_blocks w word ≡ in_blocks v word
        in_same word = let c = in_classes_set word 0 class v.caches (rest_of cs) fits.1 in
            let e = ap (times_within (words_of_class (0 + class)) word) is_cs in
            let a = within_append (words_of_class class) word v.batch.blocks (b ∷ []) in let z = batch_within word in
            let same = ap (λ n. one_if (nat_le b word && nat_lt word (b + words_of_class n))) (let q : 0 + class ≡ class = omega arith in q) in
            omega arith

        tally : tally_of (set views i w) ≡ tally_of views
        tally = ShiftLemmas.moved k m views i v below_i at good w refl refl refl refl refl refl refl blocks_same

        blocks_now : HasBlocks v.setup.capacity (info m) (next m) v.small (set v.caches class (rest_of cs)) w.batch
        blocks_now = let s = seat.blocks in record {
          held = s.held;
          cached = λ n x some. elim (cases_eq n class) as (λ _. info m (superblock_of v.setup.capacity x) ≡ n) [
            | inl same ↦ s.cached class x (let e = ap (times x) (of_class_same v.caches class (rest_of cs) n same fits.1) in
                let z = ap (times x) is_cs in omega arith) ∙ sym same
            | inr other ↦ s.cached n x (let e = ap (times x) (of_class_other v.caches class (rest_of cs) n other) in omega arith)
          ];
          batched = λ x some. (
            elim (cases_lt 0 (times x v.batch.blocks)) as (λ _. superblock_of v.setup.capacity x ≡ superblock_of v.setup.capacity b) [
              | inl old ↦ (s.batched x old).0 ∙ (may.behind (some_count x v.batch.blocks old)).same
              | inr none ↦ ap (superblock_of v.setup.capacity) (sym (is_new b x (let a = times_append x v.batch.blocks (b ∷ []) in omega arith)))
            ],
            info_b,
          );
          cache_linked = λ n. elim (cases_eq n class) as (λ _. Walks (next m) (first_of (of_class (set v.caches class (rest_of cs)) n))
              (of_class (set v.caches class (rest_of cs)) n)) [
                | inl same ↦ subst (λ bs. Walks (next m) (first_of bs) bs) (sym (of_class_same v.caches class (rest_of cs) n same fits.1))
                    (rest_walks cs (s.cache_linked class))
                | inr other ↦ subst (λ bs. Walks (next m) (first_of bs) bs) (sym (of_class_other v.caches class (rest_of cs) n other)) (s.cache_linked n)
              ];
          batch_linked = behind_batch v.batch.blocks (λ some. (may.behind some).linked) s.batch_linked;
        } where
          rest_walks : (bs : List ℕ) → Walks (next m) (first_of bs) bs → Walks (next m) (first_of (rest_of bs)) (rest_of bs)
          rest_walks [] walk = tt
          rest_walks (x ∷ bs) walk = walks_first (next m) (next m x) bs walk.1

          some_count : (x : ℕ) (bs : List ℕ) → 0 < times x bs → 1 ≤ length bs
          some_count x [] some = absurd (omega arith)
          some_count x (y ∷ bs) some = omega arith

          is_new : (y x : ℕ) → 0 < times x (y ∷ []) → y ≡ x
          is_new y x some = elim (cases_eq y x) [ inl same ↦ same | inr other ↦ absurd (let n = ne-eqb-none y x other in omega arith) ]

          behind_batch : (bs : List ℕ) → (1 ≤ length bs → next m (last_of bs) ≡ b) → Walks (next m) (first_of bs) bs
              → Walks (next m) (first_of (bs ++ b ∷ [])) (bs ++ b ∷ [])
          behind_batch [] leads walk = (refl, tt)
          behind_batch (x ∷ bs) leads walk = walks_append (next m) x (x ∷ bs) (b ∷ []) walk (after_last (next m) x x bs walk ∙ leads (omega arith), tt)
