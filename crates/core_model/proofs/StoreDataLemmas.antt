-- A store to a word of an own block.
use Rattle.std.proofs.Common.{◌≡◌, ◌≢◌, ℕ, ◌+◌, ◌*◌, ◌<◌, ◌≤◌, inl, inr, nat_lt, List, get_or, set, length, refl, ap, sym, subst, ◌∙◌, arith}
use Rattle.std.proofs.lemmas.Bool.{cases_lt}
use Rattle.heap_model.specs.Geometry.{start_word, superblock_of}
use Rattle.heap_model.specs.Sizes.{words_of_class}
use Rattle.heap_model.specs.Words.{anchor_first}
use Rattle.heap_model.specs.Counting.{times}
use Rattle.heap_model.proofs.SizeLemmas.{two_words}
use Rattle.core_model.specs.Cells.{data_cell, cell_at}
use Rattle.core_model.specs.Memory.{Memory, volatile_at, used, anchor, info, next, write}
use Rattle.core_model.specs.View.{Setup, View, of_class, times_raw, times_classed, times_large, times_block}
use Rattle.core_model.specs.Effects.{first_of, stored}
use Rattle.core_model.specs.Guards.{IsThere, IsOwn, MayChangeWord}
use Rattle.core_model.specs.Sound.{tally_of, IsInShape, IsCutBlock, times_parked, times_cut, empties, Good}
use Rattle.core_model.proofs.TotalLemmas.{total_same, total_at}
use Rattle.core_model.proofs.EventStepLemmas.{IsSeat, good_step, adds_step}
use Rattle.core_model.proofs.QuietLemmas.{done_tickets}
use Rattle.core_model.proofs.OwnLemmas.{own_equal}
use Rattle.heap_model.proofs.ListLemmas.{one_at_most}
use Rattle.core_model.proofs.BlockLemmas.{superblock_is}
use Rattle.core_model.proofs.OwnerLemmas.{in_lists_total, one_owner, covered, same_block, own_first, in_blocks}
use Rattle.core_model.proofs.LinkFrameLemmas.{walks_frame, walks_last}
use Rattle.core_model.proofs.StoreLemmas

module _ (k : Setup) (m : Memory) (views : List View) (i : ℕ) (v : View) (below_i : i < length views) (at : get_or views i v ≡ v)
    (good : Good k m views) (ticket : IsThere v.ticket) (word value : ℕ) where
  abbrev seat : IsSeat k m good.shape v
  seat = StoreLemmas.seat k m views i v below_i at good ticket word value

  abbrev cap : v.setup.capacity ≡ k.capacity
  cap = StoreLemmas.cap k m views i v below_i at good ticket word value

  abbrev base : View
  base = StoreLemmas.base k m views i v below_i at good ticket word value

  -- to a word of a block, or of a superblock without a class
  pub store_data : (at_word : ℕ) → cell_at v.setup.capacity word ≡ data_cell at_word → IsOwn v (data_cell at_word) → MayChangeWord v at_word
      → Good k (write m (volatile_at (data_cell at_word)) value) (set views i (stored base (data_cell at_word) value))
  store_data n is own may = good_step k m m2 views i v w good good.shape below_i at
      (subst (IsInShape k.capacity m2 good.shape) (sym tally) (let s = good.shaped in record {
        lists = s.lists;
        placed = s.placed;
        untaken = record { blank = λ e past below_c. let b = s.untaken.blank e past below_c in record { volatile = b.volatile; durable = b.durable } };
        listed = s.listed;
        chained = (let c = s.chained in record {
          is_class = c.is_class;
          owned = c.owned;
          chained = c.chained;
          inside = c.inside;
          anchored = λ e some. let a = c.anchored e some in record {
            walks = walks_frame (next m) n value (start_word k.capacity e + anchor_first (anchor m e) * words_of_class (info m e))
                (good.shape.chains e) (not_chained e some) a.walks;
            count = a.count;
            empty = a.empty;
            full = a.full;
            partial = a.partial;
          };
        });
        durable = s.durable;
      }))
      (record {
        set_up = (let s = StoreLemmas.set_up_now k m views i v below_i at good ticket word value in record {
          setup = s.setup;
          roots = s.roots;
          small = s.small;
          caches = s.caches;
          looks = s.looks;
          volatile = s.volatile;
          durable = s.durable;
        });
        claims = seat.claims;
        blocks = (let s = seat.blocks in record {
          held = s.held;
          cached = s.cached;
          batched = s.batched;
          cache_linked = λ class. walks_frame (next m) n value (first_of (of_class v.caches class)) (of_class v.caches class) (not_cached class)
              (s.cache_linked class);
          batch_linked = elim may.in_batch [
            | inl apart ↦ walks_frame (next m) n value (first_of v.batch.blocks) v.batch.blocks apart s.batch_linked
            | inr last ↦ walks_last (next m) n value (first_of v.batch.blocks) v.batch.blocks last once s.batch_linked
          ];
        });
        knows = (let s = seat.knows in record {
          seen_head = s.seen_head;
          seen_used = s.seen_used;
          looked = s.looked;
          seen_anchor = s.seen_anchor;
          seen_empty = s.seen_empty;
          floor = s.floor;
        });
        words = StoreLemmas.words_now k m views i v below_i at good ticket word value (data_cell n) is own w refl refl (own_equal v w refl
            (λ d. refl) (λ d. refl) (λ d. refl));
        tickets = done_tickets k m views i v below_i at good ticket w refl refl refl refl refl refl (omega arith);
      })
      (λ j u other b a h. record {
        set_up = h.set_up;
        claims = h.claims;
        blocks = (let s = h.blocks in record {
          held = s.held;
          cached = s.cached;
          batched = s.batched;
          cache_linked = λ class. walks_frame (next m) n value (first_of (of_class u.caches class)) (of_class u.caches class)
              (none_of j u other b a (times n (of_class u.caches class)) (λ some. let t = in_lists_total n class u.caches some in omega arith))
              (s.cache_linked class);
          batch_linked = walks_frame (next m) n value (first_of u.batch.blocks) u.batch.blocks
              (none_of j u other b a (times n u.batch.blocks) (λ some. omega arith)) s.batch_linked;
        });
        knows = (let s = h.knows in record {
          seen_head = s.seen_head;
          seen_used = s.seen_used;
          looked = s.looked;
          seen_anchor = s.seen_anchor;
          seen_empty = s.seen_empty;
          floor = s.floor;
        });
        words = StoreLemmas.words_others k m views i v below_i at good ticket word value (data_cell n) is own j u other b a h.words;
        tickets = h.tickets;
      })
      (adds_step k m m2 views i v w below_i at good.adds refl refl refl refl (omega arith) (omega arith))
      (record { mine = omega arith; more = omega arith }) (λ j u other b a. omega arith)
      (let old = good.moves in let gives = total_same (λ (u : View). u.gives) views i v w below_i at refl in
      let moves = total_same (λ (u : View). u.moves) views i v w below_i at refl in
      let empty = ap (λ t. empties k.capacity (anchor m) (times_parked good.shape t)) tally in omega arith) where
        m2 : Memory
        m2 = write m (volatile_at (data_cell n)) value

        w : View
        w = stored base (data_cell n) value

        tally : tally_of (set views i w) ≡ tally_of views
        tally = λ j. record {
          raw = λ e. (total_same (times_raw e) views i v w below_i at refl) j;
          classed = λ e. (total_same (λ (x : View). times_classed e x.classed) views i v w below_i at refl) j;
          large = λ e. (total_same (λ (x : View). times_large e x.large) views i v w below_i at refl) j;
          blocks = λ b. (total_same (times_block b) views i v w below_i at refl) j;
        }

        not_cached : (class : ℕ) → times n (of_class v.caches class) ≡ 0
        not_cached class = elim (cases_lt 0 (times n (of_class v.caches class))) [
          | inl some ↦ absurd (let t = in_lists_total n class v.caches some in let none = may.uncached in omega arith)
          | inr none ↦ omega arith
        ]

        once : times n v.batch.blocks ≤ 1
        once = elim (cases_lt 0 (times n v.batch.blocks)) [
          | inl some ↦ let t = total_at (times_block n) views i v below_i at in let inside = good.shaped.chained.inside n (omega arith) in
              let one = good.shaped.chained.owned (superblock_of k.capacity n) n inside.0 inside.1 in omega arith
          | inr none ↦ omega arith
        ]

        -- no other seat has a block there
        none_of : (j : ℕ) (u : View) → j ≢ i → j < length views → get_or views j u ≡ u → (count : ℕ) → (0 < count → 0 < times_block n u) → count ≡ 0
        none_of j u other b a count some = elim (cases_lt 0 count) [
          | inl there ↦ absurd (let mine = own_first k m views good j u b a n (some there) in
              let none = one_owner k m views good i j v u other below_i at b a (data_cell n) own in omega arith)
          | inr none ↦ omega arith
        ]

        -- no chain has it
        not_chained : (e : ℕ) → 0 < times_cut good.shape (tally_of views) e → times n (good.shape.chains e) ≡ 0
        not_chained e cut = elim (cases_lt 0 (times n (good.shape.chains e))) [
          | inl there ↦ absurd (in_chain there)
          | inr none ↦ omega arith
        ] where
          in_chain : 0 < times n (good.shape.chains e) → ⊥
          in_chain there =
              let c = good.shaped.chained in
              let block = c.chained e n cut there in
              let is_class = c.is_class e cut in
              let here : superblock_of k.capacity n ≡ e = superblock_is k.capacity (info m e) e n is_class block in
              let two = two_words (info m e) is_class in
              elim (cases_lt 0 (in_blocks v n)) as (λ _. ⊥) [
                | inl some ↦
                    let b = covered k m views good i v below_i at n some in
                    let p = subst (λ d. IsCutBlock k.capacity b.1.class d b.0) here b.1.is in
                    let q : info m e ≡ b.1.class = ap (info m) (sym here) ∙ b.1.info_is in
                    let same : b.0 ≡ n = same_block k.capacity b.1.class e n b.0 n p
                    (subst (λ x. IsCutBlock k.capacity x e n) q block) b.1.from b.1.until (omega arith)
                    (subst (λ x. n < n + words_of_class x) q (omega arith)) in
                    let mine = subst (λ x. 0 < times_block x v) same b.1.owned in
                    let t = total_at (times_block n) views i v below_i at in
                    let one = c.owned e n cut block in omega (arith, there, mine, t, one)
                | inr none ↦
                    let whole = ap (λ c. times_large (superblock_of c n) v.large + times_raw (superblock_of c n) v) cap in
                    let whole_e = ap (λ x. times_large x v.large + times_raw x v) here in
                    let raw = total_at (times_raw e) views i v below_i at in
                    let large = total_at (λ (x : View). times_large e x.large) views i v below_i at in
                    let p = good.shaped.placed.one_place e in let most = one_at_most (nat_lt e (used m)) in
                    omega (arith, own, none, whole, whole_e, raw, large, p, most, cut)
              ]
