-- A store to the info of a claimed superblock.
use Rattle.std.proofs.Common.{◌≡◌, ◌≢◌, ℕ, ◌+◌, ◌<◌, ◌≤◌, cond, nat_eq, List, get_or, set, length, refl, ap, sym, subst, ◌∙◌, arith}
use Rattle.heap_model.specs.Geometry.{superblock_of}
use Rattle.heap_model.specs.Sizes.{IsClass}
use Rattle.heap_model.specs.Counting.{times}
use Rattle.core_model.specs.Cells.{info_cell, cell_at}
use Rattle.core_model.specs.Memory.{Memory, volatile_at, used, anchor, info, next, write}
use Rattle.core_model.specs.View.{Setup, View, times_raw, times_classed, times_large, times_block}
use Rattle.core_model.specs.Effects.{span_count}
use Rattle.core_model.specs.Guards.{IsThere, IsOwn}
use Rattle.core_model.specs.Sound.{tally_of, IsInShape, IsCutBlock, IsAnchoredBy, ClaimsOf, BlocksOf, times_in_lists, times_parked, times_cut, empties, Good}
use Rattle.core_model.proofs.TotalLemmas.{total_same, total_at}
use Rattle.core_model.proofs.EventStepLemmas.{IsSeat, good_step, adds_step, tally_same}
use Rattle.core_model.proofs.QuietLemmas.{done_tickets}
use Rattle.core_model.proofs.OwnLemmas.{own_equal}
use Rattle.core_model.proofs.ListLemmas.{in_lists_at}
use Rattle.core_model.proofs.BlockLemmas.{at_other}
use Rattle.core_model.proofs.OwnerLemmas.{in_lists_total}
use Rattle.core_model.proofs.LinkFrameLemmas.{span_covers}
use Rattle.core_model.proofs.StoreLemmas

module _ (k : Setup) (m : Memory) (views : List View) (i : ℕ) (v : View) (below_i : i < length views) (at : get_or views i v ≡ v)
    (good : Good k m views) (ticket : IsThere v.ticket) (word value : ℕ) where
  abbrev seat : IsSeat k m good.shape v
  seat = StoreLemmas.seat k m views i v below_i at good ticket word value

  abbrev base : View
  base = StoreLemmas.base k m views i v below_i at good ticket word value

  abbrev raw_alone : (d : ℕ) → 0 < times_raw d v → (times_cut good.shape (tally_of views) d ≡ 0) × ((tally_of views).raw d ≡ 1)
  raw_alone = StoreLemmas.raw_alone k m views i v below_i at good ticket word value

  -- to the info of a superblock without a class
  pub store_info : (d : ℕ) → cell_at v.setup.capacity word ≡ info_cell d → IsOwn v (info_cell d)
      → Good k (write m (volatile_at (info_cell d)) value) (set views i base)
  store_info d is own = good_step k m m2 views i v base good good.shape below_i at
      (subst (IsInShape k.capacity m2 good.shape) (sym tally) (let s = good.shaped in record {
        lists = s.lists;
        placed = s.placed;
        untaken = record {
          blank = λ e past below_c. let b = s.untaken.blank e past below_c in
              record {
                volatile = (same_info e (λ same. let less = alone.4 in omega (arith, same)) ∙ b.volatile.0, b.volatile.1, b.volatile.2);
                durable = b.durable;
              };
        };
        listed = record {
          free = s.listed.free;
          is_full = s.listed.is_full;
          in_class = λ class e is_class some. let old = s.listed.in_class class e is_class some in (
            same_info e (λ same. let in_it = in_lists_at e good.shape.lists class (let z = is_class.last in
                omega arith) (λ z. let y = is_class.some in omega (arith, z, y)) in let none = alone.1 in
                let q = ap (times_in_lists good.shape) same in omega arith) ∙ old.0,
            old.1,
          );
        };
        chained = (let c = s.chained in record {
          is_class = λ e some. subst IsClass (sym (cut_info e some)) (c.is_class e some);
          anchored = λ e some. subst (λ x. IsAnchoredBy (next m) k.capacity x e (anchor m e) (good.shape.chains e)) (sym (cut_info e some))
              (c.anchored e some);
          owned = λ e b some at_b. c.owned e b some (subst (λ x. IsCutBlock k.capacity x e b) (cut_info e some) at_b);
          chained = λ e b some there. subst (λ x. IsCutBlock k.capacity x e b) (sym (cut_info e some)) (c.chained e b some there);
          inside = λ b some. let old = c.inside b some in (
            old.0,
            subst (λ x. IsCutBlock k.capacity x (superblock_of k.capacity b) b)
                (sym (cut_info (superblock_of k.capacity b) old.0)) old.1,
          );
        });
        durable = (let y = s.durable in record {
          behind = y.behind;
          room = y.room;
          below = y.below;
          infos = λ e some. y.infos e some ∙ sym (same_info e (λ same. let none = (raw_alone d own).0 in let large = alone.3 in
              let p = ap (times_cut good.shape (tally_of views)) same in let q = ap (tally_of views).large same in omega arith));
        });
      }))
      (record {
        set_up = (StoreLemmas.set_up_now k m views i v below_i at good ticket word value);
        claims = claims_frame i v below_i at seat.claims;
        blocks = blocks_frame i v below_i at (StoreLemmas.cap k m views i v below_i at good ticket word value) seat.blocks;
        knows = (let s = seat.knows in record {
          seen_head = s.seen_head;
          seen_used = s.seen_used;
          looked = s.looked;
          seen_anchor = s.seen_anchor;
          seen_empty = s.seen_empty;
          floor = s.floor;
        });
        words = StoreLemmas.words_now k m views i v below_i at good ticket word value (info_cell d) is own base refl refl (own_equal v base refl
            (λ e. refl) (λ e. refl) (λ e. refl));
        tickets = done_tickets k m views i v below_i at good ticket base refl refl refl refl refl refl (omega arith);
      })
      (λ j u other b a h. record {
        set_up = h.set_up;
        claims = claims_frame j u b a h.claims;
        blocks = blocks_frame j u b a (ap (λ (s : Setup). s.capacity) h.set_up.setup) h.blocks;
        knows = (let s = h.knows in record {
          seen_head = s.seen_head;
          seen_used = s.seen_used;
          looked = s.looked;
          seen_anchor = s.seen_anchor;
          seen_empty = s.seen_empty;
          floor = s.floor;
        });
        words = StoreLemmas.words_others k m views i v below_i at good ticket word value (info_cell d) is own j u other b a h.words;
        tickets = h.tickets;
      })
      (adds_step k m m2 views i v base below_i at good.adds refl refl refl refl (omega arith) (omega arith))
      (record { mine = omega arith; more = omega arith }) (λ j u other b a. omega arith)
      (let old = good.moves in let gives = total_same (λ (u : View). u.gives) views i v base below_i at refl in
      let moves = total_same (λ (u : View). u.moves) views i v base below_i at refl in
      let empty = ap (λ t. empties k.capacity (anchor m) (times_parked good.shape t)) tally in omega arith) where
        m2 : Memory
        m2 = write m (volatile_at (info_cell d)) value

        tally : tally_of (set views i base) ≡ tally_of views
        tally = tally_same views i v base below_i at refl

        alone : (times d (good.shape.lists 0) ≡ 0) × (times_in_lists good.shape d ≡ 0) × (good.shape.full d ≡ 0)
            × ((tally_of views).large d ≡ 0) × (d < used m)
        alone = StoreLemmas.claimed_alone k m views i v below_i at good ticket word value d (omega arith)

        same_info : (e : ℕ) → e ≢ d → cond (nat_eq e d) value (info m e) ≡ info m e
        same_info e other = at_other (info m) d value e other

        cut_info : (e : ℕ) → 0 < times_cut good.shape (tally_of views) e → cond (nat_eq e d) value (info m e) ≡ info m e
        cut_info e some = same_info e (λ same. let none = (raw_alone d own).0 in let p = ap (times_cut good.shape (tally_of views)) same in omega arith)

        claims_frame : (j : ℕ) (u : View) → j < length views → get_or views j u ≡ u → ClaimsOf m u → ClaimsOf m2 u
        claims_frame j u b a c = record {
          is_raw = c.is_raw;
          is_split = c.is_split;
          is_cutting = c.is_cutting;
          is_classed = λ e some. let old = c.is_classed e some in (
            old.0,
            cut_info e (let t = total_at (λ (x : View). times_classed e x.classed) views j u b a in omega arith) ∙ old.1,
            old.2,
          );
          is_large = λ e some. let old = c.is_large e some in (
            same_info e (not_part e e some (omega arith) (omega arith))
                ∙ old.0,
            λ f low high. same_info f (not_part e f some (omega arith) high) ∙ old.1 f low high,
          );
          is_part = c.is_part;
          some = c.some;
        } where
          not_part : (e f : ℕ) → 0 < span_count e u.large → e ≤ f → f < e + span_count e u.large → f ≢ d
          not_part e f some low high same = let covers = span_covers e f u.large some low high in
              let t = total_at (λ (x : View). times_large f x.large) views j u b a in
              let none = alone.3 in let q = ap (tally_of views).large same in omega (arith, covers, t, none, q)

        blocks_frame : (j : ℕ) (u : View) → j < length views → get_or views j u ≡ u → u.setup.capacity ≡ k.capacity → BlocksOf m u → BlocksOf m2 u
        blocks_frame j u b a cap_u c = record {
          held = λ class x some. block_info x (let t = in_lists_total x class u.small some in omega arith) ∙ c.held class x some;
          cached = λ class x some. block_info x (let t = in_lists_total x class u.caches some in omega arith) ∙ c.cached class x some;
          batched = λ x some. let old = c.batched x some in (
            old.0,
            subst (λ y. cond (nat_eq y d) value (info m y) ≡ info m y) old.0
                (block_info x (omega arith)) ∙ old.1,
          );
          cache_linked = c.cache_linked;
          batch_linked = c.batch_linked;
        } where
          block_info : (x : ℕ) → 0 < times_block x u → cond (nat_eq (superblock_of u.setup.capacity x) d) value
              (info m (superblock_of u.setup.capacity x)) ≡ info m (superblock_of u.setup.capacity x)
          block_info x some = subst (λ n. cond (nat_eq (superblock_of n x) d) value (info m (superblock_of n x)) ≡ info m (superblock_of n x))
              (sym cap_u)
              (cut_info (superblock_of k.capacity x) (good.shaped.chained.inside x (let t = total_at (times_block x) views j u b a in omega arith)).0)
