-- A store to the anchor of a claimed superblock, whatever parts the seat has then.
use Rattle.std.proofs.Common.{◌≡◌, ◌≢◌, ℕ, ◌+◌, ◌<◌, ◌≤◌, inl, inr, ◌⊎◌, cond, not, ◌&&◌, nat_eq, nat_lt, List, get_or, set, length, Option, None, Some, refl, ap, ap₂, sym, subst, ◌∙◌, ne_eqb, length-set, arith}
use Rattle.std.proofs.lemmas.Bool.{cases_eq, cases_lt}
use Rattle.heap_model.specs.Words.{anchor_state, empty_state, full_state}
use Rattle.heap_model.specs.Counting.{times, total, one_if}
use Rattle.core_model.proofs.PlaceLemmas.{not-lt}
use Rattle.heap_model.specs.Geometry.{superblock_of}
use Rattle.core_model.specs.Cells.{anchor_cell, link_cell, cell_at}
use Rattle.core_model.specs.Memory.{Memory, volatile_at, used, head, anchor, info, link, next, write}
use Rattle.core_model.specs.View.{Setup, View, Batch, Snapshot, LastLook, one_if_some, times_raw, times_classed, times_claimed, times_large, times_block}
use Rattle.core_model.specs.Effects.{seen, seen_word, seen_of, first_of, steps}
use Rattle.core_model.specs.Guards.{IsThere, IsOwn}
use Rattle.core_model.specs.Sound.{tally_of, IsInShape, IsAnchoredBy, ClaimsOf, HasBlocks, Knows, KnowsHead, stale_anchor, stale_head, differs, times_in_lists, times_parked, times_cut, empties, Good}
use Rattle.core_model.proofs.TotalLemmas.{total_same, total_at, total_alike}
use Rattle.core_model.proofs.EventStepLemmas.{IsSeat, seat_at, good_step, adds_step}
use Rattle.core_model.proofs.QuietLemmas.{Counts, counts, done_tickets}
use Rattle.core_model.proofs.OwnLemmas.{Holdings, holdings, own_equal}
use Rattle.core_model.proofs.ListLemmas.{in_lists_at}
use Rattle.core_model.proofs.BlockLemmas.{at_other, first_there}
use Rattle.core_model.proofs.OwnerLemmas.{one_owner}
use Rattle.core_model.proofs.AnchorLemmas.{claims_anchor}
use Rattle.core_model.proofs.StoreLemmas as others

module _ (k : Setup) (m : Memory) (views : List View) (i : ℕ) (v : View) (below_i : i < length views) (at : get_or views i v ≡ v)
    (good : Good k m views) (ticket : IsThere v.ticket) (word value : ℕ) where
  pub seat : IsSeat k m good.shape v
  seat = seat_at k m views good i v below_i at

  abbrev pub base : View
  base = others.base k m views i v below_i at good ticket word value

  -- to the anchor of a superblock without a class
  module _ (d : ℕ) (is : cell_at v.setup.capacity word ≡ anchor_cell d) (own : IsOwn v (anchor_cell d)) where
    abbrev pub ma : Memory
    ma = write m (volatile_at (anchor_cell d)) value

    pub alone_a : (times d (good.shape.lists 0) ≡ 0) × (times_in_lists good.shape d ≡ 0) × (good.shape.full d ≡ 0) × ((tally_of views).large d ≡ 0)
        × (d < used m)
    alone_a = others.claimed_alone k m views i v below_i at good ticket word value d (omega arith)

    pub not_cut : (e : ℕ) → 0 < times_cut good.shape (tally_of views) e → e ≢ d
    not_cut e some same = let none = (others.raw_alone k m views i v below_i at good ticket word value d own).0 in
        let p = ap (times_cut good.shape (tally_of views)) same in omega (arith, none, p, some)

    pub same_anchor : (e : ℕ) → e ≢ d → cond (nat_eq e d) value (anchor m e) ≡ anchor m e
    same_anchor e other = at_other (anchor m) d value e other

    -- the snapshots of other seats are of other superblocks
    off_others : (j : ℕ) (u : View) → j ≢ i → j < length views → get_or views j u ≡ u → IsThere u.seen_anchor → seen_of u.seen_anchor ≢ d
    off_others j u other b a there same = let h = seat_at k m views good j u b a in
        elim (h.knows.seen_anchor there) as (λ _. ⊥) [
          | inl claimed ↦ let none = one_owner k m views good i j v u other below_i at b a (link_cell d)
              (let o : 0 < times_claimed d v = omega arith in o) in let q = ap (λ x. times_claimed x u) same in omega (arith, claimed, none, q)
          | inr batch ↦ in_batch h batch.0 batch.1
        ] where
          in_batch : IsSeat k m good.shape u → u.batch.descriptor ≡ seen_of u.seen_anchor → 1 ≤ length u.batch.blocks → ⊥
          in_batch h of some =
              let b0 = first_of u.batch.blocks in let there_b = first_there u.batch.blocks some in
              let t = total_at (times_block b0) views j u b a in
              let cut = (good.shaped.chained.inside b0 (omega arith)).0 in
              let place : superblock_of k.capacity b0 ≡ d = ap (λ c. superblock_of c b0) (sym (ap (λ (s : Setup). s.capacity) h.set_up.setup))
              ∙ (h.blocks.batched b0 there_b).0 ∙ of ∙ same in
              not_cut (superblock_of k.capacity b0) cut place

    stale_off : (u : View) (s : Option Snapshot) → (IsThere s → seen_of s ≢ d) → stale_anchor ma u s ≡ stale_anchor m u s
    stale_off u None other = refl
    stale_off u (Some s) other = ap (λ a. one_if (nat_eq (times_raw s.of u) 0 && not (nat_eq s.word a))) (same_anchor s.of (other refl))

    stale_own : (w : View) (s : Option Snapshot) → ((e : ℕ) → times_raw e w ≡ times_raw e v) → stale_anchor ma w s ≤ stale_anchor m v s
    stale_own w None same = omega arith
    stale_own w (Some s) same = elim (cases_eq s.of d) as (λ _. stale_anchor ma w (Some s) ≤ stale_anchor m v (Some s)) [
      | inl here ↦ let none : stale_anchor ma w (Some s) ≡ 0 = ap (λ t. one_if (t && not (nat_eq s.word (anchor ma s.of))))
          (ne_eqb (times_raw s.of w) 0 (λ z. let e = same s.of in let q = ap (λ x. times_raw x v) here in omega (arith, z, e, q, own))) in omega arith
      | inr other ↦ let e : stale_anchor ma w (Some s) ≡ stale_anchor m v (Some s) =
          ap₂ (λ n a. one_if (nat_eq n 0 && not (nat_eq s.word a))) (same s.of) (same_anchor s.of other) in omega arith
    ]

    pub stored_to : (w : View) → w.setup ≡ v.setup → w.small ≡ v.small → w.large ≡ v.large → w.caches ≡ v.caches → w.batch ≡ v.batch
        → w.classed ≡ v.classed → w.head_looks ≡ v.head_looks → w.used_look ≡ v.used_look
        → w.volatile ≡ base.volatile → w.durable ≡ v.durable → holdings w ≡ holdings v → ((e : ℕ) → times_raw e w ≡ times_raw e v) → ClaimsOf ma w
        → w.ticket ≡ None → w.last_ticket ≡ v.last_ticket → counts w ≡ counts v → w.cuts ≡ v.cuts → w.losses ≡ v.losses → w.roots ≡ v.roots
        → w.seen_head ≡ v.seen_head → w.seen_link ≡ v.seen_link → w.seen_used ≡ v.seen_used → w.seen_anchor ≡ v.seen_anchor → w.floor ≡ v.floor
        → Good k ma (set views i w)
    stored_to w setup small large caches batch classed looks used_look volatile durable held raw claims none last kept cuts losses roots
        seen_head seen_link seen_used seen_anchor floor =
        good_step k m ma views i v w good good.shape below_i at
        (subst (IsInShape k.capacity ma good.shape) (sym tally) (let s = good.shaped in record {
          lists = s.lists;
          placed = s.placed;
          untaken = record {
            blank = λ e past below_c. let b = s.untaken.blank e past below_c in
                record {
                  volatile = (
                    b.volatile.0,
                    same_anchor e (λ same. let less = alone_a.4 in omega (arith, same))
                        ∙ b.volatile.1,
                    b.volatile.2,
                  );
                  durable = b.durable;
                };
          };
          listed = record {
            free = λ e some. subst (λ x. anchor_state x ≡ empty_state) (sym
                (same_anchor e (λ same. let zero_free = alone_a.0 in let q = ap (λ x. times x (good.shape.lists 0)) same in omega arith)))
                (s.listed.free e some);
            in_class = λ class e is_class some. let old = s.listed.in_class class e is_class some in (
              old.0,
              subst (λ x. anchor_state x < full_state) (sym (same_anchor e
                  (λ same. let in_it = in_lists_at e good.shape.lists class (let z = is_class.last in
                  omega arith) (λ z. let y = is_class.some in omega (arith, z, y)) in let zero_lists = alone_a.1 in
                  let q = ap (times_in_lists good.shape) same in omega arith))) old.1,
            );
            is_full = λ e some. same_anchor e (λ same. let zero_full = alone_a.2 in let q = ap good.shape.full same in omega arith)
                ∙ s.listed.is_full e some;
          };
          chained = (let c = s.chained in record {
            is_class = c.is_class;
            owned = c.owned;
            chained = c.chained;
            inside = c.inside;
            anchored = λ e some. subst (λ x. IsAnchoredBy (next m) k.capacity (info m e) e x (good.shape.chains e))
                (sym (same_anchor e (not_cut e some))) (c.anchored e some);
          });
          durable = s.durable;
        }))
        (record {
          set_up = (let s = seat.set_up in record {
            setup = setup ∙ s.setup;
            roots = λ n some. s.roots n (subst (λ (h : Holdings). 0 < times n h.roots) held some);
            small = ap length small ∙ s.small;
            caches = ap length caches ∙ s.caches;
            looks = ap length looks ∙ s.looks;
            volatile = ap length volatile ∙ length-set v.volatile word (Some value) ∙ s.volatile;
            durable = ap length durable ∙ s.durable;
          });
          claims = claims;
          blocks = subst (λ (h : Holdings). HasBlocks h.setup.capacity (info m) (next m) h.small h.caches w.batch) (sym held)
              (subst (λ (x : Batch). HasBlocks v.setup.capacity (info m) (next m) v.small v.caches x) (sym batch) seat.blocks);
          knows = knows;
          words = others.words_now k m views i v below_i at good ticket word value (anchor_cell d) is own w volatile durable
              (own_equal v w held raw (λ e. ap (times_classed e) classed) (λ e. ap (times_large e) large));
          tickets = done_tickets k m views i v below_i at good ticket w none last used_look looks kept cuts (omega arith);
        })
        (λ j u other b a h. let zero = one_owner k m views good i j v u other below_i at b a (anchor_cell d) own in
        let zero_link = one_owner k m views good i j v u other below_i at b a (link_cell d) (let o : 0 < times_claimed d v = omega arith in o) in
        let zero_large = total_at (λ (x : View). times_large d x.large) views j u b a in let no_large = alone_a.3 in record {
          set_up = h.set_up;
          claims = claims_anchor (info m) (anchor m) d value u.raw u.split u.cutting u.classed u.large (omega arith) (omega arith) (omega arith)
              (omega arith) (λ some. absurd (omega arith)) h.claims;
          blocks = h.blocks;
          knows = (let s = h.knows in record {
            seen_head = s.seen_head;
            seen_used = s.seen_used;
            looked = s.looked;
            seen_anchor = s.seen_anchor;
            seen_empty = λ there some empty. subst (λ x. anchor_state x ≡ empty_state)
                (sym (same_anchor (seen_of u.seen_anchor) (off_others j u other b a there))) (s.seen_empty there some empty);
            floor = s.floor;
          });
          words = others.words_others k m views i v below_i at good ticket word value (anchor_cell d) is own j u other b a h.words;
          tickets = h.tickets;
        })
        (adds_step k m ma views i v w below_i at good.adds refl (ap (λ (c : Counts). c.draws) kept) (ap (λ (c : Counts). c.stopped) kept) roots
        (let n = ap one_if_some none in omega arith) (let t = ap (λ (c : Counts). c.taken) kept in omega arith))
        (record {
          mine = (let e = stale_own w v.seen_anchor raw in let p = ap (stale_anchor ma w) seen_anchor in let q = ap (stale_head m) seen_head in
              let r = ap (λ x. differs x (used m)) seen_used in omega arith);
          more = let e = ap (λ (c : Counts). c.wins) kept in omega arith;
        })
        (λ j u other b a. let e = stale_off u u.seen_anchor (off_others j u other b a) in let w_same = ap (λ (c : Counts). c.wins) kept in omega arith)
        (let old = good.moves in let gives = total_same (λ (u : View). u.gives) views i v w below_i at (ap (λ (c : Counts). c.gives) kept) in
        let moves = total_same (λ (u : View). u.moves) views i v w below_i at (ap (λ (c : Counts). c.moves) kept) in
        let empty = ap (λ t. empties k.capacity (anchor ma) (times_parked good.shape t)) tally in let same = empties_same in omega arith) where
          tally : tally_of (set views i w) ≡ tally_of views
          tally = λ j. record {
            raw = λ e. (total_same (times_raw e) views i v w below_i at (raw e)) j;
            classed = λ e. (total_same (λ (x : View). times_classed e x.classed) views i v w below_i at (ap (times_classed e) classed)) j;
            large = λ e. (total_same (λ (x : View). times_large e x.large) views i v w below_i at (ap (times_large e) large)) j;
            blocks = λ b. (total_same (times_block b) views i v w below_i at
                (ap (λ (h : Holdings). total (times b) h.small + total (times b) h.caches + times b h.batch_blocks) held)) j;
          }

          knows : Knows k.capacity ma good.shape w
          knows = let s = seat.knows in record {
            seen_head = subst (λ x. IsThere x → KnowsHead k.capacity (head m) (link m) good.shape.lists (seen_of x) (seen_word x) w.seen_link)
                (sym seen_head)
                (subst (λ x. IsThere v.seen_head → KnowsHead k.capacity (head m) (link m) good.shape.lists (seen_of v.seen_head)
                (seen_word v.seen_head) x) (sym seen_link) s.seen_head);
            seen_used = subst (λ x. IsThere x → seen x ≤ used m) (sym seen_used) s.seen_used;
            looked = (let l = s.looked in let a = ap (λ (x : LastLook). x.word) used_look in let b = ap (λ (x : LastLook). x.taken) used_look in
                let t = ap (λ (c : Counts). c.taken) kept in omega arith);
            seen_anchor = subst (λ x. IsThere x → (0 < times_claimed (seen_of x) w) ⊎ ((w.batch.descriptor ≡ seen_of x)
                × (1 ≤ length w.batch.blocks))) (sym seen_anchor)
                (subst (λ (x : Batch). IsThere v.seen_anchor → (0 < times_claimed (seen_of v.seen_anchor) w) ⊎
                ((x.descriptor ≡ seen_of v.seen_anchor) × (1 ≤ length x.blocks))) (sym batch)
                (λ there. elim (s.seen_anchor there) [
                  | inl c ↦ inl (let e = raw (seen_of v.seen_anchor) in
                      let f = ap (times_classed (seen_of v.seen_anchor)) classed in omega arith)
                  | inr b ↦ inr b
                ]));
            seen_empty = subst (λ x. IsThere x → 0 < times_classed (seen_of x) w.classed → anchor_state (seen_word x) ≡ empty_state
                → anchor_state (anchor ma (seen_of x)) ≡ empty_state) (sym seen_anchor)
                (λ there some empty. subst (λ x. anchor_state x ≡ empty_state)
                (sym (same_anchor (seen_of v.seen_anchor) (not_cut (seen_of v.seen_anchor)
                (let e = ap (times_classed (seen_of v.seen_anchor)) classed in
                let t = total_at (λ (x : View). times_classed (seen_of v.seen_anchor) x.classed) views i v below_i at in omega arith))))
                (s.seen_empty there (let e = ap (times_classed (seen_of v.seen_anchor)) classed in omega arith) empty));
            floor = let f = s.floor in omega arith;
          }

          empties_same : empties k.capacity (anchor ma) (times_parked good.shape (tally_of views)) ≡ empties k.capacity (anchor m)
              (times_parked good.shape (tally_of views))
          empties_same = total_alike (λ e. one_if (nat_lt 0 (times_parked good.shape (tally_of views) e) && nat_eq
              (anchor_state (anchor ma e)) empty_state))
              (λ e. one_if (nat_lt 0 (times_parked good.shape (tally_of views) e) && nat_eq (anchor_state (anchor m e)) empty_state))
              (steps 0 1 k.capacity)
              (λ e. elim (cases_lt 0 (times_parked good.shape (tally_of views) e)) as
              (λ _. one_if (nat_lt 0 (times_parked good.shape (tally_of views) e) && nat_eq (anchor_state (anchor ma e)) empty_state)
              ≡ one_if (nat_lt 0 (times_parked good.shape (tally_of views) e) && nat_eq (anchor_state (anchor m e)) empty_state)) [
                | inl some ↦ ap (λ x. one_if (nat_lt 0 (times_parked good.shape (tally_of views) e) && nat_eq (anchor_state x) empty_state))
                    (same_anchor e (not_cut e (omega arith)))
                | inr not_parked ↦ let f = not-lt 0 (times_parked good.shape (tally_of views) e) not_parked in
                    ap (λ t. one_if (t && nat_eq (anchor_state (anchor ma e)) empty_state)) f
                    ∙ sym (ap (λ t. one_if (t && nat_eq (anchor_state (anchor m e)) empty_state)) f)
              ])
