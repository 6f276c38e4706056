-- Exchanges on the anchor of a cut superblock: what they leave of everything else.
use Rattle.std.proofs.Common.{◌≡◌, ◌≢◌, ℕ, ◌+◌, ◌<◌, ◌≤◌, inl, inr, cond, nat_eq, nat_lt, List, get_or, set, length, None, refl, ap, sym, subst, ◌∙◌, arith}
use Rattle.std.proofs.lemmas.Bool.{cases_eq, cases_lt}
use Rattle.heap_model.specs.Words.{anchor_state, empty_state, partial_state, full_state, full_anchor}
use Rattle.heap_model.specs.Counting.{times, total}
use Rattle.core_model.specs.Cells.{anchor_cell}
use Rattle.core_model.specs.Memory.{Memory, volatile_at, used, head, anchor, info, link, next, write}
use Rattle.core_model.specs.View.{Setup, View, Claim, Span, one_if_some, times_raw, times_classed, times_large}
use Rattle.core_model.specs.Effects.{seen_word, seen_of, trimmed}
use Rattle.core_model.specs.Guards.{IsThere}
use Rattle.core_model.specs.Sound.{CoreShape, tally_of, AreUntaken, FitsLists, HasClaims, IsAnchoredBy, KnowsHead, KnowsWords, HasTotals, stale, class_numbers, times_cut, Good}
use Rattle.core_model.proofs.TotalLemmas.{total_at}
use Rattle.core_model.proofs.FrameLemmas.{untouched, words_frame, below_not}
use Rattle.core_model.proofs.EventStepLemmas.{IsSeat, seat_at, adds_step}
use Rattle.core_model.proofs.OwnLemmas.{words_left, stale_anchor_most}
use Rattle.heap_model.proofs.ListLemmas.{one_at_most}
use Rattle.core_model.proofs.ListLemmas.{in_lists_at}
use Rattle.core_model.proofs.BlockLemmas.{at_one, at_other}

-- what a seat says of infos and anchors, where one anchor changes that is not of a superblock without a class
pub claims_anchor : (infos anchors : ℕ → ℕ) (d x : ℕ) (raw split cutting : List ℕ) (classed : List Claim) (large : List Span)
    → times d raw ≡ 0 → times d split ≡ 0 → times d cutting ≡ 0 → times_large d large ≡ 0 → (0 < times_classed d classed → anchor_state x < full_state)
    → HasClaims infos anchors raw split cutting classed large → HasClaims infos (λ e. cond (nat_eq e d) x (anchors e)) raw split cutting classed large
claims_anchor infos anchors d x raw split cutting classed large none_raw none_split none_cutting none_large small c = record {
  is_raw = λ e some. subst (λ a. anchor_state a ≡ empty_state) (sym
      (at_other anchors d x e (λ same. let n = ap (λ y. times y raw) same in omega arith))) (c.is_raw e some);
  is_split = λ e some. subst (λ a. anchor_state a ≢ partial_state)
      (sym (at_other anchors d x e (λ same. let n = ap (λ y. times y split) same in omega arith))) (c.is_split e some);
  is_cutting = λ e some. subst (λ a. a ≡ full_anchor) (sym (at_other anchors d x e (λ same. let n = ap (λ y. times y cutting) same in
      omega arith))) (c.is_cutting e some);
  is_classed = λ e some. let old = c.is_classed e some in (
    old.0,
    old.1,
    elim (cases_eq e d) as (λ _. anchor_state (cond (nat_eq e d) x (anchors e)) < full_state) [
      | inl same ↦ subst (λ a. anchor_state a < full_state) (sym (at_one anchors d x e same))
          (small (let n = ap (λ y. times_classed y classed) same in omega arith))
      | inr other ↦ subst (λ a. anchor_state a < full_state) (sym (at_other anchors d x e other)) old.2
    ],
  );
  is_large = c.is_large;
  is_part = λ e some. subst (λ a. anchor_state a ≢ partial_state)
      (sym (at_other anchors d x e (λ same. let n = ap (λ y. times_large y large) same in omega arith))) (c.is_part e some);
  some = c.some;
}

module _ (k : Setup) (m : Memory) (views : List View) (i : ℕ) (v : View) (below_i : i < length views) (at : get_or views i v ≡ v)
    (good : Good k m views)
    (d x : ℕ) (cut_d : 0 < times_cut good.shape (tally_of views) d) where
  abbrev m' : Memory
  m' = write m (volatile_at (anchor_cell d)) x

  -- it is in no other place
  pub alone : (times_cut good.shape (tally_of views) d ≡ 1) × (times d (good.shape.lists 0) ≡ 0) × (total (times_raw d) views ≡ 0)
      × (total (λ (u : View). times_large d u.large) views ≡ 0) × (d < used m)
  alone = let p = good.shaped.placed.one_place d in let most = one_at_most (nat_lt d (used m)) in (
    omega arith,
    omega arith,
    omega arith,
    omega arith,
    elim (cases_lt d (used m)) as
        (λ _. d < used m) [ inl less ↦ less | inr more ↦ absurd (let n = below_not d (used m) more in omega arith) ],
  )

  -- of each seat it is no superblock without a class, and no part of a large block
  pub not_here : (j : ℕ) (u : View) → j < length views → get_or views j u ≡ u → (times_raw d u ≡ 0) × (times_large d u.large ≡ 0)
  not_here j u b a = let p = alone in let r = p.2 in let l = p.3 in let raw = total_at (times_raw d) views j u b a in
      let large = total_at (λ (y : View). times_large d y.large) views j u b a in (omega arith, omega arith)

  -- another seat, where it is not classed there, or its new state is no worse
  pub others : (g : CoreShape) → g.lists ≡ good.shape.lists → (j : ℕ) (u : View) → j < length views → get_or views j u ≡ u
      → (0 < times_classed d u.classed → (anchor_state x < full_state) × (anchor_state (anchor m d) ≡ empty_state → anchor_state x ≡ empty_state))
      → IsSeat k m good.shape u → IsSeat k m' g u
  others g same_lists j u b a classed h = let none = not_here j u b a in let zero_raw = none.0 in record {
    set_up = h.set_up;
    claims = claims_anchor (info m) (anchor m) d x u.raw u.split u.cutting u.classed u.large (omega arith) (omega arith) (omega arith) none.1
        (λ some. (classed some).0) h.claims;
    blocks = h.blocks;
    knows = (let s = h.knows in record {
      seen_head = subst (λ y. IsThere u.seen_head → KnowsHead k.capacity (head m) (link m) y (seen_of u.seen_head)
          (seen_word u.seen_head) u.seen_link) (sym same_lists) s.seen_head;
      seen_used = s.seen_used;
      looked = s.looked;
      seen_anchor = s.seen_anchor;
      seen_empty = λ there some empty. elim (cases_eq (seen_of u.seen_anchor) d) as
          (λ _. anchor_state (cond (nat_eq (seen_of u.seen_anchor) d) x (anchor m (seen_of u.seen_anchor))) ≡ empty_state) [
            | inl same ↦ subst (λ y. anchor_state y ≡ empty_state) (sym (at_one (anchor m) d x (seen_of u.seen_anchor) same))
                ((classed (subst (λ y. 0 < times_classed y u.classed) same some)).1
                (subst (λ y. anchor_state (anchor m y) ≡ empty_state) same (s.seen_empty there some empty)))
            | inr other ↦ subst (λ y. anchor_state y ≡ empty_state) (sym (at_other (anchor m) d x (seen_of u.seen_anchor) other))
                (s.seen_empty there some empty)
          ];
      floor = s.floor;
    });
    words = words_frame k.capacity m m' u (λ cell own. untouched u m.volatile (anchor_cell d) x cell none.0 own) (λ cell own. refl) h.words;
    tickets = h.tickets;
  }

  pub untaken : AreUntaken k.capacity m'
  untaken = record {
    blank = λ e past below_c. let b = good.shaped.untaken.blank e past below_c in record {
      volatile = (b.volatile.0, at_other (anchor m) d x e (λ same. let less = alone.4 in omega (arith, same)) ∙ b.volatile.1, b.volatile.2);
      durable = b.durable;
    };
  }

  pub theirs : (u : View) → stale m' u + v.wins ≤ stale m u + (v.wins + 1)
  theirs u = let e = stale_anchor_most m' u u.seen_anchor in omega arith

  pub adds_after : (w : View) → w.ticket ≡ None → w.draws ≡ v.draws → w.stopped ≡ v.stopped → w.roots ≡ v.roots → w.taken ≡ v.taken
      → HasTotals k m' (set views i w)
  adds_after w none draws stopped roots taken = adds_step k m m' views i v w below_i at good.adds refl draws stopped roots
      (let n = ap one_if_some none in omega arith) (omega arith)

  -- what is known of the own words that are left
  pub words_after : (y : View) → y.setup ≡ v.setup → y.volatile ≡ v.volatile → y.durable ≡ v.durable → KnowsWords k.capacity m' (trimmed y)
  words_after y = let s = seat_at k m views good i v below_i at in let none = not_here i v below_i at in
      words_left k m m' v y s.set_up.setup s.words (λ cell own. untouched v m.volatile (anchor_cell d) x cell none.0 own) (λ cell own. refl)

  -- its anchor tells its chain
  pub anchored : (class : ℕ) → info m d ≡ class → IsAnchoredBy (next m) k.capacity class d (anchor m d) (good.shape.chains d)
  anchored class is = subst (λ c. IsAnchoredBy (next m) k.capacity c d (anchor m d) (good.shape.chains d)) is (good.shaped.chained.anchored d cut_d)

  -- lists and infos fit, where the new state fits its place
  pub listed : (full : ℕ → ℕ) → (0 < total (λ n. times d (good.shape.lists n)) class_numbers → anchor_state x < full_state)
      → ((e : ℕ) → e ≢ d → 0 < full e → 0 < good.shape.full e) → (0 < full d → x ≡ full_anchor)
      → FitsLists (info m) (anchor m') good.shape.lists full
  listed full in_list less at_d = let s = good.shaped.listed in record {
    free = λ e some. subst (λ y. anchor_state y ≡ empty_state) (sym
        (at_other (anchor m) d x e (λ same. let none = alone.1 in let z = ap (λ y. times y (good.shape.lists 0)) same in omega arith))) (s.free e some);
    in_class = λ class e is_class some. let old = s.in_class class e is_class some in (
      old.0,
      elim (cases_eq e d) as (λ _. anchor_state (cond (nat_eq e d) x (anchor m e)) < full_state) [
        | inl same ↦ subst (λ y. anchor_state y < full_state) (sym (at_one (anchor m) d x e same))
            (in_list (let i = in_lists_at d good.shape.lists class (let z = is_class.last in omega arith) (λ z. let y = is_class.some in
            omega (arith, z, y)) in let z = ap (λ y. times y (good.shape.lists class)) same in omega arith))
        | inr other ↦ subst (λ y. anchor_state y < full_state) (sym (at_other (anchor m) d x e other)) old.1
      ],
    );
    is_full = λ e some. elim (cases_eq e d) as (λ _. cond (nat_eq e d) x (anchor m e) ≡ full_anchor) [
      | inl same ↦ at_one (anchor m) d x e same ∙ at_d (subst (λ y. 0 < full y) same some)
      | inr other ↦ at_other (anchor m) d x e other ∙ s.is_full e (less e other some)
    ];
  }
