-- What is whose after an offer of a large block.
use Rattle.std.proofs.Common.{◌≡◌, ◌≢◌, ℕ, ◌+◌, ◌*◌, ◌<◌, ◌≤◌, inl, inr, nat_eq, nat_lt, not, List, [], ◌∷◌, get_or, set, length, refl, ap, sym, subst, ◌∙◌, eq-eqb, arith}
use Rattle.std.proofs.lemmas.Bool.{cases_eq}
use Rattle.std.proofs.lemmas.List.{get_or-set_same, get_or-set_other}
use Rattle.heap_model.specs.Counting.{times, total}
use Rattle.heap_model.specs.declared.block.Block.{Block}
use Rattle.heap_model.specs.Geometry.{start_word, superblock_words, superblock_of}
use Rattle.heap_model.proofs.ListLemmas.{one_at_most}
use Rattle.core_model.specs.Carriers.{carrier_of, MayHand}
use Rattle.core_model.specs.Effects.{span_count}
use Rattle.core_model.specs.Guards.{MaySplit}
use Rattle.core_model.specs.Handing.{after_offer, MayOffer}
use Rattle.core_model.specs.Held.{IsHeld, a_large}
use Rattle.core_model.specs.Memory.{used}
use Rattle.core_model.specs.Splitting.{chosen_lists, chosen_spans}
use Rattle.core_model.specs.Sound.{Good}
use Rattle.core_model.specs.Steps.{TableState}
use Rattle.core_model.specs.View.{Setup, View, Span, times_large}
use Rattle.core_model.proofs.PlaceLemmas.{pick, skip, not-eq}
use Rattle.core_model.proofs.RangeLemmas.{range_is, range_not, cases_range}
use Rattle.core_model.proofs.ChosenLemmas.{lists_both, spans_both}
use Rattle.core_model.proofs.TotalLemmas.{total_at}
use Rattle.seat_state.specs.declared.notes.SeatNotes.{SeatNotes}
use Rattle.seat_state.specs.declared.superblocks.SuperblockOwner.{SuperblockOwner}
use Rattle.seat_state.specs.declared.superblocks.SuperblockUsage.TheVariants as usage
use Rattle.seat_state.specs.Superblocks.{HasSuperblocks, usage_for, no_superblock, large_in, IsUsage, IsRange}
use Rattle.seat_state.proofs.CountLemmas.{no_span}
use Rattle.seat_state.proofs.RangeLemmas.{range_theirs}
use Rattle.seat_state.proofs.UsageLemmas.{usage_alone, usage_own, usage_theirs, usages_mine, usages_theirs}
use Rattle.crash_core.specs.declared.state.CoreState.{CoreState}
use Rattle.crash_core.specs.Standing.{HasBlocksOf, IsKept, IsSeatAt, KeepsViews, nobody, Represents}
use Rattle.core_model.proofs.ChosenLemmas.{lists_all, lists_only}
use Rattle.crash_core.proofs.ChosenLemmas.{count_left, one_span}
use Rattle.crash_core.proofs.HandSteps.{HasOwn, IsHanded, offer_stands}
use Rattle.crash_core.proofs.SplitSteps.{covered, large_only}
use Rattle.crash_core.proofs.StandingLemmas.{among, memory_in, seat_capacity}

module _ (c : CoreState) (k : Setup) (s : TableState) (i : ℕ) (v : View) (t : SeatNotes) (x : ℕ) (stands : Represents c k s)
    (at : get_or s.views i v ≡ v) (at_t : IsSeatAt c i t) (hand : MayHand v)
    (may : MaySplit v x) (no_small : total (times x) v.small ≡ 0) where
  keeps : KeepsViews c k s.views
  keeps = stands.keeps

  below : i < length s.views
  below = among keeps at_t.less

  kept : IsKept c i t v
  kept = keeps.each i t v below at_t at

  good : Good k (memory_in c k) s.views
  good = keeps.sound.good

  abbrev j : ℕ
  j = length s.views

  abbrev d : ℕ
  d = superblock_of v.setup.capacity x

  abbrev n : ℕ
  n = span_count d v.large

  abbrev span : Span
  span = record { first = d; count = n }

  abbrev block : Block
  block = record { first_word = start_word v.setup.capacity d; words = superblock_words * n }

  pub large_may : MayOffer v x
  large_may = record { may = hand; held = record { block = block; holds = a_large d n may.held refl; at = sym may.first } }

  most : (e : ℕ) → times_large e v.large ≤ 1
  most e = let p = good.shaped.placed.one_place e in let one = one_at_most (nat_lt e (used (memory_in c k))) in
      let large = total_at (λ (u : View). times_large e u.large) s.views i v below at in omega arith

  chosen_is : chosen_spans (λ e. nat_eq e d) v.large ≡ span ∷ []
  chosen_is = one_span d v.large (good.claims i v below at).some (most d) may.held

  same_d : d ≡ superblock_of c.geometry.capacity x
  same_d = ap (λ m. superblock_of m x) (seat_capacity c k s.views i v keeps below at)

  mine_there : (e : ℕ) → d ≤ e → e < d + n → 0 < large_in (usage_for i (get_or c.superblocks.items e no_superblock))
  mine_there = subst (λ m. (e : ℕ) → m ≤ e → e < m + span_count m v.large
      → 0 < large_in (usage_for i (get_or c.superblocks.items e no_superblock))) (sym same_d) (covered c k s.views i v t keeps below at at_t x may)

  alone_one : span_count d (span ∷ []) ≡ n
  alone_one = pick (nat_eq d d) n 0 (eq-eqb d d refl)

  laden : (b : Block) × IsHeld (carrier_of v x) b
  laden = (block, a_large d n may.held (ap (span_count d) chosen_is ∙ alone_one))

  apart : j ≢ i
  apart same = omega (arith, same, below)

  module _ (c' : CoreState) (handed : IsHanded c c' i t) (same : c'.blocks.items ≡ c.blocks.items) (rest : List SuperblockOwner)
      (range : IsRange c.superblocks.items rest d n (record { seat = j; usage = usage.Large 0 }))
      (first : c'.superblocks.items ≡ set rest d (record { seat = j; usage = usage.Large n })) (long : d < length rest) where
    after : (P : List SuperblockOwner → Type 0) → P (set rest d (record { seat = j; usage = usage.Large n })) → P c'.superblocks.items
    after P p = subst P (sym first) p

    -- a superblock of the block, and one that is not
    inside : (e count : ℕ) → d ≤ e → e < d + n → span_count e (span ∷ []) ≡ count → IsUsage e (usage.Large count) [] [] [] [] (span ∷ [])
    inside e count low high is = record {
      is_raw = refl;
      is_split = refl;
      is_cutting = refl;
      is_classed = refl;
      class = refl;
      is_large = (let r = range_is d n e low high in omega arith);
      count = is;
    }

    outside : (e : ℕ) → (d ≤ e → e < d + n → ⊥) → IsUsage e (usage_for j (get_or c.superblocks.items e no_superblock)) [] [] [] [] (span ∷ [])
    outside e out = let o = (keeps.none j (omega arith)).superblocks e in record {
      is_raw = o.is_raw;
      is_split = o.is_split;
      is_cutting = o.is_cutting;
      is_classed = o.is_classed;
      class = o.class;
      is_large = (let r = range_not d n e out in let z = o.is_large in omega arith);
      count = skip (nat_eq d e) n 0 (not-eq d e (λ h. out (omega (arith, h)) (let some = may.held in omega (arith, h, some)))) ∙ o.count;
    }

    new : HasSuperblocks (set rest d (record { seat = j; usage = usage.Large n })) j [] [] [] [] (span ∷ [])
    new = usages_mine rest j d (usage.Large n) (λ e y. IsUsage e y [] [] [] [] (span ∷ [])) long
        (inside d n (omega arith) (let some = may.held in omega arith) alone_one)
        (λ e other. elim (cases_range d n e) [
          | inl here ↦ subst (λ y. IsUsage e y [] [] [] [] (span ∷ []))
              (sym (ap (usage_for j) (range.inside e here.0 here.1) ∙ usage_own j (usage.Large 0)))
              (inside e 0 here.0 here.1 (skip (nat_eq d e) n 0 (not-eq d e (λ h. other (sym h)))))
          | inr out ↦ subst (λ o. IsUsage e (usage_for j o) [] [] [] [] (span ∷ [])) (sym (range.outside e out)) (outside e out)
        ])

    left_times : (e : ℕ) → times_large e (chosen_spans (λ f. not (nat_eq f d)) v.large) + times_large e (span ∷ []) ≡ times_large e v.large
    left_times e = subst (λ l. times_large e (chosen_spans (λ f. not (nat_eq f d)) v.large) + times_large e l ≡ times_large e v.large) chosen_is
        (spans_both (λ f. nat_eq f d) e v.large)

    gone : (e : ℕ) → d ≤ e → e < d + n → IsUsage e usage.Nothing v.raw v.split v.cutting v.classed (chosen_spans (λ f. not (nat_eq f d)) v.large)
    gone e low high =
        let o = kept.superblocks e in let z = large_only (usage_for i (get_or c.superblocks.items e no_superblock)) (mine_there e low high) in
        let none : times_large e (chosen_spans (λ f. not (nat_eq f d)) v.large) ≡ 0 = (let l = left_times e in
        let r = range_is d n e low high in let m = most e in omega arith) in record {
          is_raw = o.is_raw ∙ z.0;
          is_split = o.is_split ∙ z.1;
          is_cutting = o.is_cutting ∙ z.2;
          is_classed = o.is_classed ∙ z.3;
          class = o.class ∙ z.4;
          is_large = none;
          count = no_span e (chosen_spans (λ f. not (nat_eq f d)) v.large) none;
        }

    stays : (e : ℕ) → (d ≤ e → e < d + n → ⊥) → IsUsage e (usage_for i (get_or c.superblocks.items e no_superblock))
        v.raw v.split v.cutting v.classed (chosen_spans (λ f. not (nat_eq f d)) v.large)
    stays e out = let o = kept.superblocks e in record {
      is_raw = o.is_raw;
      is_split = o.is_split;
      is_cutting = o.is_cutting;
      is_classed = o.is_classed;
      class = o.class;
      is_large = (let l = left_times e in let r = range_not d n e out in let h = o.is_large in omega arith);
      count = count_left d e v.large (λ h. out (omega (arith, h)) (let some = may.held in omega (arith, h, some))) ∙ o.count;
    }

    mine : HasSuperblocks (set rest d (record { seat = j; usage = usage.Large n })) i v.raw v.split v.cutting v.classed
        (chosen_spans (λ f. not (nat_eq f d)) v.large)
    mine e = elim (cases_range d n e) [
      | inl here ↦ subst (λ y. IsUsage e y v.raw v.split v.cutting v.classed (chosen_spans (λ f. not (nat_eq f d)) v.large))
          (sym (is_theirs e here.0 here.1)) (gone e here.0 here.1)
      | inr out ↦ subst (λ o. IsUsage e (usage_for i o) v.raw v.split v.cutting v.classed (chosen_spans (λ f. not (nat_eq f d)) v.large))
          (sym (get_or-set_other rest d e (record { seat = j; usage = usage.Large n }) no_superblock
          (λ h. out (omega (arith, h)) (let some = may.held in omega (arith, h, some))) ∙ range.outside e out)) (stays e out)
    ] where
      is_theirs : (e : ℕ) → d ≤ e → e < d + n → usage_for i (get_or (set rest d (record { seat = j; usage = usage.Large n })) e no_superblock)
          ≡ usage.Nothing
      is_theirs e low high = elim (cases_eq e d) [
        | inl here ↦ subst (λ m. usage_for i (get_or (set rest d (record { seat = j; usage = usage.Large n })) m no_superblock) ≡ usage.Nothing)
            (sym here)
            (ap (usage_for i) (get_or-set_same rest d (record { seat = j; usage = usage.Large n }) no_superblock long)
            ∙ usage_theirs j i (usage.Large n) (λ h. apart (sym h)))
        | inr other ↦ ap (usage_for i) (get_or-set_other rest d e (record { seat = j; usage = usage.Large n }) no_superblock other
            ∙ range.inside e low high) ∙ usage_theirs j i (usage.Large 0) (λ h. apart (sym h))
      ]

    theirs : (e : ℕ) (u : View) → e ≢ i → e ≢ j → HasOwn c e u → HasSuperblocks
        (set rest d (record { seat = j; usage = usage.Large n })) e u.raw u.split u.cutting u.classed u.large
    theirs e u other old h = usages_theirs rest j e d (usage.Large n) (λ f y. IsUsage f y u.raw u.split u.cutting u.classed u.large) long old
        (ap (usage_for e) (range.inside d (omega arith) (let some = may.held in omega arith)) ∙ usage_theirs j e (usage.Large 0) old)
        (range_theirs c.superblocks.items rest j e d n (usage.Large 0) (λ f y. IsUsage f y u.raw u.split u.cutting u.classed u.large) old range
        (λ f low high. usage_alone i e (get_or c.superblocks.items f no_superblock) other (λ none. let m = mine_there f low high in
        let z = ap large_in none in omega arith)) h.superblocks)

    blocks_go : (e : ℕ) → total (times e) (chosen_lists (λ f. nat_eq f x) v.small) ≡ 0
    blocks_go e = elim (cases_eq e x) [
      | inl here ↦ subst (λ m. total (times m) (chosen_lists (λ f. nat_eq f x) v.small) ≡ 0) (sym here)
          (lists_all x v.small ∙ no_small)
      | inr other ↦ lists_only x e v.small other
    ]

    pub large_offer : Represents c' k (after_offer s i v x)
    large_offer = offer_stands c c' k s i v t x stands at at_t large_may handed
        (record {
          blocks = subst (λ os. HasBlocksOf os i (chosen_lists (λ e. not (nat_eq e x)) v.small) v.caches v.batch.blocks) (sym same)
              (λ e. let o = kept.blocks e in let l = lists_both (λ f. nat_eq f x) e v.small in let z = blocks_go e in
              record { held = (let h = o.held in omega arith); cached = o.cached; batched = o.batched });
          superblocks = after (λ os. HasSuperblocks os i v.raw v.split v.cutting v.classed (chosen_spans (λ f. not (nat_eq f d)) v.large)) mine;
        })
        (record {
          blocks = subst (λ os. HasBlocksOf os j (chosen_lists (λ e. nat_eq e x) v.small) (nobody k).caches []) (sym same)
              (λ e. let o = (keeps.none j (omega arith)).blocks e in record { held = blocks_go e ∙ o.held; cached = o.cached; batched = o.batched });
          superblocks = after (λ os. HasSuperblocks os j [] [] [] [] (chosen_spans (λ f. nat_eq f d) v.large))
              (subst (HasSuperblocks (set rest d (record { seat = j; usage = usage.Large n })) j [] [] [] []) (sym chosen_is) new);
        })
        laden
        (λ e u other old h. record {
          blocks = subst (λ os. HasBlocksOf os e u.small u.caches u.batch.blocks) (sym same) h.blocks;
          superblocks = after (λ os. HasSuperblocks os e u.raw u.split u.cutting u.classed u.large) (theirs e u other old h);
        })

-- the same, with the numbers as they are found
pub large_at : (c : CoreState) (k : Setup) (s : TableState) (i : ℕ) (v : View) (t : SeatNotes) (x : ℕ) (stands : Represents c k s)
    (at : get_or s.views i v ≡ v) (at_t : IsSeatAt c i t) (hand : MayHand v)
    (may : MaySplit v x) (no_small : total (times x) v.small ≡ 0) (c' : CoreState) (handed : IsHanded c c' i t)
    (same : c'.blocks.items ≡ c.blocks.items) (rest : List SuperblockOwner) (d' n' j' : ℕ)
    → d' ≡ superblock_of v.setup.capacity x → n' ≡ span_count (superblock_of v.setup.capacity x) v.large → j' ≡ length s.views
    → IsRange c.superblocks.items rest d' n' (record { seat = j'; usage = usage.Large 0 })
    → c'.superblocks.items ≡ set rest d' (record { seat = j'; usage = usage.Large n' }) → d' < length rest → Represents c' k (after_offer s i v x)
large_at c k s i v t x stands at at_t hand may no_small c' handed same rest d' n' j' d_is n_is j_is range first long =
    large_offer c k s i v t x stands at at_t hand may no_small c' handed same rest
    (subst (λ (p : ℕ × (ℕ × ℕ)). IsRange c.superblocks.items rest p.0 p.1.0 (record { seat = p.1.1; usage = usage.Large 0 }))
    (λ h. (d_is h, (n_is h, j_is h))) range)
    (subst (λ (p : ℕ × (ℕ × ℕ)). c'.superblocks.items ≡ set rest p.0 (record { seat = p.1.1; usage = usage.Large p.1.0 }))
    (λ h. (d_is h, (n_is h, j_is h))) first)
    (subst (λ m. m < length rest) d_is long)
