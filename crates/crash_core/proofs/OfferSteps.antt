-- What is whose after an offer: of a small block, and of a large one.
use Rattle.std.proofs.Common.{◌≡◌, ◌≢◌, ℕ, ◌+◌, ◌<◌, inl, inr, Bool, true, false, cond, nat_eq, nat_lt, not, [], get_or, set, length, refl, ap, sym, subst, ◌∙◌, arith}
use Rattle.std.proofs.lemmas.Bool.{cases_eq, cases_lt}
use Rattle.std.proofs.lemmas.List.{get_or-set_same, get_or-set_other, get_or_past}
use Rattle.heap_model.specs.Counting.{times, total}
use Rattle.heap_model.specs.declared.block.Block.{Block}
use Rattle.heap_model.specs.Sizes.{words_of_class}
use Rattle.heap_model.specs.Geometry.{superblock_of}
use Rattle.core_model.specs.Carriers.{carrier_of, MayHand}
use Rattle.core_model.specs.Handing.{after_offer, HoldsAt, MayOffer}
use Rattle.core_model.specs.Held.{IsHeld, a_small}
use Rattle.core_model.specs.Memory.{used}
use Rattle.core_model.specs.Splitting.{chosen_lists, chosen_spans}
use Rattle.core_model.specs.Sound.{Good}
use Rattle.core_model.specs.Steps.{TableState}
use Rattle.core_model.specs.View.{Setup, View, times_block, times_large}
use Rattle.heap_model.proofs.ListLemmas.{one_at_most}
use Rattle.core_model.proofs.ChosenLemmas.{lists_both}
use Rattle.core_model.proofs.TotalLemmas.{total_at}
use Rattle.seat_state.specs.declared.notes.SeatNotes.{SeatNotes}
use Rattle.seat_state.specs.Superblocks.{usage_for, no_superblock, IsUsage}
use Rattle.crash_core.specs.declared.owners.BlockPlace.{BlockPlace}
use Rattle.crash_core.specs.declared.owners.BlockPlace.TheVariants as place
use Rattle.crash_core.specs.declared.state.CoreState.{CoreState}
use Rattle.crash_core.specs.Standing.{batched_in, cached_in, held_in, HasBlocksOf, IsKept, IsPlace, IsSeatAt, KeepsViews, no_block, nobody, place_for, Represents}
use Rattle.crash_core.proofs.BlockPlaces.{place_alone, place_theirs, places_mine, places_theirs}
use Rattle.core_model.proofs.ChosenLemmas.{lists_all, lists_only}
use Rattle.crash_core.proofs.ChosenLemmas.{class_goes, in_some, no_spans}
use Rattle.crash_core.proofs.HandSteps.{IsHanded, offer_stands}
use Rattle.crash_core.proofs.StandingLemmas.{among, memory_in}

pub held_is : (p : BlockPlace) → 0 < held_in p → p ≡ place.Held
held_is place.Nowhere some = absurd (omega arith)
held_is place.Held some = refl
held_is place.Cached some = absurd (omega arith)
held_is place.Batched some = absurd (omega arith)

module _ (c : CoreState) (k : Setup) (s : TableState) (i : ℕ) (v : View) (t : SeatNotes) (x : ℕ) (stands : Represents c k s)
    (at : get_or s.views i v ≡ v) (at_t : IsSeatAt c i t) (hand : MayHand v)
    (held : place_for i (get_or c.blocks.items x no_block) ≡ place.Held) where
  keeps : KeepsViews c k s.views
  keeps = stands.keeps

  below : i < length s.views
  below = among keeps at_t.less

  kept : IsKept c i t v
  kept = keeps.each i t v below at_t at

  good : Good k (memory_in c k) s.views
  good = keeps.sound.good

  abbrev j : ℕ
  j = length s.views

  abbrev d : ℕ
  d = superblock_of v.setup.capacity x

  one_there : total (times x) v.small ≡ 1
  one_there = (kept.blocks x).held ∙ ap held_in held

  class : (n : ℕ) × (0 < times x (get_or v.small n []))
  class = in_some x v.small (omega (arith, one_there))

  holds : HoldsAt v x
  holds = record { block = record { first_word = x; words = words_of_class class.0 }; holds = a_small class.0 x class.1; at = refl }

  pub small_may : MayOffer v x
  small_may = record { may = hand; held = holds }

  laden : (b : Block) × IsHeld (carrier_of v x) b
  laden = (
    record { first_word = x; words = words_of_class class.0 },
    a_small class.0 x (let g = class_goes x class.0 v.small in
        let some = class.1 in omega arith),
  )

  -- a superblock that is cut is part of no large block
  no_large : times_large d v.large ≡ 0
  no_large =
      let same = ap (λ (h : Setup). superblock_of h.capacity x) (good.set_up i v below at).setup in
      let mine = total_at (times_block x) s.views i v below at in let one = one_there in
      let cut = (good.shaped.chained.inside x (omega arith)).0 in
      let p = good.shaped.placed.one_place (superblock_of k.capacity x) in
      let most = one_at_most (nat_lt (superblock_of k.capacity x) (used (memory_in c k))) in
      let large = total_at (λ (u : View). times_large (superblock_of k.capacity x) u.large) s.views i v below at in
      let is = ap (λ e. times_large e v.large) same in omega arith

  spans : (chosen_spans (λ e. nat_eq e d) v.large ≡ []) × (chosen_spans (λ e. not (nat_eq e d)) v.large ≡ v.large)
  spans = no_spans d v.large (good.claims i v below at).some no_large

  there : x < length c.blocks.items
  there = elim (cases_lt x (length c.blocks.items)) [
    | inl less ↦ less
    | inr past ↦ absurd (let z = ap (λ o. held_in (place_for i o)) (get_or_past c.blocks.items x no_block past) in let y = ap held_in held in
        let w = nowhere (nat_eq 0 i) in omega (arith, z, y, w))
  ] where
    nowhere : (test : Bool) → held_in (cond test place.Nowhere place.Nowhere) ≡ 0
    nowhere true = refl
    nowhere false = refl

  apart : j ≢ i
  apart same = omega (arith, same, below)

  theirs : (e : ℕ) → e ≢ i → place_for e (get_or c.blocks.items x no_block) ≡ place.Nowhere
  theirs e other = place_alone i e (get_or c.blocks.items x no_block) other (λ none. let z = ap held_in (sym held ∙ none) in omega (arith, z))

  module _ (c' : CoreState) (handed : IsHanded c c' i t) (blocks_are : c'.blocks.items ≡ set c.blocks.items x
      (record { seat = j; place = place.Held })) (same : c'.superblocks.items ≡ c.superblocks.items) where
    pub small_offer : Represents c' k (after_offer s i v x)
    small_offer = offer_stands c c' k s i v t x stands at at_t small_may handed
        (record {
          blocks = subst (λ os. HasBlocksOf os i (chosen_lists (λ e. not (nat_eq e x)) v.small) v.caches v.batch.blocks) (sym blocks_are) mine;
          superblocks = λ e. subst (λ os. IsUsage e (usage_for i (get_or os e no_superblock)) v.raw v.split v.cutting v.classed
              (chosen_spans (λ f. not (nat_eq f d)) v.large)) (sym same)
              (subst (λ l. IsUsage e (usage_for i (get_or c.superblocks.items e no_superblock)) v.raw v.split v.cutting v.classed l)
              (sym spans.1) (kept.superblocks e));
        })
        (record {
          blocks = subst (λ os. HasBlocksOf os j (chosen_lists (λ e. nat_eq e x) v.small) (nobody k).caches []) (sym blocks_are) new;
          superblocks = λ e. subst (λ os. IsUsage e (usage_for j (get_or os e no_superblock)) [] [] [] []
              (chosen_spans (λ f. nat_eq f d) v.large)) (sym same)
              (subst (λ l. IsUsage e (usage_for j (get_or c.superblocks.items e no_superblock)) [] [] [] [] l) (sym spans.0)
              ((keeps.none j (omega arith)).superblocks e));
        })
        laden
        (λ e u other old h. record {
          blocks = subst (λ os. HasBlocksOf os e u.small u.caches u.batch.blocks) (sym blocks_are)
              (places_theirs c.blocks.items j e x place.Held (λ b p. IsPlace b p u.small u.caches u.batch.blocks) there old (theirs e other) h.blocks);
          superblocks = λ b. subst (λ os. IsUsage b (usage_for e (get_or os b no_superblock)) u.raw u.split u.cutting u.classed u.large)
              (sym same) (h.superblocks b);
        }) where
          new : HasBlocksOf (set c.blocks.items x (record { seat = j; place = place.Held })) j (chosen_lists (λ e. nat_eq e x) v.small)
              (nobody k).caches []
          new = places_mine c.blocks.items j x place.Held (λ b p. IsPlace b p (chosen_lists (λ e. nat_eq e x) v.small) (nobody k).caches []) there
              (let none = (keeps.none j (omega arith)).blocks x in record { held = lists_all x v.small ∙ one_there; cached = refl; batched = refl })
              (λ e other. let none = (keeps.none j (omega arith)).blocks e in
              record { held = lists_only x e v.small other ∙ none.held; cached = none.cached; batched = none.batched })

          left : (e : ℕ) → total (times e) (chosen_lists (λ f. not (nat_eq f x)) v.small) + total (times e)
              (chosen_lists (λ f. nat_eq f x) v.small) ≡ total (times e) v.small
          left e = lists_both (λ f. nat_eq f x) e v.small

          mine : HasBlocksOf (set c.blocks.items x (record { seat = j; place = place.Held })) i
              (chosen_lists (λ e. not (nat_eq e x)) v.small) v.caches v.batch.blocks
          mine e = elim (cases_eq e x) [
            | inl here ↦ subst (λ n. IsPlace n (place_for i (get_or (set c.blocks.items x (record { seat = j; place = place.Held }))
                n no_block)) (chosen_lists (λ f. not (nat_eq f x)) v.small) v.caches v.batch.blocks) (sym here)
                (subst (λ p. IsPlace x p (chosen_lists (λ f. not (nat_eq f x)) v.small) v.caches v.batch.blocks)
                (sym (ap (place_for i) (get_or-set_same c.blocks.items x (record { seat = j; place = place.Held }) no_block there)
                ∙ place_theirs j i place.Held (λ h. apart (sym h))))
                (let o = kept.blocks x in let l = left x in let g = lists_all x v.small in let h = held in record {
                  held = (let one = one_there in omega arith);
                  cached = o.cached ∙ ap cached_in held;
                  batched = o.batched ∙ ap batched_in held;
                }))
            | inr other ↦ subst (λ o. IsPlace e (place_for i o) (chosen_lists (λ f. not (nat_eq f x)) v.small) v.caches v.batch.blocks)
                (sym (get_or-set_other c.blocks.items x e (record { seat = j; place = place.Held }) no_block other))
                (let o = kept.blocks e in let l = left e in let g = lists_only x e v.small other in
                record { held = (let h = o.held in omega arith); cached = o.cached; batched = o.batched })
          ]
