-- What is whose after an accept.
use Rattle.std.proofs.Common.{◌≡◌, ◌≢◌, ℕ, ◌≤◌, inl, inr, cond, nat_eq, List, [], ◌∷◌, ◌++◌, Contains, get_or, map, refl, ap, sym, subst, ◌∙◌, arith}
use Rattle.heap_model.specs.Counting.{times, total}
use Rattle.core_model.specs.Carriers.{IsCarrier, accepted, both_lists, emptied}
use Rattle.core_model.specs.Effects.{claim_class, span_count}
use Rattle.core_model.specs.View.{Batch, Claim, Span, View, times_classed}
use Rattle.core_model.proofs.BothLemmas.{both_times, count_append, large_append}
use Rattle.core_model.proofs.PlaceLemmas.{not-eq, skip}
use Rattle.seat_state.specs.declared.superblocks.SuperblockOwner.{SuperblockOwner}
use Rattle.seat_state.specs.declared.superblocks.SuperblockUsage.{SuperblockUsage}
use Rattle.seat_state.specs.declared.superblocks.SuperblockUsage.TheVariants as usage
use Rattle.seat_state.specs.Superblocks.{HasSuperblocks, IsUsage, no_superblock, usage_for}
use Rattle.crash_core.specs.declared.owners.BlockOwner.{BlockOwner}
use Rattle.crash_core.specs.declared.owners.BlockPlace.{BlockPlace}
use Rattle.crash_core.specs.declared.owners.BlockPlace.TheVariants as place
use Rattle.crash_core.specs.Standing.{block_given, HasBlocksOf, IsPlace, no_block, owner_after, place_for, superblock_given}
use Rattle.crash_core.proofs.GivenOver.{at_map, giver_has, taker_has, third_has}

-- where none begins there in the second list, the one of the first counts
count_first : (d : ℕ) (xs ys : List Span) → span_count d ys ≡ 0 → span_count d (xs ++ ys) ≡ span_count d xs
count_first d [] ys none = none
count_first d (x ∷ xs) ys none = ap (λ n. cond (nat_eq x.first d) x.count n) (count_first d xs ys none)

-- where no large block of the first list takes it, the one of the second counts
count_second : (d : ℕ) (xs ys : List Span) → ((span : Span) → Contains xs span → 1 ≤ span.count) → span_count d xs ≡ 0
    → span_count d (xs ++ ys) ≡ span_count d ys
count_second d xs ys some none = elim (count_append d xs ys some) [
  | inl first ↦ absurd (let f = first.0 in
      omega (arith, f, none))
  | inr second ↦ second
]

module _ (from to : ℕ) (apart : from ≢ to) (carrier : from ≢ 0) where
  stays : owner_after from to 0 ≡ 0
  stays = skip (nat_eq 0 from) to 0 (not-eq 0 from (λ h. carrier (sym h)))

  module _ (owners : List BlockOwner) where
    block_at : (b : ℕ) → get_or (map (block_given from to) owners) b no_block ≡ block_given from to (get_or owners b no_block)
    block_at b = at_map (block_given from to) owners b no_block (ap (λ n. record { seat = n; place = place.Nowhere }) stays)

    place_after : (e b : ℕ) → place_for e (get_or (map (block_given from to) owners) b no_block) ≡ place_for e
        (block_given from to (get_or owners b no_block))
    place_after e b = ap (place_for e) (block_at b)

    pub blocks_third : (e : ℕ) (small caches : List (List ℕ)) (batch : List ℕ) → e ≢ from → e ≢ to → HasBlocksOf owners e small caches batch
        → HasBlocksOf (map (block_given from to) owners) e small caches batch
    blocks_third e small caches batch not_from not_to old b = let o = get_or owners b no_block in
        subst (λ p. IsPlace b p small caches batch) (sym (place_after e b
        ∙ third_has from to o.place place.Nowhere apart o.seat e not_from not_to)) (old b)

    pub blocks_left : (u : View) → IsCarrier u → HasBlocksOf (map (block_given from to) owners) from (emptied u).small (emptied u).caches
        (emptied u).batch.blocks
    blocks_left u carries b = let o = get_or owners b no_block in
        subst (λ p. IsPlace b p (emptied u).small (emptied u).caches (emptied u).batch.blocks)
        (sym (place_after from b ∙ giver_has from to o.place place.Nowhere apart o.seat))
        (record { held = refl; cached = ap (total (times b)) carries.free.0; batched = ap (λ (x : Batch). times b x.blocks) carries.free.1 })

    pub blocks_taken : (v u : View) → IsCarrier u → HasBlocksOf owners to v.small v.caches v.batch.blocks
        → HasBlocksOf owners from u.small u.caches u.batch.blocks
        → HasBlocksOf (map (block_given from to) owners) to (accepted v u).small (accepted v u).caches (accepted v u).batch.blocks
    blocks_taken v u carries seat carried b =
        let o = get_or owners b no_block in let both = both_times b u.small v.small in let s = seat b in let h = carried b in
        subst (λ p. IsPlace b p (both_lists u.small v.small) v.caches v.batch.blocks) (sym (place_after to b))
        (elim (taker_has from to o.place place.Nowhere apart o.seat) [
          | inl taken ↦ subst (λ p. IsPlace b p (both_lists u.small v.small) v.caches v.batch.blocks) (sym taken.0)
              (of_carrier (place_for from o) (subst (λ p. IsPlace b p v.small v.caches v.batch.blocks) taken.1 s) h)
          | inr own ↦ subst (λ p. IsPlace b p (both_lists u.small v.small) v.caches v.batch.blocks) (sym own.0)
              (of_seat (place_for to o) s (subst (λ p. IsPlace b p u.small u.caches u.batch.blocks) own.1 h))
        ]) where
          none_cached : total (times b) u.caches ≡ 0
          none_cached = ap (total (times b)) carries.free.0

          none_batched : times b u.batch.blocks ≡ 0
          none_batched = ap (λ (x : Batch). times b x.blocks) carries.free.1

          of_carrier : (p : BlockPlace) → IsPlace b place.Nowhere v.small v.caches v.batch.blocks → IsPlace b p u.small u.caches u.batch.blocks
              → IsPlace b p (both_lists u.small v.small) v.caches v.batch.blocks
          of_carrier p s h = record {
            held = (let both = both_times b u.small v.small in let x = s.held in let y = h.held in omega arith);
            cached = s.cached ∙ sym none_cached ∙ h.cached;
            batched = s.batched ∙ sym none_batched ∙ h.batched;
          }

          of_seat : (p : BlockPlace) → IsPlace b p v.small v.caches v.batch.blocks → IsPlace b place.Nowhere u.small u.caches u.batch.blocks
              → IsPlace b p (both_lists u.small v.small) v.caches v.batch.blocks
          of_seat p s h = record {
            held = (let both = both_times b u.small v.small in let x = s.held in let y = h.held in omega arith);
            cached = s.cached;
            batched = s.batched;
          }

  module _ (owners : List SuperblockOwner) where
    usage_after : (e d : ℕ) → usage_for e (get_or (map (superblock_given from to) owners) d no_superblock) ≡ usage_for e
        (superblock_given from to (get_or owners d no_superblock))
    usage_after e d = ap (usage_for e) (at_map (superblock_given from to) owners d no_superblock
        (ap (λ n. record { seat = n; usage = usage.Nothing }) stays))

    pub superblocks_third : (e : ℕ) (raw split cutting : List ℕ) (classed : List Claim) (large : List Span) → e ≢ from → e ≢ to
        → HasSuperblocks owners e raw split cutting classed large
        → HasSuperblocks (map (superblock_given from to) owners) e raw split cutting classed large
    superblocks_third e raw split cutting classed large not_from not_to old d = let o = get_or owners d no_superblock in
        subst (λ x. IsUsage d x raw split cutting classed large) (sym (usage_after e d
        ∙ third_has from to o.usage usage.Nothing apart o.seat e not_from not_to)) (old d)

    pub superblocks_left : (u : View) → IsCarrier u → HasSuperblocks (map (superblock_given from to) owners) from u.raw u.split u.cutting u.classed []
    superblocks_left u carries d = let o = get_or owners d no_superblock in
        subst (λ x. IsUsage d x u.raw u.split u.cutting u.classed [])
        (sym (usage_after from d ∙ giver_has from to o.usage usage.Nothing apart o.seat)) (record {
          is_raw = ap (times d) carries.claims.0;
          is_split = ap (times d) carries.claims.1;
          is_cutting = ap (times d) carries.claims.2;
          is_classed = ap (times_classed d) carries.claims.3;
          class = ap (claim_class d) carries.claims.3;
          is_large = refl;
          count = refl;
        })

    pub superblocks_taken : (v u : View) → IsCarrier u → ((span : Span) → Contains u.large span → 1 ≤ span.count)
        → HasSuperblocks owners to v.raw v.split v.cutting v.classed v.large → HasSuperblocks owners from u.raw u.split u.cutting u.classed u.large
        → HasSuperblocks (map (superblock_given from to) owners) to v.raw v.split v.cutting v.classed (u.large ++ v.large)
    superblocks_taken v u carries some seat carried d =
        let o = get_or owners d no_superblock in let s = seat d in let h = carried d in
        subst (λ x. IsUsage d x v.raw v.split v.cutting v.classed (u.large ++ v.large)) (sym (usage_after to d))
        (elim (taker_has from to o.usage usage.Nothing apart o.seat) [
          | inl taken ↦ subst (λ x. IsUsage d x v.raw v.split v.cutting v.classed (u.large ++ v.large)) (sym taken.0)
              (of_carrier (usage_for from o) (subst (λ x. IsUsage d x v.raw v.split v.cutting v.classed v.large) taken.1 s) h)
          | inr own ↦ subst (λ x. IsUsage d x v.raw v.split v.cutting v.classed (u.large ++ v.large)) (sym own.0)
              (of_seat (usage_for to o) s (subst (λ x. IsUsage d x u.raw u.split u.cutting u.classed u.large) own.1 h))
        ]) where
          of_carrier : (x : SuperblockUsage) → IsUsage d usage.Nothing v.raw v.split v.cutting v.classed v.large
              → IsUsage d x u.raw u.split u.cutting u.classed u.large → IsUsage d x v.raw v.split v.cutting v.classed (u.large ++ v.large)
          of_carrier x s h = record {
            is_raw = s.is_raw ∙ sym (ap (times d) carries.claims.0) ∙ h.is_raw;
            is_split = s.is_split ∙ sym (ap (times d) carries.claims.1) ∙ h.is_split;
            is_cutting = s.is_cutting ∙ sym (ap (times d) carries.claims.2) ∙ h.is_cutting;
            is_classed = s.is_classed ∙ sym (ap (times_classed d) carries.claims.3) ∙ h.is_classed;
            class = s.class ∙ sym (ap (claim_class d) carries.claims.3) ∙ h.class;
            is_large = (let l = large_append d u.large v.large in let a = s.is_large in let b = h.is_large in omega arith);
            count = count_first d u.large v.large s.count ∙ h.count;
          }

          of_seat : (x : SuperblockUsage) → IsUsage d x v.raw v.split v.cutting v.classed v.large
              → IsUsage d usage.Nothing u.raw u.split u.cutting u.classed u.large → IsUsage d x v.raw v.split v.cutting v.classed (u.large ++ v.large)
          of_seat x s h = record {
            is_raw = s.is_raw;
            is_split = s.is_split;
            is_cutting = s.is_cutting;
            is_classed = s.is_classed;
            class = s.class;
            is_large = (let l = large_append d u.large v.large in let a = s.is_large in let b = h.is_large in omega arith);
            count = count_second d u.large v.large some h.count ∙ s.count;
          }
