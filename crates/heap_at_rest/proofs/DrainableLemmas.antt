-- What recovery or opening by anchors leaves is drainable, and what is then to be drained is what the image had to give.
use Rattle.std.proofs.Common.{◌≡◌, ℕ, ◌+◌, ◌<◌, ◌≤◌, ◌↔◌, inl, inr, List, [], ◌∷◌, Contains, refl, sym, subst, ◌∙◌, arith}
use Rattle.std.proofs.lemmas.Bool.{cases_eq}
use Rattle.heap_model.specs.declared.block.Block.{Block}
use Rattle.heap_model.specs.Geometry.{head_word, info_word, link_word, used_word, largest_capacity, largest_capacity_fits}
use Rattle.heap_model.specs.Image.{Image}
use Rattle.heap_model.specs.Header.{capacity_of}
use Rattle.heap_model.specs.Sizes.{IsClass}
use Rattle.heap_model.specs.Words.{head_first}
use Rattle.heap_model.specs.Blocks.{Layout, layout_of, IsBlock}
use Rattle.heap_model.specs.Reach.{Links, IsReached}
use Rattle.heap_model.specs.Recovered.{HasPartIn, IsFreeSuperblock, AreAscending, IsDrained, beside, freed, fresh}
use Rattle.heap_model.specs.Chains.{Follows}
use Rattle.heap_model.specs.Recovery.{HoldsKept, IsPartial, IsFullyKept, IsInLarge, IsRecovered, first_number}
use Rattle.heap_model.proofs.ReachLemmas.{reached_block}
use Rattle.heap_model.proofs.PartLemmas.{cases_parts, cases_class}
use Rattle.heap_at_rest.proofs.PartLemmas.{cases_held, part_taken}
use Rattle.heap_at_rest.proofs.RecoveredLemmas.{same_used}
use Rattle.heap_at_rest.specs.Draining.{HasNoHeld, IsDrainable, IsInFreeList, IsToDrain}

-- what is in the list that the head of list 0 leads along is in the free list
pub free_follows : (capacity e : ℕ) (image : Image) (free : List ℕ)
    → Follows (λ k. image (link_word k)) capacity (head_first (image (head_word 0))) free
    → Contains free e → IsInFreeList capacity image e
free_follows capacity e image free follows p = record { free = free; leads = follows; has = p }

-- a head that was never popped is the number of its list's first descriptor
pub head_at_rest : (link : ℕ → ℕ) (capacity head : ℕ) (ds : List ℕ) → capacity ≤ largest_capacity → Follows link capacity head ds
    → Follows link capacity (head_first head) ds
head_at_rest link capacity head [] small follows = let none : head ≡ 0 = follows in omega arith
head_at_rest link capacity head (d ∷ ds) small follows =
    let first : head ≡ d + 1 = follows.0 in
    let within : d < capacity = follows.1 in
    (omega (arith, largest_capacity_fits), within, follows.2)

-- what draining needs of an image that was made from another: the infos of superblocks with a part of a kept block
-- stay, and the others are the free list
pub record LeavesPlaces (old new : Image) (kept : Block → Type 0) : Type 0 where
  pub used : new used_word ≡ old used_word
  pub partial : (class d : ℕ) → IsClass class → IsPartial (layout_of old) kept class d → new (info_word d) ≡ class
  pub full : (class d : ℕ) → IsClass class → IsFullyKept (layout_of old) kept class d → new (info_word d) ≡ class
  pub in_large : (d : ℕ) → IsInLarge (layout_of old) kept d → new (info_word d) ≡ old (info_word d)
  pub free : List ℕ
  pub listed : AreAscending (λ d. d) (IsFreeSuperblock (layout_of old) kept) free
  pub head : new (head_word 0) ≡ first_number free
  pub links : Follows (λ d. new (link_word d)) (capacity_of old) (first_number free) free

-- recovery leaves them so
pub recovered_places : (old new : Image) (kept : Block → Type 0) → IsRecovered old new kept → LeavesPlaces old new kept
recovered_places old new kept recovered = record {
  used = same_used old new recovered.same;
  partial = λ class d is part. (recovered.partial class d is part).words.info_is;
  full = λ class d is full. (recovered.full class d is full).info_is;
  in_large = λ d large. (recovered.in_large d large).info_is;
  free = recovered.descriptors 0;
  listed = recovered.listed 0 (omega arith);
  head = recovered.heads 0 (omega arith);
  links = recovered.links 0 (omega arith);
}

-- where the same blocks are kept, the same superblocks are free, and the same blocks are given
pub same_free : (l : Layout) (kept other : Block → Type 0) → ((b : Block) → kept b ↔ other b) → (d : ℕ) → IsFreeSuperblock l kept d
    → IsFreeSuperblock l other d
same_free l kept other same d free = record { taken = free.taken; empty = λ b is part. free.empty b ((same b).1 is) part }

pub same_drained : (l : Layout) (kept other : Block → Type 0) (same : (b : Block) → kept b ↔ other b) (class : ℕ) (b : Block)
    → IsDrained l kept class b → IsDrained l other class b
same_drained l kept other same class b (beside _ d index is taken info of unkept not_free) =
    beside b d index is taken info of (λ holds. unkept ((same b).1 holds))
    (λ free. not_free (same_free l other kept (λ a. ((same a).1, (same a).0)) d free))
same_drained l kept other same class b (freed _ d index is free of) = freed b d index is (same_free l kept other same d free) of
same_drained l kept other same class b (fresh _ d index is past within of) = fresh b d index is past within of

-- the held blocks are exactly the kept ones, and each of them is a block of the old image
module _ (old new : Image) (kept : Block → Type 0) (held : List Block) (left : LeavesPlaces old new kept)
    (named : (b : Block) → kept b → IsBlock (layout_of old) b) (are_held : (b : Block) → Contains held b ↔ kept b) where
  -- a superblock in which no held block has a part is a free one, and the other way round
  free_of_none : (d : ℕ) → d < old used_word → HasNoHeld (capacity_of old) held d → IsFreeSuperblock (layout_of old) kept d
  free_of_none d taken none = record { taken = taken; empty = λ b is part. none b ((are_held b).1 is) part }

  none_of_free : (d : ℕ) → IsFreeSuperblock (layout_of old) kept d → HasNoHeld (capacity_of old) held d
  none_of_free d free b holds part = free.empty b ((are_held b).0 holds) part

  -- the info of a superblock with a part of a held block stays
  info_stays : (b : Block) (d : ℕ) → Contains held b → HasPartIn (capacity_of old) b d → new (info_word d) ≡ old (info_word d)
  info_stays b d holds part =
      let is_kept = (are_held b).0 holds in
      let taken = part_taken (layout_of old) b d (named b is_kept) part in
      let here : HoldsKept (layout_of old) kept d = record { block = b; is_kept = is_kept; part = part } in
      elim (cases_class (old (info_word d))) as (λ _. new (info_word d) ≡ old (info_word d)) [
        | inr no_class ↦ left.in_large d (record { taken = taken; holds = here; no_class = no_class })
        | inl is ↦ elim (cases_eq (new (info_word d)) (old (info_word d))) as (λ _. new (info_word d) ≡ old (info_word d)) [
          | inl same ↦ same
          | inr other ↦ left.full (old (info_word d)) d is (record {
            taken = taken;
            info_is = refl;
            all = λ index a of. elim (cases_held held a) as (λ _. kept a) [
              | inl held_too ↦ (are_held a).0 held_too
              | inr unheld ↦ absurd (other (left.partial (old (info_word d)) d is (record {
                taken = taken;
                info_is = refl;
                holds = here;
                spare = (a.first_word, record { index = index; block = a; is_block = of; first = refl; unkept = λ too. unheld ((are_held a).1 too) });
              })))
            ];
          })
        ]
      ]

  -- each superblock without a held block is in the free list
  pub left_drainable : capacity_of old ≤ largest_capacity → (class : ℕ) → IsDrainable (capacity_of old) new held class
  left_drainable small class = record {
    each = λ d taken none. inr (free_follows (capacity_of old) d new left.free leads
        (left.listed.complete d (free_of_none d (subst (λ u. d < u) left.used taken) none)));
  } where
    leads : Follows (λ e. new (link_word e)) (capacity_of old) (head_first (new (head_word 0))) left.free
    leads = subst (λ h. Follows (λ e. new (link_word e)) (capacity_of old) (head_first h) left.free) (sym left.head)
        (head_at_rest (λ e. new (link_word e)) (capacity_of old) (first_number left.free) left.free small left.links)

  -- what the image had to give is to be drained, and nothing else
  still_given : (b : Block) (class : ℕ) → IsDrained (layout_of old) kept class b → IsToDrain (capacity_of old) new held class b
  still_given b class (beside _ d index is taken info of unkept not_free) =
      elim (cases_parts (capacity_of old) held d) as (λ _. IsToDrain (capacity_of old) new held class b) [
        | inl some ↦ beside b d index is (subst (λ u. d < u) (sym left.used) taken) (info_stays some.0 d some.1 some.2 ∙ info) of
            (λ holds. unkept ((are_held b).0 holds)) (λ free. free.empty some.0 some.1 some.2)
        | inr none ↦ absurd (not_free (free_of_none d taken none))
      ]
  still_given b class (freed _ d index is free of) =
      freed b d index is (record { taken = subst (λ u. d < u) (sym left.used) free.taken; empty = none_of_free d free }) of
  still_given b class (fresh _ d index is past within of) = fresh b d index is (subst (λ u. u ≤ d) (sym left.used) past) within of

  given_before : (b : Block) (class : ℕ) → IsToDrain (capacity_of old) new held class b → IsDrained (layout_of old) kept class b
  given_before b class (beside _ d index is taken info of unheld not_free) =
      elim (cases_parts (capacity_of old) held d) as (λ _. IsDrained (layout_of old) kept class b) [
        | inl some ↦ beside b d index is (subst (λ u. d < u) left.used taken) (sym (info_stays some.0 d some.1 some.2) ∙ info) of
            (λ is_kept. unheld ((are_held b).1 is_kept)) (λ free. none_of_free d free some.0 some.1 some.2)
        | inr none ↦ absurd (not_free (record { taken = taken; empty = none }))
      ]
  given_before b class (freed _ d index is free of) = freed b d index is (free_of_none d (subst (λ u. d < u) left.used free.taken) free.empty) of
  given_before b class (fresh _ d index is past within of) = fresh b d index is (subst (λ u. u ≤ d) left.used past) within of

  pub left_drains : (b : Block) (class : ℕ) → IsDrained (layout_of old) kept class b ↔ IsToDrain (capacity_of old) new held class b
  left_drains b class = (still_given b class, given_before b class)

-- the same where the kept blocks are the reached ones, which are blocks of the image
pub reached_drainable : (old new : Image) (kinds : ℕ → ℕ) (links : Links) (held : List Block) (class : ℕ)
    → IsRecovered old new (IsReached old kinds links)
    → ((b : Block) → Contains held b ↔ IsReached old kinds links b) → capacity_of old ≤ largest_capacity → IsDrainable (capacity_of old) new held class
reached_drainable old new kinds links held class recovered are_held small =
    left_drainable old new (IsReached old kinds links) held (recovered_places old new (IsReached old kinds links) recovered)
    (λ b is. reached_block old kinds links b is.kind is.reach) are_held small class

pub reached_drains : (old new : Image) (kinds : ℕ → ℕ) (links : Links) (held : List Block) (class : ℕ) → IsRecovered old new (IsReached old kinds links)
    → ((b : Block) → Contains held b ↔ IsReached old kinds links b) → (b : Block)
    → IsDrained (layout_of old) (IsReached old kinds links) class b ↔ IsToDrain (capacity_of old) new held class b
reached_drains old new kinds links held class recovered are_held b =
    left_drains old new (IsReached old kinds links) held (recovered_places old new (IsReached old kinds links) recovered)
    (λ a is. reached_block old kinds links a is.kind is.reach) are_held b class
