-- What is to be drained loses each block that is popped off a cache, and is nothing in the end.
use Rattle.std.proofs.Common.{◌≡◌, ℕ, zero, suc, ◌+◌, ◌<◌, ◌≤◌, ◌⊎◌, inl, inr, List, [], ◌∷◌, nat_eq, Contains, refl, ap, sym, subst, ◌∙◌, arith}
use Rattle.std.proofs.lemmas.Bool.{cases_eq, eq-eqb}
use Rattle.heap_model.specs.declared.block.Block.{Block}
use Rattle.heap_model.specs.Geometry.{info_word, used_word, start_word}
use Rattle.heap_model.specs.Image.{Image}
use Rattle.heap_model.specs.Sizes.{IsClass, blocks_of, words_of_class}
use Rattle.heap_model.specs.Blocks.{of_class, IsBlockOf, IsBlock}
use Rattle.heap_model.specs.Recovered.{HasPartIn, IsBlockOfClass, beside, freed, fresh}
use Rattle.heap_model.specs.Counting.{times, one_if}
use Rattle.heap_model.proofs.MemberLemmas.{in_none, in_head}
use Rattle.heap_model.proofs.SizeLemmas.{blocks_fit}
use Rattle.heap_model.proofs.BlockLemmas.{block_step, block_words, same_first}
use Rattle.heap_model.proofs.CountingLemmas.{one_if_true}
use Rattle.heap_model.proofs.PartLemmas.{cases_parts}
use Rattle.heap_at_rest.proofs.PartLemmas.{cases_held, part_taken, class_part}
use Rattle.heap_shape.specs.Shape.{Place, in_list, is_full, in_large, is_new, Shape, stands_in}
use Rattle.heap_shape.specs.Standing.{first_of, HoldsAt, HasOneOwner, a_free, a_held, IsOfClass, IsAs}
use Rattle.heap_at_rest.specs.Draining.{layout_at, IsDrainable, IsToDrain}
use Rattle.heap_shape.specs.Whole.{IsShape}
use Rattle.heap_shape.specs.Moves.{with_cache, AddsTo}
use Rattle.heap_shape.specs.Draining.{HasUse, for_class, for_held, for_later, IsAccounted, DrainsOne}
use Rattle.heap_shape.proofs.AccountLemmas.{in_listed}
use Rattle.heap_shape.proofs.BasicLemmas.{cached_of_class}
use Rattle.heap_shape.proofs.CacheLemmas.{pop_block}

-- a block of a class has a part in no other superblock
part_in_one : (capacity class d index e : ℕ) (b : Block) → IsClass class → IsBlockOfClass capacity class d index b → HasPartIn capacity b e → e ≡ d
part_in_one capacity class d index e b is of part =
    let step = block_step index (blocks_of class) (words_of_class class) of.below in
    let fit = blocks_fit class is in
    let at = of.at in
    let size = of.size in
    let begins = part.begins in
    let ends = part.ends in
    omega arith

-- a block was popped off its cache
pub pop_block_drains : (capacity class w : ℕ) (image : Image) (held now : List Block) (s : Shape) (ws : List ℕ)
    → IsClass class → IsShape capacity image held s → s.cached class ≡ w ∷ ws
    → AddsTo (record { first_word = w; words = words_of_class class }) held now
    → DrainsOne capacity class image held now (record { first_word = w; words = words_of_class class })
pop_block_drains capacity class w image held now s ws is shape cached adds = record {
  was = was;
  rest = rest;
  only = only;
  gone = gone;
  drainable = drainable;
  accounted = accounted;
} where
  b : Block
  b = record { first_word = w; words = words_of_class class }

  popped : IsShape capacity image now (with_cache s class (image w) ws) × (Contains held b → ⊥)
  popped = pop_block capacity class w image held now s ws is shape cached adds

  in_cache : Contains (s.cached class) w
  in_cache = subst (λ xs. Contains xs w) (sym cached) (in_head w ws)

  -- the superblock of the block
  d : ℕ
  d = (shape.cached class w is in_cache).superblock

  index : ℕ
  index = (shape.cached class w is in_cache).is_first.index

  is_of : IsBlockOfClass capacity class d index b
  is_of = let first = (shape.cached class w is in_cache).is_first in record { below = first.below; at = first.at; size = refl }

  was : IsToDrain capacity image held class b
  was = elim (cases_parts capacity held d) as (λ _. IsToDrain capacity image held class b) [
    | inl some ↦ let of_class = cached_of_class capacity image held s shape class w is in_cache in
        beside b d index is of_class.taken of_class.info is_of popped.1 (λ free. free.empty some.0 some.1 some.2)
    | inr none ↦ freed b d index is (record { taken = (cached_of_class capacity image held s shape class w is in_cache).taken; empty = none }) is_of
  ]

  -- a block that was not held is that one, or is not held now
  unheld : (a : Block) → (Contains held a → ⊥) → (a ≡ b) ⊎ (Contains now a → ⊥)
  unheld a unkept = elim (cases_held now a) as (λ _. (a ≡ b) ⊎ (Contains now a → ⊥)) [
    | inl holds ↦ elim (adds.only a holds) as (λ _. (a ≡ b) ⊎ (Contains now a → ⊥)) [
      | inl same ↦ inl same
      | inr before ↦ absurd (unkept before)
    ]
    | inr none ↦ inr none
  ]

  rest : (a : Block) → IsToDrain capacity image held class a → (a ≡ b) ⊎ IsToDrain capacity image now class a
  rest a (beside _ e i is_class taken info of unkept not_free) = elim (unheld a unkept) as (λ _. (a ≡ b) ⊎ IsToDrain capacity image now class a) [
    | inl same ↦ inl same
    | inr none ↦ inr (beside a e i is_class taken info of none
        (λ free. not_free (record { taken = taken; empty = λ h p part. free.empty h (adds.keeps h p) part })))
  ]
  rest a (freed _ e i is_class free of) = elim (cases_eq e d) as (λ _. (a ≡ b) ⊎ IsToDrain capacity image now class a) [
    | inl one ↦ elim (unheld a (λ p. free.empty a p (class_part capacity class e i a is of))) as (λ _. (a ≡ b) ⊎ IsToDrain capacity image now class a) [
      | inl same ↦ inl same
      | inr none ↦ inr (beside a e i is_class free.taken (subst (λ x. image (info_word x) ≡ class) (sym one)
          (cached_of_class capacity image held s shape class w is in_cache).info) of none
          (λ still. still.empty b adds.has (subst (HasPartIn capacity b) (sym one) (class_part capacity class d index b is is_of))))
    ]
    | inr apart ↦ inr (freed a e i is_class (record {
      taken = free.taken;
      empty = λ h p part. elim (adds.only h p) as (λ _. ⊥) [
        | inl same ↦ apart (part_in_one capacity class d index e b is is_of (subst (λ x. HasPartIn capacity x e) same part))
        | inr before ↦ free.empty h before part
      ];
    }) of)
  ]
  rest a (fresh _ e i is_class past within of) = inr (fresh a e i is_class past within of)

  only : (a : Block) → IsToDrain capacity image now class a → IsToDrain capacity image held class a
  only a (beside _ e i is_class taken info of unkept not_free) = elim (cases_parts capacity held e) as (λ _. IsToDrain capacity image held class a) [
    | inl some ↦ beside a e i is_class taken info of (λ p. unkept (adds.keeps a p)) (λ free. free.empty some.0 some.1 some.2)
    | inr none ↦ freed a e i is_class (record { taken = taken; empty = none }) of
  ]
  only a (freed _ e i is_class free of) = freed a e i is_class (record {
    taken = free.taken;
    empty = λ h p part. free.empty h (adds.keeps h p) part;
  }) of
  only a (fresh _ e i is_class past within of) = fresh a e i is_class past within of

  -- a held block is not to be given
  not_held : (a : Block) → Contains now a → IsToDrain capacity image now class a → ⊥
  not_held a holds (beside _ e i is_class taken info of unkept not_free) = unkept holds
  not_held a holds (freed _ e i is_class free of) = free.empty a holds (class_part capacity class e i a is of)
  not_held a holds (fresh _ e i is_class past within of) =
      let taken = part_taken (layout_at capacity image) a e (popped.0.named a holds) (class_part capacity class e i a is of) in omega arith

  gone : IsToDrain capacity image now class b → ⊥
  gone = not_held b adds.has

  drainable : IsDrainable capacity image held class → IsDrainable capacity image now class
  drainable before = record { each = λ e taken none. before.each e taken (λ h p part. none h (adds.keeps h p) part) }

  accounted : IsAccounted capacity image held → IsAccounted capacity image now
  accounted before = record { each = λ e taken. by_use e (before.each e taken) } where
    by_use : (e : ℕ) → HasUse capacity image held e → HasUse capacity image now e
    by_use e (for_class is_class) = for_class is_class
    by_use e (for_held h holds part) = for_held h (adds.keeps h holds) part
    by_use e (for_later in_free) = for_later in_free

-- nothing is left where cache, class list and free list are empty and every superblock was taken
pub drained_none : (capacity class : ℕ) (image : Image) (held : List Block) (s : Shape) → IsClass class → IsShape capacity image held s
    → s.cached class ≡ [] → s.listed class ≡ [] → s.listed 0 ≡ []
    → capacity < image used_word + 1 → IsDrainable capacity image held class → (b : Block) → IsToDrain capacity image held class b → ⊥
drained_none capacity class image held s is shape cached listed free past drainable b drained = given b drained where
  -- each block of a superblock of the class is held
  all_held : (d : ℕ) (p : Place) → IsAs capacity image s held d p → s.place d ≡ p → d < image used_word → image (info_word d) ≡ class
      → (index : ℕ) → index < blocks_of class → HoldsAt held (first_of capacity class d index)
  all_held d (in_list zero) as_free place taken info index below =
      let count = shape.listed 0 d (omega arith) in
      let none : times d (s.listed 0) ≡ 0 = ap (times d) free in
      let here : stands_in (s.place d) 0 ≡ 1 = ap (λ q. stands_in q 0) place in
      absurd (omega arith)
  all_held d (in_list (suc c)) in_class place taken info index below =
      let last = is.last in
      let one : suc c ≡ class = sym in_class.of_class.info ∙ info in
      let count = shape.listed class d (omega arith) in
      let none : times d (s.listed class) ≡ 0 = ap (times d) listed in
      let here : stands_in (s.place d) class ≡ one_if (nat_eq (suc c) class) = ap (λ q. stands_in q class) place in
      let same = one_if_true (nat_eq (suc c) class) (eq-eqb (suc c) class one) in
      absurd (omega arith)
  all_held d is_full full place taken info index below =
      owner (of_class.owned index below) where
        of_class : IsOfClass capacity image s held class d
        of_class = subst (λ c. IsOfClass capacity image s held c d) info full.of_class

        owner : HasOneOwner s held class d (first_of capacity class d index) → HoldsAt held (first_of capacity class d index)
        owner (a_held none at) = at
        owner (a_free once unheld) =
            let no_chain : times (first_of capacity class d index) (s.chain d) ≡ 0 = ap (times (first_of capacity class d index)) full.none in
            let no_cache : times (first_of capacity class d index) (s.cached class) ≡ 0 = ap (times (first_of capacity class d index)) cached in
            absurd (omega arith)
  all_held d in_large large place taken info index below = absurd (large.no_class (subst IsClass (sym info) is))
  all_held d is_new new place taken info index below = let never = new.past in absurd (omega arith)

  holds : (d : ℕ) → d < image used_word → image (info_word d) ≡ class → (index : ℕ) → index < blocks_of class
      → HoldsAt held (first_of capacity class d index)
  holds d taken info = let most = shape.used in all_held d (s.place d) (shape.places d (omega arith)) refl taken info

  -- so none of its blocks is to be given
  given : (a : Block) → IsToDrain capacity image held class a → ⊥
  given a (beside _ d index is_class taken info of unkept not_free) =
      let at = holds d taken info index of.below in
      let is_of : IsBlockOf (layout_at capacity image) a d index (words_of_class class) (blocks_of class) =
      record { taken = taken; begins = of_class class info is; below = of.below; at = of.at; size = of.size } in
      let block : IsBlock (layout_at capacity image) a =
      record { superblock = d; index = index; words = words_of_class class; count = blocks_of class; is_of = is_of } in
      let same = same_first (layout_at capacity image) at.block a (shape.named at.block at.holds) block (at.at ∙ sym of.at) in
      unkept (subst (Contains held) same at.holds)
  given a (freed _ d index is_class none of) = elim (drainable.each d none.taken none.empty) as (λ _. ⊥) [
    | inl info ↦
        let at = holds d none.taken info index of.below in
        let first : at.block.first_word ≡ a.first_word = at.at ∙ sym of.at in
        let some = block_words (layout_at capacity image) at.block (shape.named at.block at.holds) in
        let part = class_part capacity class d index a is of in
        let begins = part.begins in
        let from : start_word capacity d ≤ a.first_word = omega (arith, of.at) in
        none.empty at.block at.holds (record { begins = omega arith; ends = omega arith })
    | inr in_free ↦ in_none d (subst (λ xs. Contains xs d) free (in_listed capacity d image held s shape in_free))
  ]
  given a (fresh _ d index is_class untaken within of) = omega arith
