-- How a heap at rest is opened: the size of blocks by superblock, and held blocks by marks.
use Rattle.std.proofs.Common.{◌≡◌, ℕ, ◌+◌, ◌-◌, ◌*◌, ◌/◌, ◌%◌, ◌<◌, ◌≤◌, inl, inr, List, [], length, length-set, get_or, set, Contains, refl, ap, sym, subst, ◌∙◌, arith, get_or-set_same, get_or-set_other}
use Rattle.std.specs.Prelude.{slice_index}
use Rattle.std.proofs.lemmas.List.{get_or_default}
use Rattle.std.proofs.lemmas.Bool.{cases_eq}
use Rattle.heap_model.specs.declared.block.Block.{Block}
use Rattle.heap_model.specs.Geometry.{info_word, start_word, superblock_words, largest_capacity}
use Rattle.heap_model.specs.Header.{capacity_of, used_of}
use Rattle.heap_model.specs.Sizes.{IsClass, words_of_class}
use Rattle.heap_model.specs.Words.{large_info}
use Rattle.heap_model.specs.Blocks.{Begins, of_class, as_large, IsBlock, layout_of}
use Rattle.heap_model.specs.Rest.{IsReady}
use Rattle.heap_model.proofs.PartLemmas.{same_fields}
use Rattle.heap_model.proofs.BlockLemmas.{block_begins}
use Rattle.line_memory.specs.Marks.{IsMarked}
use Rattle.line_memory.specs.Marked.{marked_words-has}
use Rattle.heap_shape.specs.Moves.{AddsTo}
use Rattle.block_heap.specs.declared.held.HeldBlocks.{HeldBlocks}
use Rattle.block_heap.specs.Begun.{IsBegun}
use Rattle.block_heap.specs.Held.{held_of, HasMark, at_mark, block_of_mark}
use Rattle.block_heap.specs.Opening.{IsHeldOf}
use Rattle.block_heap.proofs.HeldLemmas.{has_map}
use Rattle.heap_model.proofs.MemberLemmas.{in_none}
use Rattle.block_heap.proofs.CachedBlockLemmas.{even_words, even_product}

-- an info that is a class tells its size
pub begun_class : (info class words : ℕ) → info ≡ class → IsClass class → words ≡ words_of_class class → IsBegun info words
begun_class info class words same is size = record {
  of_class = λ _. size ∙ ap words_of_class (sym same);
  as_large = λ n some few large. absurd (let last = is.last in omega arith);
}

-- one that is neither a class nor that of a large block tells nothing
pub begun_none : (info : ℕ) → (IsClass info → ⊥) × ((n : ℕ) → 1 ≤ n → info ≡ large_info n → ⊥) → IsBegun info 0
begun_none info none = record { of_class = λ is. absurd (none.0 is); as_large = λ n some few large. absurd (none.1 n some large) }

-- no mark is set where no block is held
pub no_mark : (h : HeldBlocks) → held_of h ≡ [] → (mark : ℕ) → IsMarked h.marks.items mark → ⊥
no_mark h none mark marked =
    let block = block_of_mark h.start h.words.items mark in
    let held : Contains (held_of h) block = has_map (block_of_mark h.start h.words.items) _ mark (marked_words-has h.marks.items mark marked) in
    in_none block (subst (λ xs. Contains xs block) none held)

-- the sizes of the blocks of the first superblocks are known
pub record KnowsFirst (words : List ℕ) (h : HeldBlocks) (count : ℕ) : Type 0 where
  pub start : h.start ≡ start_word (capacity_of (slice_index words)) 0
  pub long : length h.words.items ≡ capacity_of (slice_index words)
  pub sizes : (d : ℕ) → d < count → IsBegun (slice_index words (info_word d)) (slice_index h.words.items d)

-- and that of one more
pub knows_more : (words : List ℕ) (h new : HeldBlocks) (d size : ℕ) → KnowsFirst words h d → d < capacity_of (slice_index words)
    → IsBegun (slice_index words (info_word d)) size → new.start ≡ h.start → new.words.items ≡ set h.words.items d size → KnowsFirst words new (d + 1)
knows_more words h new d size knows within begun start sizes = record {
  start = start ∙ knows.start;
  long = ap length sizes ∙ length-set h.words.items d size ∙ knows.long;
  sizes = λ e less. elim (cases_eq e d) as (λ _. IsBegun (slice_index words (info_word e)) (slice_index new.words.items e)) [
    | inl same ↦
        let long : length h.words.items ≡ capacity_of (slice_index words) = knows.long in
        let within_list : d < length h.words.items = omega arith in
        let here : slice_index new.words.items d ≡ size = ap (λ xs. get_or xs d 0) sizes ∙ get_or-set_same h.words.items d size 0 within_list in
        subst (λ x. IsBegun (slice_index words (info_word x)) (slice_index new.words.items x)) (sym same)
        (subst (λ s. IsBegun (slice_index words (info_word d)) s) (sym here) begun)
    | inr other ↦
        let there : slice_index new.words.items e ≡ slice_index h.words.items e =
        ap (λ xs. get_or xs e 0) sizes ∙ get_or-set_other h.words.items d e size 0 other in
        subst (λ s. IsBegun (slice_index words (info_word e)) s) (sym there) (knows.sizes e (omega arith))
  ];
}

-- held blocks with the same sizes know as much
pub knows_same : (words : List ℕ) (h new : HeldBlocks) (count : ℕ) → new.start ≡ h.start → new.words.items ≡ h.words.items → KnowsFirst words h count
    → KnowsFirst words new count
knows_same words h new count start sizes knows = record {
  start = start ∙ knows.start;
  long = ap length sizes ∙ knows.long;
  sizes = λ d less. subst (λ xs. IsBegun (slice_index words (info_word d)) (slice_index xs d)) (sym sizes) (knows.sizes d less);
}

-- A block of the image, whose superblock's sizes are known.
module _ (words : List ℕ) (h : HeldBlocks) (b : Block)
    (small : capacity_of (slice_index words) ≤ largest_capacity) (used : used_of (slice_index words) ≤ capacity_of (slice_index words))
    (knows : KnowsFirst words h (capacity_of (slice_index words))) (is : IsBlock (layout_of (slice_index words)) b) where
  abbrev capacity : ℕ
  capacity = capacity_of (slice_index words)

  begins : (start_word capacity is.superblock ≤ b.first_word) × (b.first_word < start_word capacity (is.superblock + 1))
  begins = block_begins (layout_of (slice_index words)) b is.superblock is.index is.words is.count is.is_of

  -- it begins an even number of words behind the superblock's first one, and the size is known
  by_begins : (d w n k : ℕ) → Begins (layout_of (slice_index words)) d w n → d < used_of (slice_index words) → k < n
      → ((k * w) % 2 ≡ 0) × (slice_index h.words.items d ≡ w)
  by_begins d w n k (of_class c info is_class) taken below =
      let begun : IsBegun c (slice_index h.words.items d) = subst (λ i. IsBegun i (slice_index h.words.items d)) info (knows.sizes d (omega arith)) in
      (even_product k w (even_words c is_class), begun.of_class is_class)
  by_begins d w n k (as_large m some info end zeros) taken below =
      let first : k ≡ 0 = omega arith in
      let begun = knows.sizes d (omega arith) in
      let none = even_product 0 (superblock_words * m) (omega arith) in
      (subst (λ x. (x * (superblock_words * m)) % 2 ≡ 0) (sym first) none, begun.as_large m some (omega arith) info)

  sized : ((is.index * is.words) % 2 ≡ 0) × (slice_index h.words.items is.superblock ≡ is.words)
  sized = by_begins is.superblock is.words is.count is.index is.is_of.begins is.is_of.taken is.is_of.below

  -- it has a mark
  pub has_mark : HasMark h b.first_word
  has_mark =
      let start : h.start ≡ start_word capacity 0 = knows.start in
      let long : length h.words.items ≡ capacity = knows.long in
      let from = begins.0 in
      let until = begins.1 in
      let taken = is.is_of.taken in
      let at = is.is_of.at in
      let even = sized.0 in
      record { from = omega arith; until = omega arith; even = omega arith }

  -- by which it is found
  pub mark_finds : at_mark h b.first_word ≡ b
  mark_finds =
      let start : h.start ≡ start_word capacity 0 = knows.start in
      let from = begins.0 in
      let until = begins.1 in
      let d : (b.first_word - h.start) / 8192 ≡ is.superblock = omega arith in
      same_fields (at_mark h b.first_word) b refl (ap (λ e. slice_index h.words.items e) d ∙ sized.1 ∙ sym is.is_of.size)

-- the block is one of the first of the list
pub record IsOneOf (held : List Block) (count : ℕ) (b : Block) : Type 0 where
  pub number : ℕ
  pub below : number < count
  pub within : number < length held
  pub at : get_or held number b ≡ b

-- the blocks that are held are the first of the list
pub record HoldsFirst (held : List Block) (count : ℕ) (h : HeldBlocks) : Type 0 where
  pub has : (b : Block) → IsOneOf held count b → Contains (held_of h) b
  pub only : (b : Block) → Contains (held_of h) b → IsOneOf held count b

-- and one more
pub holds_more : (held : List Block) (count : ℕ) (h new : HeldBlocks) (b : Block) → HoldsFirst held count h → count < length held
    → get_or held count b ≡ b
    → AddsTo b (held_of h) (held_of new) → HoldsFirst held (count + 1) new
holds_more held count h new b holds within at adds = record {
  has = λ a one. elim (cases_eq one.number count) as (λ _. Contains (held_of new) a) [
    | inl last ↦
        let same : b ≡ a = sym at ∙ get_or_default held count b a within ∙ subst (λ k. get_or held k a ≡ a) last one.at in
        subst (λ x. Contains (held_of new) x) same adds.has
    | inr before ↦ adds.keeps a (holds.has a (let below = one.below in
        record { number = one.number; below = omega arith; within = one.within; at = one.at }))
  ];
  only = λ a p. elim (adds.only a p) as (λ _. IsOneOf held (count + 1) a) [
    | inl same ↦ record { number = count; below = omega arith; within = within; at = subst (λ x. get_or held count x ≡ x) (sym same) at }
    | inr old ↦ let one = holds.only a old in let below = one.below in
        record { number = one.number; below = omega arith; within = one.within; at = one.at }
  ];
}

-- at first none is
pub holds_none : (held : List Block) (h : HeldBlocks) → held_of h ≡ [] → HoldsFirst held 0 h
holds_none held h none = record {
  has = λ b one. absurd (let below = one.below in omega arith);
  only = λ b p. absurd (in_none b (subst (λ xs. Contains xs b) none p));
}

-- after the last the blocks are those of the list
pub all_held : (words : List ℕ) (held : List Block) (h : HeldBlocks) → KnowsFirst words h (capacity_of (slice_index words))
    → HoldsFirst held (length held) h
    → IsHeldOf words held h
all_held words held h knows holds = record {
  start = knows.start;
  long = knows.long;
  sizes = knows.sizes;
  same = λ b. (
    λ p. let one = holds.only b p in (one.number, one.within, one.at),
    λ p. holds.has b (record { number = p.0; below = p.1; within = p.1; at = p.2 }),
  );
}

-- The next block of a heap at rest: it has a mark, by which it is found, and then one more is held.
module _ (words : List ℕ) (held : List Block) (count : ℕ) (none : Block) (h : HeldBlocks) (ready : IsReady words held) (within : count < length held)
    (knows : KnowsFirst words h (capacity_of (slice_index words))) where
  abbrev next : Block
  next = get_or held count none

  next_at : get_or held count next ≡ next
  next_at = get_or_default held count next none within

  next_is : IsBlock (layout_of (slice_index words)) next
  next_is = ready.blocks next (count, within, next_at)

  pub next_marked : HasMark h next.first_word
  next_marked = has_mark words h next ready.formed.small ready.formed.used knows next_is

  pub next_held : (new : HeldBlocks) → HoldsFirst held count h → AddsTo (at_mark h next.first_word) (held_of h) (held_of new)
      → HoldsFirst held (count + 1) new
  next_held new holds adds =
      let finds = mark_finds words h next ready.formed.small ready.formed.used knows next_is in
      holds_more held count h new next holds within next_at (subst (λ b. AddsTo b (held_of h) (held_of new)) finds adds)
