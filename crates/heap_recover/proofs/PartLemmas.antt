-- How the blocks of a superblock of a class are parted, one after the other.
use Rattle.std.proofs.Common.{◌≡◌, ◌↔◌, ℕ, ◌+◌, ◌<◌, ◌⊎◌, inl, inr, Bool, true, false, IsTrue, List, [], ◌∷◌, ◌++◌, ap, sym, subst, ◌∙◌, arith}
use Rattle.std.specs.List.{Contains}
use Rattle.std.proofs.lemmas.Bool.{cases_lt, false≢true}
use Rattle.std.proofs.lemmas.List.Elements.{Contains-append_left, Contains-push}
use Rattle.heap_model.specs.declared.block.Block.{Block}
use Rattle.heap_model.specs.Geometry.{start_word}
use Rattle.heap_model.specs.Sizes.{IsClass, words_of_class, blocks_of}
use Rattle.heap_model.specs.Recovered.{IsBlockOfClass}
use Rattle.heap_model.specs.Blocks.{Layout, of_class, IsBlockOf, IsBlock}
use Rattle.heap_model.proofs.BlockLemmas.{block_step, some_words, begins_inside}
use Rattle.heap_model.proofs.SizeLemmas.{two_words}
use Rattle.super_block.specs.Index.{HasIndex}
use Rattle.super_block.proofs.IndexLemmas.{same_index}
use Rattle.filter_trace.specs.Reached.{IsReachedAt}
use Rattle.heap_recover.specs.Marked.{IsMarked, IsKeptAmong, IsSpareAmong, AreParted}
use Rattle.heap_recover.proofs.AscendingLemmas.{ascending_none, ascending_same, ascending_push}

-- a superblock has one block of an index
pub one_of_index : (capacity class d index : ℕ) (a b : Block) → IsBlockOfClass capacity class d index a
    → IsBlockOfClass capacity class d index b → a ≡ b
one_of_index capacity class d index a b is_a is_b =
    let first : a.first_word ≡ b.first_word = is_a.at ∙ sym is_b.at in
    let words : a.words ≡ b.words = is_a.size ∙ sym is_b.size in
    λ i. record { first_word = first i; words = words i }

-- its blocks stand in the order of their indexes
pub by_index : (capacity class d j k : ℕ) (a b : Block) → IsClass class → IsBlockOfClass capacity class d j a
    → IsBlockOfClass capacity class d k b → j < k → a.first_word < b.first_word
by_index capacity class d j k a b is is_a is_b less = omega (arith, is_a.at, is_b.at, block_step j k (words_of_class class) less, two_words class is)

module _ (kept : Block → Type 0) (capacity class d : ℕ) (is : IsClass class) where
  -- a kept one among more is among fewer, or is the last
  kept_before : (count : ℕ) (b x : Block) → IsBlockOfClass capacity class d count b → IsKeptAmong kept capacity class d (count + 1) x
      → IsKeptAmong kept capacity class d count x ⊎ (x ≡ b)
  kept_before count b x is_b is_x = elim (cases_lt is_x.index count) as (λ _. IsKeptAmong kept capacity class d count x ⊎ (x ≡ b)) [
    | inl before ↦ inl (record { index = is_x.index; is_block = is_x.is_block; among = before; is_kept = is_x.is_kept })
    | inr past ↦ let last : is_x.index ≡ count = let among = is_x.among in omega arith in
        inr (one_of_index capacity class d count x b (subst (λ i. IsBlockOfClass capacity class d i x) last is_x.is_block) is_b)
  ]

  kept_more : (count : ℕ) (x : Block) → IsKeptAmong kept capacity class d count x → IsKeptAmong kept capacity class d (count + 1) x
  kept_more count x is_x = record {
    index = is_x.index;
    is_block = is_x.is_block;
    among = (let among = is_x.among in omega arith);
    is_kept = is_x.is_kept;
  }

  -- the same of the others
  spare_before : (count w : ℕ) (b : Block) → IsBlockOfClass capacity class d count b → IsSpareAmong kept capacity class d (count + 1) w
      → IsSpareAmong kept capacity class d count w ⊎ ((w ≡ b.first_word) × (kept b → ⊥))
  spare_before count w b is_b is_w = elim (cases_lt is_w.index count) as
      (λ _. IsSpareAmong kept capacity class d count w ⊎ ((w ≡ b.first_word) × (kept b → ⊥))) [
        | inl before ↦ inl (record {
          index = is_w.index;
          block = is_w.block;
          is_block = is_w.is_block;
          among = before;
          first = is_w.first;
          unkept = is_w.unkept;
        })
        | inr past ↦ let last : is_w.index ≡ count = let among = is_w.among in omega arith in
            let same : is_w.block ≡ b = one_of_index capacity class d count is_w.block b
            (subst (λ i. IsBlockOfClass capacity class d i is_w.block) last is_w.is_block) is_b in
            inr (sym is_w.first ∙ ap (λ (x : Block). x.first_word) same, λ here. is_w.unkept (subst kept (sym same) here))
      ]

  spare_more : (count w : ℕ) → IsSpareAmong kept capacity class d count w → IsSpareAmong kept capacity class d (count + 1) w
  spare_more count w is_w = record {
    index = is_w.index;
    block = is_w.block;
    is_block = is_w.is_block;
    among = (let among = is_w.among in omega arith);
    first = is_w.first;
    unkept = is_w.unkept;
  }

  -- no blocks yet
  pub parted_none : AreParted kept capacity class d 0 [] []
  parted_none = record {
    kept_in_order = ascending_none (λ (b : Block). b.first_word) (IsKeptAmong kept capacity class d 0) (λ x is_x. let among = is_x.among in
        omega arith);
    spares_in_order = ascending_none (λ w. w) (IsSpareAmong kept capacity class d 0) (λ w is_w. let among = is_w.among in omega arith);
    each = λ index b below is_b. absurd (omega arith);
  }

  -- one more that is kept
  pub parted_held : (count : ℕ) (held : List Block) (spares : List ℕ) (b : Block) → IsBlockOfClass capacity class d count b → kept b
      → AreParted kept capacity class d count held spares → AreParted kept capacity class d (count + 1) (held ++ b ∷ []) spares
  parted_held count held spares b is_b here old = record {
    kept_in_order = ascending_push (λ (x : Block). x.first_word) (IsKeptAmong kept capacity class d count)
        (IsKeptAmong kept capacity class d (count + 1)) held b old.kept_in_order
        (λ x is_x. by_index capacity class d is_x.index count x b is is_x.is_block is_b is_x.among)
        (kept_more count)
        (record { index = count; is_block = is_b; among = omega arith; is_kept = here })
        (λ x is_x. kept_before count b x is_b is_x);
    spares_in_order = ascending_same (λ w. w) (IsSpareAmong kept capacity class d count) (IsSpareAmong kept capacity class d (count + 1)) spares
        (spare_more count)
        (λ w is_w. elim (spare_before count w b is_b is_w) as (λ _. IsSpareAmong kept capacity class d count w)
        [ inl before ↦ before | inr last ↦ absurd (last.1 here) ])
        old.spares_in_order;
    each = each;
  } where
    each : (index : ℕ) (x : Block) → index < count + 1 → IsBlockOfClass capacity class d index x
        → Contains (held ++ b ∷ []) x ⊎ Contains spares x.first_word
    each index x below is_x = elim (cases_lt index count) as (λ _. Contains (held ++ b ∷ []) x ⊎ Contains spares x.first_word) [
      | inl before ↦ elim (old.each index x before is_x) as (λ _. Contains (held ++ b ∷ []) x ⊎ Contains spares x.first_word)
          [ inl first ↦ inl (Contains-append_left held (b ∷ []) x first) | inr there ↦ inr there ]
      | inr past ↦ let last : index ≡ count = omega arith in
          let same : x ≡ b = one_of_index capacity class d count x b (subst (λ i. IsBlockOfClass capacity class d i x) last is_x) is_b in
          inl (subst (λ y. Contains (held ++ b ∷ []) y) (sym same) (Contains-push held b))
    ]

  -- one more that is not
  pub parted_spare : (count : ℕ) (held : List Block) (spares : List ℕ) (b : Block) → IsBlockOfClass capacity class d count b → (kept b → ⊥)
      → AreParted kept capacity class d count held spares → AreParted kept capacity class d (count + 1) held (spares ++ b.first_word ∷ [])
  parted_spare count held spares b is_b unkept old = record {
    kept_in_order = ascending_same (λ (x : Block). x.first_word) (IsKeptAmong kept capacity class d count)
        (IsKeptAmong kept capacity class d (count + 1)) held
        (kept_more count)
        (λ x is_x. elim (kept_before count b x is_b is_x) as (λ _. IsKeptAmong kept capacity class d count x)
        [ inl before ↦ before | inr last ↦ absurd (unkept (subst kept last is_x.is_kept)) ])
        old.kept_in_order;
    spares_in_order = ascending_push (λ w. w) (IsSpareAmong kept capacity class d count)
        (IsSpareAmong kept capacity class d (count + 1)) spares b.first_word old.spares_in_order
        (λ w is_w. subst (λ v. v < b.first_word) is_w.first (by_index capacity class d is_w.index count is_w.block b is is_w.is_block is_b is_w.among))
        (spare_more count)
        (record { index = count; block = b; is_block = is_b; among = omega arith; first = λ _. b.first_word; unkept = unkept })
        (λ w is_w. elim (spare_before count w b is_b is_w) as (λ _. IsSpareAmong kept capacity class d count w ⊎ (w ≡ b.first_word))
        [ inl before ↦ inl before | inr last ↦ inr last.0 ]);
    each = each;
  } where
    each : (index : ℕ) (x : Block) → index < count + 1 → IsBlockOfClass capacity class d index x
        → Contains held x ⊎ Contains (spares ++ b.first_word ∷ []) x.first_word
    each index x below is_x = elim (cases_lt index count) as (λ _. Contains held x ⊎ Contains (spares ++ b.first_word ∷ []) x.first_word) [
      | inl before ↦ elim (old.each index x before is_x) as (λ _. Contains held x ⊎ Contains (spares ++ b.first_word ∷ []) x.first_word)
          [ inl first ↦ inl first | inr there ↦ inr (Contains-append_left spares (b.first_word ∷ []) x.first_word there) ]
      | inr past ↦ let last : index ≡ count = omega arith in
          let same : x ≡ b = one_of_index capacity class d count x b (subst (λ i. IsBlockOfClass capacity class d i x) last is_x) is_b in
          inr (subst (λ (y : Block). Contains (spares ++ b.first_word ∷ []) y.first_word) (sym same) (Contains-push spares b.first_word))
    ]

-- a block of the class that the superblock has is a block of the layout with that index
pub class_index : (l : Layout) (class d index : ℕ) (b : Block) → d < l.used → l.info d ≡ class → IsClass class
    → IsBlockOfClass l.capacity class d index b → HasIndex l d index b
class_index l class d index b taken info is of = record {
  words = words_of_class class;
  count = blocks_of class;
  is_of = record { taken = taken; begins = of_class class info is; below = of.below; at = of.at; size = of.size };
}

-- a block that begins with its superblock has index 0
pub first_index : (l : Layout) (b : Block) (d : ℕ) → IsBlock l b → b.first_word ≡ start_word l.capacity d → HasIndex l d 0 b
first_index l b d is first =
    let of = is.is_of in
    let inside = begins_inside l is.superblock is.index is.words is.count of.begins of.below in
    let some = some_words l is.superblock is.words is.count of.begins in
    let superblock : is.superblock ≡ d = omega (arith, of.at) in
    let index : is.index ≡ 0 = elim (cases_lt 0 is.index) as (λ _. is.index ≡ 0) [
      | inl more ↦ absurd (omega (arith, of.at, block_step 0 is.index is.words more))
      | inr none ↦ omega arith
    ] in
    record {
      words = is.words;
      count = is.count;
      is_of = subst (λ e. IsBlockOf l b e 0 is.words is.count) superblock (subst (λ i. IsBlockOf l b is.superblock i is.words is.count) index of);
    }

-- the answer of the marks decides whether the block with the index is marked
pub marked_if : (l : Layout) (pairs : List (Block × ℕ)) (d index : ℕ) (b : Block) (answer : Bool) → HasIndex l d index b
    → (IsTrue answer ↔ IsReachedAt l pairs d index) → answer ≡ true → IsMarked pairs b
marked_if l pairs d index b answer indexed says is =
    let at = says.0 is in
    record { kind = at.kind; pair = subst (λ x. Contains pairs (x, at.kind)) (same_index l d index at.block b at.indexed indexed) at.pair }

pub unmarked_if : (l : Layout) (pairs : List (Block × ℕ)) (d index : ℕ) (b : Block) (answer : Bool) → HasIndex l d index b
    → (IsTrue answer ↔ IsReachedAt l pairs d index) → answer ≡ false → IsMarked pairs b → ⊥
unmarked_if l pairs d index b answer indexed says is marked =
    false≢true (sym is ∙ says.1 (record { block = b; kind = marked.kind; indexed = indexed; pair = marked.pair }))
