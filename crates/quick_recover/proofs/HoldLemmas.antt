-- What the anchors hold in a superblock.
use Rattle.std.proofs.Common.{◌≡◌, ℕ, Bool, true, false, List, get_or, Contains, ap, sym, subst, ◌∙◌, arith}
use Rattle.heap_model.specs.declared.block.Block.{Block}
use Rattle.heap_model.specs.Geometry.{info_word, anchor_word, link_word}
use Rattle.heap_model.specs.Image.{Image}
use Rattle.heap_model.specs.Header.{capacity_of}
use Rattle.heap_model.specs.Sizes.{IsClass}
use Rattle.heap_model.specs.Words.{anchor_state, empty_state, full_anchor}
use Rattle.heap_model.specs.Blocks.{layout_of}
use Rattle.heap_model.specs.Recovered.{HasPartIn, IsBlockOfClass}
use Rattle.heap_model.specs.Chains.{IsListOf}
use Rattle.heap_model.proofs.MemberLemmas.{in_none}
use Rattle.heap_at_rest.proofs.PartLemmas.{class_part, long_takes, one_superblock}
use Rattle.heap_at_rest.proofs.ListLemmas.{one_following, one_walk}
use Rattle.heap_at_rest.specs.Orderly.{HasPartialChain, IsLargeOutside, IsOutsideFreeList, IsHeldByAnchors, in_full, in_partial, as_large}
use Rattle.heap_at_rest.proofs.AnchorHeldLemmas.{held_block}
use Rattle.heap_recover.specs.Marked.{KeepsBlocks}
use Rattle.quick_recover.specs.Anchored.{block_word, IsToldBy, by_full, by_chain}

-- all that is held are blocks
pub keeps : (image : Image) → KeepsBlocks (layout_of image) (IsHeldByAnchors image)
keeps image = record { each = held_block image }

-- a partial anchor has one chain
pub one_chain : (image : Image) (class d : ℕ) (xs ys : List ℕ) → HasPartialChain image class d xs → HasPartialChain image class d ys → xs ≡ ys
one_chain image class d xs ys is_xs is_ys = one_walk image _ xs ys is_xs.linked.walks is_ys.linked.walks (sym is_xs.count ∙ is_ys.count)

-- what a held block with a part in superblock d is there
pub data HeldPart (image : Image) (b : Block) (d : ℕ) : Type 0 where
  full_part : (free : List ℕ) (class index : ℕ) → IsOutsideFreeList image free d → IsClass class → image (info_word d) ≡ class
      → image (anchor_word d) ≡ full_anchor
      → IsBlockOfClass (capacity_of image) class d index b → HeldPart image b d
  partial_part : (free chain : List ℕ) (class index : ℕ) → IsOutsideFreeList image free d → IsClass class → image (info_word d) ≡ class
      → HasPartialChain image class d chain
      → IsBlockOfClass (capacity_of image) class d index b → (Contains chain b.first_word → ⊥) → HeldPart image b d
  large_part : (free : List ℕ) → IsListOf image 0 free → IsLargeOutside image free b → HeldPart image b d

pub held_part : (image : Image) (b : Block) (d : ℕ) → IsHeldByAnchors image b → HasPartIn (capacity_of image) b d → HeldPart image b d
held_part image b d (in_full free class e index out is info anchor of) part =
    let same : e ≡ d = one_superblock (capacity_of image) class d e index b is of part in
    full_part free class index (subst (IsOutsideFreeList image free) same out) is (subst (λ x. image (info_word x) ≡ class) same info)
    (subst (λ x. image (anchor_word x) ≡ 2) same anchor)
    (subst (λ x. IsBlockOfClass (capacity_of image) class x index b) same of)
held_part image b d (in_partial free chain class e index out is info has of unchained) part =
    let same : e ≡ d = one_superblock (capacity_of image) class d e index b is of part in
    partial_part free chain class index (subst (IsOutsideFreeList image free) same out) is (subst (λ x. image (info_word x) ≡ class) same info)
    (subst (λ x. HasPartialChain image class x chain) same has)
    (subst (λ x. IsBlockOfClass (capacity_of image) class x index b) same of) unchained
held_part image b d (as_large free listed large) part = large_part free listed large

-- a superblock of the free list holds nothing
pub freed_holds_none : (image : Image) (free : List ℕ) (d : ℕ) → IsListOf image 0 free → Contains free d → (b : Block) → IsHeldByAnchors image b
    → HasPartIn (capacity_of image) b d → ⊥
freed_holds_none image free d listed p b held part = by_part (held_part image b d held part) where
  there : (other : List ℕ) → IsListOf image 0 other → Contains other d
  there other is = subst (λ ds. Contains ds d) (one_following (λ e. image (link_word e)) (capacity_of image) _ free other listed is) p

  by_part : HeldPart image b d → ⊥
  by_part (full_part other class index out is info anchor of) = out.outside (there other out.listed)
  by_part (partial_part other chain class index out is info has of unchained) = out.outside (there other out.listed)
  by_part (large_part other is large) = large.outside d part (there other is)

-- nor does a superblock of a class whose anchor is empty
pub empty_holds_none : (image : Image) (class d : ℕ) → IsClass class → image (info_word d) ≡ class → anchor_state (image (anchor_word d)) ≡ empty_state
    → (b : Block) → IsHeldByAnchors image b → HasPartIn (capacity_of image) b d → ⊥
empty_holds_none image class d is info empty b held part = by_part (held_part image b d held part) where
  by_part : HeldPart image b d → ⊥
  by_part (full_part other c index out is_c info_c anchor of) = let state : anchor_state (image (anchor_word d)) ≡ 2 = ap anchor_state anchor in
      omega arith
  by_part (partial_part other chain c index out is_c info_c has of unchained) = let state = has.state in omega arith
  by_part (large_part other listed large) = (long_takes (layout_of image) b d large.block part large.large).no_class (subst IsClass (sym info) is)

-- a block of the chain is not held
pub chained_free : (image : Image) (class d index : ℕ) (chain : List ℕ) (b : Block) → IsClass class → image (info_word d) ≡ class
    → HasPartialChain image class d chain
    → IsBlockOfClass (capacity_of image) class d index b → Contains chain b.first_word → IsHeldByAnchors image b → ⊥
chained_free image class d index chain b is info has of p held =
    by_part (held_part image b d held (class_part (capacity_of image) class d index b is of)) where
      by_part : HeldPart image b d → ⊥
      by_part (full_part other c i out' is_c info_c anchor of_c) = let state : anchor_state (image (anchor_word d)) ≡ 2 = ap anchor_state anchor in
          let partial = has.state in omega arith
      by_part (partial_part other chain' c i out' is_c info_c has_c of_c unchained) =
          let same : c ≡ class = sym info_c ∙ info in
          let equal : chain ≡ chain' = one_chain image class d chain chain' has (subst (λ x. HasPartialChain image x d chain') same has_c) in
          unchained (subst (λ ws. Contains ws b.first_word) equal p)
      by_part (large_part other listed' large) = (long_takes (layout_of image) b d large.block
          (class_part (capacity_of image) class d index b is of) large.large).no_class (subst IsClass (sym info) is)

-- of a superblock that is not in the free list, whose anchor leaves the marked blocks free, a block is held exactly where it is not marked
module _ (image : Image) (free : List ℕ) (class d : ℕ) (marks : List Bool) (out : IsOutsideFreeList image free d)
    (is : IsClass class) (info : image (info_word d) ≡ class) (index : ℕ) (b : Block) (of : IsBlockOfClass (capacity_of image) class d index b) where
  pub unmarked_held : IsToldBy image class d marks → get_or marks index false ≡ false → IsHeldByAnchors image b
  unmarked_held (by_full anchor are) unmarked = in_full free class d index out is info anchor of
  unmarked_held (by_chain chain has are) unmarked = in_partial free chain class d index out is info has of
      (λ p. are.unmarked index of.below unmarked (subst (λ w. Contains chain w) of.at p))

  pub marked_free : IsToldBy image class d marks → get_or marks index false ≡ true → IsHeldByAnchors image b → ⊥
  marked_free (by_full anchor are) marked held = in_none (block_word (capacity_of image) class d index) (are.marked index of.below marked)
  marked_free (by_chain chain has are) marked held =
      chained_free image class d index chain b is info has of (subst (λ w. Contains chain w) (sym of.at) (are.marked index of.below marked)) held
