-- Images that agree but in superblocks that are not partly free tell the same.
use Rattle.std.proofs.Common.{◌≡◌, ℕ, ◌+◌, ◌*◌, ◌<◌, ◌≤◌, ◌↔◌, ◌⊎◌, inl, inr, List, Option, None, Some, ap, sym, subst, ◌∙◌, arith}
use Rattle.heap_model.specs.declared.block.Block.{Block}
use Rattle.heap_model.specs.Geometry.{info_word, anchor_word, link_word, head_word, start_word, magic_word, version_word, capacity_word, state_word, used_word, clean, dirty, version, old_version, largest_capacity, largest_old_capacity, image_words, old_image_words}
use Rattle.heap_model.specs.Image.{Image}
use Rattle.heap_model.specs.Header.{HasHeader, HasGoodHeader, HasKindsBelow, capacity_of, used_of}
use Rattle.heap_model.specs.Sizes.{IsClass, words_of_class}
use Rattle.heap_model.specs.Words.{anchor_state, anchor_first, anchor_count, head_first}
use Rattle.heap_model.specs.Blocks.{IsBlock, layout_of}
use Rattle.heap_model.specs.Recovered.{HasPartIn, IsBlockOfClass, IsFreeSuperblock}
use Rattle.heap_model.specs.Chains.{Follows, IsChain, IsListOf}
use Rattle.heap_at_rest.proofs.ListLemmas.{follows_below, follows_same, walks_same}
use Rattle.heap_at_rest.proofs.PartLemmas.{class_inside, part_taken}
use Rattle.heap_at_rest.proofs.LayoutLemmas.{same_there}
use Rattle.heap_at_rest.specs.Orderly.{HasPartialChain, HasOrderlyAnchor, all_free, none_free, some_free, IsLargeOutside, IsOrderlyOutside, of_class, of_large, IsOrderly, IsOutsideFreeList, IsHeldByAnchors, in_full, in_partial, as_large}
use Rattle.heap_at_rest.specs.Agreement.{AgreeButFull}

-- the header of the one is that of the other
module _ (image other : Image) (agree : AgreeButFull image other) where
  capacity_same : capacity_of other ≡ capacity_of image
  capacity_same = agree.header capacity_word (omega arith)

  header_same : (the_version most bytes : ℕ) (words : ℕ → ℕ) → HasHeader the_version most (words (capacity_of image)) bytes image
      → HasHeader the_version most (words (capacity_of other)) bytes other
  header_same the_version most bytes words is = record {
    magic_is = agree.header magic_word (omega arith) ∙ is.magic_is;
    version_is = agree.header version_word (omega arith) ∙ is.version_is;
    some = subst (λ n. 1 ≤ n) (sym capacity_same) is.some;
    small = subst (λ n. n ≤ most) (sym capacity_same) is.small;
    length_is = is.length_is ∙ ap (λ n. 8 * words n) (sym capacity_same);
    state = subst (λ s. (s ≡ clean) ⊎ (s ≡ dirty)) (sym (agree.header state_word (omega arith))) is.state;
    used = let same = agree.header used_word (omega arith) in let used = is.used in let capacity = capacity_same in omega arith;
  }

  kinds_same : (limit : Option ℕ) → HasKindsBelow limit image → HasKindsBelow limit other
  kinds_same None below = tt
  kinds_same (Some most) below = λ i less.
      subst (λ k. k < most) (sym (agree.kinds i less)) (below i less)

  pub good_same : (limit : Option ℕ) (bytes : ℕ) → HasGoodHeader limit bytes image → HasGoodHeader limit bytes other
  good_same limit bytes (inl old) = inl (header_same old_version largest_old_capacity bytes old_image_words old)
  good_same limit bytes (inr good) = inr (header_same version largest_capacity bytes image_words good.0, kinds_same limit good.1)

  pub fits_same : used_of image ≤ capacity_of image → used_of other ≤ capacity_of other
  fits_same fits = let same = agree.header used_word (omega arith) in let capacity = capacity_same in omega arith

-- what a good header says of the superblocks that were taken
pub good_fits : (limit : Option ℕ) (bytes : ℕ) (image : Image) → HasGoodHeader limit bytes image → used_of image ≤ capacity_of image
good_fits limit bytes image (inl old) = old.used
good_fits limit bytes image (inr good) = good.0.used

-- the descriptors of the one are those of the other, and so is what they tell
module _ (image other : Image) (agree : AgreeButFull image other) (fits : used_of image ≤ capacity_of image) where
  capacity_is : capacity_of other ≡ capacity_of image
  capacity_is = capacity_same image other agree

  used_is : used_of other ≡ used_of image
  used_is = agree.header used_word (omega arith)

  info_is : (d : ℕ) → d < capacity_of image → other (info_word d) ≡ image (info_word d)
  info_is d below = (agree.descriptors d below).0

  anchor_is : (d : ℕ) → d < capacity_of image → other (anchor_word d) ≡ image (anchor_word d)
  anchor_is d below = (agree.descriptors d below).1

  link_is : (d : ℕ) → d < capacity_of image → other (link_word d) ≡ image (link_word d)
  link_is d below = (agree.descriptors d below).2

  -- they agree the other way round
  pub agree_back : AgreeButFull other image
  agree_back = record {
    header = λ word low. sym (agree.header word low);
    descriptors = λ d below. let here : d < capacity_of image = subst (λ c. d < c) capacity_is below in
        (sym (info_is d here), sym (anchor_is d here), sym (link_is d here));
    kinds = λ root less. sym (agree.kinds root less);
    inside = λ d word free low high.
        let taken : d < used_of image = subst (λ u. d < u) used_is free.taken in
        sym (agree.inside d word (record {
          taken = taken;
          of_class = subst IsClass (info_is d (omega arith)) free.of_class;
          state = ap anchor_state (sym (anchor_is d (omega arith))) ∙ free.state;
        }) (subst (λ c. start_word c d ≤ word) capacity_is low) (subst (λ c. word < start_word c (d + 1)) capacity_is high));
  }

  listed_same : (free : List ℕ) → IsListOf image 0 free → IsListOf other 0 free
  listed_same free listed =
      let head : other (head_word 0) ≡ image (head_word 0) = agree.header (head_word 0) (omega arith) in
      subst (λ c. Follows (λ d. other (link_word d)) c (head_first (other (head_word 0))) free) (sym capacity_is)
      (subst (λ h. Follows (λ d. other (link_word d)) (capacity_of image) (head_first h) free) (sym head)
      (follows_same (λ d. image (link_word d)) (λ d. other (link_word d)) (capacity_of image) (head_first (image (head_word 0))) free
      (λ d p. link_is d (follows_below (λ e. image (link_word e)) (capacity_of image) (head_first (image (head_word 0))) free d listed p)) listed))

  chain_same : (class d : ℕ) (chain : List ℕ) → d < used_of image → IsClass class → image (info_word d) ≡ class
      → HasPartialChain image class d chain → HasPartialChain other class d chain
  chain_same class d chain taken is info has =
      let anchor = anchor_is d (omega arith) in
      record {
        state = ap anchor_state anchor ∙ has.state;
        count = ap anchor_count anchor ∙ has.count;
        some = has.some;
        not_all = has.not_all;
        linked = subst (λ c. IsChain other c class d (start_word c d + anchor_first (other (anchor_word d)) * words_of_class class) chain)
            (sym capacity_is)
            (subst (λ a. IsChain other (capacity_of image) class d (start_word (capacity_of image) d + anchor_first a * words_of_class class)
            chain) (sym anchor) (record {
              walks = walks_same image other (start_word (capacity_of image) d + anchor_first (image (anchor_word d)) * words_of_class class)
                  chain (λ w p.
                  let inside = class_inside (capacity_of image) class d (has.linked.blocks w p).0
                  (record { first_word = w; words = words_of_class class }) is (has.linked.blocks w p).1 in
                  agree.inside d w (record { taken = taken; of_class = subst IsClass (sym info) is; state = has.state }) inside.0
                  (omega (arith, inside.1, inside.2))) has.linked.walks;
              blocks = has.linked.blocks;
            }));
        different = has.different;
      }

  outside_same : (free : List ℕ) (d : ℕ) → IsOutsideFreeList image free d → IsOutsideFreeList other free d
  outside_same free d out = record { taken = subst (λ u. d < u) (sym used_is) out.taken; listed = listed_same free out.listed; outside = out.outside }

  block_same : (b : Block) → IsBlock (layout_of image) b → IsBlock (layout_of other) b
  block_same b is = same_there (layout_of image) (layout_of other) b capacity_is used_is
      (λ d part. let taken = part_taken (layout_of image) b d is part in info_is d (omega arith)) is

  large_same : (free : List ℕ) (b : Block) → IsLargeOutside image free b → IsLargeOutside other free b
  large_same free b large = record {
    block = block_same b large.block;
    large = large.large;
    outside = λ d part. large.outside d (subst (λ c. HasPartIn c b d) capacity_is part);
  }

  -- the same blocks are held
  pub held_same : (b : Block) → IsHeldByAnchors image b → IsHeldByAnchors other b
  held_same b (in_full free class d index out is info anchor of) =
      let taken = out.taken in
      in_full free class d index (outside_same free d out) is (info_is d (omega arith) ∙ info) (anchor_is d (omega arith) ∙ anchor)
      (subst (λ c. IsBlockOfClass c class d index b) (sym capacity_is) of)
  held_same b (in_partial free chain class d index out is info has of unchained) =
      let taken = out.taken in
      in_partial free chain class d index (outside_same free d out) is (info_is d (omega arith) ∙ info) (chain_same class d chain taken is info has)
      (subst (λ c. IsBlockOfClass c class d index b) (sym capacity_is) of) unchained
  held_same b (as_large free listed large) = as_large free (listed_same free listed) (large_same free b large)

  anchor_same : (class d : ℕ) → d < used_of image → IsClass class → image (info_word d) ≡ class → HasOrderlyAnchor image class d
      → HasOrderlyAnchor other class d
  anchor_same class d taken is info (all_free state) = all_free (ap anchor_state (anchor_is d (omega arith)) ∙ state)
  anchor_same class d taken is info (none_free full) = none_free (anchor_is d (omega arith) ∙ full)
  anchor_same class d taken is info (some_free chain has) = some_free chain (chain_same class d chain taken is info has)

  superblock_same : (free : List ℕ) (d : ℕ) → d < used_of image → IsOrderlyOutside image free d → IsOrderlyOutside other free d
  superblock_same free d taken (of_class class is info anchor) = of_class class is (info_is d (omega arith) ∙ info)
      (anchor_same class d taken is info anchor)
  superblock_same free d taken (of_large b large part) = of_large b (large_same free b large) (subst (λ c. HasPartIn c b d) (sym capacity_is) part)

  -- and one is orderly where the other is
  pub orderly_same : (limit : Option ℕ) (bytes : ℕ) → IsOrderly limit bytes image → IsOrderly limit bytes other
  orderly_same limit bytes is = record {
    header = good_same image other agree limit bytes is.header;
    closed = agree.header state_word (omega arith) ∙ is.closed;
    free = is.free;
    listed = listed_same is.free is.listed;
    free_are = λ d p.
        let here = is.free_are d p in
        let taken = here.0 in
        (subst (λ u. d < u) (sym used_is) taken, ap anchor_state (anchor_is d (omega arith)) ∙ here.1);
    others = λ d taken out. let taken_here : d < used_of image = subst (λ u. d < u) used_is taken in
        superblock_same is.free d taken_here (is.others d taken_here out);
    untaken = λ d past below.
        let low : used_of image ≤ d = subst (λ u. u ≤ d) used_is past in
        let high : d < capacity_of image = subst (λ c. d < c) capacity_is below in
        let was = is.untaken d low high in
        (info_is d high ∙ was.0, anchor_is d high ∙ was.1, link_is d high ∙ was.2);
  }

-- both ways
module _ (image other : Image) (agree : AgreeButFull image other) where
  pub orderly_both : (limit : Option ℕ) (bytes : ℕ) → IsOrderly limit bytes image ↔ IsOrderly limit bytes other
  orderly_both limit bytes = (
    λ is. orderly_same image other agree (good_fits limit bytes image is.header) limit bytes is,
    λ is.
        let fits = good_fits limit bytes other is.header in
        let same : used_of other ≡ used_of image = agree.header used_word (omega arith) in
        let capacity = capacity_same image other agree in
        let back = agree_back image other agree (omega arith) in
        orderly_same other image back fits limit bytes is,
  )

  pub held_both : used_of image ≤ capacity_of image → (b : Block) → IsHeldByAnchors image b ↔ IsHeldByAnchors other b
  held_both fits b = (
    held_same image other agree fits b,
    held_same other image (agree_back image other agree fits)
        (fits_same image other agree fits) b,
  )

  -- so the same superblocks are free
  pub free_both : used_of image ≤ capacity_of image → (d : ℕ) → IsFreeSuperblock (layout_of image) (IsHeldByAnchors image) d ↔ IsFreeSuperblock
      (layout_of other) (IsHeldByAnchors other) d
  free_both fits d = (
    λ free. record {
      taken = subst (λ u. d < u) (sym (agree.header used_word (omega arith))) free.taken;
      empty = λ b is part. free.empty b ((held_both fits b).1 is) (subst (λ c. HasPartIn c b d) (capacity_same image other agree) part);
    },
    λ free. record {
      taken = subst (λ u. d < u) (agree.header used_word (omega arith)) free.taken;
      empty = λ b is part. free.empty b ((held_both fits b).0 is) (subst (λ c. HasPartIn c b d) (sym (capacity_same image other agree)) part);
    },
  )
