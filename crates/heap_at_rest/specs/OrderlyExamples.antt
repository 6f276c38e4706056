-- Worked examples: an empty image, a partial superblock, a large block, and the same freed.
use Rattle.std.specs.Prelude.{◌≡◌, ◌≢◌, ℕ, zero, suc, ◌+◌, ◌*◌, ◌%◌, ◌<◌, ◌≤◌, ◌⊎◌, List, [], ◌∷◌, length, Contains, AllPairs, None, refl}
use Rattle.std.proofs.Common.{arith, inl, inr, subst, sym, ◌∙◌}
use Rattle.std.proofs.lemmas.Bool.{cases_eq}
use Rattle.heap_model.specs.declared.block.Block.{Block}
use Rattle.heap_model.specs.Geometry.{largest_capacity}
use Rattle.heap_model.specs.Image.{Image}
use Rattle.heap_model.specs.Sizes.{IsClass, class_sizes, words_of_class, blocks_of}
use Rattle.heap_model.specs.Words.{anchor_of, partial_state}
use Rattle.heap_model.specs.Blocks.{as_large, IsBlock, layout_of}
use Rattle.heap_model.specs.Recovered.{IsBlockOfClass}
use Rattle.heap_model.specs.Chains.{Walks, IsListOf}
use Rattle.heap_model.specs.Examples.{formatted}
use Rattle.heap_model.proofs.MemberLemmas.{in_head, in_rest}
use Rattle.heap_at_rest.specs.Orderly.{HasPartialChain, HasOrderlyAnchor, some_free, of_class, IsOrderly, IsOutsideFreeList, IsHeldByAnchors, in_full, in_partial, as_large as held_as_large}

-- an empty image
empty_is_orderly : IsOrderly None 82304 (formatted 1 [])
unfolding largest_capacity
empty_is_orderly = record {
  header = inr (
    record {
      magic_is = refl;
      version_is = refl;
      some = omega arith;
      small = omega arith;
      length_is = refl;
      state = inl refl;
      used = omega arith;
    },
    tt,
  );
  closed = refl;
  free = [];
  listed = refl;
  free_are = λ d p. let none = p.1 in absurd (omega arith);
  others = λ d taken outside. absurd (omega arith);
  untaken = λ d past less. let only : d ≡ 0 = omega arith in
      subst (λ e. (formatted 1 [] (1064 + 8 * e) ≡ 0) × (formatted 1 [] (1065 + 8 * e) ≡ 0) × (formatted 1 [] (1066 + 8 * e) ≡ 0)) (sym only)
      (refl, refl, refl);
}

-- the same with a free list that has superblock 0, which has not been taken
abbrev head_too_high : Image
head_too_high = formatted 1 ((16, 1) ∷ [])

zero_is_listed : (free : List ℕ) → IsListOf head_too_high 0 free → Contains free 0
zero_is_listed [] listed = absurd (let none : ◌≡◌ {A = ℕ} 1 0 = listed in omega arith)
zero_is_listed (d ∷ ds) listed = let first : 1 ≡ d + 1 = listed.0 in
    subst (λ e. Contains (d ∷ ds) e) (let zero : d ≡ 0 = omega arith in zero) (0, omega arith, refl)

head_is_not_orderly : IsOrderly None 82304 head_too_high → ⊥
head_is_not_orderly is = let below = (is.free_are 0 (zero_is_listed is.free is.listed)).0 in omega arith

-- One superblock of class 20, whose anchor leads along its blocks 1 and 3: the others are held.
unfoldable pub with_chain : Image
with_chain = formatted 1 ((8, 1) ∷ (1064, 20) ∷ (1065, anchor_of partial_state 1 2) ∷ (2864, 6448) ∷ [])

-- block `index` of it
abbrev pub quarter : ℕ → Block
quarter index = record { first_word = 1072 + index * 1792; words = 1792 }

pub is_quarter : (index : ℕ) → index < 4 → IsBlockOfClass 1 20 0 index (quarter index)
unfolding words_of_class blocks_of class_sizes
is_quarter index below = record { below = below; at = refl; size = refl }

-- in a list of two
of_two : (x y z : ℕ) → Contains (x ∷ y ∷ []) z → (x ≡ z) ⊎ (y ≡ z)
of_two x y z (zero, within, found) = inl found
of_two x y z (suc zero, within, found) = inr found
of_two x y z (suc (suc i), within, found) = absurd (omega arith)

two_differ : (x y : ℕ) → x ≢ y → AllPairs (λ a b. a ≢ b) (x ∷ y ∷ [])
two_differ x y differ zero (suc zero) d less within = differ
two_differ x y differ zero (suc (suc j)) d less within = absurd (omega arith)
two_differ x y differ zero zero d less within = absurd (omega arith)
two_differ x y differ (suc i) j d less within = absurd (omega arith)

chain_of_two : HasPartialChain with_chain 20 0 (2864 ∷ 6448 ∷ [])
unfolding with_chain words_of_class blocks_of class_sizes
chain_of_two = record {
  state = refl;
  count = refl;
  some = omega arith;
  not_all = omega arith;
  linked = record {
    walks = (refl, (refl, tt));
    blocks = λ b p. elim (of_two 2864 6448 b p) [
      | inl first ↦ (1, subst (λ x. IsBlockOfClass 1 20 0 1 (record { first_word = x; words = 1792 })) first (is_quarter 1 (omega arith)))
      | inr second ↦ (3, subst (λ x. IsBlockOfClass 1 20 0 3 (record { first_word = x; words = 1792 })) second (is_quarter 3 (omega arith)))
    ];
  };
  different = two_differ 2864 6448 (λ same. omega arith);
}

no_member : (x : ℕ) → Contains {X = ℕ} [] x → ⊥
no_member x p = let within = p.1 in omega arith

chain_is_orderly : IsOrderly None 82304 with_chain
unfolding with_chain largest_capacity
chain_is_orderly = record {
  header = inr (
    record {
      magic_is = refl;
      version_is = refl;
      some = omega arith;
      small = omega arith;
      length_is = refl;
      state = inl refl;
      used = omega arith;
    },
    tt,
  );
  closed = refl;
  free = [];
  listed = refl;
  free_are = λ d p. absurd (no_member d p);
  others = λ d taken outside. let only : d ≡ 0 = omega arith in
      of_class 20 (record { some = omega arith; last = omega arith }) (subst (λ e. with_chain (1064 + 8 * e) ≡ 20) (sym only) refl)
      (subst (λ e. HasOrderlyAnchor with_chain 20 e) (sym only) (some_free (2864 ∷ 6448 ∷ []) chain_of_two));
  untaken = λ d past less. absurd (omega arith);
}

-- blocks 0 and 2 are held, and block 1 is not
zero_not_freed : IsOutsideFreeList with_chain [] 0
unfolding with_chain
zero_not_freed = record { taken = omega arith; listed = refl; outside = no_member 0 }

pub third_is_held : IsHeldByAnchors with_chain (quarter 2)
unfolding with_chain
third_is_held = in_partial [] (2864 ∷ 6448 ∷ []) 20 0 2 zero_not_freed (record { some = omega arith; last = omega arith }) refl chain_of_two
    (is_quarter 2 (omega arith))
    (λ p. elim (of_two 2864 6448 4656 p) as (λ _. ⊥) [ inl first ↦ omega arith | inr second ↦ omega arith ])

-- a chain from block 1 has it, if it has any
begins_with : (next : ℕ → ℕ) (from x : ℕ) (chain : List ℕ) → from ≡ x → Walks next from chain → 1 ≤ length chain → Contains chain x
begins_with next from x [] at walks some = absurd (omega arith)
begins_with next from x (b ∷ bs) at walks some = subst (λ y. Contains (b ∷ bs) y) (sym walks.0 ∙ at) (in_head b bs)

pub chained_is_not_held : IsHeldByAnchors with_chain (quarter 1) → ⊥
unfolding with_chain words_of_class class_sizes
chained_is_not_held (in_full free class d index out is info anchor of) =
    let taken = out.taken in
    let only : d ≡ 0 = omega arith in
    let none : ◌≡◌ {A = ℕ} 17179869189 2 = subst (λ e. with_chain (1065 + 8 * e) ≡ 2) only anchor in omega arith
chained_is_not_held (in_partial free chain class d index out is info chained of unchained) =
    let taken = out.taken in
    let only : d ≡ 0 = omega arith in
    let twenty : class ≡ 20 = sym info ∙ subst (λ e. with_chain (1064 + 8 * e) ≡ 20) (sym only) refl in
    let here : HasPartialChain with_chain 20 0 chain = subst (λ e. HasPartialChain with_chain 20 e chain) only
    (subst (λ c. HasPartialChain with_chain c d chain) twenty chained) in
    unchained (begins_with with_chain 2864 2864 chain refl here.linked.walks here.some)
chained_is_not_held (held_as_large free listed large) = let long = large.large in omega arith

-- the same with a chain that leads from block 1 to itself: no chain of two different blocks
unfoldable pub with_loop : Image
with_loop = formatted 1 ((8, 1) ∷ (1064, 20) ∷ (1065, anchor_of partial_state 1 2) ∷ (2864, 2864) ∷ [])

no_chain : (chain : List ℕ) → HasPartialChain with_loop 20 0 chain → ⊥
unfolding with_loop words_of_class class_sizes
no_chain [] is = let some = is.some in omega arith
no_chain (x ∷ []) is = let two : ◌≡◌ {A = ℕ} 2 1 = is.count in omega arith
no_chain (x ∷ y ∷ chain) is =
    let first : 2864 ≡ x = is.linked.walks.0 in
    let second : with_loop x ≡ y = is.linked.walks.1.0 in
    is.different 0 1 0 (omega arith) (omega arith) (sym first ∙ subst (λ w. with_loop w ≡ y) (sym first) second)

-- Two superblocks that are one large block; the free list begins with so many, and so does the link of the first superblock.
unfoldable pub large_with : ℕ → ℕ → Image
large_with head link = formatted 2 ((8, 2) ∷ (16, head) ∷ (1064, 767) ∷ (1066, link) ∷ [])

-- that block
abbrev pub the_large : Block
the_large = record { first_word = 1080; words = 16384 }

is_large : (head link : ℕ) → IsBlock (layout_of (large_with head link)) the_large
unfolding large_with
is_large head link = record {
  superblock = 0;
  index = 0;
  words = 16384;
  count = 1;
  is_of = record {
    taken = omega arith;
    begins = as_large 2 (omega arith) refl (omega arith) (λ i low high. let one : i ≡ 1 = omega arith in
        subst (λ x. (layout_of (large_with head link)).info x ≡ 0) (sym one) refl);
    below = omega arith;
    at = refl;
    size = refl;
  };
}

-- with an empty free list it is held, and the image is orderly
large_is_held : IsHeldByAnchors (large_with 0 0) the_large
unfolding large_with
large_is_held = held_as_large [] refl (record { block = is_large 0 0; large = omega arith; outside = λ d part. no_member d })

-- with both superblocks in the free list the image is orderly too, and the block is not held
abbrev pub freed : Image
freed = large_with 1 2

freed_list : IsListOf freed 0 (0 ∷ 1 ∷ [])
unfolding large_with
freed_list = (refl, omega arith, (refl, omega arith, refl))

freed_is_orderly : IsOrderly None 147904 freed
unfolding large_with largest_capacity
freed_is_orderly = record {
  header = inr (
    record {
      magic_is = refl;
      version_is = refl;
      some = omega arith;
      small = omega arith;
      length_is = refl;
      state = inl refl;
      used = omega arith;
    },
    tt,
  );
  closed = refl;
  free = 0 ∷ 1 ∷ [];
  listed = freed_list;
  free_are = λ d p. elim (of_two 0 1 d p) as (λ _. (d < 2) × (freed (1065 + 8 * d) % 4 ≡ 0)) [
    | inl zero_is ↦ subst (λ e. (e < 2) × (freed (1065 + 8 * e) % 4 ≡ 0)) zero_is (omega arith, refl)
    | inr one_is ↦ subst (λ e. (e < 2) × (freed (1065 + 8 * e) % 4 ≡ 0)) one_is (omega arith, refl)
  ];
  others = λ d taken outside. elim (cases_eq d 0) [
    | inl zero_is ↦ absurd (outside (subst (λ e. Contains (0 ∷ 1 ∷ []) e) (sym zero_is) (in_head 0 (1 ∷ []))))
    | inr other ↦
        let one_is : d ≡ 1 = omega arith in
        absurd (outside (subst (λ e. Contains (0 ∷ 1 ∷ []) e) (sym one_is) (in_rest 0 1 (1 ∷ []) (in_head 1 []))))
  ];
  untaken = λ d past less. absurd (omega arith);
}

freed_has : (free : List ℕ) → IsListOf freed 0 free → Contains free 0
unfolding large_with
freed_has [] listed = absurd (let none : ◌≡◌ {A = ℕ} 1 0 = listed in omega arith)
freed_has (d ∷ ds) listed = let first : 1 ≡ d + 1 = listed.0 in let zero_is : d ≡ 0 = omega arith in
    subst (λ e. Contains (d ∷ ds) e) zero_is (in_head d ds)

no_class : (d class : ℕ) → d < 2 → IsClass class → freed (1064 + 8 * d) ≡ class → ⊥
unfolding large_with
no_class zero class below is info = let last = is.last in let first : 767 ≡ class = info in omega arith
no_class (suc zero) class below is info = let some = is.some in let second : 0 ≡ class = info in omega arith
no_class (suc (suc d)) class below is info = omega arith

freed_is_not_held : IsHeldByAnchors freed the_large → ⊥
unfolding large_with
freed_is_not_held (in_full free class d index out is info anchor of) = no_class d class out.taken is info
freed_is_not_held (in_partial free chain class d index out is info chained of unchained) = no_class d class out.taken is info
freed_is_not_held (held_as_large free listed large) = large.outside 0 (record { begins = omega arith; ends = omega arith }) (freed_has free listed)
