-- An image of four blocks, of which the anchors hold two, wherever two of its roots lead.
use Rattle.std.specs.Prelude.{◌≡◌, ◌≢◌, ℕ, zero, suc, ◌+◌, ◌*◌, ◌<◌, ◌≤◌, ◌⊎◌, cond, nat_eq, List, [], ◌∷◌, Contains, AllPairs, Some, refl}
use Rattle.std.proofs.Common.{arith, inl, inr, subst, sym, ◌∙◌}
use Rattle.std.proofs.lemmas.Bool.{cond_both, eqb-true}
use Rattle.heap_model.specs.declared.block.Block.{Block}
use Rattle.heap_model.specs.Geometry.{root_word, largest_capacity, magic, version, clean}
use Rattle.heap_model.specs.Header.{IsWellFormed, HasKindsBelow, kinds_of}
use Rattle.heap_model.specs.Image.{Image}
use Rattle.heap_model.specs.Sizes.{IsClass, class_sizes, words_of_class, blocks_of}
use Rattle.heap_model.specs.Words.{anchor_of, partial_state}
use Rattle.heap_model.specs.Blocks.{Begins, of_class as begins_class, as_large as begins_large, layout_of}
use Rattle.heap_model.specs.Recovered.{IsBlockOfClass}
use Rattle.heap_model.specs.Examples.{image_with, formatted}
use Rattle.heap_model.proofs.MemberLemmas.{in_none, in_head, in_rest, head_or_rest}
use Rattle.heap_at_rest.proofs.PartLemmas.{same_index}
use Rattle.heap_at_rest.specs.Orderly.{HasPartialChain, HasOrderlyAnchor, some_free, of_class, IsOrderly, IsHeldByAnchors, in_full, in_partial, as_large}
use Rattle.heap_at_rest.specs.OrderlyExamples.{quarter, is_quarter}
use Rattle.dict_model.specs.Links.{kind_count, shards}
use Rattle.dict_model.specs.Shards.{is_empty, no_keys, Map, MapOf}

-- An image of one superblock, closed, whose first eight roots have the kind of a table and are null, with these words besides.
abbrev pub with_tables : List (ℕ × ℕ) → Image
with_tables words = formatted 1 ((9264, 1) ∷ (9265, 1) ∷ (9266, 1) ∷ (9267, 1) ∷ (9268, 1) ∷ (9269, 1) ∷ (9270, 1) ∷ (9271, 1) ∷ words)

-- The superblock is cut into four blocks, whose anchor leads along the blocks 1 and 3. Roots 8 and 9 have these words, and kind 0.
unfoldable pub four_blocks : ℕ → ℕ → Image
four_blocks eighth ninth = with_tables ((8, 1) ∷ (1064, 20) ∷ (1065, anchor_of partial_state 1 2) ∷ (2864, 6448) ∷ (48, eighth) ∷ (49, ninth) ∷ [])

-- a pointer to the first block
abbrev pub to_first : ℕ
to_first = 0x5250000000002180

-- a pointer to the second
abbrev pub to_second : ℕ
to_second = 0x5250000000005980

-- a pointer to the third
abbrev pub to_third : ℕ
to_third = 0x5250000000009180

-- what is so of a word that is set, and of what stood there
set_or : (P : ℕ → Type 0) (f : ℕ → ℕ) (at value word : ℕ) → (word ≡ at → P value) → P (f word) → P (cond (nat_eq word at) value (f word))
set_or P f at value word here there = cond_both (nat_eq word at) value (f word) P (λ e. here (eqb-true word at e)) (λ _. there)

-- what is so of each value that is set at the word, and of 0, is so of the word
abbrev pub EachSet : (ℕ → Type 0) → ℕ → List (ℕ × ℕ) → Type 0
EachSet P word [] = Unit {0}
EachSet P word (w ∷ ws) = (word ≡ w.0 → P w.1) × EachSet P word ws

pub set_each : (P : ℕ → Type 0) (words : List (ℕ × ℕ)) (word : ℕ) → EachSet P word words → P 0 → P (image_with words word)
set_each P [] word each none = none
set_each P (w ∷ ws) word each none = set_or P (image_with ws) w.0 w.1 word each.0 (set_each P ws word each.1 none)

-- all words of these images
abbrev pub set_words : List (ℕ × ℕ) → List (ℕ × ℕ)
set_words words = (0, magic) ∷ (1, version) ∷ (2, 1) ∷ (3, clean) ∷ (9264, 1) ∷ (9265, 1) ∷ (9266, 1) ∷ (9267, 1) ∷ (9268, 1) ∷ (9269, 1) ∷
    (9270, 1) ∷ (9271, 1) ∷ words

few_kinds : (words : List (ℕ × ℕ)) (i : ℕ) → EachSet (λ v. v < 3) (9264 + i) words → with_tables words (9264 + i) < 3
few_kinds words i each = set_each (λ v. v < 3) (set_words words) (9264 + i) (
  λ e. absurd (omega arith),
  (
    λ e. absurd (omega arith),
    (
      λ e. absurd (omega arith),
      (
        λ e. absurd (omega arith),
        (
          λ e. omega arith,
          (
            λ e. omega arith,
            (
              λ e. omega arith,
              (
                λ e. omega arith,
                (λ e. omega arith, (λ e. omega arith, (λ e. omega arith, (λ e. omega arith, each)))),
              ),
            ),
          ),
        ),
      ),
    ),
  ),
) (omega arith)

-- each of the first eight roots is null, with the kind of a table
no_map : (image : Image) (shard : ℕ) → kinds_of image shard ≡ 1 → image (root_word shard) ≡ 0 → (map : Map) × MapOf image shard map
no_map image shard kind null = (no_keys, record { kind_is = kind; is_map = is_empty null (λ key. refl) })

-- Four blocks, of which the anchors hold two.
module _ (eighth ninth : ℕ) where
  abbrev image : Image
  image = four_blocks eighth ninth

  pub formed : IsWellFormed 82304 (four_blocks eighth ninth)
  unfolding four_blocks largest_capacity
  formed = record {
    magic_is = refl;
    version_is = refl;
    some = omega arith;
    small = omega arith;
    length_is = refl;
    state = inl refl;
    used =
        omega arith;
  }

  pub kinds_fit : HasKindsBelow (Some kind_count) (four_blocks eighth ninth)
  unfolding four_blocks
  kinds_fit i less = few_kinds ((8, 1) ∷ (1064, 20) ∷ (1065, anchor_of partial_state 1 2) ∷ (2864, 6448) ∷ (48, eighth) ∷ (49, ninth) ∷ []) i (
    λ e. absurd (omega arith),
    (
      λ e. absurd (omega arith),
      (
        λ e. absurd (omega arith),
        (λ e. absurd (omega arith), (λ e. absurd (omega arith), (λ e. absurd (omega arith), tt))),
      ),
    ),
  )

  pub maps_are : (shard : ℕ) → shard < shards → (map : Map) × MapOf (four_blocks eighth ninth) shard map
  unfolding four_blocks
  maps_are zero below = no_map (four_blocks eighth ninth) 0 refl refl
  maps_are (suc zero) below = no_map (four_blocks eighth ninth) 1 refl refl
  maps_are (suc (suc zero)) below = no_map (four_blocks eighth ninth) 2 refl refl
  maps_are (suc (suc (suc zero))) below = no_map (four_blocks eighth ninth) 3 refl refl
  maps_are (suc (suc (suc (suc zero)))) below = no_map (four_blocks eighth ninth) 4 refl refl
  maps_are (suc (suc (suc (suc (suc zero))))) below = no_map (four_blocks eighth ninth) 5 refl refl
  maps_are (suc (suc (suc (suc (suc (suc zero)))))) below = no_map (four_blocks eighth ninth) 6 refl refl
  maps_are (suc (suc (suc (suc (suc (suc (suc zero))))))) below = no_map (four_blocks eighth ninth) 7 refl refl
  maps_are (suc (suc (suc (suc (suc (suc (suc (suc n)))))))) below = absurd (omega arith)

  -- the anchor leads along the blocks 1 and 3, so the image is orderly whatever the roots are
  in_chain : (b : ℕ) → Contains (2864 ∷ 6448 ∷ []) b → (2864 ≡ b) ⊎ (6448 ≡ b)
  in_chain b p = elim (head_or_rest 2864 b (6448 ∷ []) p) as (λ _. (2864 ≡ b) ⊎ (6448 ≡ b)) [
    | inl first ↦ inl first
    | inr later ↦ elim (head_or_rest 6448 b [] later) as
        (λ _. (2864 ≡ b) ⊎ (6448 ≡ b)) [ inl second ↦ inr second | inr none ↦ absurd (in_none b none) ]
  ]

  two_differ : AllPairs {X = ℕ} (λ a b. a ≢ b) (2864 ∷ 6448 ∷ [])
  two_differ zero (suc zero) d less within = λ same. omega arith
  two_differ zero zero d less within = absurd (omega arith)
  two_differ zero (suc (suc j)) d less within = absurd (omega arith)
  two_differ (suc i) j d less within = absurd (omega arith)

  chain : HasPartialChain (four_blocks eighth ninth) 20 0 (2864 ∷ 6448 ∷ [])
  unfolding four_blocks words_of_class blocks_of class_sizes
  chain = record {
    state = refl;
    count = refl;
    some = omega arith;
    not_all = omega arith;
    linked = record {
      walks = (refl, (refl, tt));
      blocks = λ b p. elim (in_chain b p) [
        | inl first ↦ (1, subst (λ x. IsBlockOfClass 1 20 0 1 (record { first_word = x; words = 1792 })) first (is_quarter 1 (omega arith)))
        | inr second ↦ (3, subst (λ x. IsBlockOfClass 1 20 0 3 (record { first_word = x; words = 1792 })) second (is_quarter 3 (omega arith)))
      ];
    };
    different = two_differ;
  }

  is_class : IsClass 20
  is_class = record { some = omega arith; last = omega arith }

  pub is_orderly : IsOrderly (Some kind_count) 82304 (four_blocks eighth ninth)
  unfolding four_blocks
  is_orderly = record {
    header = inr (formed, kinds_fit);
    closed = refl;
    free = [];
    listed = refl;
    free_are = λ d p. absurd (in_none d p);
    others = λ d taken outside. let only : d ≡ 0 = omega arith in
        of_class 20 is_class (subst (λ e. four_blocks eighth ninth (1064 + 8 * e) ≡ 20) (sym only) refl)
        (subst (λ e. HasOrderlyAnchor (four_blocks eighth ninth) 20 e) (sym only) (some_free (2864 ∷ 6448 ∷ []) chain));
    untaken = λ d past less. absurd (omega arith);
  }

  -- blocks 0 and 2 are held, and no others
  held_by : (index : ℕ) → index < 4 → ((p : Contains (2864 ∷ 6448 ∷ []) (1072 + index * 1792)) → ⊥)
      → IsHeldByAnchors (four_blocks eighth ninth) (quarter index)
  unfolding four_blocks
  held_by index below out = in_partial [] (2864 ∷ 6448 ∷ []) 20 0 index
      (record { taken = omega arith; listed = refl; outside = in_none 0 }) is_class refl chain (is_quarter index below) out

  pub first_held : IsHeldByAnchors (four_blocks eighth ninth) (quarter 0)
  first_held = held_by 0 (omega arith) (λ p. elim (in_chain 1072 p) as (λ _. ⊥) [ inl same ↦ omega arith | inr same ↦ omega arith ])

  pub third_held : IsHeldByAnchors (four_blocks eighth ninth) (quarter 2)
  third_held = held_by 2 (omega arith) (λ p. elim (in_chain 4656 p) as (λ _. ⊥) [ inl same ↦ omega arith | inr same ↦ omega arith ])

  chain_has : (bs : List ℕ) → HasPartialChain (four_blocks eighth ninth) 20 0 bs → Contains bs 2864 × Contains bs 6448
  unfolding four_blocks words_of_class class_sizes
  chain_has [] is = absurd (let some = is.some in omega arith)
  chain_has (x ∷ []) is = absurd (let two : ◌≡◌ {A = ℕ} 2 1 = is.count in omega arith)
  chain_has (x ∷ y ∷ bs) is =
      let first : 2864 ≡ x = is.linked.walks.0 in
      let second : 6448 ≡ y = subst (λ w. four_blocks eighth ninth w ≡ y) (sym first) is.linked.walks.1.0 in (
        subst (λ w. Contains (x ∷ y ∷ bs) w) (sym first) (in_head x (y ∷ bs)),
        subst (λ w. Contains (x ∷ y ∷ bs) w) (sym second)
            (in_rest x y (y ∷ bs) (in_head y bs)),
      )

  of_index : (index : ℕ) (b : Block) (bs : List ℕ) → IsBlockOfClass 1 20 0 index b → HasPartialChain (four_blocks eighth ninth) 20 0 bs
      → (Contains bs b.first_word → ⊥)
      → (quarter 0 ≡ b) ⊎ (quarter 2 ≡ b)
  unfolding words_of_class blocks_of class_sizes
  of_index zero b bs of chained out = inl (same_index 1 20 0 0 0 (quarter 0) b refl (is_quarter 0 (omega arith)) of)
  of_index (suc zero) b bs of chained out = absurd (out (subst (λ w. Contains bs w) (sym of.at) (chain_has bs chained).0))
  of_index (suc (suc zero)) b bs of chained out = inr (same_index 1 20 0 2 2 (quarter 2) b refl (is_quarter 2 (omega arith)) of)
  of_index (suc (suc (suc zero))) b bs of chained out = absurd (out (subst (λ w. Contains bs w) (sym of.at) (chain_has bs chained).1))
  of_index (suc (suc (suc (suc n)))) b bs of chained out = absurd (let below = of.below in omega arith)

  not_large : (b : Block) (d w n : ℕ) → d ≡ 0 → Begins (layout_of (four_blocks eighth ninth)) d w n → 8192 ≤ w → ⊥
  unfolding four_blocks words_of_class class_sizes
  not_large b d _ _ only (begins_class c info is) long =
      let twenty : 20 ≡ c = subst (λ e. four_blocks eighth ninth (1064 + 8 * e) ≡ c) only info in
      let words : 8192 ≤ 1792 = subst (λ k. 8192 ≤ words_of_class k) (sym twenty) long in
      omega arith
  not_large b d _ _ only (begins_large k some info end zeros) long =
      let twenty : 20 ≡ 255 + 256 * k = subst (λ e. four_blocks eighth ninth (1064 + 8 * e) ≡ 255 + 256 * k) only info in omega arith

  pub held_cases : (b : Block) → IsHeldByAnchors (four_blocks eighth ninth) b → (quarter 0 ≡ b) ⊎ (quarter 2 ≡ b)
  unfolding four_blocks
  held_cases b (in_full free class d index out is info anchor of) =
      let taken = out.taken in
      let only : d ≡ 0 = omega arith in
      absurd (let none : ◌≡◌ {A = ℕ} 17179869189 2 = subst (λ e. four_blocks eighth ninth (1065 + 8 * e) ≡ 2) only anchor in omega arith)
  held_cases b (in_partial free bs class d index out is info chained of unchained) =
      let taken = out.taken in
      let only : d ≡ 0 = omega arith in
      let twenty : class ≡ 20 = sym info ∙ subst (λ e. four_blocks eighth ninth (1064 + 8 * e) ≡ 20) (sym only) refl in
      of_index index b bs (subst (λ e. IsBlockOfClass 1 20 e index b) only (subst (λ c. IsBlockOfClass 1 c d index b) twenty of))
      (subst (λ e. HasPartialChain (four_blocks eighth ninth) 20 e bs) only
      (subst (λ c. HasPartialChain (four_blocks eighth ninth) c d bs) twenty chained)) unchained
  held_cases b (as_large free listed large) =
      let is = large.block.is_of in
      let taken = is.taken in
      absurd (not_large b large.block.superblock large.block.words large.block.count (omega arith) is.begins
      (let size = is.size in let long = large.large in omega arith))
