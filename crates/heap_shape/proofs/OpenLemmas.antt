-- A heap at rest has a shape, with empty caches.
use Rattle.std.proofs.Common.{◌≡◌, ◌≢◌, ℕ, zero, suc, ◌+◌, ◌*◌, ◌<◌, ◌≤◌, inl, inr, nat_eq, List, [], ◌∷◌, map, length, slice_index, Contains, refl, ap, sym, subst, ◌∙◌, arith}
use Rattle.std.proofs.lemmas.Bool.{cases_eq, cases_lt, eqb-true, eq-eqb, lt-ltb, ltb-true}
use Rattle.heap_model.specs.declared.block.Block.{Block}
use Rattle.heap_model.specs.Geometry.{lists, head_word, info_word, anchor_word, link_word}
use Rattle.heap_model.specs.Image.{Image}
use Rattle.heap_model.specs.Header.{IsWellFormed, capacity_of, used_of}
use Rattle.heap_model.specs.Sizes.{IsClass, blocks_of, words_of_class}
use Rattle.heap_model.specs.Words.{anchor_first, anchor_count}
use Rattle.heap_model.specs.Blocks.{layout_of, IsBlock}
use Rattle.heap_model.specs.Chains.{Walks}
use Rattle.heap_model.specs.Counting.{times, total, below, one_if}
use Rattle.heap_model.specs.Rest.{IsReady, IsShaped, list_numbers, large_part}
use Rattle.heap_model.proofs.MemberLemmas.{in_none, head_or_rest, map_in}
use Rattle.heap_model.proofs.CountingLemmas.{total_some, one_if_true, one_if_false, times_some, is_number, number_below}
use Rattle.heap_at_rest.proofs.PartLemmas.{long_takes}
use Rattle.heap_at_rest.proofs.ListLemmas.{in_map, times_of}
use Rattle.heap_at_rest.proofs.DrainableLemmas.{free_follows, head_at_rest}
use Rattle.heap_at_rest.proofs.RecoveryLeftLemmas.{counts_large}
use Rattle.heap_shape.specs.Shape.{Place, in_list, is_full, in_large, is_new, Shape, stands_in}
use Rattle.heap_shape.specs.Standing.{first_of, IsFirstOf, HasOneOwner, a_free, a_held, HasFreeBlocks, IsFullSuperblock, IsAs}
use Rattle.heap_shape.specs.Whole.{IsShape}
use Rattle.heap_shape.specs.Draining.{HasUse, for_class, for_held, for_later, IsAccounted}
use Rattle.heap_shape.proofs.CountLemmas.{few_members}

-- a member counts in a sum
total_member : {X : Type 0} (of : X → ℕ) (xs : List X) (x : X) → Contains xs x → of x ≤ total of xs
total_member of [] x p = absurd (in_none x p)
total_member of (y ∷ xs) x p = elim (head_or_rest y x xs p) as (λ _. of x ≤ of y + total of xs) [
  | inl same ↦ let here : of y ≡ of x = ap of same in omega arith
  | inr later ↦ let rest = total_member of xs x later in omega arith
]

-- and two members count together
total_two : {X : Type 0} (of : X → ℕ) (xs : List X) (a b : X) → Contains xs a → Contains xs b → a ≢ b → of a + of b ≤ total of xs
total_two of [] a b in_a in_b differ = absurd (in_none a in_a)
total_two of (y ∷ xs) a b in_a in_b differ = elim (head_or_rest y a xs in_a) as (λ _. of a + of b ≤ of y + total of xs) [
  | inl is_a ↦ elim (head_or_rest y b xs in_b) as (λ _. of a + of b ≤ of y + total of xs) [
    | inl is_b ↦ absurd (differ (sym is_a ∙ is_b))
    | inr later ↦ let here : of y ≡ of a = ap of is_a in let rest = total_member of xs b later in omega arith
  ]
  | inr later_a ↦ elim (head_or_rest y b xs in_b) as (λ _. of a + of b ≤ of y + total of xs) [
    | inl is_b ↦ let here : of y ≡ of b = ap of is_b in let rest = total_member of xs a later_a in omega arith
    | inr later_b ↦ let rest = total_two of xs a b later_a later_b differ in omega arith
  ]
]

-- the first words of blocks
abbrev firsts_of : List Block → List ℕ
firsts_of held = map (λ (h : Block). h.first_word) held

-- how often a superblock stands in lists, and how often it counts
abbrev in_lists : {image : Image} {held : List Block} → IsShaped image held → ℕ → ℕ
in_lists shaped d = total (λ list. times d (shaped.descriptors list)) list_numbers

abbrev in_blocks : Image → List Block → ℕ → ℕ
in_blocks image held d = total (large_part (capacity_of image) d) held

-- where a superblock of a heap at rest is
data RestsAt (image : Image) (held : List Block) (shaped : IsShaped image held) (d : ℕ) : Type 0 where
  untaken : used_of image ≤ d → RestsAt image held shaped d
  listed : (list : ℕ) → list < lists → 0 < times d (shaped.descriptors list) → RestsAt image held shaped d
  full : 0 < shaped.full d → RestsAt image held shaped d
  large : 0 < in_blocks image held d → RestsAt image held shaped d

-- and the place that this is
abbrev place_of : {image : Image} {held : List Block} {shaped : IsShaped image held} {d : ℕ} → RestsAt image held shaped d → Place
place_of (untaken past) = is_new
place_of (listed list less some) = in_list list
place_of (full some) = is_full
place_of (large some) = in_large

module _ (image : Image) (held : List Block) (shaped : IsShaped image held) (d : ℕ) where
  -- a superblock that was never taken doesn't count
  is_past : used_of image ≤ d → below d (used_of image) ≡ 0
  is_past past = one_if_false _ (λ test. let less = ltb-true d (used_of image) test in omega arith)

  -- each counts once at most, and only if it is taken
  within_one : in_lists shaped d + shaped.full d + in_blocks image held d ≤ 1
  within_one = let one = shaped.one_place d in elim (cases_lt d (used_of image)) as
      (λ _. in_lists shaped d + shaped.full d + in_blocks image held d ≤ 1) [
        | inl taken ↦ let is : below d (used_of image) ≡ 1 = one_if_true _ (lt-ltb d (used_of image) taken) in omega arith
        | inr past ↦ let is = is_past past in omega arith
      ]

  is_taken : 0 < in_lists shaped d + shaped.full d + in_blocks image held d → d < used_of image
  is_taken some = let one = shaped.one_place d in elim (cases_lt d (used_of image)) as (λ _. d < used_of image) [
    | inl taken ↦ taken
    | inr past ↦ absurd (let is = is_past past in omega arith)
  ]

  -- each is somewhere
  rests_at : RestsAt image held shaped d
  rests_at = let one = shaped.one_place d in elim (cases_lt d (used_of image)) as (λ _. RestsAt image held shaped d) [
    | inr past ↦ untaken past
    | inl taken ↦ let is : below d (used_of image) ≡ 1 = one_if_true _ (lt-ltb d (used_of image) taken) in
        elim (cases_lt 0 (shaped.full d)) as (λ _. RestsAt image held shaped d) [
          | inl some ↦ full some
          | inr not_full ↦ elim (cases_lt 0 (in_blocks image held d)) as (λ _. RestsAt image held shaped d) [
            | inl some ↦ large some
            | inr not_large ↦
                let found = total_some (λ list. times d (shaped.descriptors list)) list_numbers (omega arith) in
                listed found.0 (number_below found.0 found.1) found.2
          ]
        ]
  ]

  -- what stands in one list counts in lists
  times_within : (list : ℕ) → list < lists → times d (shaped.descriptors list) ≤ in_lists shaped d
  times_within list less = total_member (λ list'. times d (shaped.descriptors list')) list_numbers list (is_number list less)

  -- it stands in the list that its place says, and in no other
  stands_at : (r : RestsAt image held shaped d) (list : ℕ) → list < lists → times d (shaped.descriptors list) ≡ stands_in (place_of r) list
  stands_at (untaken past) list less =
      let here = times_within list less in
      elim (cases_lt 0 (times d (shaped.descriptors list))) as (λ _. times d (shaped.descriptors list) ≡ 0) [
        | inl some ↦ absurd (let taken = is_taken (omega arith) in omega arith)
        | inr none ↦ omega arith
      ]
  stands_at (full some) list less = let here = times_within list less in let one = within_one in omega arith
  stands_at (large some) list less = let here = times_within list less in let one = within_one in omega arith
  stands_at (listed at at_less some) list less =
      let here = times_within list less in
      let one = within_one in
      elim (cases_eq at list) as (λ _. times d (shaped.descriptors list) ≡ one_if (nat_eq at list)) [
        | inl same ↦
            let is : one_if (nat_eq at list) ≡ 1 = one_if_true (nat_eq at list) (eq-eqb at list same) in
            let moved : 0 < times d (shaped.descriptors list) = subst (λ x. 0 < times d (shaped.descriptors x)) same some in
            omega arith
        | inr other ↦
            let is : one_if (nat_eq at list) ≡ 0 = one_if_false (nat_eq at list) (λ test. other (eqb-true at list test)) in
            let both = total_two (λ list'. times d (shaped.descriptors list')) list_numbers at list (is_number at at_less)
            (is_number list less) other in
            omega arith
      ]

-- the shape: caches are empty
abbrev shape_of : (image : Image) (held : List Block) → IsShaped image held → Shape
shape_of image held shaped = record {
  place = λ d. place_of (rests_at image held shaped d);
  listed = shaped.descriptors;
  chain = shaped.chains;
  cached = λ class. [];
  start = λ class. 0;
}

module _ (image : Image) (held : List Block) (shaped : IsShaped image held) (named : (b : Block) → Contains held b → IsBlock (layout_of image) b)
    (d : ℕ) where
  -- each block of a superblock of a class is in its chain, or held
  one_at_rest : (class index : ℕ) → IsClass class → 0 < times d (shaped.descriptors class) + shaped.full d → image (info_word d) ≡ class
      → index < blocks_of class
      → times (first_of (capacity_of image) class d index) (shaped.chains d) + times (first_of (capacity_of image) class d index) (firsts_of held) ≡ 1
  one_at_rest class index is some info less =
      let b : Block = record { first_word = first_of (capacity_of image) class d index; words = words_of_class class } in
      shaped.one_owner class d index b is some info (record { below = less; at = refl; size = refl })

  owned_at_rest : (class index : ℕ) → IsClass class → 0 < times d (shaped.descriptors class) + shaped.full d → image (info_word d) ≡ class
      → index < blocks_of class → HasOneOwner (shape_of image held shaped) held class d (first_of (capacity_of image) class d index)
  owned_at_rest class index is some info less =
      let word = first_of (capacity_of image) class d index in
      let one = one_at_rest class index is some info less in
      elim (cases_lt 0 (times word (firsts_of held))) as (λ _. HasOneOwner (shape_of image held shaped) held class d word) [
        | inl holds ↦
            let found = in_map (λ (h : Block). h.first_word) held word (times_some word (firsts_of held) holds) in
            a_held (omega arith) (record { block = found.0; holds = found.1; at = found.2 })
        | inr none ↦ a_free (omega arith) (λ at.
            let within : Contains (firsts_of held) word =
            subst (λ w. Contains (firsts_of held) w) at.at (map_in (λ (h : Block). h.first_word) held at.block at.holds) in
            let counts = times_of word (firsts_of held) within in omega arith)
      ]

  -- a superblock in the list of a class
  listed_at_rest : (class : ℕ) → IsClass class → 0 < times d (shaped.descriptors class) → d < used_of image
      → HasFreeBlocks (capacity_of image) image (shape_of image held shaped) held class d
  listed_at_rest class is some taken =
      let of = shaped.in_class class d is some in
      let anchored = of.2 in
      let firsts : (word : ℕ) → Contains (shaped.chains d) word → IsFirstOf (capacity_of image) class d word = λ word p.
      let found = anchored.linked.blocks word p in record { index = found.0; below = found.1.below; at = found.1.at } in
      let owned = λ (index : ℕ) (less : index < blocks_of class). owned_at_rest class index is (omega arith) of.0 less in
      let few : length (shaped.chains d) ≤ blocks_of class = few_members (λ k. first_of (capacity_of image) class d k) (blocks_of class)
      (shaped.chains d)
      (λ x p. let first = firsts x p in (first.index, first.below, first.at))
      (λ k less.
      let one = one_at_rest class k is (omega arith) of.0 less in omega arith) in
      record {
        of_class = record {
          is_class = is;
          taken = taken;
          info = of.0;
          owned = owned;
          blocks = firsts;
          walks = anchored.linked.walks;
          count = anchored.count;
        };
        some = elim (cases_lt 0 (length (shaped.chains d))) as (λ _. 1 ≤ length (shaped.chains d)) [
          | inl more ↦ more
          | inr none ↦ absurd (of.1 (anchored.full.1 (omega arith)))
        ];
        state = elim (cases_eq (length (shaped.chains d)) (blocks_of class)) [
          | inl all ↦ inl (anchored.empty.1 all, all)
          | inr not_all ↦ inr (anchored.partial (λ none. of.1 (anchored.full.1 none)) not_all, omega arith)
        ];
      }

  -- a full one
  full_at_rest : 0 < shaped.full d → d < used_of image → IsFullSuperblock (capacity_of image) image (shape_of image held shaped) held d
  full_at_rest some taken =
      let is = shaped.is_full d some in
      let none : shaped.chains d ≡ [] = is.2 in
      let anchor : image (anchor_word d) ≡ 2 = is.1 in
      record {
        of_class = record {
          is_class = is.0;
          taken = taken;
          info = refl;
          owned = λ index less. owned_at_rest (image (info_word d)) index is.0 (omega arith) refl less;
          blocks = λ word p. absurd (in_none word (subst (λ ws. Contains ws word) none p));
          walks = subst (λ ws. Walks image (first_of (capacity_of image) (image (info_word d)) d (anchor_first (image (anchor_word d)))) ws)
              (sym none) tt;
          count = subst (λ ws. anchor_count (image (anchor_word d)) ≡ length ws) (sym none) (omega arith);
        };
        none = none;
        anchor = is.1;
      }

  -- each is as its place says
  as_at_rest : (r : RestsAt image held shaped d) → d < capacity_of image
      → IsAs (capacity_of image) image (shape_of image held shaped) held d (place_of r)
  as_at_rest (untaken past) within = let words = shaped.untaken d past within in
      record { past = past; info = words.0; anchor = words.1; link = words.2 }
  as_at_rest (listed zero less some) within =
      let free = shaped.free d some in
      let counts = times_within image held shaped d 0 less in
      record { taken = is_taken image held shaped d (omega arith); state = free.0; none = free.1 }
  as_at_rest (listed (suc c) less some) within =
      let counts = times_within image held shaped d (suc c) less in
      listed_at_rest (suc c) (record { some = omega arith; last = omega arith }) some (is_taken image held shaped d (omega arith))
  as_at_rest (full some) within = full_at_rest some (is_taken image held shaped d (omega arith))
  as_at_rest (large some) within =
      let found = total_some (large_part (capacity_of image) d) held some in
      let counts = counts_large (capacity_of image) d found.0 found.2 in
      let takes = long_takes (layout_of image) found.0 d (named found.0 found.1) counts.1 counts.0 in
      record { taken = is_taken image held shaped d (omega arith); no_class = takes.no_class }

-- a heap at rest has a shape
rest_is_shape : (image : Image) (held : List Block) (bytes : ℕ) (shaped : IsShaped image held) → IsWellFormed bytes image
    → ((b : Block) → Contains held b → IsBlock (layout_of image) b) → IsShape (capacity_of image) image held (shape_of image held shaped)
rest_is_shape image held bytes shaped formed named = record {
  small = formed.small;
  used = formed.used;
  named = named;
  follows = λ list less.
      head_at_rest (λ d. image (link_word d)) (capacity_of image) (image (head_word list)) (shaped.descriptors list) formed.small
      (shaped.follows list less);
  listed = λ list d less. stands_at image held shaped d (rests_at image held shaped d) list less;
  places = λ d within. as_at_rest image held shaped named d (rests_at image held shaped d) within;
  cached = λ class word is p. absurd (in_none word p);
  walks = λ class is. tt;
}

-- with the words of an image
pub opens : (words : List ℕ) (held : List Block) → IsReady words held → (s : Shape)
    × IsShape (capacity_of (slice_index words)) (slice_index words) held s × ((class : ℕ) → s.cached class ≡ [])
opens words held ready = (
  shape_of (slice_index words) held ready.shaped,
  rest_is_shape (slice_index words) held (8 * length words) ready.shaped ready.formed ready.blocks,
  λ class. refl,
)

-- and none of its superblocks is lost
pub opens_accounted : (words : List ℕ) (held : List Block) → IsReady words held → IsAccounted (capacity_of (slice_index words)) (slice_index words) held
opens_accounted words held ready = record { each = λ d taken. by_rest d taken (rests_at image held shaped d) } where
  image : Image
  image = slice_index words

  shaped : IsShaped image held
  shaped = ready.shaped

  by_rest : (d : ℕ) → d < used_of image → RestsAt image held shaped d → HasUse (capacity_of image) image held d
  by_rest d taken (untaken past) = absurd (omega arith)
  by_rest d taken (listed zero less some) =
      let leads = head_at_rest (λ e. image (link_word e)) (capacity_of image) (image (head_word 0)) (shaped.descriptors 0) ready.formed.small
      (shaped.follows 0 less) in
      for_later (free_follows (capacity_of image) d image (shaped.descriptors 0) leads (times_some d (shaped.descriptors 0) some))
  by_rest d taken (listed (suc c) less some) =
      let is : IsClass (suc c) = record { some = omega arith; last = omega arith } in
      for_class (subst IsClass (sym (shaped.in_class (suc c) d is some).0) is)
  by_rest d taken (full some) = for_class (shaped.is_full d some).0
  by_rest d taken (large some) =
      let found = total_some (large_part (capacity_of image) d) held some in
      for_held found.0 found.1 (counts_large (capacity_of image) d found.0 found.2).1
