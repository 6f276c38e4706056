-- The superblocks, lists and chains of a heap at rest that is opened fit together.
use Rattle.std.proofs.Common.{◌≡◌, ◌≢◌, ℕ, ◌+◌, ◌*◌, ◌<◌, ◌≤◌, inl, inr, ◌⊎◌, Bool, true, false, nat_eq, nat_lt, nat_le, ◌&&◌, List, map, Contains, length, refl, ap, sym, subst, ◌∙◌, eqb-true, lt-ltb, ltb-true, le-leb, arith}
use Rattle.std.proofs.lemmas.Bool.{cases_eq, cases_lt}
use Rattle.heap_model.specs.declared.block.Block.{Block}
use Rattle.heap_model.specs.Geometry.{lists, head_word, info_word, anchor_word, link_word, start_word, superblock_words, superblocks_end, largest_capacity_fits, superblock_of}
use Rattle.heap_model.specs.Sizes.{IsClass, words_of_class, blocks_of}
use Rattle.heap_model.specs.Words.{head_first, anchor_state, anchor_first, full_state, full_anchor}
use Rattle.heap_model.specs.Counting.{times, total, one_if, below}
use Rattle.heap_model.specs.Chains.{Follows}
use Rattle.heap_model.specs.Rest.{large_part, IsAnchored, IsReady}
use Rattle.heap_model.proofs.SizeLemmas.{two_words}
use Rattle.heap_model.proofs.CountingLemmas.{times_some, one_if_true, total_some}
use Rattle.core_model.specs.Cells.{Cell, used_cell, head_cell, info_cell, anchor_cell, link_cell, is_cell, index_of}
use Rattle.core_model.specs.Memory.{Memory, used, head, info, anchor, link, next}
use Rattle.core_model.specs.View.{View, times_raw, times_classed, times_large, times_block}
use Rattle.core_model.specs.Sound.{CoreShape, Tally, tally_of, IsInShape, IsCutBlock, IsAnchoredBy, AreChained, class_numbers, times_in_lists, times_cut}
use Rattle.core_model.specs.Opening.{is_small, AreOwners}
use Rattle.core_model.proofs.TotalLemmas.{total_where, ne-eqb-none}
use Rattle.core_model.proofs.FrameLemmas.{below_is, below_not}
use Rattle.core_model.proofs.PlaceLemmas.{and_both, and_is}
use Rattle.core_model.proofs.ListLemmas.{in_lists_at, class_of}
use Rattle.heap_model.proofs.ListLemmas.{follows_small, one_at_most}
use Rattle.core_model.proofs.BlockLemmas.{superblock_is, inside_of, full_anchored}
use Rattle.core_model.proofs.OpenLemmas.{total_in, small_at}
use Rattle.core_model.proofs.OpenCountLemmas.{member_at, follows_alike, walks_alike, times_map}
use Rattle.core_model.proofs.OpenedPartLemmas

module _ (words : List ℕ) (held : List Block) (budget seats : ℕ) (block_owners root_owners : List ℕ) (ready : IsReady words held)
    (owners : AreOwners held seats block_owners root_owners) where
  abbrev c : ℕ
  c = OpenedPartLemmas.c words held budget seats block_owners root_owners ready owners

  abbrev image : ℕ → ℕ
  image = OpenedPartLemmas.image words held budget seats block_owners root_owners ready owners

  abbrev m : Memory
  m = OpenedPartLemmas.m words held budget seats block_owners root_owners ready owners

  abbrev volatile_is : (cell : Cell) → is_cell c cell ≡ true → m.volatile cell ≡ image (index_of cell)
  volatile_is = OpenedPartLemmas.volatile_is words held budget seats block_owners root_owners ready owners

  abbrev durable_is : (cell : Cell) → is_cell c cell ≡ true → m.durable cell ≡ image (index_of cell)
  durable_is = OpenedPartLemmas.durable_is words held budget seats block_owners root_owners ready owners

  abbrev used_is : used m ≡ image 8
  used_is = OpenedPartLemmas.used_is words held budget seats block_owners root_owners ready owners

  abbrev info_is : (d : ℕ) → d < c → info m d ≡ image (info_word d)
  info_is = OpenedPartLemmas.info_is words held budget seats block_owners root_owners ready owners

  abbrev anchor_is : (d : ℕ) → d < c → anchor m d ≡ image (anchor_word d)
  anchor_is = OpenedPartLemmas.anchor_is words held budget seats block_owners root_owners ready owners

  abbrev next_is : (word : ℕ) → start_word c 0 ≤ word → word < superblocks_end c → next m word ≡ image word
  next_is = OpenedPartLemmas.next_is words held budget seats block_owners root_owners ready owners

  abbrev IsSmall : (p : Block) → Type 0
  IsSmall = OpenedPartLemmas.IsSmall words held budget seats block_owners root_owners ready owners

  abbrev IsLarge : (p : Block) → Type 0
  IsLarge = OpenedPartLemmas.IsLarge words held budget seats block_owners root_owners ready owners

  abbrev held_cases : (p : Block) → Contains held p → IsSmall p ⊎ IsLarge p
  held_cases = OpenedPartLemmas.held_cases words held budget seats block_owners root_owners ready owners

  abbrev in_used : (d : ℕ) → d < image 8 → d < c
  in_used = OpenedPartLemmas.in_used words held budget seats block_owners root_owners ready owners

  abbrev small_part : (d : ℕ) (p : Block) → is_small p ≡ true → large_part c d p ≡ 0
  small_part = OpenedPartLemmas.small_part words held budget seats block_owners root_owners ready owners

  abbrev raw_none : (d : ℕ) → total (times_raw d) (OpenedPartLemmas.views words held budget seats block_owners root_owners ready owners) ≡ 0
  raw_none = OpenedPartLemmas.raw_none words held budget seats block_owners root_owners ready owners

  abbrev classed_none : (d : ℕ) → total (λ (v : View). times_classed d v.classed)
      (OpenedPartLemmas.views words held budget seats block_owners root_owners ready owners) ≡ 0
  classed_none = OpenedPartLemmas.classed_none words held budget seats block_owners root_owners ready owners

  abbrev large_is : (d : ℕ) → total (λ (v : View). times_large d v.large)
      (OpenedPartLemmas.views words held budget seats block_owners root_owners ready owners) ≡ total (large_part c d) held
  large_is = OpenedPartLemmas.large_is words held budget seats block_owners root_owners ready owners

  abbrev blocks_is : (b : ℕ) → total (times_block b) (OpenedPartLemmas.views words held budget seats block_owners root_owners ready owners)
      ≡ total (small_at b) held
  blocks_is = OpenedPartLemmas.blocks_is words held budget seats block_owners root_owners ready owners

  abbrev pub g : CoreShape
  g = record { lists = ready.shaped.descriptors; full = ready.shaped.full; chains = ready.shaped.chains }

  abbrev pub t : Tally
  t = tally_of (OpenedPartLemmas.views words held budget seats block_owners root_owners ready owners)

  -- each superblock is in one place
  one_place : (d : ℕ) → times d (g.lists 0) + times_cut g t d + t.raw d + t.large d ≡ below d (used m)
  one_place d = let p = ready.shaped.one_place d in let r = raw_none d in let q = classed_none d in let l = large_is d in
      let u = ap (below d) used_is in omega arith

  pub placed : (d : ℕ) → 0 < times d (g.lists 0) + times_cut g t d + t.large d → (d < image 8) × (d < c)
  placed d some = elim (cases_lt d (image 8)) [
    | inl less ↦ (less, in_used d less)
    | inr past ↦ absurd (let p = one_place d in let n = below_not d (image 8) past in let u = ap (below d) used_is in omega arith)
  ]

  anchored_by : (class d : ℕ) (chain : List ℕ) → d < c → ((b : ℕ) → 0 < times b chain → IsCutBlock c class d b) → IsClass class
      → IsAnchored image class d chain → IsAnchoredBy (next m) c class d (anchor m d) chain
  anchored_by class d chain less blocks is_class a = subst (λ w. IsAnchoredBy (next m) c class d w chain) (sym (anchor_is d less)) (record {
    walks = walks_alike image (next m) (start_word c d + anchor_first (image (anchor_word d)) * words_of_class class) chain
        (λ b some. let place = inside_of c class d b is_class (blocks b some) in let two = two_words class is_class in let lo = place.0 in
        let hi = place.1 in next_is b (omega arith) (omega arith)) a.linked.walks;
    count = a.count;
    empty = a.empty;
    full = a.full;
    partial = a.partial;
  })

  of_chain : (class d : ℕ) (chain : List ℕ) → IsAnchored image class d chain → (b : ℕ) → 0 < times b chain → IsCutBlock c class d b
  of_chain class d chain a b some = let x = a.linked.blocks b (times_some b chain some) in record { index = x.0; below = x.1.below; at = x.1.at }

  -- a cut superblock is in the list of a class, or full
  record IsCutAs (d : ℕ) : Type 0 where
    class : ℕ
    is_class : IsClass class
    info_at : image (info_word d) ≡ class
    stands : 0 < times d (g.lists class) + g.full d
    blocks : (b : ℕ) → 0 < times b (g.chains d) → IsCutBlock c class d b
    anchored : IsAnchoredBy (next m) c class d (anchor m d) (g.chains d)

  cut_as : (d : ℕ) → 0 < times_cut g t d → IsCutAs d
  cut_as d some = let here = placed d (omega arith) in elim (cases_lt 0 (times_in_lists g d)) [
    | inl in_list ↦ let n = total_where (λ class. times d (g.lists class)) class_numbers in_list in
        let is_class = class_of n.0 n.1 n.2 n.3 in let x = ready.shaped.in_class n.1 d is_class n.4 in let blocks = of_chain n.1 d (g.chains d) x.2 in
        record {
          class = n.1;
          is_class = is_class;
          info_at = x.0;
          stands = (let y = n.4 in omega arith);
          blocks = blocks;
          anchored = anchored_by n.1 d (g.chains d) here.1 blocks is_class x.2;
        }
    | inr no_list ↦ let full : 0 < g.full d = (let q = classed_none d in omega arith) in let x = ready.shaped.is_full d full in
        record {
          class = image (info_word d);
          is_class = x.0;
          info_at = refl;
          stands = omega arith;
          blocks = λ b there. absurd (let e = ap (times b) x.2 in omega arith);
          anchored = subst (λ w. IsAnchoredBy (next m) c (image (info_word d)) d w (g.chains d)) (sym (anchor_is d here.1 ∙ x.1))
              (subst (IsAnchoredBy (next m) c (image (info_word d)) d full_anchor) (sym x.2) (full_anchored (next m) c (image (info_word d)) d x.0));
        }
  ]

  info_cut : (d : ℕ) (some : 0 < times_cut g t d) → info m d ≡ (cut_as d some).class
  info_cut d some = info_is d (placed d (omega arith)).1 ∙ (cut_as d some).info_at

  -- a superblock of a class is no part of a large block
  no_large : (d : ℕ) (p : Block) → Contains held p → 0 < large_part c d p → (class : ℕ) → IsClass class → image (info_word d) ≡ class → ⊥
  no_large d p there some class is_class info_at = elim (held_cases p there) as (λ _. ⊥) [
    | inl s ↦ (let none = small_part d p s.small in omega (arith, none, some))
    | inr l ↦ elim (cases_lt d l.d) as (λ _. ⊥) [
      | inl before ↦ out l (λ b. omega (arith, b, l.first, before))
      | inr low ↦ elim (cases_lt d (l.d + l.count)) as (λ _. ⊥) [
        | inl high ↦ elim (cases_eq d l.d) as (λ _. ⊥) [
          | inl same ↦ (let e = ap (λ x. image (info_word x)) same in let f = l.info_at in let last = is_class.last in let s = l.some in
              omega (arith, e, f, info_at, last, s))
          | inr other ↦ (let z = l.others d (omega (arith, low, other)) high in let s = is_class.some in omega (arith, z, info_at, s))
        ]
        | inr past ↦ out_end l (λ b. omega (arith, b, l.first, l.size, past))
      ]
    ]
  ] where
    inside_part : (p.first_word < start_word c (d + 1)) × (start_word c d < p.first_word + p.words)
    inside_part = let b = and_both (nat_le superblock_words p.words)
        (nat_lt p.first_word (start_word c (d + 1)) && nat_lt (start_word c d) (p.first_word + p.words))
        (is_one (nat_le superblock_words p.words && (nat_lt p.first_word (start_word c (d + 1)) && nat_lt (start_word c d)
        (p.first_word + p.words))) some) in let e = and_both (nat_lt p.first_word (start_word c (d + 1)))
        (nat_lt (start_word c d) (p.first_word + p.words)) b.1 in (
          ltb-true p.first_word (start_word c (d + 1)) e.0,
          ltb-true (start_word c d) (p.first_word + p.words) e.1,
        ) where
          is_one : (test : Bool) → 0 < one_if test → test ≡ true
          is_one true x = refl
          is_one false x = absurd (omega arith)

    out : IsLarge p → (p.first_word < start_word c (d + 1) → ⊥) → ⊥
    out l apart = apart inside_part.0

    out_end : IsLarge p → (start_word c d < p.first_word + p.words → ⊥) → ⊥
    out_end l apart = apart inside_part.1

  -- a held block of a cut superblock is no large one
  held_count : (d b : ℕ) → 0 < times_cut g t d → superblock_of c b ≡ d → total (small_at b) held ≡ times b (map (λ (p : Block). p.first_word) held)
  held_count d b cut here = total_in (small_at b) (λ (p : Block). one_if (nat_eq p.first_word b)) held
      (λ p there. by_case p there (cases_eq p.first_word b) (held_cases p there)) ∙ sym (times_map b held) where
        by_case : (p : Block) → Contains held p → (p.first_word ≡ b) ⊎ (p.first_word ≢ b) → IsSmall p ⊎ IsLarge p
            → one_if (is_small p && nat_eq p.first_word b) ≡ one_if (nat_eq p.first_word b)
        by_case p there x (inl s) = ap (λ y. one_if (y && nat_eq p.first_word b)) s.small
        by_case p there (inr other) (inr l) = ap (λ y. one_if (y && nat_eq p.first_word b)) l.large ∙ sym (ne-eqb-none p.first_word b other)
        by_case p there (inl same) (inr l) = absurd (let of_d : l.d ≡ d = sym l.here ∙ ap (superblock_of c) same ∙ here in
            let part : large_part c d p ≡ 1 = one_if_true _ (and_is _ _ (le-leb superblock_words p.words (omega (arith, l.size, l.some)))
            (and_is _ _ (lt-ltb p.first_word (start_word c (d + 1)) (omega (arith, l.first, of_d)))
            (lt-ltb (start_word c d) (p.first_word + p.words) (omega (arith, l.first, of_d, l.size, l.some))))) in
            let some = member_at (large_part c d) held p there in let q = large_is d in let o = one_place d in
            let most = one_at_most (nat_lt d (used m)) in omega arith)

  chained : AreChained c (info m) (anchor m) (next m) g.chains (times_cut g t) t.blocks
  chained = record {
    is_class = λ d some. subst IsClass (sym (info_cut d some)) (cut_as d some).is_class;
    anchored = λ d some. subst (λ n. IsAnchoredBy (next m) c n d (anchor m d) (g.chains d)) (sym (info_cut d some)) (cut_as d some).anchored;
    owned = λ d b some is. let a = cut_as d some in let at = subst (λ n. IsCutBlock c n d b) (info_cut d some) is in
        let one = ready.shaped.one_owner a.class d at.index (record { first_word = b; words = words_of_class a.class })
        a.is_class a.stands a.info_at (record { below = at.below; at = at.at; size = refl }) in
        let all = blocks_is b in let same = held_count d b some (superblock_is c a.class d b a.is_class at) in omega arith;
    chained = λ d b some there. subst (λ n. IsCutBlock c n d b) (sym (info_cut d some)) ((cut_as d some).blocks b there);
    inside = λ b some. let s = total_some (small_at b) held (let all = blocks_is b in omega arith) in held_inside s.0 s.1 b s.2;
  } where
    held_inside : (p : Block) → Contains held p → (b : ℕ) → 0 < one_if (is_small p && nat_eq p.first_word b)
        → (0 < times_cut g t (superblock_of c b)) × IsCutBlock c (info m (superblock_of c b)) (superblock_of c b) b
    held_inside p there b some =
        let both = and_both (is_small p) (nat_eq p.first_word b) (is_one (is_small p && nat_eq p.first_word b) some) in
        let s = OpenedPartLemmas.small_of words held budget seats block_owners root_owners ready owners p there both.0 in
        let same : p.first_word ≡ b = eqb-true p.first_word b both.1 in
        let here : superblock_of c b ≡ s.d = ap (superblock_of c) (sym same) ∙ s.here in
        let place = inside_of c s.class s.d p.first_word s.is_class s.is in let two = two_words s.class s.is_class in let lo = place.0 in
        let hi = place.1 in
        let info_here : info m s.d ≡ s.class = info_is s.d (in_used s.d s.taken) ∙ s.info_at in
        let cut : 0 < times_cut g t s.d = cut_there p there s in (
          subst (λ d. 0 < times_cut g t d) (sym here) cut,
          subst (λ d. IsCutBlock c (info m d) d b) (sym here)
              (subst (λ n. IsCutBlock c n s.d b) (sym info_here) (subst (IsCutBlock c s.class s.d) same s.is)),
        ) where
          is_one : (test : Bool) → 0 < one_if test → test ≡ true
          is_one true x = refl
          is_one false x = absurd (omega arith)

          cut_there : (q : Block) → Contains held q → (s : IsSmall q) → 0 < times_cut g t s.d
          cut_there q m s = elim (cases_lt 0 (times s.d (g.lists 0))) [
            | inl free ↦ absurd ((ready.shaped.free s.d free).1 q m (let place = inside_of c s.class s.d q.first_word s.is_class s.is in
                let two = two_words s.class s.is_class in let lo = place.0 in let hi = place.1 in let z = s.size in
                record { begins = omega arith; ends = omega arith }))
            | inr not_free ↦ elim (cases_lt 0 (total (large_part c s.d) held)) [
              | inl in_large ↦ let l = total_some (large_part c s.d) held in_large in absurd (no_large s.d l.0 l.1 l.2 s.class s.is_class s.info_at)
              | inr not_large ↦ let o = one_place s.d in let r = raw_none s.d in let q = large_is s.d in let u = ap (below s.d) used_is in
                  let b = below_is s.d (image 8) s.taken in omega arith
            ]
          ]

  pub shaped : IsInShape c m g t
  shaped = let r = ready.shaped in record {
    lists = record {
      follows = λ list less. let h = volatile_is (head_cell list) (lt-ltb list lists less) in let f = r.follows list less in
          let small = follows_small (λ d. image (link_word d)) c (image (head_word list)) (g.lists list) f in let fits = ready.formed.small in
          let limit = largest_capacity_fits in
          let first : head_first (head m list) ≡ image (head_word list) = omega arith in
          subst (λ n. Follows (link m) c n (g.lists list)) (sym first)
          (follows_alike (λ d. image (link_word d)) (link m) c (image (head_word list)) (g.lists list)
          (λ d inside. volatile_is (link_cell d) (lt-ltb d c inside)) f);
    };
    placed = record { one_place = one_place };
    untaken = record {
      blank = λ d past inside. let u = r.untaken d (let e = used_is in omega arith) inside in let b = lt-ltb d c inside in record {
        volatile = (info_is d inside ∙ u.0, anchor_is d inside ∙ u.1, volatile_is (link_cell d) b ∙ u.2);
        durable = (durable_is (info_cell d) b ∙ u.0, durable_is (anchor_cell d) b ∙ u.1, durable_is (link_cell d) b ∙ u.2);
      };
    };
    listed = record {
      free = λ d some. ap anchor_state (anchor_is d (placed d (omega arith)).1) ∙ (r.free d some).0;
      in_class = λ class d is_class some. let x = r.in_class class d is_class some in
          let inside = (placed d (let i = in_lists_at d g.lists class (let z = is_class.last in omega arith) (λ z. let y = is_class.some in
          omega (arith, z, y)) in omega arith)).1 in
          (info_is d inside ∙ x.0, subst (λ w. anchor_state w < full_state) (sym (anchor_is d inside)) (not_full class d x.1 x.2));
      is_full = λ d some. anchor_is d (placed d (omega arith)).1 ∙ (r.is_full d some).1;
    };
    chained = chained;
    durable = record {
      behind = (let u = used_is in let v = durable_is used_cell refl in omega arith);
      room = (let u = used_is in let v = ready.formed.used in omega arith);
      below = λ d some. let p = placed d some in let v = durable_is used_cell refl in let less = p.0 in omega arith;
      infos = λ d some. let inside = (placed d (omega arith)).1 in durable_is (info_cell d) (lt-ltb d c inside) ∙ sym (info_is d inside);
    };
  } where
    not_full : (class d : ℕ) → image (anchor_word d) ≢ full_anchor → IsAnchored image class d (g.chains d)
        → anchor_state (image (anchor_word d)) < full_state
    not_full class d other a = elim (cases_eq (length (g.chains d)) 0) [
      | inl none ↦ absurd (other (a.full.1 none))
      | inr some ↦ elim (cases_eq (length (g.chains d)) (blocks_of class)) [
        | inl all ↦ let e = a.empty.1 all in omega arith
        | inr part ↦ let e = a.partial some part in omega arith
      ]
    ]
