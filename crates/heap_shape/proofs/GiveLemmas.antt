-- Blocks of a cache are put before the chain of their superblock: what holds of the shape but for the lists.
use Rattle.std.proofs.Common.{◌≡◌, ◌≢◌, ℕ, zero, suc, ◌+◌, ◌<◌, ◌≤◌, ◌⊎◌, inl, inr, List, [], ◌∷◌, ◌++◌, length, Contains, refl, ap, sym, subst, ◌∙◌, arith, length-append}
use Rattle.std.proofs.lemmas.Bool.{cases_eq}
use Rattle.std.proofs.lemmas.List.Elements.{Contains-append_left, Contains-append_right, Contains-append_cases}
use Rattle.heap_model.specs.declared.block.Block.{Block}
use Rattle.heap_model.specs.Geometry.{lists, head_word, info_word, anchor_word, link_word, used_word, start_word}
use Rattle.heap_model.specs.Image.{Image}
use Rattle.heap_model.specs.Sizes.{IsClass, blocks_of}
use Rattle.heap_model.specs.Words.{anchor_of, anchor_state, anchor_first, anchor_count, empty_state, partial_state, head_first}
use Rattle.heap_model.specs.Chains.{Follows, Walks}
use Rattle.heap_model.specs.Counting.{times}
use Rattle.heap_model.proofs.SizeLemmas.{few_blocks}
use Rattle.heap_model.proofs.MemberLemmas.{in_head, in_rest}
use Rattle.heap_model.proofs.CountingLemmas.{times_none}
use Rattle.heap_at_rest.proofs.PartLemmas.{part_taken}
use Rattle.heap_at_rest.proofs.ListLemmas.{times_of, walk_behind, walks_same}
use Rattle.heap_at_rest.proofs.LayoutLemmas.{same_there}
use Rattle.heap_shape.specs.Shape.{Place, in_list, is_full, is_new, Shape, stands_in, with_at}
use Rattle.heap_shape.specs.Standing.{first_of, IsFirstOf, HasOneOwner, times_free, IsOfClass, HasFreeBlocks, IsAs}
use Rattle.heap_shape.specs.Whole.{IsShape}
use Rattle.heap_at_rest.specs.Draining.{layout_at}
use Rattle.heap_shape.specs.Effects.{IsInSuperblock}
use Rattle.heap_shape.proofs.BasicLemmas.{with_at_same, with_at_other, first_inside, inside_one, first_injective, cached_of_class, times_here}
use Rattle.heap_model.proofs.ListLemmas.{times_append}
use Rattle.heap_shape.proofs.FrameLemmas.{SameThere, frame, owner_same}
use Rattle.heap_shape.proofs.CacheLemmas.{at_or_other, at_or_other_two, free_once}
use Rattle.heap_model.proofs.WordLemmas.{anchor_parts}

-- a walk along the given blocks and then others begins at a given block
walk_begins : (next : ℕ → ℕ) (from : ℕ) (before : List ℕ) (last : ℕ) (rest : List ℕ) → Walks next from ((before ++ last ∷ []) ++ rest)
    → Contains (before ++ last ∷ []) from
walk_begins next from [] last rest walks = subst (λ x. Contains (last ∷ []) x) (sym walks.0) (in_head last [])
walk_begins next from (x ∷ before) last rest walks = subst (λ y. Contains (x ∷ (before ++ last ∷ [])) y) (sym walks.0) (in_head x (before ++ last ∷ []))

-- and leads along a chain where the last is linked to that
walk_joined : (image new : ℕ → ℕ) (from : ℕ) (before : List ℕ) (last : ℕ) (rest chain : List ℕ) → ((w : ℕ) → Contains before w → new w ≡ image w)
    → Walks image from ((before ++ last ∷ []) ++ rest) → Walks new (new last) chain → Walks new from ((before ++ last ∷ []) ++ chain)
walk_joined image new from [] last rest chain same walks tail = (walks.0, tail)
walk_joined image new from (x ∷ before) last rest chain same walks tail = (
  walks.0,
  subst (λ y. Walks new y ((before ++ last ∷ []) ++ chain)) (sym (same x (in_head x before)))
      (walk_joined image new (image x) before last rest chain (λ w p. same w (in_rest x w before p)) walks.1 tail),
)

-- a superblock with free blocks of a class is as the list of that class says
pub listed_as : (capacity : ℕ) (image : Image) (s : Shape) (held : List Block) (class d : ℕ) → IsClass class
    → HasFreeBlocks capacity image s held class d → IsAs capacity image s held d (in_list class)
listed_as capacity image s held zero d is listed = absurd (let some = is.some in omega arith)
listed_as capacity image s held (suc c) d is listed = listed

-- what the giving of the blocks makes of the words, and a push of the superblock on a list after it
pub record Gives (capacity : ℕ) (image new : Image) (s : Shape) (class d list : ℕ) (before : List ℕ) (last state : ℕ) : Type 0 where
  pub first : ℕ
  pub begins : s.start class ≡ first_of capacity class d first
  pub linked : (s.chain d ≡ []) ⊎ (new last ≡ first_of capacity class d (anchor_first (image (anchor_word d))))
  pub anchor : new (anchor_word d) ≡ anchor_of state first (length (before ++ last ∷ []) + length (s.chain d))
  pub others : (word : ℕ) → word ≢ anchor_word d → word ≢ last → word ≢ link_word d → word ≢ head_word list → new word ≡ image word

-- the shape then, wherever the superblock stands
abbrev pub given_shape : Shape → ℕ → ℕ → List ℕ → List ℕ → ℕ → (ℕ → Place) → (ℕ → List ℕ) → Shape
given_shape s class d chain rest first place listed = record {
  place = place;
  listed = listed;
  chain = with_at s.chain d chain;
  cached = with_at s.cached class rest;
  start = with_at s.start class first;
}

module _ (capacity class d : ℕ) (image new : Image) (held : List Block) (s : Shape) (before rest : List ℕ) (last : ℕ) (is : IsClass class)
    (shape : IsShape capacity image held s) (within : d < capacity)
    (cache : s.cached class ≡ (before ++ last ∷ []) ++ rest) (firsts : (w : ℕ) → Contains (before ++ last ∷ []) w
    → IsFirstOf capacity class d w) (of : IsOfClass capacity image s held class d) where
  abbrev blocks : List ℕ
  blocks = before ++ last ∷ []

  last_first : IsFirstOf capacity class d last
  last_first = firsts last (Contains-append_right before (last ∷ []) last (in_head last []))

  pub last_inside : IsInSuperblock capacity d last
  last_inside = first_inside capacity class d last is last_first

  walk_all : Walks image (s.start class) (blocks ++ rest)
  walk_all = subst (λ xs. Walks image (s.start class) xs) cache (shape.walks class is)

  -- how often a word is free: among the given blocks, in the chain and in the rest of the cache
  free_parts : (word : ℕ) → times word (blocks ++ s.chain d) + times word rest ≡ times_free s class d word
  free_parts word =
      let both = times_append word blocks (s.chain d) in
      let all = times_append word blocks rest in
      let cached : times word (s.cached class) ≡ times word (blocks ++ rest) = ap (times word) cache in
      omega arith

  -- the last given block is nowhere else
  last_once : (times last before ≡ 0) × (times last (s.chain d) ≡ 0) × (times last rest ≡ 0)
  last_once =
      let once = free_once s held class d last (subst (λ x. HasOneOwner s held class d x) (sym last_first.at)
      (of.owned last_first.index last_first.below)) in
      let parts = free_parts last in
      let both = times_append last blocks (s.chain d) in
      let given = times_append last before (last ∷ []) in
      let here = times_here last [] in
      (omega arith, omega arith, omega arith)

  not_last : (xs : List ℕ) → times last xs ≡ 0 → (w : ℕ) → Contains xs w → w ≢ last
  not_last xs none w p same = let some = times_of last xs (subst (λ x. Contains xs x) same p) in omega arith

  -- blocks in the caches of other classes are others
  last_elsewhere : (c w : ℕ) → IsClass c → c ≢ class → Contains (s.cached c) w → w ≢ last
  last_elsewhere c w is_c other p same =
      let found = shape.cached c w is_c p in
      let of_c = cached_of_class capacity image held s shape c w is_c p in
      let one : found.superblock ≡ d = inside_one capacity found.superblock d last
      (subst (λ x. IsInSuperblock capacity found.superblock x) same (first_inside capacity c found.superblock w is_c found.is_first)) last_inside in
      other (sym of_c.info ∙ ap (λ e. image (info_word e)) one ∙ of.info)

  before_cached : (c w : ℕ) → Contains (with_at s.cached class rest c) w → Contains (s.cached c) w
  before_cached c w = at_or_other (λ k xs. Contains xs w → Contains (s.cached k) w) s.cached class rest c
      (λ p. subst (λ xs. Contains xs w) (sym cache) (Contains-append_right blocks rest w p)) (λ _ p. p)

  module _ (list state : ℕ) (below : list < lists) (few : state < 4) (gives : Gives capacity image new s class d list before last state) where
    -- the words that stay
    low_word : (word : ℕ) → word < start_word capacity 0 → word ≢ anchor_word d → word ≢ link_word d → word ≢ head_word list → new word ≡ image word
    low_word word low not_anchor not_link not_head = let from = last_inside.from in gives.others word not_anchor (omega arith) not_link not_head

    high_word : (word : ℕ) → start_word capacity 0 ≤ word → word ≢ last → new word ≡ image word
    high_word word high other = gives.others word (omega arith) other (omega arith) (omega arith)

    pub same_used : new used_word ≡ image used_word
    same_used = low_word used_word (omega arith) (omega arith) (omega arith) (omega arith)

    same_info : (e : ℕ) → e < capacity → new (info_word e) ≡ image (info_word e)
    same_info e e_within = low_word (info_word e) (omega arith) (omega arith) (omega arith) (omega arith)

    first_index : gives.first < blocks_of class
    first_index =
        let begins = firsts (s.start class) (walk_begins image (s.start class) before last rest walk_all) in
        let same = first_injective capacity class d gives.first begins.index is (sym gives.begins ∙ begins.at) in
        let index_below = begins.below in
        omega arith

    pub parts : (anchor_state (new (anchor_word d)) ≡ state) × (anchor_first (new (anchor_word d)) ≡ gives.first)
        × (anchor_count (new (anchor_word d)) ≡ length blocks + length (s.chain d))
    parts =
        let short = first_index in
        let few_of = few_blocks class is in
        let all = anchor_parts state gives.first (length blocks + length (s.chain d)) few (omega arith) in
        (ap anchor_state gives.anchor ∙ all.0, ap anchor_first gives.anchor ∙ all.1, ap anchor_count gives.anchor ∙ all.2)

    -- the given blocks lead along to the chain that was there
    chain_walks : Walks new (s.start class) (blocks ++ s.chain d)
    chain_walks = walk_joined image new (s.start class) before last rest (s.chain d)
        (λ w p. stays before last_once.0 w p (given_first w p)) walk_all chain_behind where
          given_first : (w : ℕ) → Contains before w → IsFirstOf capacity class d w
          given_first w p = firsts w (Contains-append_left before (last ∷ []) w p)

          stays : (xs : List ℕ) → times last xs ≡ 0 → (w : ℕ) → Contains xs w → IsFirstOf capacity class d w → new w ≡ image w
          stays xs none w p first = let inside = (first_inside capacity class d w is first).from in high_word w (omega arith) (not_last xs none w p)

          chain_behind : Walks new (new last) (s.chain d)
          chain_behind = elim gives.linked as (λ _. Walks new (new last) (s.chain d)) [
            | inl none ↦ subst (λ xs. Walks new (new last) xs) (sym none) tt
            | inr linked ↦ subst (λ from. Walks new from (s.chain d)) (sym linked)
                (walks_same image new (first_of capacity class d (anchor_first (image (anchor_word d)))) (s.chain d)
                (λ w p. stays (s.chain d) last_once.1 w p (of.blocks w p)) of.walks)
          ]

    module _ (chain : List ℕ) (chain_is : chain ≡ blocks ++ s.chain d) (place : ℕ → Place) (listed : ℕ → List ℕ) where
      abbrev after : Shape
      after = given_shape s class d chain rest (image last) place listed

      chain_at : with_at s.chain d chain d ≡ blocks ++ s.chain d
      chain_at = with_at_same s.chain d chain ∙ chain_is

      -- the superblock is still of its class
      given_of_class : IsOfClass capacity new after held class d
      given_of_class = record {
        is_class = is;
        taken = let same = same_used in let taken = of.taken in omega arith;
        info = same_info d within ∙ of.info;
        owned = λ index in_count. owner_same s after held held class d (first_of capacity class d index)
            (free_after (first_of capacity class d index)) (λ h. h) (λ h. h) (of.owned index in_count);
        blocks = λ w p. elim (Contains-append_cases blocks (s.chain d) w (subst (λ xs. Contains xs w) chain_at p))
            [ inl given ↦ firsts w given | inr in_chain ↦ of.blocks w in_chain ];
        walks = subst (λ xs. Walks new (first_of capacity class d (anchor_first (new (anchor_word d)))) xs) (sym chain_at)
            (subst (λ from. Walks new from (blocks ++ s.chain d)) (gives.begins ∙ sym (ap (first_of capacity class d) parts.1)) chain_walks);
        count = parts.2 ∙ sym (length-append blocks (s.chain d)) ∙ ap length (sym chain_at);
      } where
        free_after : (word : ℕ) → times_free after class d word ≡ times_free s class d word
        free_after word =
            let in_chain : times word (with_at s.chain d chain d) ≡ times word (blocks ++ s.chain d) = ap (times word) chain_at in
            let in_cache : times word (with_at s.cached class rest class) ≡ times word rest = ap (times word) (with_at_same s.cached class rest) in
            let all = free_parts word in
            omega arith

      -- it has free blocks, all or some
      pub given_listed : ((state ≡ empty_state) × (length blocks + length (s.chain d) ≡ blocks_of class)) ⊎ ((state ≡ partial_state)
          × (length blocks + length (s.chain d) < blocks_of class))
          → HasFreeBlocks capacity new after held class d
      given_listed cases =
          let at : length (with_at s.chain d chain d) ≡ length blocks + length (s.chain d) = ap length chain_at ∙ length-append blocks (s.chain d) in
          let given = length-append before (last ∷ []) in
          let all = parts in
          record {
            of_class = given_of_class;
            some = omega arith;
            state = elim cases [ inl every ↦ inl (all.0 ∙ every.0, at ∙ every.1) | inr some ↦ let fewer = some.1 in inr (all.0 ∙ some.0, omega arith) ];
          }

      -- the others are left alone
      alone : (e : ℕ) → e < capacity → e ≢ d → SameThere capacity e image new s after held held
      alone e e_within apart = record {
        info = same_info e e_within;
        anchor = low_word (anchor_word e) (omega arith) (λ same. apart (omega arith)) (omega arith) (omega arith);
        inside = λ word in_e. let from = in_e.from in high_word word (omega arith)
            (λ same. apart (inside_one capacity e d last (subst (λ x. IsInSuperblock capacity e x) same in_e) last_inside));
        chain = with_at_other s.chain d chain e apart;
        cached = λ c word _ in_e. at_or_other (λ k xs. times word xs ≡ times word (s.cached k)) s.cached class rest c (rest_times word in_e)
            (λ _. refl);
        holds = λ word in_e h. h;
        held_before = λ word in_e h. h;
        none = λ none. none;
      } where
        rest_times : (word : ℕ) → IsInSuperblock capacity e word → times word rest ≡ times word (s.cached class)
        rest_times word in_e =
            let none = times_none word blocks (λ p. apart (inside_one capacity e d word in_e
            (first_inside capacity class d word is (firsts word p)))) in
            let all = times_append word blocks rest in
            let cached : times word (s.cached class) ≡ times word (blocks ++ rest) = ap (times word) cache in
            omega arith

      alone_as : (e : ℕ) → e < capacity → e ≢ d → IsAs capacity new after held e (s.place e)
      alone_as e e_within apart = let same = same_used in
          frame capacity e image new s after held held (s.place e) (alone e e_within apart) (omega arith)
          (λ fresh. (
            past (s.place e) fresh (shape.places e e_within),
            low_word (link_word e) (omega arith) (omega arith) (λ one. apart (omega arith)) (omega arith),
          )) (shape.places e e_within)
        where
          past : (p : Place) → p ≡ is_new → IsAs capacity image s held e p → new used_word ≤ e
          past p fresh as_place =
              let behind = (subst (λ x. IsAs capacity image s held e x) fresh as_place).past in
              let same = same_used in
              omega arith

      -- the whole shape, where the superblock stands as its new place says
      pub given_whole : ((e : ℕ) → e ≢ d → place e ≡ s.place e) → IsAs capacity new after held d (place d)
          → ((w : ℕ) → Contains rest w → IsFirstOf capacity class d w → ⊥) ⊎ (place d ≡ in_list class)
          → ((l : ℕ) → l < lists → Follows (λ e. new (link_word e)) capacity (head_first (new (head_word l))) (listed l))
          → ((l e : ℕ) → l < lists → times e (listed l) ≡ stands_in (place e) l) → IsShape capacity new held after
      given_whole others as_here rest_here follows counts = record {
        small = shape.small;
        used = let same = same_used in let used = shape.used in omega arith;
        named = λ b p. same_there (layout_at capacity image) (layout_at capacity new) b refl same_used (λ e part.
            let taken = part_taken (layout_at capacity image) b e (shape.named b p) part in
            let used = shape.used in
            same_info e (omega arith)) (shape.named b p);
        follows = follows;
        listed = counts;
        places = λ e e_within. elim (cases_eq e d) as (λ _. IsAs capacity new after held e (place e)) [
          | inl same ↦ subst (λ x. IsAs capacity new after held x (place x)) (sym same) as_here
          | inr apart ↦ subst (λ p. IsAs capacity new after held e p) (sym (others e apart)) (alone_as e e_within apart)
        ];
        cached = λ c w is_c p. let found = shape.cached c w is_c (before_cached c w p) in
            record { superblock = found.superblock; within = found.within; is_first = found.is_first; place = cached_place c w is_c p };
        walks = λ c is_c. at_or_other_two (λ k from words. IsClass k → Walks new from words) s.start s.cached class (image last) rest c
            (λ _. walks_same image new (image last) rest (λ w p. cached_word class w is
            (subst (λ xs. Contains xs w) (sym cache) (Contains-append_right blocks rest w p)) (not_last rest last_once.2 w p))
            (walk_behind image (s.start class) before last rest walk_all))
            (λ other is_k. walks_same image new (s.start c) (s.cached c) (λ w p. cached_word c w is_k p (last_elsewhere c w is_k other p))
            (shape.walks c is_k)) is_c;
      } where
        cached_word : (c w : ℕ) → IsClass c → Contains (s.cached c) w → w ≢ last → new w ≡ image w
        cached_word c w is_c p other =
            let found = shape.cached c w is_c p in
            let inside = (first_inside capacity c found.superblock w is_c found.is_first).from in
            high_word w (omega arith) other

        cached_place : (c w : ℕ) (is_c : IsClass c) (p : Contains (with_at s.cached class rest c) w)
            → (place (shape.cached c w is_c (before_cached c w p)).superblock ≡ in_list c)
            ⊎ ((place (shape.cached c w is_c (before_cached c w p)).superblock ≡ is_full)
            × (new (info_word (shape.cached c w is_c (before_cached c w p)).superblock) ≡ c))
        cached_place c w is_c p =
            let found = shape.cached c w is_c (before_cached c w p) in
            let of_c = cached_of_class capacity image held s shape c w is_c (before_cached c w p) in
            elim (cases_eq found.superblock d) [
              | inl same ↦
                  let one : c ≡ class = sym of_c.info ∙ ap (λ e. image (info_word e)) same ∙ of.info in
                  elim rest_here [
                    | inl not_here ↦ absurd (not_here w
                        (subst (λ xs. Contains xs w) (with_at_same s.cached class rest) (subst (λ k. Contains (with_at s.cached class rest k) w) one p))
                        (subst (λ k. IsFirstOf capacity k d w) one (subst (λ e. IsFirstOf capacity c e w) same found.is_first)))
                    | inr here ↦ inl (ap place same ∙ here ∙ ap in_list (sym one))
                  ]
              | inr apart ↦ elim found.place [
                | inl in_class ↦ inl (others found.superblock apart ∙ in_class)
                | inr full ↦ inr (others found.superblock apart ∙ full.0, same_info found.superblock found.within ∙ full.1)
              ]
            ]
