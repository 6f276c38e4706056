-- The first block of a cache is handed out, and every superblock stays as it is.
use Rattle.std.proofs.Common.{◌≡◌, ◌≢◌, ℕ, zero, suc, ◌+◌, ◌<◌, ◌≤◌, ◌⊎◌, inl, inr, List, ◌∷◌, length, Contains, refl, ap, sym, subst, ◌∙◌, arith}
use Rattle.std.proofs.lemmas.Bool.{cases_eq}
use Rattle.heap_model.specs.declared.block.Block.{Block}
use Rattle.heap_model.specs.Geometry.{info_word, anchor_word, used_word}
use Rattle.heap_model.specs.Image.{Image}
use Rattle.heap_model.specs.Sizes.{IsClass, blocks_of, words_of_class}
use Rattle.heap_model.specs.Words.{anchor_first, anchor_count}
use Rattle.heap_model.specs.Blocks.{IsBlock, IsIn}
use Rattle.heap_model.specs.Recovered.{HasPartIn, IsBlockOfClass}
use Rattle.heap_model.specs.Chains.{Walks}
use Rattle.heap_model.specs.Counting.{times}
use Rattle.heap_model.proofs.SizeLemmas.{blocks_fit, two_words}
use Rattle.heap_model.proofs.BlockLemmas.{block_step, never_overlap}
use Rattle.heap_model.proofs.MemberLemmas.{in_head, in_rest}
use Rattle.heap_at_rest.proofs.ListLemmas.{times_of, walks_same}
use Rattle.heap_at_rest.proofs.LayoutLemmas.{class_block}
use Rattle.heap_shape.specs.Shape.{Place, in_list, is_full, in_large, is_new, Shape, with_at}
use Rattle.heap_shape.specs.Standing.{first_of, HoldsAt, HasOneOwner, a_free, a_held, times_free, IsOfClass, HasFreeBlocks, IsFullSuperblock, IsAs}
use Rattle.heap_at_rest.specs.Draining.{HasNoHeld, layout_at}
use Rattle.heap_shape.specs.Whole.{IsCachedIn, IsShape}
use Rattle.heap_shape.specs.Effects.{IsInSuperblock}
use Rattle.heap_shape.specs.Moves.{with_cache, AddsTo}
use Rattle.heap_shape.proofs.BasicLemmas.{with_at_same, with_at_other, first_inside, inside_one, cached_of_class, times_here, times_past}
use Rattle.heap_shape.proofs.FrameLemmas.{SameThere, frame, owner_same}

-- what holds of a function with another value at one number, and of two such functions
pub at_or_other : {A : Type 0} (P : ℕ → A → Type 0) (f : ℕ → A) (at : ℕ) (value : A) (n : ℕ) → P at value → (n ≢ at → P n (f n))
    → P n (with_at f at value n)
at_or_other P f at value n here there = elim (cases_eq n at) as (λ _. P n (with_at f at value n)) [
  | inl same ↦ subst (λ k. P k (with_at f at value k)) (sym same) (subst (λ x. P at x) (sym (with_at_same f at value)) here)
  | inr other ↦ subst (λ x. P n x) (sym (with_at_other f at value n other)) (there other)
]

pub at_or_other_two : {A B : Type 0} (P : ℕ → A → B → Type 0) (f : ℕ → A) (g : ℕ → B) (at : ℕ) (a : A) (b : B) (n : ℕ) → P at a b
    → (n ≢ at → P n (f n) (g n))
    → P n (with_at f at a n) (with_at g at b n)
at_or_other_two P f g at a b n here there = at_or_other (λ k x. P k x (with_at g at b k)) f at a n
    (subst (λ y. P at a y) (sym (with_at_same g at b)) here)
    (λ other. subst (λ y. P n (f n) y) (sym (with_at_other g at b n other)) (there other))

-- a block with an owner is free at most once
pub free_once : (s : Shape) (held : List Block) (class d word : ℕ) → HasOneOwner s held class d word → times_free s class d word ≤ 1
free_once s held class d word (a_free once out) = omega arith
free_once s held class d word (a_held none in_hand) = omega arith

-- a held one is not free, and a free one is not held
pub held_not_free : (s : Shape) (held : List Block) (class d word : ℕ) → HoldsAt held word → HasOneOwner s held class d word → times_free s class d word ≡ 0
held_not_free s held class d word holds (a_free once out) = absurd (out holds)
held_not_free s held class d word holds (a_held none in_hand) = none

-- a block that is free as often, and is held or not as before, has one owner still
-- a block of a class has a part in its superblock alone
part_one : (capacity class d e index : ℕ) (b : Block) → IsClass class → IsBlockOfClass capacity class e index b → HasPartIn capacity b d → d ≡ e
part_one capacity class d e index b is of part =
    let step = block_step index (blocks_of class) (words_of_class class) of.below in
    let fit = blocks_fit class is in
    let at = of.at in
    let size = of.size in
    let begins = part.begins in
    let ends = part.ends in
    omega arith

-- a superblock of the class with a held block is in the list of the class, or full
pub cut_place : (capacity : ℕ) (image : Image) (s : Shape) (held : List Block) (class d : ℕ) (p : Place) → IsClass class
    → image (info_word d) ≡ class → d < image used_word
    → (HasNoHeld capacity held d → ⊥) → IsAs capacity image s held d p → (p ≡ in_list class) ⊎ ((p ≡ is_full) × (image (info_word d) ≡ class))
cut_place capacity image s held class d (in_list zero) is info taken some free = absurd (some free.none)
cut_place capacity image s held class d (in_list (suc c)) is info taken some listed = inl (ap in_list (sym listed.of_class.info ∙ info))
cut_place capacity image s held class d is_full is info taken some full = inr (refl, info)
cut_place capacity image s held class d in_large is info taken some large = absurd (large.no_class (subst IsClass (sym info) is))
cut_place capacity image s held class d is_new is info taken some new = absurd (let past = new.past in omega arith)

-- and is cut for it
pub cut_class : (capacity : ℕ) (image : Image) (s : Shape) (held : List Block) (class d : ℕ) (p : Place) → IsClass class
    → (p ≡ in_list class) ⊎ ((p ≡ is_full) × (image (info_word d) ≡ class)) → IsAs capacity image s held d p → IsOfClass capacity image s held class d
cut_class capacity image s held class d (in_list zero) is place free =
    absurd (elim place as (λ _. ⊥) [ inl e ↦ let none : 0 ≡ class = cc in let some = is.some in omega arith | inr both ↦ cc ])
cut_class capacity image s held class d (in_list (suc c)) is place listed = elim place [
  | inl e ↦ let same : suc c ≡ class = cc in subst (λ k. IsOfClass capacity image s held k d) same listed.of_class
  | inr both ↦ absurd (cc)
]
cut_class capacity image s held class d is_full is place full = elim place [
  | inl e ↦ absurd (cc)
  | inr both ↦ subst (λ k. IsOfClass capacity image s held k d) both.1 full.of_class
]
cut_class capacity image s held class d in_large is place large = absurd (elim place as (λ _. ⊥) [ inl e ↦ cc | inr both ↦ cc ])
cut_class capacity image s held class d is_new is place new = absurd (elim place as (λ _. ⊥) [ inl e ↦ cc | inr both ↦ cc ])

-- a superblock of a class of which only the owners change is still of its class, and keeps its place
pub reowned : (capacity : ℕ) (image new : Image) (s t : Shape) (held now : List Block) (class d : ℕ) → image used_word ≤ new used_word
    → new (info_word d) ≡ image (info_word d)
    → new (anchor_word d) ≡ image (anchor_word d) → t.chain d ≡ s.chain d → ((w : ℕ) → Contains (s.chain d) w → new w ≡ image w)
    → ((index : ℕ) → index < blocks_of class → HasOneOwner t now class d (first_of capacity class d index))
    → IsOfClass capacity image s held class d → IsOfClass capacity new t now class d
reowned capacity image new s t held now class d raised info anchor chain same owned of = record {
  is_class = of.is_class;
  taken = let taken = of.taken in omega arith;
  info = info ∙ of.info;
  owned = owned;
  blocks = λ w p. of.blocks w (subst (λ xs. Contains xs w) chain p);
  walks = subst (λ xs. Walks new (first_of capacity class d (anchor_first (new (anchor_word d)))) xs) (sym chain)
      (subst (λ a. Walks new (first_of capacity class d (anchor_first a)) (s.chain d)) (sym anchor)
      (walks_same image new (first_of capacity class d (anchor_first (image (anchor_word d)))) (s.chain d) same of.walks));
  count = ap anchor_count anchor ∙ of.count ∙ ap length (sym chain);
}

pub replaced : (capacity : ℕ) (image new : Image) (s t : Shape) (held now : List Block) (class d : ℕ) (p : Place)
    → (p ≡ in_list class) ⊎ ((p ≡ is_full) × (image (info_word d) ≡ class)) → IsClass class
    → new (info_word d) ≡ image (info_word d) → new (anchor_word d) ≡ image (anchor_word d) → t.chain d ≡ s.chain d
    → IsOfClass capacity new t now class d
    → IsAs capacity image s held d p → IsAs capacity new t now d p
replaced capacity image new s t held now class d (in_list zero) place is info anchor chain of free =
    absurd (elim place as (λ _. ⊥) [ inl e ↦ let none : 0 ≡ class = cc in let some = is.some in omega arith | inr both ↦ cc ])
replaced capacity image new s t held now class d (in_list (suc c)) place is info anchor chain of listed =
    elim place as (λ _. HasFreeBlocks capacity new t now (suc c) d) [
      | inl e ↦ let same : suc c ≡ class = cc in record {
        of_class = subst (λ k. IsOfClass capacity new t now k d) (sym same) of;
        some = subst (λ xs. 1 ≤ length xs) (sym chain) listed.some;
        state = rw (chain, anchor) listed.state;
      }
      | inr both ↦ absurd (cc)
    ]
replaced capacity image new s t held now class d is_full place is info anchor chain of full =
    elim place as (λ _. IsFullSuperblock capacity new t now d) [
      | inl e ↦ absurd (cc)
      | inr both ↦ record {
        of_class = subst (λ k. IsOfClass capacity new t now k d) (sym (info ∙ both.1)) of;
        none = chain ∙ full.none;
        anchor = anchor ∙ full.anchor;
      }
    ]
replaced capacity image new s t held now class d in_large place is info anchor chain of large =
    absurd (elim place as (λ _. ⊥) [ inl e ↦ cc | inr both ↦ cc ])
replaced capacity image new s t held now class d is_new place is info anchor chain of fresh =
    absurd (elim place as (λ _. ⊥) [ inl e ↦ cc | inr both ↦ cc ])

-- no word of a held block is the first one of a block that is cached or in a chain
pub cached_apart : (capacity : ℕ) (image : Image) (held : List Block) (s : Shape) (class w : ℕ) (b : Block) → IsShape capacity image held s
    → IsClass class → Contains (s.cached class) w → Contains held b → IsIn b w → ⊥
cached_apart capacity image held s class w b shape is cached holds is_in =
    let in_cache = shape.cached class w is cached in
    let first = in_cache.is_first in
    let of = cached_of_class capacity image held s shape class w is cached in
    let here : Block = record { first_word = w; words = words_of_class class } in
    let here_of : IsBlockOfClass capacity class in_cache.superblock first.index here = record { below = first.below; at = first.at; size = refl } in
    let is_here : IsBlock (layout_at capacity image) here = class_block
    (layout_at capacity image) class in_cache.superblock first.index here of.taken of.info is here_of in
    let from = is_in.from in
    let until = is_in.until in
    let two = two_words class is in
    elim (never_overlap (layout_at capacity image) here b is_here (shape.named b holds)) as (λ _. ⊥) [
      | inl same ↦
          let holds_here : HoldsAt held w = record { block = b; holds = holds; at = sym (ap (λ (x : Block). x.first_word) same) } in
          let owner : HasOneOwner s held class in_cache.superblock w =
          subst (λ x. HasOneOwner s held class in_cache.superblock x) (sym first.at) (of.owned first.index first.below) in
          let none = held_not_free s held class in_cache.superblock w holds_here owner in
          let some = times_of w (s.cached class) cached in
          omega arith
      | inr apart ↦ elim apart as (λ _. ⊥) [ inl before ↦ omega arith | inr behind ↦ omega arith ]
    ]

-- a block is popped off the cache
module _ (capacity class w : ℕ) (image : Image) (held now : List Block) (s : Shape) (ws : List ℕ) (is : IsClass class)
    (shape : IsShape capacity image held s) (cached : s.cached class ≡ w ∷ ws)
    (adds : AddsTo (record { first_word = w; words = words_of_class class }) held now) where
  abbrev popped : Block
  popped = record { first_word = w; words = words_of_class class }

  abbrev left : Shape
  left = with_cache s class (image w) ws

  in_cache : Contains (s.cached class) w
  in_cache = subst (λ xs. Contains xs w) (sym cached) (in_head w ws)

  abbrev standing : IsCachedIn capacity image s class w
  standing = shape.cached class w is in_cache

  of_class : IsOfClass capacity image s held class standing.superblock
  of_class = cached_of_class capacity image held s shape class w is in_cache

  not_held : Contains held popped → ⊥
  not_held holds = let two = two_words class is in cached_apart capacity image held s class w popped shape is in_cache holds
      (record { from = omega arith; until = omega arith })

  is_of : IsBlockOfClass capacity class standing.superblock standing.is_first.index popped
  is_of = record { below = standing.is_first.below; at = standing.is_first.at; size = refl }

  -- other words are held as before
  held_after : (word : ℕ) → HoldsAt held word → HoldsAt now word
  held_after word holds = record { block = holds.block; holds = adds.keeps holds.block holds.holds; at = holds.at }

  held_before : (word : ℕ) → word ≢ w → HoldsAt now word → HoldsAt held word
  held_before word other holds = elim (adds.only holds.block holds.holds) [
    | inl same ↦ absurd (other (sym holds.at ∙ ap (λ (x : Block). x.first_word) same))
    | inr before ↦ record { block = holds.block; holds = before; at = holds.at }
  ]

  -- and other words are cached as before
  cached_before : (word : ℕ) → word ≢ w → times word ws ≡ times word (s.cached class)
  cached_before word other =
      sym (ap (times word) cached ∙ times_past w word ws (λ same. other (sym same)))

  elsewhere : (d : ℕ) → d ≢ standing.superblock → SameThere capacity d image image s left held now
  elsewhere d apart = record {
    info = refl;
    anchor = refl;
    inside = λ word in_d. refl;
    chain = refl;
    cached = λ c word _ in_d. at_or_other (λ k xs. times word xs ≡ times word (s.cached k)) s.cached class ws c
        (cached_before word (not_here word in_d)) (λ _. refl);
    holds = λ word in_d. held_after word;
    held_before = λ word in_d. held_before word (not_here word in_d);
    none = λ none b p part. elim (adds.only b p) as (λ _. ⊥) [
      | inl same ↦ apart (part_one capacity class d standing.superblock standing.is_first.index b is
          (subst (λ x. IsBlockOfClass capacity class standing.superblock standing.is_first.index x) (sym same) is_of) part)
      | inr before ↦ none b before part
    ];
  } where
    not_here : (word : ℕ) → IsInSuperblock capacity d word → word ≢ w
    not_here word in_d same = apart (inside_one capacity d standing.superblock w (subst (λ x. IsInSuperblock capacity d x) same in_d)
        (first_inside capacity class standing.superblock w is standing.is_first))

  owner_here : HasOneOwner left now class standing.superblock w
  owner_here =
      let owner = subst (λ x. HasOneOwner s held class standing.superblock x) (sym standing.is_first.at)
      (of_class.owned standing.is_first.index standing.is_first.below) in
      let once = free_once s held class standing.superblock w owner in
      let all : times w (s.cached class) ≡ 1 + times w ws = ap (times w) cached ∙ times_here w ws in
      let after : times w (with_at s.cached class ws class) ≡ times w ws = ap (times w) (with_at_same s.cached class ws) in
      a_held (omega arith) (record { block = popped; holds = adds.has; at = refl })

  owner_of : (word : ℕ) → HasOneOwner s held class standing.superblock word → HasOneOwner left now class standing.superblock word
  owner_of word owner = elim (cases_eq word w) [
    | inl same ↦ subst (λ x. HasOneOwner left now class standing.superblock x) (sym same) owner_here
    | inr other ↦
        let before = cached_before word other in
        let after : times word (with_at s.cached class ws class) ≡ times word ws = ap (times word) (with_at_same s.cached class ws) in
        owner_same s left held now class standing.superblock word (omega arith) (held_after word) (held_before word other) owner
  ]

  place_after : (d : ℕ) → d < capacity → IsAs capacity image left now d (s.place d)
  place_after d within = elim (cases_eq d standing.superblock) as (λ _. IsAs capacity image left now d (s.place d)) [
    | inl same ↦ subst (λ x. IsAs capacity image left now x (s.place x)) (sym same)
        (replaced capacity image image s left held now class standing.superblock (s.place standing.superblock) standing.place is refl refl refl
        (reowned capacity image image s left held now class standing.superblock (omega arith) refl refl refl (λ _ _. refl)
        (λ index below. owner_of (first_of capacity class standing.superblock index) (of_class.owned index below)) of_class)
        (shape.places standing.superblock standing.within))
    | inr other ↦ frame capacity d image image s left held now (s.place d) (elsewhere d other) (omega arith)
        (λ fresh. (past d (s.place d) fresh (shape.places d within), refl)) (shape.places d within)
  ] where
    past : (d : ℕ) (p : Place) → p ≡ is_new → IsAs capacity image s held d p → image used_word ≤ d
    past d p fresh as_place = (subst (λ x. IsAs capacity image s held d x) fresh as_place).past

  popped_shape : IsShape capacity image now left
  popped_shape = record {
    small = shape.small;
    used = shape.used;
    named = λ b p. elim (adds.only b p) [
      | inl same ↦ subst (λ x. IsBlock (layout_at capacity image) x) (sym same)
          (class_block (layout_at capacity image) class standing.superblock standing.is_first.index popped of_class.taken of_class.info is is_of)
      | inr before ↦ shape.named b before
    ];
    follows = shape.follows;
    listed = shape.listed;
    places = place_after;
    cached = λ c word is_c p.
        let before : Contains (s.cached c) word = at_or_other (λ k xs. Contains xs word → Contains (s.cached k) word) s.cached class ws c
        (λ q. subst (λ xs. Contains xs word) (sym cached) (in_rest w word ws q)) (λ _ q. q) p in
        let found = shape.cached c word is_c before in
        record { superblock = found.superblock; within = found.within; is_first = found.is_first; place = found.place };
    walks = λ c is_c. at_or_other_two (λ k first words. Walks image first words) s.start s.cached class (image w) ws c
        (subst (λ xs. Walks image (s.start class) xs) cached (shape.walks class is)).1 (λ _. shape.walks c is_c);
  }

-- the first block of the cache is popped, and held from now on: it was not
pub pop_block : (capacity class w : ℕ) (image : Image) (held now : List Block) (s : Shape) (ws : List ℕ)
    → IsClass class → IsShape capacity image held s → s.cached class ≡ w ∷ ws
    → AddsTo (record { first_word = w; words = words_of_class class }) held now
    → IsShape capacity image now (with_cache s class (image w) ws)
    × (Contains held (record { first_word = w; words = words_of_class class }) → ⊥)
pop_block capacity class w image held now s ws is shape cached adds =
    (popped_shape capacity class w image held now s ws is shape cached adds, not_held capacity class w image held now s ws is shape cached adds)
