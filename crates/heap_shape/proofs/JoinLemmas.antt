-- Superblocks that were never taken become a large block.
use Rattle.std.proofs.Common.{◌≡◌, ◌≢◌, ℕ, suc, ◌+◌, ◌*◌, ◌<◌, ◌≤◌, ◌⊎◌, ◌&&◌, inl, inr, true, cond, nat_lt, List, Contains, refl, ap, sym, subst, ◌∙◌, arith}
use Rattle.std.proofs.Math.Nat.{zero-mul}
use Rattle.std.proofs.lemmas.Bool.{cases_eq, cases_lt, le-leb, lt-leb, lt-ltb}
use Rattle.heap_model.specs.declared.block.Block.{Block}
use Rattle.heap_model.specs.Geometry.{head_word, info_word, anchor_word, link_word, used_word, start_word, superblock_words}
use Rattle.heap_model.specs.Image.{Image}
use Rattle.heap_model.specs.Sizes.{IsClass}
use Rattle.heap_model.specs.Words.{large_info, head_first}
use Rattle.heap_model.specs.Blocks.{as_large, IsBlock}
use Rattle.heap_model.specs.Recovered.{HasPartIn}
use Rattle.heap_model.specs.Chains.{Follows}
use Rattle.heap_model.proofs.BlockLemmas.{block_inside}
use Rattle.heap_at_rest.proofs.PartLemmas.{part_taken}
use Rattle.heap_at_rest.proofs.ListLemmas.{follows_same, walks_same}
use Rattle.heap_shape.specs.Shape.{in_list, is_full, in_large, is_new, Shape, stands_in}
use Rattle.heap_shape.specs.Standing.{HoldsAt, IsTakenByLarge, IsNew, IsAs}
use Rattle.heap_shape.specs.Whole.{IsCachedIn, IsShape}
use Rattle.heap_at_rest.specs.Draining.{layout_at}
use Rattle.heap_shape.specs.Effects.{IsSet, IsInSuperblock}
use Rattle.heap_shape.specs.Moves.{after_join, AddsTo}
use Rattle.heap_shape.proofs.BasicLemmas.{first_inside}
use Rattle.heap_shape.proofs.FrameLemmas.{frame}
use Rattle.heap_shape.proofs.CutLemmas.{block_same, past_is_new}

-- the place of one of the n superblocks from d on, and of another
joined_place : (s : Shape) (d n e : ℕ) → d ≤ e → e < d + n → (after_join s d n).place e ≡ in_large
joined_place s d n e from until = ap (λ b. cond (b && nat_lt e (d + n)) in_large (s.place e)) (le-leb d e from)
    ∙ ap (λ b. cond (true && b) in_large (s.place e)) (lt-ltb e (d + n) until)

other_place : (s : Shape) (d n e : ℕ) → (e < d) ⊎ (d + n ≤ e) → (after_join s d n).place e ≡ s.place e
other_place s d n e (inl before) = ap (λ b. cond (b && nat_lt e (d + n)) in_large (s.place e)) (lt-leb d e before)
other_place s d n e (inr behind) = ap (λ b. cond (b && nat_lt e (d + n)) in_large (s.place e)) (le-leb d e (omega arith))
    ∙ ap (λ b. cond (true && b) in_large (s.place e)) (lt-leb (suc e) (d + n) (omega arith))

-- a superblock is one of them or another
cases_joined : (d n e : ℕ) → ((d ≤ e) × (e < d + n)) ⊎ ((e < d) ⊎ (d + n ≤ e))
cases_joined d n e = elim (cases_lt e d) as (λ _. ((d ≤ e) × (e < d + n)) ⊎ ((e < d) ⊎ (d + n ≤ e))) [
  | inl before ↦ inr (inl before)
  | inr from ↦ elim (cases_lt e (d + n)) as (λ _. ((d ≤ e) × (e < d + n)) ⊎ ((e < d) ⊎ (d + n ≤ e))) [
    | inl until ↦ inl (from, until)
    | inr behind ↦ inr (inr behind)
  ]
]

-- the block that they become
abbrev large_block : ℕ → ℕ → ℕ → Block
large_block capacity d n = record { first_word = start_word capacity d; words = superblock_words * n }

-- superblocks that were never taken become a large block, which is held
pub join : (capacity n d : ℕ) (image middle new : Image) (held now : List Block) (s : Shape) → IsShape capacity image held s
    → image used_word ≡ d → 1 ≤ n
    → d + n ≤ capacity
    → IsSet image middle used_word (d + n) → IsSet middle new (info_word d) (large_info n)
    → AddsTo (record { first_word = start_word capacity d; words = superblock_words * n }) held now
    → IsShape capacity new now (after_join s d n) × (Contains held (record { first_word = start_word capacity d; words = superblock_words * n }) → ⊥)
join capacity n d image middle new held now s shape past some within set info adds = (joined, unheld) where
  unheld : Contains held (large_block capacity d n) → ⊥
  unheld p =
      let inside = block_inside (layout_at capacity image) (large_block capacity d n) (shape.named (large_block capacity d n) p) in
      let end = inside.1 in omega arith

  -- the words but two are as before
  same : (word : ℕ) → word ≢ info_word d → word ≢ used_word → new word ≡ image word
  same word not_info not_used = info.others word not_info ∙ set.others word not_used

  used : new used_word ≡ d + n
  used = info.others used_word (λ e. omega arith) ∙ set.at

  inside : (e word : ℕ) → IsInSuperblock capacity e word → new word ≡ image word
  inside e word at = let from = at.from in same word (λ e. omega arith) (λ e. omega arith)

  link : (e : ℕ) → new (link_word e) ≡ image (link_word e)
  link e = same (link_word e) (λ e. omega arith) (λ e. omega arith)

  -- they were never taken
  place : (e : ℕ) → d ≤ e → e < d + n → s.place e ≡ is_new
  place e from until = past_is_new capacity image s held e (s.place e) (omega arith) (shape.places e (omega arith))

  was_new : (e : ℕ) → d ≤ e → e < d + n → IsNew image e
  was_new e from until = subst (λ p. IsAs capacity image s held e p) (place e from until) (shape.places e (omega arith))

  other : (e : ℕ) → s.place e ≢ is_new → (e < d) ⊎ (d + n ≤ e)
  other e not_new = elim (cases_joined d n e) as (λ _. (e < d) ⊎ (d + n ≤ e)) [ inl one ↦ absurd (not_new (place e one.0 one.1)) | inr apart ↦ apart ]

  apart : (e : ℕ) → (e < d) ⊎ (d + n ≤ e) → e ≢ d
  apart e (inl before) at = omega arith
  apart e (inr behind) at = omega arith

  infos : (e : ℕ) → (e < d) ⊎ (d + n ≤ e) → new (info_word e) ≡ image (info_word e)
  infos e not_one = let differs = apart e not_one in same (info_word e) (λ at. differs (omega arith)) (λ at. omega arith)

  -- the large block is one, and blocks from before stay
  is_block : IsBlock (layout_at capacity new) (large_block capacity d n)
  is_block = record {
    superblock = d;
    index = 0;
    words = superblock_words * n;
    count = 1;
    is_of = record {
      taken = let raised = used in omega arith;
      begins = as_large n some info.at (let raised = used in omega arith) (λ i from until. infos_inner i from until);
      below = omega arith;
      at = let none = zero-mul (superblock_words * n) in omega arith;
      size = refl;
    };
  } where
    infos_inner : (i : ℕ) → d < i → i < d + n → new (info_word i) ≡ 0
    infos_inner i from until = same (info_word i) (λ at. omega arith) (λ at. omega arith) ∙ (was_new i (omega arith) until).info

  named : (b : Block) → Contains now b → IsBlock (layout_at capacity new) b
  named b p = elim (adds.only b p) as (λ _. IsBlock (layout_at capacity new) b) [
    | inl one ↦ subst (IsBlock (layout_at capacity new)) (sym one) is_block
    | inr before ↦ block_same capacity image new b (let raised = used in omega arith)
        (λ e part. infos e (inl (let taken = part_taken (layout_at capacity image) b e (shape.named b before) part in omega arith)))
        (shape.named b before)
  ]

  -- another superblock stays as its place says
  stays : (e : ℕ) → e < capacity → (e < d) ⊎ (d + n ≤ e) → IsAs capacity new (after_join s d n) now e (s.place e)
  stays e below not_one = frame capacity e image new s (after_join s d n) held now (s.place e)
      (record {
        info = infos e not_one;
        anchor = same (anchor_word e) (λ at. omega arith) (λ at. omega arith);
        inside = λ word at. inside e word at;
        chain = refl;
        cached = λ c word is_c at. refl;
        holds = λ word at holds. record { block = holds.block; holds = adds.keeps holds.block holds.holds; at = holds.at };
        held_before = λ word at holds. elim (adds.only holds.block holds.holds) as (λ _. HoldsAt held word) [
          | inl one ↦
              let first : start_word capacity d ≡ word = sym (ap (λ (b : Block). b.first_word) one) ∙ holds.at in
              let from = at.from in
              let until = at.until in
              absurd (apart e not_one (omega arith))
          | inr before ↦ record { block = holds.block; holds = before; at = holds.at }
        ];
        none = λ none b p part. elim (adds.only b p) as (λ _. ⊥) [
          | inl one ↦ no_part e not_one (subst (λ x. HasPartIn capacity x e) one part)
          | inr before ↦ none b before part
        ];
      })
      (let raised = used in omega arith) (λ p. (not_taken e below not_one p, link e)) (shape.places e below)
    where
      no_part : (e : ℕ) → (e < d) ⊎ (d + n ≤ e) → HasPartIn capacity (large_block capacity d n) e → ⊥
      no_part e (inl before) part = let begins = part.begins in omega arith
      no_part e (inr behind) part = let ends = part.ends in omega arith

      not_taken : (e : ℕ) → e < capacity → (e < d) ⊎ (d + n ≤ e) → s.place e ≡ is_new → new used_word ≤ e
      not_taken e below not_one at = by_side not_one (subst (λ p. IsAs capacity image s held e p) at (shape.places e below)) where
        by_side : (e < d) ⊎ (d + n ≤ e) → IsNew image e → new used_word ≤ e
        by_side (inl before) is = absurd (let not_before = is.past in omega arith)
        by_side (inr behind) is = let raised = used in omega arith

  -- each of them is taken by the large block
  is_taken : (e : ℕ) → d ≤ e → e < d + n → IsTakenByLarge new e
  is_taken e from until = record {
    taken = let raised = used in omega arith;
    no_class = λ is. let last = is.last in let least = is.some in elim (cases_eq e d) as (λ _. ⊥) [
      | inl one ↦ let here : new (info_word e) ≡ large_info n = ap (λ k. new (info_word k)) one ∙ info.at in omega arith
      | inr differs ↦ let none : new (info_word e) ≡ 0 = same (info_word e) (λ at. differs (omega arith)) (λ at. omega arith)
          ∙ (was_new e from until).info in omega arith
    ];
  }

  cached : (c word : ℕ) → IsClass c → Contains (s.cached c) word → IsCachedIn capacity new (after_join s d n) c word
  cached c word is_c p =
      let at = shape.cached c word is_c p in
      let not_one : (at.superblock < d) ⊎ (d + n ≤ at.superblock) =
      other at.superblock (λ new_place. elim at.place as (λ _. ⊥) [ inl in_class ↦ (cc) | inr full ↦ let is_one = full.0 in (cc) ]) in
      let stays_there = other_place s d n at.superblock not_one in
      record {
        superblock = at.superblock;
        within = at.within;
        is_first = at.is_first;
        place = elim at.place as (λ _. ((after_join s d n).place at.superblock ≡ in_list c)
            ⊎ (((after_join s d n).place at.superblock ≡ is_full) × (new (info_word at.superblock) ≡ c))) [
              | inl in_class ↦ inl (stays_there ∙ in_class)
              | inr full ↦ inr (stays_there ∙ full.0, infos at.superblock not_one ∙ full.1)
            ];
      }

  joined : IsShape capacity new now (after_join s d n)
  joined = record {
    small = shape.small;
    used = let raised = used in omega arith;
    named = named;
    follows = λ list less. subst (λ h. Follows (λ e. new (link_word e)) capacity (head_first h) (s.listed list))
        (sym (same (head_word list) (λ at. omega arith) (λ at. omega arith)))
        (follows_same (λ e. image (link_word e)) (λ e. new (link_word e)) capacity (head_first (image (head_word list))) (s.listed list)
        (λ e p. link e) (shape.follows list less));
    listed = λ list e less. shape.listed list e less
        ∙ (elim (cases_joined d n e) as (λ _. stands_in (s.place e) list ≡ stands_in ((after_join s d n).place e) list) [
          | inl one ↦ ap (λ p. stands_in p list) (place e one.0 one.1) ∙ sym (ap (λ p. stands_in p list) (joined_place s d n e one.0 one.1))
          | inr not_one ↦ sym (ap (λ p. stands_in p list) (other_place s d n e not_one))
        ]);
    places = λ e below. elim (cases_joined d n e) as (λ _. IsAs capacity new (after_join s d n) now e ((after_join s d n).place e)) [
      | inl one ↦ subst (λ p. IsAs capacity new (after_join s d n) now e p) (sym (joined_place s d n e one.0 one.1)) (is_taken e one.0 one.1)
      | inr not_one ↦ subst (λ p. IsAs capacity new (after_join s d n) now e p) (sym (other_place s d n e not_one)) (stays e below not_one)
    ];
    cached = cached;
    walks = λ c is_c. walks_same image new (s.start c) (s.cached c)
        (λ w p. let at = shape.cached c w is_c p in inside at.superblock w (first_inside capacity c at.superblock w is_c at.is_first))
        (shape.walks c is_c);
  }
