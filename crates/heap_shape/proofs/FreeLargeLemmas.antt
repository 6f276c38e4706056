-- A large block is freed: it is held no more, and its superblocks go to the free list.
use Rattle.std.proofs.Common.{◌≡◌, ◌≢◌, ℕ, zero, suc, ◌+◌, ◌*◌, ◌<◌, ◌≤◌, inl, inr, nat_eq, List, ◌∷◌, Contains, refl, ap, sym, subst, ◌∙◌, arith}
use Rattle.std.proofs.lemmas.Bool.{cases_eq, eqb-true, eq-eqb}
use Rattle.heap_model.specs.declared.block.Block.{Block}
use Rattle.heap_model.specs.Geometry.{lists, head_word, info_word, anchor_word, link_word, used_word, start_word, superblock_words, largest_capacity_fits}
use Rattle.heap_model.specs.Image.{Image}
use Rattle.heap_model.specs.Sizes.{IsClass}
use Rattle.heap_model.specs.Words.{anchor_state, head_first}
use Rattle.heap_model.specs.Blocks.{Layout}
use Rattle.heap_model.specs.Recovered.{HasPartIn}
use Rattle.heap_model.specs.Chains.{Follows}
use Rattle.heap_model.specs.Counting.{times, one_if}
use Rattle.heap_model.proofs.BlockLemmas.{never_overlap}
use Rattle.heap_model.proofs.CountingLemmas.{one_if_true, one_if_false}
use Rattle.heap_at_rest.proofs.PartLemmas.{part_taken, long_takes}
use Rattle.heap_at_rest.proofs.ListLemmas.{follows_same, times_of, walks_same}
use Rattle.heap_at_rest.proofs.LayoutLemmas.{same_there}
use Rattle.heap_shape.specs.Shape.{Place, in_list, is_full, in_large, is_new, Shape, stands_in, with_at}
use Rattle.heap_shape.specs.Standing.{IsFree, IsTakenByLarge, IsAs}
use Rattle.heap_at_rest.specs.Draining.{HasNoHeld, layout_at}
use Rattle.heap_shape.specs.Whole.{IsCachedIn, IsShape}
use Rattle.heap_shape.specs.Effects.{IsSet, IsPushedOn}
use Rattle.heap_shape.specs.Moves.{after_split, TakesFrom}
use Rattle.heap_shape.proofs.BasicLemmas.{with_at_same, with_at_other, first_inside}
use Rattle.heap_shape.proofs.FrameLemmas.{SameThere, frame, KeepsBut}

-- each superblock of a held large block has that place
pub large_places : (capacity d : ℕ) (image : Image) (held : List Block) (s : Shape) (b : Block) → IsShape capacity image held s
    → Contains held b → superblock_words ≤ b.words
    → b.first_word ≤ start_word capacity d → start_word capacity d < b.first_word + b.words → (d < capacity) × (s.place d ≡ in_large)
large_places capacity d image held s b shape holds long from until = (within, by_place (s.place d) (shape.places d within)) where
  part : HasPartIn capacity b d
  part = record { begins = omega arith; ends = until }

  taken : d < image used_word
  taken = part_taken (layout_at capacity image) b d (shape.named b holds) part

  within : d < capacity
  within = let used = shape.used in let less = taken in omega arith

  no_class : IsClass (image (info_word d)) → ⊥
  no_class = (long_takes (layout_at capacity image) b d (shape.named b holds) part long).no_class

  by_place : (p : Place) → IsAs capacity image s held d p → p ≡ in_large
  by_place (in_list zero) is = absurd (is.none b holds part)
  by_place (in_list (suc c)) is = absurd (no_class (subst IsClass (sym is.of_class.info) is.of_class.is_class))
  by_place is_full is = absurd (no_class is.of_class.is_class)
  by_place in_large is = refl
  by_place is_new is = absurd (let past = is.past in let less = taken in omega arith)

-- it is held no more: its superblocks are still taken by it
pub drop_large : (capacity : ℕ) (image : Image) (held now : List Block) (s : Shape) (b : Block) → IsShape capacity image held s
    → Contains held b → superblock_words ≤ b.words → TakesFrom b held now
    → IsShape capacity image now s × ((d : ℕ) → b.first_word ≤ start_word capacity d → start_word capacity d < b.first_word + b.words
    → HasNoHeld capacity now d)
drop_large capacity image held now s b shape holds long takes = (is_shape, none_left) where
  l : Layout
  l = layout_at capacity image

  -- in a superblock in which the large block has no part the same blocks are held
  same_where : (d : ℕ) → (HasPartIn capacity b d → ⊥) → SameThere capacity d image image s s held now
  same_where d apart = record {
    info = refl;
    anchor = refl;
    inside = λ word inside. refl;
    chain = refl;
    cached = λ class word is inside. refl;
    holds = λ word inside at. record {
      block = at.block;
      holds = takes.keeps at.block at.holds (λ same. apart (
          let first : b.first_word ≡ word = ap (λ (x : Block). x.first_word) (sym same) ∙ at.at in
          let from = inside.from in
          let until = inside.until in
          record { begins = omega arith; ends = omega arith }));
      at = at.at;
    };
    held_before = λ word inside at. record { block = at.block; holds = takes.only at.block at.holds; at = at.at };
    none = λ none a is_held part. none a (takes.only a is_held) part;
  }

  -- it has no part in a superblock of a class
  no_part : (d : ℕ) → IsClass (image (info_word d)) → HasPartIn capacity b d → ⊥
  no_part d is part = (long_takes (layout_at capacity image) b d (shape.named b holds) part long).no_class is

  by_place : (d : ℕ) (p : Place) → IsAs capacity image s held d p → IsAs capacity image s now d p
  by_place d (in_list zero) is = record { taken = is.taken; state = is.state; none = λ a is_held part. is.none a (takes.only a is_held) part }
  by_place d (in_list (suc c)) is =
      let apart = no_part d (subst IsClass (sym is.of_class.info) is.of_class.is_class) in
      frame capacity d image image s s held now (in_list (suc c)) (same_where d apart) (omega arith) (λ same. absurd (cc)) is
  by_place d is_full is =
      let apart = no_part d is.of_class.is_class in
      frame capacity d image image s s held now is_full (same_where d apart) (omega arith) (λ same. absurd (cc)) is
  by_place d in_large is = is
  by_place d is_new is = is

  is_shape : IsShape capacity image now s
  is_shape = record {
    small = shape.small;
    used = shape.used;
    named = λ a is_held. shape.named a (takes.only a is_held);
    follows = shape.follows;
    listed = shape.listed;
    places = λ d within. by_place d (s.place d) (shape.places d within);
    cached = shape.cached;
    walks = shape.walks;
  }

  none_left : (d : ℕ) → b.first_word ≤ start_word capacity d → start_word capacity d < b.first_word + b.words → HasNoHeld capacity now d
  none_left d from until a is_held part =
      let all = long_takes (layout_at capacity image) b d (shape.named b holds) (record { begins = omega arith; ends = until }) long in
      let begins = part.begins in
      let ends = part.ends in
      let all_until = all.until in
      elim (never_overlap (layout_at capacity image) a b (shape.named a (takes.only a is_held)) (shape.named b holds)) as (λ _. ⊥) [
        | inl same ↦ takes.gone (subst (λ x. Contains now x) same is_held)
        | inr apart ↦ elim apart as (λ _. ⊥) [ inl before ↦ omega arith | inr behind ↦ omega arith ]
      ]

-- a place is one
list_not_large : (list : ℕ) → in_list list ≡ in_large → ⊥
list_not_large list same = cc

full_not_large : is_full ≡ in_large → ⊥
full_not_large same = cc

-- the links lead along the superblocks
abbrev Leads : Image → ℕ → ℕ → List ℕ → Type 0
Leads image = Follows (λ e. image (link_word e))

-- The step of split_one, in parts.
module _ (capacity d : ℕ) (image middle new : Image) (held : List Block) (s : Shape) (shape : IsShape capacity image held s)
    (within : d < capacity) (place : s.place d ≡ in_large) (set : IsSet image middle (anchor_word d) 0) (pushed : IsPushedOn middle new 0 d) where
  -- the superblock is taken
  large : IsTakenByLarge image d
  large = subst (λ p. IsAs capacity image s held d p) place (shape.places d within)

  -- three words change
  same_word : (word : ℕ) → word ≢ anchor_word d → word ≢ link_word d → word ≢ head_word 0 → new word ≡ image word
  same_word word no_anchor no_link no_head = pushed.head.others word no_head ∙ pushed.link.others word no_link ∙ set.others word no_anchor

  -- so `used`, infos, the links and anchors of others, and superblocks stay
  kept : KeepsBut capacity d image new
  kept = record {
    used = same_word used_word (λ e. omega arith) (λ e. omega arith) (λ e. omega arith);
    info = λ e. same_word (info_word e) (λ q. omega arith) (λ q. omega arith) (λ q. omega arith);
    link = λ e other. same_word (link_word e) (λ q. omega arith) (λ q. other (omega arith)) (λ q. omega arith);
    inside = λ e word inside. let from = inside.from in same_word word (λ q. omega arith) (λ q. omega arith) (λ q. omega arith);
  }

  -- it was in no list
  not_listed : (list : ℕ) → list < lists → times d (s.listed list) ≡ 0
  not_listed list less = shape.listed list d less ∙ ap (λ p. stands_in p list) place

  -- so lists lead as they did
  links_same : (list from : ℕ) → list < lists → Leads image capacity from (s.listed list) → Leads new capacity from (s.listed list)
  links_same list from less follows = follows_same (λ e. image (link_word e)) (λ e. new (link_word e)) capacity from (s.listed list) (λ e p.
      kept.link e (λ same.
      let some = times_of e (s.listed list) p in
      let none = not_listed list less in
      let moved : times e (s.listed list) ≡ times d (s.listed list) = ap (λ x. times x (s.listed list)) same in
      omega arith)) follows

  -- it is the first of the free list now
  follows_free : Leads new capacity (head_first (new (head_word 0))) (d ∷ s.listed 0)
  follows_free =
      let small = shape.small in
      let head : new (head_word 0) ≡ d + 1 + 16777216 * pushed.pops = pushed.head.at in
      let link : new (link_word d) ≡ head_first (image (head_word 0)) =
      pushed.head.others (link_word d) (λ q. omega arith) ∙ pushed.link.at ∙ ap head_first (set.others (head_word 0) (λ q. omega arith)) in
      let rest = links_same 0 (head_first (image (head_word 0))) (omega arith) (shape.follows 0 (omega arith)) in
      (omega (arith, largest_capacity_fits), within, subst (λ from. Leads new capacity from (s.listed 0)) (sym link) rest)

  follows_other : (list : ℕ) → list < lists → list ≢ 0 → Leads new capacity (head_first (new (head_word list))) (s.listed list)
  follows_other list less other =
      let head = same_word (head_word list) (λ q. omega arith) (λ q. omega arith) (λ q. other (omega arith)) in
      let leads = links_same list (head_first (image (head_word list))) less (shape.follows list less) in
      subst (λ h. Leads new capacity (head_first h) (s.listed list)) (sym head) leads

  -- it stands there, and in no other list
  listed_free : (e : ℕ) → times e (d ∷ s.listed 0) ≡ stands_in (with_at s.place d (in_list 0) e) 0
  listed_free e = elim (cases_eq e d) as (λ _. times e (d ∷ s.listed 0) ≡ stands_in (with_at s.place d (in_list 0) e) 0) [
    | inl same ↦ subst (λ x. times x (d ∷ s.listed 0) ≡ stands_in (with_at s.place d (in_list 0) x) 0) (sym same) (
        let here : one_if (nat_eq d d) ≡ 1 = one_if_true (nat_eq d d) (eq-eqb d d refl) in
        let rest = not_listed 0 (omega arith) in
        let there : stands_in (with_at s.place d (in_list 0) d) 0 ≡ 1 = ap (λ p. stands_in p 0) (with_at_same s.place d (in_list 0)) in
        omega arith)
    | inr other ↦
        let here : one_if (nat_eq d e) ≡ 0 = one_if_false (nat_eq d e) (λ test. other (sym (eqb-true d e test))) in
        let rest = shape.listed 0 e (omega arith) in
        let there : stands_in (with_at s.place d (in_list 0) e) 0 ≡ stands_in (s.place e) 0 =
        ap (λ p. stands_in p 0) (with_at_other s.place d (in_list 0) e other) in
        omega arith
  ]

  listed_other : (list e : ℕ) → list < lists → list ≢ 0 → times e (s.listed list) ≡ stands_in (with_at s.place d (in_list 0) e) list
  listed_other list e less more = elim (cases_eq e d) as (λ _. times e (s.listed list) ≡ stands_in (with_at s.place d (in_list 0) e) list) [
    | inl same ↦ subst (λ x. times x (s.listed list) ≡ stands_in (with_at s.place d (in_list 0) x) list) (sym same) (
        let rest = not_listed list less in
        let there : stands_in (with_at s.place d (in_list 0) d) list ≡ one_if (nat_eq 0 list) =
        ap (λ p. stands_in p list) (with_at_same s.place d (in_list 0)) in
        let is : one_if (nat_eq 0 list) ≡ 0 = one_if_false (nat_eq 0 list) (λ test. more (sym (eqb-true 0 list test))) in
        omega arith)
    | inr other ↦ shape.listed list e less ∙ ap (λ p. stands_in p list) (sym (with_at_other s.place d (in_list 0) e other))
  ]

  -- the others stay as they are
  same_other : (e : ℕ) → e ≢ d → SameThere capacity e image new s (after_split s d) held held
  same_other e other = record {
    info = kept.info e;
    anchor = same_word (anchor_word e) (λ q. other (omega arith)) (λ q. omega arith) (λ q. omega arith);
    inside = λ word inside. kept.inside e word inside;
    chain = refl;
    cached = λ class word is inside. refl;
    holds = λ word inside at. at;
    held_before = λ word inside at. at;
    none = λ none. none;
  }

  place_other : (e : ℕ) → e < capacity → e ≢ d → IsAs capacity new (after_split s d) held e (s.place e)
  place_other e below other =
      let same = kept.used in
      frame capacity e image new s (after_split s d) held held (s.place e) (same_other e other) (omega arith)
      (λ is. let fresh = subst (λ p. IsAs capacity image s held e p) is (shape.places e below) in let past = fresh.past in
      (omega arith, kept.link e other))
      (shape.places e below)

  -- a cached block is in none that was in a large block
  cached_other : (class word : ℕ) → IsClass class → Contains (s.cached class) word → IsCachedIn capacity new (after_split s d) class word
  cached_other class word is p =
      let cached = shape.cached class word is p in
      let other : cached.superblock ≢ d = λ same.
      let there : s.place cached.superblock ≡ in_large = ap s.place same ∙ place in
      elim cached.place as (λ _. ⊥) [ inl listed ↦ list_not_large class (sym listed ∙ there) | inr full ↦ full_not_large (sym full.0 ∙ there) ] in
      record {
        superblock = cached.superblock;
        within = cached.within;
        is_first = cached.is_first;
        place = elim cached.place [
          | inl listed ↦ inl (with_at_other s.place d (in_list 0) cached.superblock other ∙ listed)
          | inr full ↦ inr (with_at_other s.place d (in_list 0) cached.superblock other ∙ full.0, kept.info cached.superblock ∙ full.1)
        ];
      }

  -- list by list, and superblock by superblock
  follows_now : (list : ℕ) → list < lists → Leads new capacity (head_first (new (head_word list))) ((after_split s d).listed list)
  follows_now list less = elim (cases_eq list 0) as (λ _. Leads new capacity (head_first (new (head_word list))) ((after_split s d).listed list)) [
    | inl is_free ↦ subst (λ x. Leads new capacity (head_first (new (head_word x))) ((after_split s d).listed x)) (sym is_free) follows_free
    | inr other ↦
        subst (λ ds. Leads new capacity (head_first (new (head_word list))) ds) (sym (with_at_other s.listed 0 (d ∷ s.listed 0) list other))
        (follows_other list less other)
  ]

  listed_now : (list e : ℕ) → list < lists → times e ((after_split s d).listed list) ≡ stands_in ((after_split s d).place e) list
  listed_now list e less = elim (cases_eq list 0) as (λ _. times e ((after_split s d).listed list) ≡ stands_in ((after_split s d).place e) list) [
    | inl is_free ↦ subst (λ x. times e ((after_split s d).listed x) ≡ stands_in ((after_split s d).place e) x) (sym is_free) (listed_free e)
    | inr other ↦ ap (times e) (with_at_other s.listed 0 (d ∷ s.listed 0) list other) ∙ listed_other list e less other
  ]

  -- it is free
  free_now : HasNoHeld capacity held d → IsFree capacity new held d
  free_now none =
      let taken = large.taken in
      let same = kept.used in
      let anchor = pushed.head.others (anchor_word d) (λ q. omega arith) ∙ pushed.link.others (anchor_word d) (λ q. omega arith) ∙ set.at in
      record { taken = omega arith; state = ap anchor_state anchor; none = none }

  place_now : HasNoHeld capacity held d → (e : ℕ) → e < capacity → IsAs capacity new (after_split s d) held e ((after_split s d).place e)
  place_now none e below = elim (cases_eq e d) as (λ _. IsAs capacity new (after_split s d) held e ((after_split s d).place e)) [
    | inl same ↦
        let here = subst (λ p. IsAs capacity new (after_split s d) held d p) (sym (with_at_same s.place d (in_list 0))) (free_now none) in
        subst (λ x. IsAs capacity new (after_split s d) held x ((after_split s d).place x)) (sym same) here
    | inr other ↦
        subst (λ p. IsAs capacity new (after_split s d) held e p) (sym (with_at_other s.place d (in_list 0) e other)) (place_other e below other)
  ]

  -- all together
  split_kept : HasNoHeld capacity held d → IsShape capacity new held (after_split s d)
  split_kept none = record {
    small = shape.small;
    used = let used = shape.used in let same = kept.used in omega arith;
    named = λ b holds. same_there (layout_at capacity image) (layout_at capacity new) b refl kept.used (λ e part. kept.info e) (shape.named b holds);
    follows = follows_now;
    listed = listed_now;
    places = place_now none;
    cached = cached_other;
    walks = λ class is. walks_same image new (s.start class) (s.cached class) (λ w p.
        let cached = shape.cached class w is p in
        kept.inside cached.superblock w (first_inside capacity class cached.superblock w is cached.is_first)) (shape.walks class is);
  }

-- one of them goes to the free list
pub split_one : (capacity d : ℕ) (image middle new : Image) (held : List Block) (s : Shape) → IsShape capacity image held s → d < capacity
    → s.place d ≡ in_large → HasNoHeld capacity held d
    → IsSet image middle (anchor_word d) 0 → IsPushedOn middle new 0 d → IsShape capacity new held (after_split s d)
split_one capacity d image middle new held s shape within place none set pushed =
    split_kept capacity d image middle new held s shape within place set pushed none
