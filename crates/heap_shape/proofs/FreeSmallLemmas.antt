-- A freed small block comes to the front of its cache, and every superblock stays as it is.
use Rattle.std.proofs.Common.{◌≡◌, ◌≢◌, ℕ, ◌+◌, ◌<◌, ◌≤◌, ◌⊎◌, inl, inr, List, ◌∷◌, Contains, refl, ap, sym, subst, ◌∙◌, arith}
use Rattle.std.proofs.lemmas.Bool.{cases_eq}
use Rattle.heap_model.specs.declared.block.Block.{Block}
use Rattle.heap_model.specs.Geometry.{head_word, info_word, anchor_word, link_word, used_word, start_word}
use Rattle.heap_model.specs.Image.{Image}
use Rattle.heap_model.specs.Sizes.{IsClass}
use Rattle.heap_model.specs.Words.{head_first}
use Rattle.heap_model.specs.Blocks.{IsBlock}
use Rattle.heap_model.specs.Recovered.{HasPartIn, IsBlockOfClass}
use Rattle.heap_model.specs.Chains.{Follows, Walks}
use Rattle.heap_model.specs.Counting.{times}
use Rattle.heap_model.proofs.BlockLemmas.{block_words, same_first}
use Rattle.heap_model.proofs.MemberLemmas.{head_or_rest}
use Rattle.heap_model.proofs.PartLemmas.{cases_of_part}
use Rattle.heap_at_rest.proofs.PartLemmas.{part_taken}
use Rattle.heap_at_rest.proofs.ListLemmas.{follows_same, times_of, walks_same, follows_below}
use Rattle.heap_at_rest.proofs.LayoutLemmas.{same_there}
use Rattle.heap_shape.specs.Shape.{Place, in_list, is_full, is_new, Shape, with_at}
use Rattle.heap_shape.specs.Standing.{first_of, IsFirstOf, HoldsAt, HasOneOwner, a_free, times_free, IsAs}
use Rattle.heap_at_rest.specs.Draining.{layout_at}
use Rattle.heap_shape.specs.Whole.{IsCachedIn, IsShape}
use Rattle.heap_shape.specs.Effects.{IsSet, IsInSuperblock}
use Rattle.heap_shape.specs.Moves.{with_cache, TakesFrom}
use Rattle.heap_shape.proofs.BasicLemmas.{with_at_same, inside_one, times_here, times_past}
use Rattle.heap_shape.proofs.FrameLemmas.{SameThere, frame, owner_same}
use Rattle.heap_shape.proofs.CacheLemmas.{cut_place, cached_apart, held_not_free, cut_class, at_or_other, replaced, reowned, at_or_other_two}

-- a held block of a class is freed into the cache
module _ (capacity class d : ℕ) (image new : Image) (held now : List Block) (s : Shape) (b : Block) (is : IsClass class)
    (shape : IsShape capacity image held s) (holds : Contains held b) (within : d < capacity)
    (info : image (info_word d) ≡ class) (inside : IsInSuperblock capacity d b.first_word) (takes : TakesFrom b held now)
    (set : IsSet image new b.first_word (s.start class)) where
  abbrev freed : Shape
  freed = with_cache s class b.first_word (b.first_word ∷ s.cached class)

  named_here : IsBlock (layout_at capacity image) b
  named_here = shape.named b holds

  part_here : HasPartIn capacity b d
  part_here =
      let from = inside.from in
      let until = inside.until in
      let two = block_words (layout_at capacity image) b named_here in
      record { begins = omega arith; ends = omega arith }

  taken_here : d < image used_word
  taken_here = part_taken (layout_at capacity image) b d named_here part_here

  first_here : IsFirstOf capacity class d b.first_word
  first_here = elim (cases_of_part (layout_at capacity image) b d named_here part_here) [
    | inl one ↦
        let same : one.class ≡ class = sym one.info_is ∙ info in
        let of : IsBlockOfClass capacity class d one.index b = subst (λ c. IsBlockOfClass capacity c d one.index b) same one.is_of in
        record { index = one.index; below = of.below; at = of.at }
    | inr all ↦ absurd (all.no_class (subst IsClass (sym info) is))
  ]

  place_here : (s.place d ≡ in_list class) ⊎ ((s.place d ≡ is_full) × (image (info_word d) ≡ class))
  place_here = cut_place capacity image s held class d (s.place d) is info taken_here (λ none. none b holds part_here) (shape.places d within)

  -- only words of a superblock change
  low_word : (word : ℕ) → word < start_word capacity 0 → new word ≡ image word
  low_word word low = let from = inside.from in set.others word (omega arith)

  other_word : (word : ℕ) → word ≢ b.first_word → new word ≡ image word
  other_word word other = set.others word other

  holds_here : HoldsAt held b.first_word
  holds_here = record { block = b; holds = holds; at = refl }

  -- the freed block was in no cache and in no chain
  not_cached : (c word : ℕ) → IsClass c → Contains (s.cached c) word → word ≢ b.first_word
  not_cached c word is_c p same =
      let two = block_words (layout_at capacity image) b named_here in
      cached_apart capacity image held s c word b shape is_c p holds (record { from = omega arith; until = omega arith })

  free_here : times_free s class d b.first_word ≡ 0
  free_here = held_not_free s held class d b.first_word holds_here
      (subst (λ x. HasOneOwner s held class d x) (sym first_here.at)
      ((cut_class capacity image s held class d (s.place d) is place_here (shape.places d within)).owned first_here.index first_here.below))

  not_chained : (word : ℕ) → Contains (s.chain d) word → word ≢ b.first_word
  not_chained word p same =
      let some = times_of b.first_word (s.chain d) (subst (λ x. Contains (s.chain d) x) same p) in
      let none = free_here in
      omega arith

  held_still : (word : ℕ) → word ≢ b.first_word → HoldsAt held word → HoldsAt now word
  held_still word other h = record {
    block = h.block;
    holds = takes.keeps h.block h.holds
        (λ same. other (sym h.at ∙ ap (λ (x : Block). x.first_word) same));
    at = h.at;
  }

  held_once : (word : ℕ) → HoldsAt now word → HoldsAt held word
  held_once word h = record { block = h.block; holds = takes.only h.block h.holds; at = h.at }

  held_no_more : HoldsAt now b.first_word → ⊥
  held_no_more h =
      let same : h.block ≡ b = same_first (layout_at capacity image) h.block b (shape.named h.block (takes.only h.block h.holds)) named_here h.at in
      takes.gone (subst (λ x. Contains now x) same h.holds)

  there : (e : ℕ) → e < capacity → e ≢ d → SameThere capacity e image new s freed held now
  there e below apart = record {
    info = low_word (info_word e) (omega arith);
    anchor = low_word (anchor_word e) (omega arith);
    inside = λ word in_e. other_word word (not_here word in_e);
    chain = refl;
    cached = λ c word _ in_e. at_or_other (λ k xs. times word xs ≡ times word (s.cached k)) s.cached class (b.first_word ∷ s.cached class) c
        (times_past b.first_word word (s.cached class) (λ same. not_here word in_e (sym same))) (λ _. refl);
    holds = λ word in_e. held_still word (not_here word in_e);
    held_before = λ word in_e. held_once word;
    none = λ none a p. none a (takes.only a p);
  } where
    not_here : (word : ℕ) → IsInSuperblock capacity e word → word ≢ b.first_word
    not_here word in_e same = apart (inside_one capacity e d b.first_word (subst (λ x. IsInSuperblock capacity e x) same in_e) inside)

  owner_now : (word : ℕ) → HasOneOwner s held class d word → HasOneOwner freed now class d word
  owner_now word owner =
      let after : times word (with_at s.cached class (b.first_word ∷ s.cached class) class) ≡ times word (b.first_word ∷ s.cached class) =
      ap (times word) (with_at_same s.cached class (b.first_word ∷ s.cached class)) in
      elim (cases_eq word b.first_word) [
        | inl same ↦ subst (λ x. HasOneOwner freed now class d x) (sym same) freed_owner
        | inr other ↦
            let past = times_past b.first_word word (s.cached class) (λ same. other (sym same)) in
            owner_same s freed held now class d word (omega arith) (held_still word other) (held_once word) owner
      ]
    where
      freed_owner : HasOneOwner freed now class d b.first_word
      freed_owner =
          let none = free_here in
          let after : times b.first_word (with_at s.cached class (b.first_word ∷ s.cached class) class) ≡ 1 + times b.first_word (s.cached class) =
          ap (times b.first_word) (with_at_same s.cached class (b.first_word ∷ s.cached class)) ∙ times_here b.first_word (s.cached class) in
          a_free (omega arith) held_no_more

  place_now : (e : ℕ) → e < capacity → IsAs capacity new freed now e (s.place e)
  place_now e below = elim (cases_eq e d) as (λ _. IsAs capacity new freed now e (s.place e)) [
    | inl same ↦ subst (λ x. IsAs capacity new freed now x (s.place x)) (sym same)
        (replaced capacity image new s freed held now class d (s.place d) place_here is same_info same_anchor refl
        (reowned capacity image new s freed held now class d same_used same_info same_anchor refl (λ w p. other_word w (not_chained w p))
        (λ index in_count. owner_now (first_of capacity class d index)
        ((cut_class capacity image s held class d (s.place d) is place_here (shape.places d within)).owned index in_count))
        (cut_class capacity image s held class d (s.place d) is place_here (shape.places d within)))
        (shape.places d within))
    | inr other ↦ frame capacity e image new s freed held now (s.place e) (there e below other) same_used
        (λ fresh. (past (s.place e) fresh (shape.places e below), low_word (link_word e) (omega arith))) (shape.places e below)
  ] where
    same_info : new (info_word d) ≡ image (info_word d)
    same_info = low_word (info_word d) (omega arith)

    same_anchor : new (anchor_word d) ≡ image (anchor_word d)
    same_anchor = low_word (anchor_word d) (omega arith)

    same_used : image used_word ≤ new used_word
    same_used = let same = low_word used_word (omega arith) in omega arith

    past : (p : Place) → p ≡ is_new → IsAs capacity image s held e p → new used_word ≤ e
    past p fresh as_place =
        let behind = (subst (λ x. IsAs capacity image s held e x) fresh as_place).past in
        let same = low_word used_word (omega arith) in
        omega arith

  freed_shape : IsShape capacity new now freed
  freed_shape = record {
    small = shape.small;
    used = let same = low_word used_word (omega arith) in let used = shape.used in omega arith;
    named = λ a now_held. let p = takes.only a now_held in same_there (layout_at capacity image) (layout_at capacity new) a refl
        (low_word used_word (omega arith)) (λ e part.
        let taken = part_taken (layout_at capacity image) a e (shape.named a p) part in
        let used = shape.used in
        low_word (info_word e) (omega arith)) (shape.named a p);
    follows = λ list below. subst (λ from. Follows (λ e. new (link_word e)) capacity from (s.listed list))
        (ap head_first (sym (low_word (head_word list) (omega arith))))
        (follows_same (λ e. image (link_word e)) (λ e. new (link_word e)) capacity (head_first (image (head_word list))) (s.listed list)
        (λ e p. let e_within = follows_below (λ k. image (link_word k)) capacity (head_first (image (head_word list))) (s.listed list) e
        (shape.follows list below) p in low_word (link_word e) (omega arith))
        (shape.follows list below));
    listed = shape.listed;
    places = place_now;
    cached = λ c word is_c p. at_or_other (λ k xs. IsClass k → Contains xs word → IsCachedIn capacity new freed k word) s.cached class
        (b.first_word ∷ s.cached class) c
        (λ _ q. elim (head_or_rest b.first_word word (s.cached class) q) [
          | inl same ↦ record {
            superblock = d;
            within = within;
            is_first = subst (λ x. IsFirstOf capacity class d x) same first_here;
            place = elim place_here [ inl in_class ↦ inl in_class | inr full ↦ inr (full.0, low_word (info_word d) (omega arith) ∙ full.1) ];
          }
          | inr before ↦ cached_still class word is before
        ]) (λ _ is_k q. cached_still c word is_k q) is_c p;
    walks = λ c is_c. at_or_other_two (λ k first words. IsClass k → Walks new first words) s.start s.cached class b.first_word
        (b.first_word ∷ s.cached class) c
        (λ _. (refl, subst (λ x. Walks new x (s.cached class)) (sym set.at) (walk_still class is))) (λ _. walk_still c) is_c;
  } where
    cached_still : (c word : ℕ) → IsClass c → Contains (s.cached c) word → IsCachedIn capacity new freed c word
    cached_still c word is_c p =
        let found = shape.cached c word is_c p in
        let below = found.within in
        record {
          superblock = found.superblock;
          within = found.within;
          is_first = found.is_first;
          place = elim found.place [
            | inl in_class ↦ inl in_class
            | inr full ↦ inr (
              full.0,
              low_word (info_word found.superblock) (omega arith)
                  ∙ full.1,
            )
          ];
        }

    walk_still : (c : ℕ) → IsClass c → Walks new (s.start c) (s.cached c)
    walk_still c is_c = walks_same image new (s.start c) (s.cached c) (λ w p. other_word w (not_cached c w is_c p)) (shape.walks c is_c)

-- a held block of a class goes in front of the cache
pub free_small : (capacity class d : ℕ) (image new : Image) (held now : List Block) (s : Shape) (b : Block)
    → IsClass class → IsShape capacity image held s → Contains held b → d < capacity → image (info_word d) ≡ class
    → IsInSuperblock capacity d b.first_word → TakesFrom b held now → IsSet image new b.first_word (s.start class)
    → IsShape capacity new now (with_cache s class b.first_word (b.first_word ∷ s.cached class))
free_small = freed_shape
