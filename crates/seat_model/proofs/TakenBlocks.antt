-- A block that a call takes comes to the held ones, and all others stay.
use Rattle.std.proofs.Common.{◌≡◌, ◌<◌, ◌≤◌, ◌⊎◌, ℕ, suc, ◌+◌, ◌*◌, inl, inr, nat_le, nat_lt, ◌&&◌, List, [], ◌∷◌, ◌++◌, get_or, set, length, refl, ap, sym, subst, ◌∙◌, le-leb, lt-ltb, arith}
use Rattle.std.specs.Prelude.{Contains}
use Rattle.std.proofs.lemmas.Bool.{cases_eq}
use Rattle.std.proofs.lemmas.List.{get_or-set_same, get_or-set_other}
use Rattle.std.proofs.lemmas.List.Elements.{Contains-append_cases, Contains-append_left, Contains-append_right}
use Rattle.heap_model.specs.declared.block.Block.{Block}
use Rattle.heap_model.specs.Blocks.{IsIn}
use Rattle.heap_model.specs.Counting.{times, one_if}
use Rattle.heap_model.specs.Geometry.{start_word, superblock_words, superblock_of}
use Rattle.heap_model.specs.Sizes.{words_of_class}
use Rattle.heap_model.proofs.CountingLemmas.{one_if_true}
use Rattle.heap_model.proofs.PartLemmas.{same_fields}
use Rattle.heap_model.proofs.SizeLemmas.{two_words}
use Rattle.core_model.specs.Cells.{Cell, used_cell, head_cell, info_cell, anchor_cell, link_cell, root_cell, data_cell, no_cell, cell_at}
use Rattle.core_model.specs.Held.{IsHeld, a_small}
use Rattle.core_model.specs.View.{Setup, Span, View, of_class, takes, times_in_classes, times_large, times_within}
use Rattle.core_model.proofs.PlaceLemmas.{and_is}
use Rattle.core_model.proofs.ClassListLemmas.{in_classes_set}
use Rattle.core_model.proofs.TotalLemmas.{eq-eqb-one, ne-eqb-none}
use Rattle.heap_table.specs.Plays.{HasSoundState}
use Rattle.seat_costs.specs.Words.{IsHeldWord, times_held}
use Rattle.seat_costs.proofs.OnceLemmas.{own_once}
use Rattle.seat_costs.proofs.WordLemmas.{held_own}
use Rattle.seat_model.specs.CacheState.{held_blocks, large_blocks, small_blocks}
use Rattle.seat_model.specs.Changes.{HoldsBlock, HoldsSpan}
use Rattle.seat_model.proofs.HeldLemmas.{block_word, held_is}
use Rattle.seat_model.proofs.ViewBlocks.{contains_cons, small_there}
use Rattle.seat_model.proofs.ListedBlocks.{listed, small_in}

-- a block by its fields
pub as_block : (a : Block) (words : ℕ) → a.words ≡ words → record { first_word = a.first_word; words = words } ≡ a
as_block a words is = same_fields (record { first_word = a.first_word; words = words }) a refl (sym is)

-- small blocks, where those of one class change
module _ (all : List (List ℕ)) (class : ℕ) (bs : List ℕ) (below : class < length all) where
  pub in_set : (a : Block) → Contains (small_blocks 0 (set all class bs)) a
      → ((0 < times a.first_word bs) × (a.words ≡ words_of_class class)) ⊎ Contains (small_blocks 0 all) a
  in_set a c = let h = small_there 0 (set all class bs) a c in elim (cases_eq h.n class) as
      (λ _. ((0 < times a.first_word bs) × (a.words ≡ words_of_class class)) ⊎ Contains (small_blocks 0 all) a) [
        | inl same ↦ inl (
          subst (λ l. 0 < times a.first_word l) (ap (λ n. get_or (set all class bs) n []) same ∙ get_or-set_same all class bs [] below) h.there,
          h.words ∙ ap words_of_class (let e : 0 + h.n ≡ class = omega (arith, same) in e),
        )
        | inr other ↦ inr (subst (Contains (small_blocks 0 all)) (as_block a (words_of_class (0 + h.n)) h.words)
            (small_in 0 all h.n a.first_word (subst (λ l. 0 < times a.first_word l) (get_or-set_other all class h.n bs [] other) h.there)))
      ]

  pub to_set : (a : Block) → (a.words ≡ words_of_class class → 0 < times a.first_word (get_or all class []) → 0 < times a.first_word bs)
      → Contains (small_blocks 0 all) a → Contains (small_blocks 0 (set all class bs)) a
  to_set a still c = let h = small_there 0 all a c in subst (Contains (small_blocks 0 (set all class bs)))
      (as_block a (words_of_class (0 + h.n)) h.words)
      (small_in 0 (set all class bs) h.n a.first_word (elim (cases_eq h.n class) as (λ _. 0 < times a.first_word (get_or (set all class bs) h.n [])) [
        | inl same ↦ subst (λ l. 0 < times a.first_word l) (sym (ap (λ n. get_or (set all class bs) n []) same ∙ get_or-set_same all class bs [] below))
            (still (h.words ∙ ap words_of_class (let e : 0 + h.n ≡ class = omega (arith, same) in e))
            (subst (λ n. 0 < times a.first_word (get_or all n [])) same h.there))
        | inr other ↦ subst (λ l. 0 < times a.first_word l) (sym (get_or-set_other all class h.n bs [] other)) h.there
      ]))

-- the held blocks, by the lists that they stand in
abbrev pub held_in : List (List ℕ) → ℕ → List Span → List Block
held_in small capacity large = small_blocks 0 small ++ large_blocks capacity large

pub held_same : (w : View) (k : Setup) (small : List (List ℕ)) (large : List Span) → w.setup ≡ k → w.small ≡ small → w.large ≡ large
    → held_blocks w ≡ held_in small k.capacity large
held_same w k small large setup smalls larges = ap (λ (x : Setup). held_in w.small x.capacity w.large) setup
    ∙ ap (λ l. held_in l k.capacity w.large) smalls ∙ ap (λ l. held_in small k.capacity l) larges

-- what has no member more
pub both_sides : {X : Type 0} (xs ys xs' ys' : List X) (a : X) → (Contains xs a → Contains xs' a) → (Contains ys a → Contains ys' a)
    → Contains (xs ++ ys) a → Contains (xs' ++ ys') a
both_sides xs ys xs' ys' a left right c = elim (Contains-append_cases xs ys a c) [
  | inl here ↦ Contains-append_left xs' ys' a (left here)
  | inr more ↦ Contains-append_right xs' ys' a (right more)
]

-- the words of a held block are held, and no word is so twice
pub word_once : (v : View) → HasSoundState v → (word : ℕ) → times_held v (data_cell word) ≤ 1
word_once v s word = let most = held_own v (data_cell word) in let once = own_once v s word in omega arith

first_in : (b : Block) → 1 ≤ b.words → IsIn b b.first_word
first_in b some = record { from = omega arith; until = omega arith }

pub held_once : (v : View) → HasSoundState v → (b : Block) → 1 ≤ b.words → Contains (held_blocks v) b → 0 < times_held v (data_cell b.first_word)
held_once v s b some c = block_word v s b (held_is v s b c) b.first_word (first_in b some)

-- the numbers of the words of held blocks rise with the lists
module _ (v w : View) (setup : w.setup ≡ v.setup) where
  capacity_is : w.setup.capacity ≡ v.setup.capacity
  capacity_is = ap (λ (k : Setup). k.capacity) setup

  more_held : w.roots ≡ v.roots → ((word : ℕ) → times_held v (data_cell word) ≤ times_held w (data_cell word)) → (cell : Cell)
      → times_held v cell ≤ times_held w cell
  more_held roots more used_cell = omega arith
  more_held roots more (head_cell list) = omega arith
  more_held roots more (info_cell d) = omega arith
  more_held roots more (anchor_cell d) = omega arith
  more_held roots more (link_cell d) = omega arith
  more_held roots more (root_cell i) = let same = ap (times i) roots in omega arith
  more_held roots more (data_cell word) = more word
  more_held roots more no_cell = omega arith

  word_stays : w.roots ≡ v.roots → ((word : ℕ) → times_held v (data_cell word) ≤ times_held w (data_cell word)) → (word : ℕ) → IsHeldWord v word
      → IsHeldWord w word
  word_stays roots more word held = let same = ap (λ n. times_held w (cell_at n word)) capacity_is in
      let most = more_held roots more (cell_at v.setup.capacity word) in omega arith

-- the words of small blocks, where one list changes
pub set_words : (word class : ℕ) (all : List (List ℕ)) (bs : List ℕ) → class < length all
    → times_in_classes word 0 (set all class bs) + times_within (words_of_class class) word
    (of_class all class) ≡ times_in_classes word 0 all + times_within (words_of_class class) word bs
set_words word class all bs below = subst (λ c. times_in_classes word 0 (set all class bs) + times_within (words_of_class c) word
    (of_class all class) ≡ times_in_classes word 0 all + times_within (words_of_class c) word bs)
    (let e : 0 + class ≡ class = omega arith in e) (in_classes_set word 0 class all bs below)

-- a block of a class comes
module _ (class : ℕ) (b : Block) (v w : View) (below : class < length v.small) (holds : HoldsBlock class b v w) where
  small_words : (word : ℕ) → times_in_classes word 0 w.small ≡ times_in_classes word 0 v.small + one_if
      (nat_le b.first_word word && nat_lt word (b.first_word + words_of_class class))
  small_words word = let now = set_words word class v.small (b.first_word ∷ of_class v.small class) below in
      let is = ap (times_in_classes word 0) holds.small in omega arith

  held_more : (word : ℕ) → times_held w (data_cell word) ≡ times_held v (data_cell word) + one_if
      (nat_le b.first_word word && nat_lt word (b.first_word + words_of_class class))
  held_more word = let s = small_words word in let l = ap (λ x. times_large (superblock_of w.setup.capacity word) x) holds.large in
      let c = ap (λ (k : Setup). times_large (superblock_of k.capacity word) v.large) holds.setup in omega arith

  pub small_words_stay : (word : ℕ) → IsHeldWord v word → IsHeldWord w word
  small_words_stay = word_stays v w holds.setup holds.roots (λ word. let m = held_more word in omega arith)

  some_words : 1 ≤ b.words
  some_words = let two = two_words class holds.is_class in let is = holds.words in omega arith

  pub small_new : HasSoundState v → HasSoundState w → Contains (held_blocks v) b → ⊥
  small_new s t c =
      let had = held_once v s b some_words c in
      let more = held_more b.first_word in
      let one = one_if_true (nat_le b.first_word b.first_word && nat_lt b.first_word (b.first_word + words_of_class class))
      (let two = two_words class holds.is_class in and_is (nat_le b.first_word b.first_word)
      (nat_lt b.first_word (b.first_word + words_of_class class)) (le-leb b.first_word b.first_word (omega arith))
      (lt-ltb b.first_word (b.first_word + words_of_class class) (omega arith))) in
      let once = word_once w t b.first_word in omega arith

  now : held_blocks w ≡ held_in (set v.small class (b.first_word ∷ of_class v.small class)) v.setup.capacity v.large
  now = held_same w v.setup (set v.small class (b.first_word ∷ of_class v.small class)) v.large holds.setup holds.small holds.large

  pub small_has : Contains (held_blocks w) b
  small_has = listed w b (subst (IsHeld w) (as_block b (words_of_class class) holds.words) (a_small class b.first_word
      (subst (λ l. 0 < times b.first_word l) (sym (ap (λ l. of_class l class) holds.small
      ∙ get_or-set_same v.small class (b.first_word ∷ of_class v.small class) [] below))
      (let one = eq-eqb-one b.first_word b.first_word refl in omega arith))))

  pub small_keeps : (a : Block) → Contains (held_blocks v) a → Contains (held_blocks w) a
  small_keeps a c = subst (λ l. Contains l a) (sym now) (both_sides (small_blocks 0 v.small) (large_blocks v.setup.capacity v.large)
      (small_blocks 0 (set v.small class (b.first_word ∷ of_class v.small class))) (large_blocks v.setup.capacity v.large) a
      (to_set v.small class (b.first_word ∷ of_class v.small class) below a (λ words there. omega arith)) (λ x. x) c)

  pub small_only : (a : Block) → Contains (held_blocks w) a → (a ≡ b) ⊎ Contains (held_blocks v) a
  small_only a c = elim (Contains-append_cases (small_blocks 0 (set v.small class (b.first_word ∷ of_class v.small class)))
      (large_blocks v.setup.capacity v.large) a (subst (λ l. Contains l a) now c)) [
        | inl small ↦ elim (in_set v.small class (b.first_word ∷ of_class v.small class) below a small) [
          | inl new ↦ elim (cases_eq b.first_word a.first_word) [
            | inl same ↦ inl (same_fields a b (sym same) (new.1 ∙ sym holds.words))
            | inr other ↦ inr (Contains-append_left (small_blocks 0 v.small) (large_blocks v.setup.capacity v.large) a
                (subst (Contains (small_blocks 0 v.small)) (as_block a (words_of_class (0 + class)) (new.1
                ∙ ap words_of_class (let e : class ≡ 0 + class = omega arith in e)))
                (small_in 0 v.small class a.first_word (let t = new.0 in let none = ne-eqb-none b.first_word a.first_word other in omega arith))))
          ]
          | inr old ↦ inr (Contains-append_left (small_blocks 0 v.small) (large_blocks v.setup.capacity v.large) a old)
        ]
        | inr large ↦ inr (Contains-append_right (small_blocks 0 v.small) (large_blocks v.setup.capacity v.large) a large)
      ]

-- a large block comes
module _ (d n : ℕ) (b : Block) (v w : View) (holds : HoldsSpan d n b v w) where
  abbrev span : Span
  span = record { first = d; count = n }

  large_more : (word : ℕ) → times_held w (data_cell word) ≡ times_held v (data_cell word) + one_if (takes (superblock_of v.setup.capacity word) span)
  large_more word = let s = ap (times_in_classes word 0) holds.small in
      let l = ap (λ x. times_large (superblock_of w.setup.capacity word) x) holds.large in
      let c = ap (λ (k : Setup). times_large (superblock_of k.capacity word) (span ∷ v.large)) holds.setup in omega arith

  pub large_words_stay : (word : ℕ) → IsHeldWord v word → IsHeldWord w word
  large_words_stay = word_stays v w holds.setup holds.roots (λ word. let m = large_more word in omega arith)

  large_words : b.words ≡ superblock_words * n
  large_words = ap (λ (x : Block). x.words) holds.block

  large_first : b.first_word ≡ start_word v.setup.capacity d
  large_first = ap (λ (x : Block). x.first_word) holds.block

  pub large_new : HasSoundState v → HasSoundState w → Contains (held_blocks v) b → ⊥
  large_new s t c =
      let had = held_once v s b (let words = large_words in let some = holds.some in omega arith) c in
      let more = large_more b.first_word in
      let at : superblock_of v.setup.capacity b.first_word ≡ d = let f = large_first in omega arith in
      let one = one_if_true (takes (superblock_of v.setup.capacity b.first_word) span)
      (let some = holds.some in and_is (nat_le d (superblock_of v.setup.capacity b.first_word))
      (nat_lt (superblock_of v.setup.capacity b.first_word) (d + n)) (le-leb d (superblock_of v.setup.capacity b.first_word) (omega arith))
      (lt-ltb (superblock_of v.setup.capacity b.first_word) (d + n) (omega arith))) in
      let once = word_once w t b.first_word in omega arith

  now_large : held_blocks w ≡ held_in v.small v.setup.capacity (span ∷ v.large)
  now_large = held_same w v.setup v.small (span ∷ v.large) holds.setup holds.small holds.large

  in_front : large_blocks v.setup.capacity (span ∷ v.large) ≡ record {
    first_word = start_word v.setup.capacity d;
    words = superblock_words * n;
  } ∷ large_blocks v.setup.capacity v.large
  in_front = refl

  pub large_has : Contains (held_blocks w) b
  large_has = subst (λ l. Contains l b) (sym now_large) (Contains-append_right (small_blocks 0 v.small)
      (large_blocks v.setup.capacity (span ∷ v.large)) b (0, omega arith, sym holds.block))

  pub large_keeps : (a : Block) → Contains (held_blocks v) a → Contains (held_blocks w) a
  large_keeps a c = subst (λ l. Contains l a) (sym now_large) (both_sides (small_blocks 0 v.small) (large_blocks v.setup.capacity v.large)
      (small_blocks 0 v.small) (large_blocks v.setup.capacity (span ∷ v.large)) a
      (λ x. x) (λ x. (suc x.0, (let l = x.1 in omega arith), x.2)) c)

  pub large_only : (a : Block) → Contains (held_blocks w) a → (a ≡ b) ⊎ Contains (held_blocks v) a
  large_only a c = elim (Contains-append_cases (small_blocks 0 v.small) (large_blocks v.setup.capacity (span ∷ v.large)) a
      (subst (λ l. Contains l a) now_large c)) [
        | inl small ↦ inr (Contains-append_left (small_blocks 0 v.small) (large_blocks v.setup.capacity v.large) a small)
        | inr large ↦ elim (contains_cons (record { first_word = start_word v.setup.capacity d; words = superblock_words * n }) a
            (large_blocks v.setup.capacity v.large) large.0 large.1 large.2) [
              | inl same ↦ inl (sym same ∙ sym holds.block)
              | inr old ↦ inr (Contains-append_right (small_blocks 0 v.small) (large_blocks v.setup.capacity v.large) a old)
            ]
      ]
