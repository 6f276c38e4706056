-- A block that a call gives goes from the held ones, and all others stay.
use Rattle.std.proofs.Common.{◌≡◌, ◌≢◌, ◌<◌, ◌≤◌, ℕ, suc, ◌+◌, ◌*◌, inl, inr, cond, nat_le, nat_lt, ◌&&◌, List, [], ◌∷◌, set, length, ap, sym, subst, ◌∙◌, eq-eqb, ne_eqb, le-leb, lt-ltb, arith}
use Rattle.std.specs.Prelude.{Contains}
use Rattle.std.proofs.lemmas.Bool.{cases_eq}
use Rattle.heap_model.specs.declared.block.Block.{Block}
use Rattle.heap_model.specs.Counting.{times, without, one_if}
use Rattle.heap_model.specs.Geometry.{start_word, superblock_words, superblock_of}
use Rattle.heap_model.specs.Sizes.{words_of_class}
use Rattle.heap_model.proofs.CountingLemmas.{one_if_true}
use Rattle.heap_model.proofs.PartLemmas.{same_fields}
use Rattle.heap_model.proofs.SizeLemmas.{two_words}
use Rattle.core_model.specs.Cells.{data_cell}
use Rattle.core_model.specs.Effects.{span_count, without_span}
use Rattle.core_model.specs.View.{Setup, Span, View, of_class, times_in_classes, times_large}
use Rattle.core_model.proofs.FrameLemmas.{times_without}
use Rattle.core_model.proofs.PlaceLemmas.{and_is}
use Rattle.core_model.proofs.ClassListLemmas.{within_without}
use Rattle.core_model.proofs.RangeLemmas.{in_range, without_span_is}
use Rattle.core_model.proofs.TotalLemmas.{ne-eqb-none}
use Rattle.heap_table.specs.Plays.{HasSoundState}
use Rattle.seat_costs.specs.Words.{times_held}
use Rattle.seat_model.specs.CacheState.{held_blocks, large_blocks, small_blocks}
use Rattle.seat_model.specs.Changes.{GivesBlock, GivesSpan}
use Rattle.seat_model.proofs.ViewBlocks.{contains_cons}
use Rattle.seat_model.proofs.ListedBlocks.{small_in}
use Rattle.seat_model.proofs.TakenBlocks.{held_in, held_same, set_words, held_once, word_once, both_sides, as_block}
use Rattle.seat_model.proofs.TakenBlocks

-- a block of a class goes
module _ (class : ℕ) (b : Block) (v w : View) (below : class < length v.small) (gives : GivesBlock class b v w) where
  abbrev rest : List ℕ
  rest = without b.first_word (of_class v.small class)

  now_less : held_blocks w ≡ held_in (set v.small class rest) v.setup.capacity v.large
  now_less = held_same w v.setup (set v.small class rest) v.large gives.setup gives.small gives.large

  less_words : (word : ℕ) → times_held w (data_cell word) + one_if
      (nat_le b.first_word word && nat_lt word (b.first_word + words_of_class class)) ≡ times_held v (data_cell word)
  less_words word = let now = set_words word class v.small rest below in
      let out = within_without (words_of_class class) word b.first_word (of_class v.small class) gives.there in
      let is = ap (times_in_classes word 0) gives.small in
      let l = ap (λ x. times_large (superblock_of w.setup.capacity word) x) gives.large in
      let c = ap (λ (k : Setup). times_large (superblock_of k.capacity word) v.large) gives.setup in omega arith

  pub small_gone : HasSoundState v → HasSoundState w → Contains (held_blocks w) b → ⊥
  small_gone s t c =
      let two = two_words class gives.is_class in
      let had = held_once w t b (let is = gives.words in omega arith) c in
      let less = less_words b.first_word in
      let one = one_if_true (nat_le b.first_word b.first_word && nat_lt b.first_word (b.first_word + words_of_class class))
      (and_is (nat_le b.first_word b.first_word) (nat_lt b.first_word (b.first_word + words_of_class class))
      (le-leb b.first_word b.first_word (omega arith)) (lt-ltb b.first_word (b.first_word + words_of_class class) (omega arith))) in
      let once = word_once v s b.first_word in omega arith

  fewer : (y : ℕ) → times y rest ≤ times y (of_class v.small class)
  fewer y = let out = times_without y b.first_word (of_class v.small class) gives.there in omega arith

  pub small_was : (a : Block) → Contains (held_blocks w) a → Contains (held_blocks v) a
  small_was a c = both_sides (small_blocks 0 (set v.small class rest)) (large_blocks v.setup.capacity v.large) (small_blocks 0 v.small)
      (large_blocks v.setup.capacity v.large) a
      (λ small. elim (TakenBlocks.in_set v.small class rest below a small) as (λ _. Contains (small_blocks 0 v.small) a) [
        | inl here ↦ subst (Contains (small_blocks 0 v.small)) (as_block a (words_of_class (0 + class)) (here.1
            ∙ ap words_of_class (let e : class ≡ 0 + class = omega arith in e)))
            (small_in 0 v.small class a.first_word (let t = here.0 in let f = fewer a.first_word in omega arith))
        | inr old ↦ old
      ]) (λ x. x) (subst (λ l. Contains l a) now_less c)

  pub small_others : (a : Block) → Contains (held_blocks v) a → a ≢ b → Contains (held_blocks w) a
  small_others a c other = subst (λ l. Contains l a) (sym now_less)
      (both_sides (small_blocks 0 v.small) (large_blocks v.setup.capacity v.large) (small_blocks 0 (set v.small class rest))
      (large_blocks v.setup.capacity v.large) a
      (TakenBlocks.to_set v.small class rest below a (λ words there. elim (cases_eq b.first_word a.first_word) as (λ _. 0 < times a.first_word rest) [
        | inl same ↦ absurd (other (same_fields a b (sym same) (words ∙ sym gives.words)))
        | inr differs ↦ let out = times_without a.first_word b.first_word (of_class v.small class) gives.there in
            let none = ne-eqb-none b.first_word a.first_word differs in omega arith
      ])) (λ x. x) c)

-- a large block goes
less_large : (capacity d : ℕ) (spans : List Span) (a : Block) → Contains (large_blocks capacity (without_span d spans)) a
    → Contains (large_blocks capacity spans) a
less_large capacity d [] a c = c
less_large capacity d (span ∷ spans) a c = elim (cases_eq span.first d) as (λ _. Contains (large_blocks capacity (span ∷ spans)) a) [
  | inl same ↦ let c' : Contains (large_blocks capacity spans) a =
      subst (λ t. Contains (large_blocks capacity (cond t spans (span ∷ without_span d spans))) a) (eq-eqb span.first d same) c in
      (suc c'.0, (let l = c'.1 in omega arith), c'.2)
  | inr other ↦ let c' : Contains (large_blocks capacity (span ∷ without_span d spans)) a =
      subst (λ t. Contains (large_blocks capacity (cond t spans (span ∷ without_span d spans))) a) (ne_eqb span.first d other) c in
      elim (contains_cons (record { first_word = start_word capacity span.first; words = superblock_words * span.count }) a
      (large_blocks capacity (without_span d spans)) c'.0 c'.1 c'.2) [
        | inl same ↦ (0, omega arith, same)
        | inr more ↦ let r = less_large capacity d spans a more in (suc r.0, (let l = r.1 in omega arith), r.2)
      ]
]

other_large : (capacity d : ℕ) (spans : List Span) (a : Block) → Contains (large_blocks capacity spans) a
    → a ≢ record { first_word = start_word capacity d; words = superblock_words * span_count d spans }
    → Contains (large_blocks capacity (without_span d spans)) a
other_large capacity d [] a c other = c
other_large capacity d (span ∷ spans) a c other = elim (cases_eq span.first d) as
    (λ _. Contains (large_blocks capacity (without_span d (span ∷ spans))) a) [
      | inl same ↦ subst (λ t. Contains (large_blocks capacity (cond t spans (span ∷ without_span d spans))) a) (sym (eq-eqb span.first d same))
          (elim (contains_cons (record { first_word = start_word capacity span.first; words = superblock_words * span.count }) a
          (large_blocks capacity spans) c.0 c.1 c.2) [
            | inl here ↦ absurd (first same here)
            | inr more ↦ more
          ])
      | inr differs ↦ subst (λ t. Contains (large_blocks capacity (cond t spans (span ∷ without_span d spans))) a) (sym (ne_eqb span.first d differs))
          (elim (contains_cons (record { first_word = start_word capacity span.first; words = superblock_words * span.count }) a
          (large_blocks capacity spans) c.0 c.1 c.2) [
            | inl here ↦ (0, omega arith, here)
            | inr more ↦ let skip : span_count d (span ∷ spans) ≡ span_count d spans =
                ap (λ t. cond t span.count (span_count d spans)) (ne_eqb span.first d differs) in
                let r = other_large capacity d spans a more (λ is. other (is
                ∙ ap (λ m. record { first_word = start_word capacity d; words = superblock_words * m }) (sym skip))) in
                (suc r.0, (let l = r.1 in omega arith), r.2)
          ])
    ] where
      first : span.first ≡ d → record { first_word = start_word capacity span.first; words = superblock_words * span.count } ≡ a → ⊥
      first same here =
          let count : span_count d (span ∷ spans) ≡ span.count = ap (λ t. cond t span.count (span_count d spans)) (eq-eqb span.first d same) in
          other (sym here ∙ ap (λ e. record { first_word = start_word capacity e; words = superblock_words * span.count }) same
          ∙ ap (λ m. record { first_word = start_word capacity d; words = superblock_words * m }) (sym count))

module _ (d : ℕ) (b : Block) (v w : View) (gives : GivesSpan d b v w) where
  now_left : held_blocks w ≡ held_in v.small v.setup.capacity (without_span d v.large)
  now_left = held_same w v.setup v.small (without_span d v.large) gives.setup gives.small gives.large

  left_words : (word : ℕ) → times_held w (data_cell word) + in_range d (span_count d v.large)
      (superblock_of v.setup.capacity word) ≡ times_held v (data_cell word)
  left_words word = let s = ap (times_in_classes word 0) gives.small in
      let l = ap (λ x. times_large (superblock_of w.setup.capacity word) x) gives.large in
      let c = ap (λ (k : Setup). times_large (superblock_of k.capacity word) (without_span d v.large)) gives.setup in
      let is = without_span_is (superblock_of v.setup.capacity word) d v.large gives.there in omega arith

  pub large_gone : HasSoundState v → HasSoundState w → Contains (held_blocks w) b → ⊥
  large_gone s t c =
      let some = gives.there in
      let words : b.words ≡ superblock_words * span_count d v.large = ap (λ (x : Block). x.words) gives.block in
      let first : b.first_word ≡ start_word v.setup.capacity d = ap (λ (x : Block). x.first_word) gives.block in
      let had = held_once w t b (omega arith) c in
      let less = left_words b.first_word in
      let at : superblock_of v.setup.capacity b.first_word ≡ d = omega arith in
      let one = one_if_true (nat_le d (superblock_of v.setup.capacity b.first_word) && nat_lt (superblock_of v.setup.capacity b.first_word)
      (d + span_count d v.large))
      (and_is (nat_le d (superblock_of v.setup.capacity b.first_word))
      (nat_lt (superblock_of v.setup.capacity b.first_word) (d + span_count d v.large))
      (le-leb d (superblock_of v.setup.capacity b.first_word) (omega arith))
      (lt-ltb (superblock_of v.setup.capacity b.first_word) (d + span_count d v.large) (omega arith))) in
      let once = word_once v s b.first_word in omega arith

  pub large_was : (a : Block) → Contains (held_blocks w) a → Contains (held_blocks v) a
  large_was a c = both_sides (small_blocks 0 v.small) (large_blocks v.setup.capacity (without_span d v.large)) (small_blocks 0 v.small)
      (large_blocks v.setup.capacity v.large) a
      (λ x. x) (less_large v.setup.capacity d v.large a) (subst (λ l. Contains l a) now_left c)

  pub large_others : (a : Block) → Contains (held_blocks v) a → a ≢ b → Contains (held_blocks w) a
  large_others a c other = subst (λ l. Contains l a) (sym now_left)
      (both_sides (small_blocks 0 v.small) (large_blocks v.setup.capacity v.large) (small_blocks 0 v.small)
      (large_blocks v.setup.capacity (without_span d v.large)) a
      (λ x. x) (λ large. other_large v.setup.capacity d v.large a large (λ is. other (is ∙ sym gives.block))) c)
