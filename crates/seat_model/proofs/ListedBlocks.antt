-- The list of held blocks has exactly those that the seat holds.
use Rattle.std.proofs.Common.{◌≡◌, ◌<◌, ℕ, zero, suc, ◌+◌, ◌*◌, inl, inr, cond, List, [], ◌∷◌, get_or, ap, sym, subst, ◌∙◌, eq-eqb, ne_eqb, arith}
use Rattle.std.specs.Prelude.{Contains}
use Rattle.std.proofs.lemmas.Bool.{cases_eq}
use Rattle.std.proofs.lemmas.List.Elements.{Contains-append_left, Contains-append_right}
use Rattle.heap_model.specs.declared.block.Block.{Block}
use Rattle.heap_model.specs.Counting.{times}
use Rattle.heap_model.specs.Geometry.{start_word, superblock_words}
use Rattle.heap_model.specs.Sizes.{words_of_class}
use Rattle.heap_model.proofs.MemberLemmas.{in_rest}
use Rattle.core_model.specs.Effects.{span_count}
use Rattle.core_model.specs.Held.{IsHeld, a_small, a_large}
use Rattle.core_model.specs.View.{Span, View}
use Rattle.core_model.proofs.TotalLemmas.{ne-eqb-none}
use Rattle.seat_model.specs.CacheState.{blocks_of_words, held_blocks, large_blocks, small_blocks}

words_in : (words : ℕ) (bs : List ℕ) (x : ℕ) → 0 < times x bs → Contains (blocks_of_words words bs) (record { first_word = x; words = words })
words_in words [] x some = absurd (omega arith)
words_in words (y ∷ bs) x some = elim (cases_eq y x) as (λ _. Contains (blocks_of_words words (y ∷ bs)) (record { first_word = x; words = words })) [
  | inl same ↦ (0, omega arith, ap (λ n. record { first_word = n; words = words }) same)
  | inr other ↦ in_rest (record { first_word = y; words = words }) (record { first_word = x; words = words }) (blocks_of_words words bs)
      (words_in words bs x (let none = ne-eqb-none y x other in omega arith))
]

pub small_in : (class : ℕ) (lists : List (List ℕ)) (n x : ℕ) → 0 < times x (get_or lists n [])
    → Contains (small_blocks class lists) (record { first_word = x; words = words_of_class (class + n) })
small_in class [] n x some = absurd (omega arith)
small_in class (bs ∷ lists) zero x some = Contains-append_left (blocks_of_words (words_of_class class) bs) (small_blocks (class + 1) lists)
    (record { first_word = x; words = words_of_class (class + 0) })
    (subst (λ c. Contains (blocks_of_words (words_of_class class) bs) (record { first_word = x; words = words_of_class c }))
    (let e : class ≡ class + 0 = omega arith in e) (words_in (words_of_class class) bs x some))
small_in class (bs ∷ lists) (suc n) x some = Contains-append_right (blocks_of_words (words_of_class class) bs) (small_blocks (class + 1) lists)
    (record { first_word = x; words = words_of_class (class + suc n) })
    (subst (λ c. Contains (small_blocks (class + 1) lists) (record { first_word = x; words = words_of_class c }))
    (let e : class + 1 + n ≡ class + suc n = omega arith in e) (small_in (class + 1) lists n x some))

large_in : (capacity : ℕ) (spans : List Span) (d : ℕ) → 0 < span_count d spans
    → Contains (large_blocks capacity spans) (record { first_word = start_word capacity d; words = superblock_words * span_count d spans })
large_in capacity [] d some = absurd (omega arith)
large_in capacity (span ∷ spans) d some = elim (cases_eq span.first d) as
    (λ _. Contains (large_blocks capacity (span ∷ spans)) (record {
      first_word = start_word capacity d;
      words = superblock_words * span_count d (span ∷ spans);
    })) [
      | inl same ↦ (
        0,
        omega arith,
        ap (λ e. record { first_word = start_word capacity e; words = superblock_words * span.count }) same
            ∙ ap (λ n. record { first_word = start_word capacity d; words = superblock_words * n })
            (sym (ap (λ t. cond t span.count (span_count d spans)) (eq-eqb span.first d same))),
      )
      | inr other ↦
          let skip : span_count d (span ∷ spans) ≡ span_count d spans = ap (λ t. cond t span.count (span_count d spans)) (ne_eqb span.first d other) in
          in_rest (record { first_word = start_word capacity span.first; words = superblock_words * span.count })
          (record { first_word = start_word capacity d; words = superblock_words * span_count d (span ∷ spans) }) (large_blocks capacity spans)
          (subst (λ n. Contains (large_blocks capacity spans) (record { first_word = start_word capacity d; words = superblock_words * n })) (sym skip)
          (large_in capacity spans d (omega arith)))
    ]

pub listed : (v : View) (b : Block) → IsHeld v b → Contains (held_blocks v) b
listed v b (a_small class x there) = Contains-append_left (small_blocks 0 v.small) (large_blocks v.setup.capacity v.large)
    (record { first_word = x; words = words_of_class class })
    (subst (λ c. Contains (small_blocks 0 v.small) (record { first_word = x; words = words_of_class c }))
    (let e : 0 + class ≡ class = omega arith in e) (small_in 0 v.small class x there))
listed v b (a_large d n some count) = Contains-append_right (small_blocks 0 v.small) (large_blocks v.setup.capacity v.large)
    (record { first_word = start_word v.setup.capacity d; words = superblock_words * n })
    (subst (λ m. Contains (large_blocks v.setup.capacity v.large) (record {
      first_word = start_word v.setup.capacity d;
      words = superblock_words * m;
    })) count (large_in v.setup.capacity v.large d (omega arith)))
