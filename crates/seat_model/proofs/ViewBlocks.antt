-- The list of held blocks has those that the lists of the view name, and no others.
use Rattle.std.proofs.Common.{◌≡◌, ◌≢◌, ◌<◌, ◌≤◌, ◌⊎◌, ℕ, zero, suc, ◌+◌, ◌*◌, inl, inr, true, cond, nat_lt, nat_le, List, [], ◌∷◌, get_or, length, refl, ap, sym, subst, ◌∙◌, eq-eqb, ne_eqb, lt-ltb, le-leb, arith}
use Rattle.std.specs.Prelude.{Contains}
use Rattle.std.proofs.lemmas.List.Elements.{Contains-append_cases}
use Rattle.heap_model.specs.declared.block.Block.{Block}
use Rattle.heap_model.specs.Counting.{times}
use Rattle.heap_model.specs.Geometry.{start_word, superblock_words}
use Rattle.heap_model.specs.Sizes.{words_of_class}
use Rattle.heap_model.proofs.CountingLemmas.{one_if_true}
use Rattle.core_model.specs.Effects.{span_count}
use Rattle.core_model.specs.View.{Span, takes, times_large}
use Rattle.core_model.proofs.PlaceLemmas.{and_is}
use Rattle.core_model.proofs.TotalLemmas.{eq-eqb-one}
use Rattle.seat_model.specs.CacheState.{blocks_of_words, small_blocks, large_blocks}

pub contains_cons : {X : Type 0} (x z : X) (xs : List X) (k : ℕ) → k < length (x ∷ xs) → get_or (x ∷ xs) k z ≡ z → (x ≡ z) ⊎ Contains xs z
contains_cons x z xs zero l e = inl e
contains_cons x z xs (suc k) l e = inr (k, omega arith, e)

-- a block of a list of first words
words_there : (words : ℕ) (bs : List ℕ) (b : Block) → Contains (blocks_of_words words bs) b → (0 < times b.first_word bs) × (b.words ≡ words)
words_there words [] b c = absurd (let l = c.1 in omega arith)
words_there words (x ∷ bs) b c = elim (contains_cons (record { first_word = x; words = words }) b (blocks_of_words words bs) c.0 c.1 c.2) [
  | inl same ↦ (
    subst (λ (y : Block). 0 < times y.first_word (x ∷ bs)) same (let one = eq-eqb-one x x refl in omega arith),
    sym (ap (λ (y : Block). y.words) same),
  )
  | inr more ↦ let rest = words_there words bs b more in (let r = rest.0 in omega arith, rest.1)
]

-- the class of a small one
pub record IsSmall (class : ℕ) (lists : List (List ℕ)) (b : Block) : Type 0 where
  pub n : ℕ
  pub there : 0 < times b.first_word (get_or lists n [])
  pub words : b.words ≡ words_of_class (class + n)

pub small_there : (class : ℕ) (lists : List (List ℕ)) (b : Block) → Contains (small_blocks class lists) b → IsSmall class lists b
small_there class [] b c = absurd (let l = c.1 in omega arith)
small_there class (bs ∷ lists) b c = elim (Contains-append_cases (blocks_of_words (words_of_class class) bs) (small_blocks (class + 1) lists) b c) [
  | inl here ↦ let h = words_there (words_of_class class) bs b here in
      record { n = 0; there = h.0; words = h.1 ∙ ap words_of_class (let e : class ≡ class + 0 = omega arith in e) }
  | inr more ↦ let h = small_there (class + 1) lists b more in record {
    n = suc h.n;
    there = h.there;
    words = h.words ∙ ap words_of_class (let e : class + 1 + h.n ≡ class + suc h.n = omega arith in e);
  }
]

-- the superblocks of a large one
pub record IsLarge (capacity : ℕ) (spans : List Span) (b : Block) : Type 0 where
  pub d : ℕ
  pub some : 0 < times_large d spans
  pub count : 0 < span_count d spans
  pub first : b.first_word ≡ start_word capacity d
  pub words : b.words ≡ superblock_words * span_count d spans

begins : (d : ℕ) (span : Span) → span.first ≡ d → 1 ≤ span.count → takes d span ≡ true
begins d span is some = and_is (nat_le span.first d) (nat_lt d (span.first + span.count)) (le-leb span.first d (omega (arith, is)))
    (lt-ltb d (span.first + span.count) (omega (arith, is)))

pub large_there : (capacity : ℕ) (spans : List Span) (b : Block) → ((d : ℕ) → times_large d spans ≤ 1)
    → ((span : Span) → Contains spans span → 1 ≤ span.count) → Contains (large_blocks capacity spans) b → IsLarge capacity spans b
large_there capacity [] b once some c = absurd (let l = c.1 in omega arith)
large_there capacity (span ∷ spans) b once some c = elim (contains_cons
    (record { first_word = start_word capacity span.first; words = superblock_words * span.count }) b (large_blocks capacity spans) c.0 c.1 c.2) [
      | inl same ↦ record {
        d = span.first;
        some = let one = one_if_true (takes span.first span) (begins span.first span refl first_some) in omega arith;
        count = subst (λ n. 0 < n) (sym head) first_some;
        first = sym (ap (λ (y : Block). y.first_word) same);
        words = sym (ap (λ (y : Block). y.words) same) ∙ ap (λ n. superblock_words * n) (sym head);
      }
      | inr more ↦ by_rest (large_there capacity spans b (λ d. let o = once d in
          omega arith) (λ x there. some x (suc there.0, let l = there.1 in omega arith, there.2)) more)
    ] where
      first_some : 1 ≤ span.count
      first_some = some span (0, omega arith, refl)

      head : span_count span.first (span ∷ spans) ≡ span.count
      head = ap (λ t. cond t span.count (span_count span.first spans)) (eq-eqb span.first span.first refl)

      by_rest : IsLarge capacity spans b → IsLarge capacity (span ∷ spans) b
      by_rest rest = record {
        d = rest.d;
        some = let r = rest.some in omega arith;
        count = subst (λ n. 0 < n) (sym skip_it) rest.count;
        first = rest.first;
        words = rest.words ∙ ap (λ n. superblock_words * n) (sym skip_it);
      } where
        other : span.first ≢ rest.d
        other same = let one = one_if_true (takes rest.d span) (begins rest.d span same first_some) in let r = rest.some in let o = once rest.d in
            omega arith

        skip_it : span_count rest.d (span ∷ spans) ≡ span_count rest.d spans
        skip_it = ap (λ t. cond t span.count (span_count rest.d spans)) (ne_eqb span.first rest.d other)

pub contains_times : (xs : List ℕ) (x : ℕ) → Contains xs x → 0 < times x xs
contains_times [] x c = absurd (let l = c.1 in omega arith)
contains_times (y ∷ xs) x c = elim (contains_cons y x xs c.0 c.1 c.2) [
  | inl same ↦ let one = eq-eqb-one y x same in omega arith
  | inr more ↦ let r = contains_times xs x more in omega arith
]
