-- A carrier holds its block and no other, and the seat that accepted holds it then.
use Rattle.std.proofs.Common.{◌≡◌, ℕ, ◌*◌, ◌<◌, inl, inr, nat_eq, cond, List, [], ◌∷◌, ◌++◌, refl, ap, sym, subst, ◌∙◌, eq-eqb, ne_eqb, arith}
use Rattle.std.proofs.lemmas.Bool.{cases_eq}
use Rattle.std.proofs.lemmas.List.{get_or_default}
use Rattle.heap_model.specs.declared.block.Block.{Block}
use Rattle.heap_model.specs.Counting.{times}
use Rattle.heap_model.specs.Geometry.{start_word, superblock_words}
use Rattle.heap_model.specs.Sizes.{words_of_class}
use Rattle.core_model.specs.Carriers.{accepted}
use Rattle.core_model.specs.Effects.{span_count}
use Rattle.core_model.specs.Held.{IsHeld, a_small, a_large}
use Rattle.core_model.specs.View.{Setup, Span, View, of_class}
use Rattle.core_model.proofs.BothLemmas.{both_class}
use Rattle.core_model.proofs.OwnerLemmas.{in_lists_total}
use Rattle.core_model.proofs.PlaceLemmas.{pick}
use Rattle.core_model.proofs.TotalLemmas.{total_where, eq-eqb-one, ne-eqb-none}
use Rattle.seat_index.specs.declared.owned.Holding.{Holding}
use Rattle.seat_index.specs.Holdings.{HoldsAlone, HoldsOneSmall}
use Rattle.seat_index.specs.declared.owned.Holding.TheVariants as holding

-- the block stands in the list of its class
one_there : (u : View) (b : Block) (class : ℕ) → HoldsOneSmall u b class → 0 < times b.first_word (of_class u.small class)
one_there u b class alone =
    let found = total_where (times b.first_word) u.small (let o = alone.once b.first_word in
    let e = eq-eqb-one b.first_word b.first_word refl in omega arith) in
    let has : 0 < times b.first_word (of_class u.small found.0) = subst (λ l. 0 < times b.first_word l)
    (sym (get_or_default u.small found.0 [] found.1 found.2 ∙ found.3)) found.4 in
    subst (λ c. 0 < times b.first_word (of_class u.small c)) (alone.in_class found.0 b.first_word has) has

-- a view of the same heap that has all that the carrier has holds the block
held_too : (u w : View) (b : Block) (h : Holding) → HoldsAlone u b h → u.setup ≡ w.setup
    → ((class n : ℕ) → 0 < times n (of_class u.small class) → 0 < times n (of_class w.small class))
    → ((d n : ℕ) → u.large ≡ record { first = d; count = n } ∷ [] → span_count d w.large ≡ n) → IsHeld w b
held_too u w b (holding.Small class) alone setup small large = subst (λ n. IsHeld w (record { first_word = b.first_word; words = n }))
    (sym alone.is.words) (a_small class b.first_word (small class b.first_word (one_there u b class alone)))
held_too u w b (holding.Large d n) alone setup small large =
    subst (λ x. IsHeld w (record { first_word = x; words = b.words })) (ap (λ (k : Setup). start_word k.capacity d) (sym setup) ∙ sym alone.is.first)
    (subst (λ x. IsHeld w (record { first_word = start_word w.setup.capacity d; words = x })) (sym alone.is.words)
    (a_large d n (let s = alone.is.some in omega arith) (large d n alone.once)))

span_first : (d n : ℕ) (spans rest : List Span) → spans ≡ record { first = d; count = n } ∷ rest → span_count d spans ≡ n
span_first d n spans rest is = ap (span_count d) is ∙ pick (nat_eq d d) n (span_count d rest) (eq-eqb d d refl)

pub carrier_holds : (u : View) (b : Block) (h : Holding) → HoldsAlone u b h → IsHeld u b
carrier_holds u b h alone = held_too u u b h alone refl (λ class n some. some) (λ d n is. span_first d n u.large [] is)

pub acceptor_holds : (v u : View) (b : Block) (h : Holding) → HoldsAlone u b h → u.setup ≡ v.setup → IsHeld (accepted v u) b
acceptor_holds v u b h alone setup = held_too u (accepted v u) b h alone setup (λ class n some. let both = both_class n class u.small v.small in
    omega arith)
    (λ d n is. span_first d n (u.large ++ v.large) v.large (ap (λ l. l ++ v.large) is))

pub only_block : (u : View) (b : Block) (h : Holding) → HoldsAlone u b h → (a : Block) → IsHeld u a → a ≡ b
only_block u b (holding.Small class) alone a (a_small of first there) = λ i. record { first_word = first_is i; words = words_are i } where
  first_is : first ≡ b.first_word
  first_is = elim (cases_eq b.first_word first) as (λ _. first ≡ b.first_word) [
    | inl same ↦ sym same
    | inr other ↦ absurd (let t = in_lists_total first of u.small there in let one = alone.once first in
        let z = ne-eqb-none b.first_word first other in omega arith)
  ]

  words_are : words_of_class of ≡ b.words
  words_are = ap words_of_class (alone.in_class of first there) ∙ sym alone.is.words
only_block u b (holding.Small class) alone a (a_large d n some is) = absurd (let z = ap (span_count d) alone.none_large in omega arith)
only_block u b (holding.Large d n) alone a (a_small of first there) = absurd (let t = in_lists_total first of u.small there in
    let z = alone.none_small first in omega arith)
only_block u b (holding.Large d n) alone a (a_large e m some is) =
    elim (cases_eq d e) as (λ _. record { first_word = start_word u.setup.capacity e; words = superblock_words * m } ≡ b) [
      | inl same ↦ let count : n ≡ m = sym (span_first d n u.large [] alone.once) ∙ ap (λ x. span_count x u.large) same ∙ is in
          let first_is : start_word u.setup.capacity e ≡ b.first_word = ap (start_word u.setup.capacity) (sym same) ∙ sym alone.is.first in
          let words_are : superblock_words * m ≡ b.words = ap (λ x. superblock_words * x) (sym count) ∙ sym alone.is.words in
          λ i. record { first_word = first_is i; words = words_are i }
      | inr other ↦ absurd (let z = ap (span_count e) alone.once ∙ ap (λ t. cond t n 0) (ne_eqb d e other) in omega arith)
    ]
