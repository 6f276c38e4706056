-- Blocks given back to their superblock leave a shape again: it stays in its list, or comes to one where it was full.
use Rattle.std.proofs.Common.{◌≡◌, ◌≢◌, ℕ, ◌+◌, ◌<◌, ◌≤◌, ◌⊎◌, inl, inr, cond, nat_eq, List, [], ◌∷◌, ◌++◌, length, Contains, refl, ap, sym, subst, ◌∙◌, arith}
use Rattle.std.proofs.lemmas.Bool.{cases_eq, eqb-true, eq-eqb, ne_eqb, cond-true, cond-false}
use Rattle.std.proofs.lemmas.List.{append-nil}
use Rattle.heap_model.specs.declared.block.Block.{Block}
use Rattle.heap_model.specs.Geometry.{lists, head_word, info_word, anchor_word, link_word, start_word, largest_capacity_fits}
use Rattle.heap_model.specs.Image.{Image}
use Rattle.heap_model.specs.Sizes.{IsClass, blocks_of}
use Rattle.heap_model.specs.Words.{empty_state, partial_state, head_first}
use Rattle.heap_model.specs.Chains.{Follows}
use Rattle.heap_model.specs.Counting.{times, one_if}
use Rattle.heap_model.proofs.CountingLemmas.{one_if_true, one_if_false}
use Rattle.heap_at_rest.proofs.ListLemmas.{follows_same, times_of, follows_below}
use Rattle.heap_shape.specs.Shape.{in_list, is_full, Shape, stands_in, with_at}
use Rattle.heap_shape.specs.Standing.{IsFirstOf, IsOfClass, IsFree, IsAs}
use Rattle.heap_shape.specs.Whole.{IsShape}
use Rattle.heap_shape.specs.Effects.{IsPushedOn, IsGivenBack}
use Rattle.heap_shape.specs.Moves.{after_give, after_give_full, after_give_all}
use Rattle.heap_shape.proofs.BasicLemmas.{with_at_same, with_at_other, in_class_list, in_full, times_here, times_past}
use Rattle.heap_shape.proofs.CountLemmas.{few_given, all_given}
use Rattle.heap_shape.proofs.CacheLemmas.{at_or_other}
use Rattle.heap_shape.proofs.GiveLemmas.{last_inside, Gives, given_shape, given_whole, listed_as, given_listed, same_used, parts}

-- the lists after a push of a superblock that was in none
module _ (capacity d list : ℕ) (image new : Image) (held : List Block) (s : Shape) (shape : IsShape capacity image held s)
    (within : d < capacity) (below : list < lists) (full : s.place d ≡ is_full)
    (head : head_first (new (head_word list)) ≡ d + 1) (link : new (link_word d) ≡ head_first (image (head_word list)))
    (heads : (l : ℕ) → l < lists → l ≢ list → new (head_word l) ≡ image (head_word l)) (links : (e : ℕ) → e < capacity → e ≢ d
    → new (link_word e) ≡ image (link_word e)) where
  linked_still : (l : ℕ) → l < lists → Follows (λ e. new (link_word e)) capacity (head_first (image (head_word l))) (s.listed l)
  linked_still l l_below = follows_same (λ e. image (link_word e)) (λ e. new (link_word e)) capacity (head_first (image (head_word l))) (s.listed l)
      (λ e p. links e (follows_below (λ k. image (link_word k)) capacity (head_first (image (head_word l))) (s.listed l) e (shape.follows l l_below) p)
      (λ same. let some = times_of d (s.listed l) (subst (λ x. Contains (s.listed l) x) same p) in
      let none = (shape.listed l d l_below ∙ ap (λ p. stands_in p l) full) in omega arith))
      (shape.follows l l_below)

  pushed_follows : (l : ℕ) → l < lists → Follows (λ e. new (link_word e)) capacity (head_first (new (head_word l)))
      (with_at s.listed list (d ∷ s.listed list) l)
  pushed_follows l l_below = at_or_other (λ k ds. k < lists → Follows (λ e. new (link_word e)) capacity (head_first (new (head_word k))) ds)
      s.listed list (d ∷ s.listed list) l
      (λ _. (head, within, subst (λ from. Follows (λ e. new (link_word e)) capacity from (s.listed list)) (sym link) (linked_still list below)))
      (λ other k_below. subst (λ from. Follows (λ e. new (link_word e)) capacity from (s.listed l))
      (sym (ap head_first (heads l k_below other))) (linked_still l k_below)) l_below

  pushed_listed : (l e : ℕ) → l < lists → times e (with_at s.listed list (d ∷ s.listed list) l) ≡ stands_in (with_at s.place d (in_list list) e) l
  pushed_listed l e l_below = at_or_other (λ k ds. k < lists → times e ds ≡ stands_in (with_at s.place d (in_list list) e) k) s.listed list
      (d ∷ s.listed list) l
      (λ _. at_or_other (λ x p. times x (d ∷ s.listed list) ≡ stands_in p list) s.place d (in_list list) e here
      (λ apart. times_past d e (s.listed list) (λ same. apart (sym same)) ∙ shape.listed list e below))
      (λ other k_below. at_or_other (λ x p. times x (s.listed l) ≡ stands_in p l) s.place d (in_list list) e (shape.listed l d k_below
      ∙ ap (λ p. stands_in p l) full ∙ sym (elsewhere other))
      (λ apart. shape.listed l e k_below)) l_below
    where
      here : times d (d ∷ s.listed list) ≡ stands_in (in_list list) list
      here =
          let one = times_here d (s.listed list) in
          let none = shape.listed list d below ∙ ap (λ p. stands_in p list) full in
          let stands : one_if (nat_eq list list) ≡ 1 = one_if_true (nat_eq list list) (eq-eqb list list refl) in
          omega arith

      elsewhere : l ≢ list → stands_in (in_list list) l ≡ 0
      elsewhere other = one_if_false (nat_eq list l) (λ test. other (sym (eqb-true list l test)))

-- a full superblock that got blocks, and was pushed on a list
module _ (capacity class d : ℕ) (image new final : Image) (held : List Block) (s : Shape) (before rest : List ℕ) (last : ℕ) (is : IsClass class)
    (shape : IsShape capacity image held s) (within : d < capacity)
    (cache : s.cached class ≡ (before ++ last ∷ []) ++ rest) (firsts : (w : ℕ) → Contains (before ++ last ∷ []) w
    → IsFirstOf capacity class d w) (list state : ℕ) (below : list < lists) (few : state < 4)
    (full : s.place d ≡ is_full) (info : image (info_word d) ≡ class) (given : IsGivenBack capacity image new s class d before last state)
    (pushed : IsPushedOn new final list d) where
  full_of_class : IsOfClass capacity image s held class d
  full_of_class = subst (λ c. IsOfClass capacity image s held c d) info (in_full capacity image held s shape d within full).of_class

  full_none : s.chain d ≡ []
  full_none = (in_full capacity image held s shape d within full).none

  last_high : start_word capacity 0 ≤ last
  last_high = let from = (last_inside capacity class d image final held s before rest last is shape within cache firsts full_of_class).from in
      omega arith

  given_word : (word : ℕ) → word ≢ anchor_word d → word ≢ last → word ≢ link_word d → word ≢ head_word list → final word ≡ image word
  given_word word not_anchor not_last not_link not_head = pushed.head.others word not_head ∙ pushed.link.others word not_link
      ∙ given.others word not_anchor not_last

  pushed_gives : Gives capacity image final s class d list before last state
  pushed_gives = let high = last_high in record {
    first = given.first;
    begins = given.begins;
    linked = inl full_none;
    anchor = pushed.head.others (anchor_word d) (omega arith) ∙ pushed.link.others (anchor_word d) (omega arith) ∙ given.anchor;
    others = given_word;
  }

  chain_is : before ++ last ∷ [] ≡ (before ++ last ∷ []) ++ s.chain d
  chain_is = sym (ap (λ xs. (before ++ last ∷ []) ++ xs) full_none ∙ append-nil (before ++ last ∷ []))

  pushed_head : head_first (final (head_word list)) ≡ d + 1
  pushed_head = let at = pushed.head.at in let small = shape.small in omega (arith, largest_capacity_fits)

  pushed_link : final (link_word d) ≡ head_first (image (head_word list))
  pushed_link = let high = last_high in
      pushed.head.others (link_word d) (omega arith) ∙ pushed.link.at ∙ ap head_first (given.others (head_word list) (omega arith) (omega arith))

  abbrev pushed_shape : Shape
  pushed_shape = given_shape s class d (before ++ last ∷ []) rest (image last) (with_at s.place d (in_list list))
      (with_at s.listed list (d ∷ s.listed list))

  pushed_whole : IsAs capacity final pushed_shape held d (in_list list)
      → ((w : ℕ) → Contains rest w → IsFirstOf capacity class d w → ⊥) ⊎ (in_list list ≡ in_list class) → IsShape capacity final held pushed_shape
  pushed_whole as_list rest_here =
      let high = last_high in
      given_whole capacity class d image final held s before rest last is shape within cache firsts full_of_class list state below few pushed_gives
      (before ++ last ∷ []) chain_is (with_at s.place d (in_list list)) (with_at s.listed list (d ∷ s.listed list))
      (λ e apart. with_at_other s.place d (in_list list) e apart)
      (subst (λ p. IsAs capacity final pushed_shape held d p) (sym (with_at_same s.place d (in_list list))) as_list)
      (elim rest_here [ inl none ↦ inl none | inr one ↦ inr (with_at_same s.place d (in_list list) ∙ one) ])
      (pushed_follows capacity d list image final held s shape within below full pushed_head pushed_link heads links)
      (pushed_listed capacity d list image final held s shape within below full pushed_head pushed_link heads links)
    where
      heads : (l : ℕ) → l < lists → l ≢ list → final (head_word l) ≡ image (head_word l)
      heads l l_below other = let high = last_high in given_word (head_word l) (omega arith) (omega arith) (omega arith) (λ same. other (omega arith))

      links : (e : ℕ) → e < capacity → e ≢ d → final (link_word e) ≡ image (link_word e)
      links e e_within apart = let high = last_high in given_word (link_word e) (omega arith) (omega arith) (λ same. apart (omega arith)) (omega arith)

  -- it is in its class list then where it got some of its blocks
  pushed_some : list ≡ class → state ≡ partial_state → length (before ++ last ∷ []) < blocks_of class → IsShape capacity final held pushed_shape
  pushed_some same partial some =
      let none : length (s.chain d) ≡ 0 = ap length full_none in
      pushed_whole (subst (λ l. IsAs capacity final pushed_shape held d (in_list l)) (sym same)
      (listed_as capacity final pushed_shape held class d is
      (given_listed capacity class d image final held s before rest last is shape within cache firsts full_of_class list state below few pushed_gives
      (before ++ last ∷ []) chain_is (with_at s.place d (in_list list)) (with_at s.listed list (d ∷ s.listed list)) (inr (partial, omega arith)))))
      (inr (ap in_list same))

  -- and in the free list where it got all
  pushed_all : list ≡ 0 → state ≡ empty_state → length (before ++ last ∷ []) ≡ blocks_of class → IsShape capacity final held pushed_shape
  pushed_all same empty all =
      let none : length (s.chain d) ≡ 0 = ap length full_none in
      let free = all_given capacity image held s shape class d (before ++ last ∷ []) rest full_of_class cache firsts (omega arith) in
      let taken = full_of_class.taken in
      let used = same_used capacity class d image final held s before rest last is shape within cache firsts full_of_class list state below few
      pushed_gives in
      let anchor = parts capacity class d image final held s before rest last is shape within cache firsts full_of_class list state below few
      pushed_gives in
      let is_free : IsFree capacity final held d = record { taken = omega arith; state = anchor.0 ∙ empty; none = free.0 } in
      pushed_whole (subst (λ l. IsAs capacity final pushed_shape held d (in_list l)) (sym same) is_free) (inl free.1)

module _ (capacity class d : ℕ) (image new : Image) (held : List Block) (s : Shape) (before rest : List ℕ) (last : ℕ) (is : IsClass class)
    (shape : IsShape capacity image held s) (within : d < capacity)
    (cache : s.cached class ≡ (before ++ last ∷ []) ++ rest) (firsts : (w : ℕ) → Contains (before ++ last ∷ []) w → IsFirstOf capacity class d w) where
  give_some : (state : ℕ) → s.place d ≡ in_list class → ((state ≡ empty_state) × (length (before ++ last ∷ []) + length (s.chain d) ≡ blocks_of class))
      ⊎ ((state ≡ partial_state) × (length (before ++ last ∷ []) + length (s.chain d) < blocks_of class))
      → IsGivenBack capacity image new s class d before last state → IsShape capacity new held
      (after_give s class d (before ++ last ∷ []) rest (image last))
  give_some state place all_or_some given =
      given_whole capacity class d image new held s before rest last is shape within cache firsts of class state a_list few gives
      ((before ++ last ∷ []) ++ s.chain d) refl s.place s.listed (λ e apart. refl) as_here (inr place) follows shape.listed
    where
      of : IsOfClass capacity image s held class d
      of = (in_class_list capacity image held s shape class d is within place).of_class

      a_list : class < lists
      a_list = let last_class = is.last in omega arith

      few : state < 4
      few = elim all_or_some as (λ _. state < 4) [ inl all ↦ let is_state = all.0 in omega arith | inr some ↦ let is_state = some.0 in omega arith ]

      gives : Gives capacity image new s class d class before last state
      gives = record {
        first = given.first;
        begins = given.begins;
        linked = given.linked;
        anchor = given.anchor;
        others = λ word not_anchor not_last _ _. given.others word not_anchor not_last;
      }

      high : start_word capacity 0 ≤ last
      high = let from = (last_inside capacity class d image new held s before rest last is shape within cache firsts of).from in omega arith

      as_here : IsAs capacity new (after_give s class d (before ++ last ∷ []) rest (image last)) held d (s.place d)
      as_here = subst (λ p. IsAs capacity new (after_give s class d (before ++ last ∷ []) rest (image last)) held d p) (sym place)
          (listed_as capacity new (after_give s class d (before ++ last ∷ []) rest (image last)) held class d is
          (given_listed capacity class d image new held s before rest last is shape within cache firsts of class state a_list few gives
          ((before ++ last ∷ []) ++ s.chain d) refl s.place s.listed all_or_some))

      follows : (l : ℕ) → l < lists → Follows (λ e. new (link_word e)) capacity (head_first (new (head_word l))) (s.listed l)
      follows l below = let last_high = high in
          subst (λ from. Follows (λ e. new (link_word e)) capacity from (s.listed l))
          (ap head_first (sym (given.others (head_word l) (omega arith) (omega arith))))
          (follows_same (λ e. image (link_word e)) (λ e. new (link_word e)) capacity (head_first (image (head_word l))) (s.listed l)
          (λ e p. let e_within = follows_below (λ k. image (link_word k)) capacity (head_first (image (head_word l))) (s.listed l) e
          (shape.follows l below) p in
          given.others (link_word e) (omega arith) (omega arith))
          (shape.follows l below))

  -- of a superblock that is in its class list, and stays there: all its blocks are in the chain then, or some
  pub give : s.place d ≡ in_list class → IsGivenBack capacity image new s class d before last
      (cond (nat_eq (length (before ++ last ∷ []) + length (s.chain d)) (blocks_of class)) empty_state partial_state)
      → IsShape capacity new held (after_give s class d (before ++ last ∷ []) rest (image last))
  give place given =
      let of = (in_class_list capacity image held s shape class d is within place).of_class in
      let at_most = few_given capacity image held s shape class d (before ++ last ∷ []) rest of cache firsts in
      give_some (cond (nat_eq (length (before ++ last ∷ []) + length (s.chain d)) (blocks_of class)) empty_state partial_state) place
      (elim (cases_eq (length (before ++ last ∷ []) + length (s.chain d)) (blocks_of class)) [
        | inl all ↦ inl (cond-true _ empty_state partial_state (eq-eqb _ _ all), all)
        | inr not_all ↦ inr (cond-false _ empty_state partial_state (ne_eqb _ _ not_all), omega arith)
      ]) given

  -- of a full one, which goes to its class list
  pub give_full : (final : Image) → s.place d ≡ is_full → image (info_word d) ≡ class → length (before ++ last ∷ []) < blocks_of class
      → IsGivenBack capacity image new s class d before last partial_state
      → IsPushedOn new final class d → IsShape capacity final held (after_give_full s class d (before ++ last ∷ []) rest (image last))
  give_full final place info some given pushed =
      let last_class = is.last in
      pushed_some capacity class d image new final held s before rest last is shape within cache firsts class partial_state (omega arith)
      (omega arith) place info given pushed refl refl some

  -- of a full one, which gets all its blocks and goes to the free list
  pub give_all : (final : Image) → s.place d ≡ is_full → image (info_word d) ≡ class → length (before ++ last ∷ []) ≡ blocks_of class
      → IsGivenBack capacity image new s class d before last empty_state
      → IsPushedOn new final 0 d → IsShape capacity final held (after_give_all s class d (before ++ last ∷ []) rest (image last))
  give_all final place info all given pushed =
      pushed_all capacity class d image new final held s before rest last is shape within cache firsts 0 empty_state (omega arith)
      (omega arith) place info given pushed refl refl all
