-- Worked examples of what opening leaves: of an empty image, and of a superblock two of whose blocks are free.
use Rattle.std.specs.Prelude.{◌≡◌, ◌≢◌, ℕ, zero, suc, ◌+◌, ◌*◌, ◌<◌, ◌⊎◌, cond, nat_eq, List, [], ◌∷◌, AllPairs, Contains, refl}
use Rattle.std.proofs.Common.{arith, inl, inr, subst, sym, ◌∙◌}
use Rattle.std.proofs.lemmas.Bool.{cases_eq, cond-true, cond-false, eq-eqb, ne_eqb}
use Rattle.heap_model.specs.Geometry.{lists, clean, dirty, magic, version, info_word, anchor_word, link_word}
use Rattle.heap_model.specs.Counting.{put}
use Rattle.heap_model.specs.Image.{Image}
use Rattle.heap_model.specs.Sizes.{IsClass, class_sizes, words_of_class, blocks_of}
use Rattle.heap_model.specs.Words.{anchor_of, partial_state}
use Rattle.heap_model.specs.Blocks.{layout_of}
use Rattle.heap_model.specs.Recovered.{HasPartIn, IsBlockOfClass}
use Rattle.heap_model.specs.Recovery.{IsListed, IsPartial, in_header, is_root, is_kind, first_number}
use Rattle.heap_model.specs.Chains.{Follows}
use Rattle.heap_model.specs.Examples.{image_with, formatted}
use Rattle.heap_model.proofs.MemberLemmas.{in_none, in_head, head_or_rest}
use Rattle.heap_at_rest.specs.Orderly.{IsHeldByAnchors}
use Rattle.heap_at_rest.specs.OrderlyExamples.{with_chain, quarter, is_quarter, third_is_held, chained_is_not_held}
use Rattle.heap_recover.proofs.OwnerLemmas.{kept_no_state, kept_no_head}
use Rattle.quick_recover.specs.Reopened.{IsReopened}

-- another word is as it was
with_at_other : (image : Image) (at value n : ℕ) → n ≢ at → put image at value n ≡ image n
with_at_other image at value n other = cond-false (nat_eq n at) value (image n) (ne_eqb n at other)

-- an empty image, closed, and what it is opened as
abbrev pub empty : Image
empty = formatted 1 []

-- it is left dirty, and else as it was
abbrev pub opened_empty : Image
opened_empty = put empty 3 dirty

-- no superblock has been taken, so none is listed
none_listed : (list d : ℕ) → IsListed (layout_of empty) (IsHeldByAnchors empty) list d → ⊥
none_listed zero d is = let taken = is.taken in omega arith
none_listed (suc c) d is = let taken = is.taken in omega arith

-- behind the first words of the header all is 0
empty_word : (word : ℕ) → 3 < word → empty word ≡ 0
empty_word word past =
    with_at_other (put (put (put (image_with []) 3 clean) 2 1) 1 version) 0 magic word (λ same. omega arith)
    ∙ with_at_other (put (put (image_with []) 3 clean) 2 1) 1 version word (λ same. omega arith)
    ∙ with_at_other (put (image_with []) 3 clean) 2 1 word (λ same. omega arith)
    ∙ with_at_other (image_with []) 3 clean word (λ same. omega arith)

opened_word : (word : ℕ) → 3 < word → opened_empty word ≡ 0
opened_word word past = with_at_other empty 3 dirty word (λ same. omega arith) ∙ empty_word word past

-- the state alone changes
empty_is_reopened : IsReopened empty opened_empty (IsHeldByAnchors empty)
empty_is_reopened = record {
  descriptors = λ list. [];
  listed = λ list few. record {
    sound = λ d p. absurd (in_none d p);
    complete = λ d is. absurd (none_listed list d is);
    ascending = λ i j d less within. absurd (omega arith);
  };
  state = refl;
  same = λ word is. with_at_other empty 3 dirty word (kept_no_state 1 word is);
  heads = λ list few. opened_word (16 + list) (omega arith);
  links = λ list few. refl;
  unlisted = λ d below away. opened_word (link_word d) (omega arith);
  free = λ d free. absurd (none_listed 0 d free);
  partial = λ class d is part. absurd (let taken = part.taken in omega arith);
  full = λ class d is full. absurd (let taken = full.taken in omega arith);
  in_large = λ d large. absurd (let taken = large.taken in omega arith);
  untaken = λ d past below. record { info_is = opened_word (info_word d) (omega arith); anchor_is = opened_word (anchor_word d) (omega arith) };
  inside = λ word low. with_at_other empty 3 dirty word (λ same. omega arith);
}

-- it may not stay closed
stays_closed : IsReopened empty empty (IsHeldByAnchors empty) → ⊥
stays_closed is = let state : ◌≡◌ {A = ℕ} 1 2 = is.state in omega arith

-- no root changes, no kind of a root, and not the number of superblocks that have been taken
root_changes : IsReopened empty (put opened_empty 40 7) (IsHeldByAnchors empty) → ⊥
root_changes is = let root : ◌≡◌ {A = ℕ} 7 0 = is.same 40 (is_root 0 40 (omega arith) refl) in omega arith

kind_changes : IsReopened empty (put opened_empty 9264 1) (IsHeldByAnchors empty) → ⊥
kind_changes is = let kind : ◌≡◌ {A = ℕ} 1 0 = is.same 9264 (is_kind 0 9264 (omega arith) refl) in omega arith

used_changes : IsReopened empty (put opened_empty 8 1) (IsHeldByAnchors empty) → ⊥
used_changes is = let used : ◌≡◌ {A = ℕ} 1 0 = is.same 8 (in_header 8 (inr (inr (inr refl)))) in omega arith

-- a head counts no pops
head_counts_pops : IsReopened empty (put opened_empty 16 16777216) (IsHeldByAnchors empty) → ⊥
head_counts_pops is = by_list (is.descriptors 0) (λ d p. none_listed 0 d ((is.listed 0 (omega arith)).sound d p)) (is.heads 0 (omega arith)) where
  by_list : (ds : List ℕ) → ((d : ℕ) → Contains ds d → ⊥) → 16777216 ≡ first_number ds → ⊥
  by_list [] none head = omega arith
  by_list (d ∷ ds) none head = none d (in_head d ds)

-- the descriptor of a superblock that was not taken is 0, and no word of a superblock changes
untaken_has_an_info : IsReopened empty (put opened_empty 1064 20) (IsHeldByAnchors empty) → ⊥
untaken_has_an_info is = let info : ◌≡◌ {A = ℕ} 20 0 = (is.untaken 0 (omega arith) (omega arith)).info_is in omega arith

untaken_has_a_link : IsReopened empty (put opened_empty 1066 1) (IsHeldByAnchors empty) → ⊥
untaken_has_a_link is = let link : ◌≡◌ {A = ℕ} 1 0 = is.unlisted 0 (omega arith)
    (λ list few p. none_listed list 0 ((is.listed list few).sound 0 p)) in omega arith

word_inside_changes : IsReopened empty (put opened_empty 1072 5) (IsHeldByAnchors empty) → ⊥
word_inside_changes is = let word : ◌≡◌ {A = ℕ} 5 0 = is.inside 1072 (omega arith) in omega arith

-- The superblock of class 20 whose blocks 1 and 3 are free: it is put in the list of its class, and its anchor stays.
abbrev pub opened_chain : Image
opened_chain = put (put with_chain 3 dirty) 36 1

some_are_free : IsPartial (layout_of with_chain) (IsHeldByAnchors with_chain) 20 0
unfolding with_chain
some_are_free = record {
  taken = omega arith;
  info_is = refl;
  holds = record { block = quarter 2; is_kept = third_is_held; part = record { begins = omega arith; ends = omega arith } };
  spare = (2864, record { index = 1; block = quarter 1; is_block = is_quarter 1 (omega arith); first = refl; unkept = chained_is_not_held });
}

-- it is in no other list
is_listed : (list d : ℕ) → IsListed (layout_of with_chain) (IsHeldByAnchors with_chain) list d → (list ≡ 20) × (d ≡ 0)
unfolding with_chain
is_listed zero d free = absurd (free.empty (quarter 2) third_is_held (let taken = free.taken in let first : d ≡ 0 = omega arith in
    subst (HasPartIn 1 (quarter 2)) (sym first) (record { begins = omega arith; ends = omega arith })))
is_listed (suc c) d part =
    let taken = part.taken in
    let first : d ≡ 0 = omega arith in
    (sym part.info_is ∙ subst (λ e. with_chain (1064 + 8 * e) ≡ 20) (sym first) refl, first)

-- the descriptors of each list: the superblock is in that of class 20
abbrev in_class : ℕ → List ℕ
in_class list = cond (nat_eq list 20) (0 ∷ []) []

which_class : (list : ℕ) → ((list ≡ 20) × (in_class list ≡ 0 ∷ [])) ⊎ ((list ≢ 20) × (in_class list ≡ []))
which_class list = elim (cases_eq list 20) [
  | inl same ↦ inl (same, cond-true (nat_eq list 20) (0 ∷ []) [] (eq-eqb list 20 same))
  | inr other ↦ inr (other, cond-false (nat_eq list 20) (0 ∷ []) [] (ne_eqb list 20 other))
]

-- no other head has a superblock
chain_head : (list : ℕ) → list < lists → list ≢ 20 → opened_chain (16 + list) ≡ 0
unfolding with_chain
chain_head list few other =
    let word : ℕ = 16 + list in
    let one : Image = put (image_with []) 2864 6448 in
    let two : Image = put one 1065 (anchor_of partial_state 1 2) in
    let three : Image = put two 1064 20 in
    let four : Image = put three 8 1 in
    with_at_other (put with_chain 3 dirty) 36 1 word (λ same. other (omega arith)) ∙ with_at_other with_chain 3 dirty word (λ same. omega arith)
    ∙ with_at_other (put (put (put four 3 clean) 2 1) 1 version) 0 magic word (λ same. omega arith)
    ∙ with_at_other (put (put four 3 clean) 2 1) 1 version word (λ same. omega arith)
    ∙ with_at_other (put four 3 clean) 2 1 word (λ same. omega arith) ∙ with_at_other four 3 clean word (λ same. omega arith)
    ∙ with_at_other three 8 1 word (λ same. omega arith) ∙ with_at_other two 1064 20 word (λ same. omega arith)
    ∙ with_at_other one 1065 (anchor_of partial_state 1 2) word (λ same. omega arith)
    ∙ with_at_other (image_with []) 2864 6448 word (λ same. omega arith)

same_inside : (word : ℕ) → word ≢ 3 → word ≢ 36 → opened_chain word ≡ with_chain word
same_inside word no_state no_head = with_at_other (put with_chain 3 dirty) 36 1 word no_head ∙ with_at_other with_chain 3 dirty word no_state

chain_is_reopened : IsReopened with_chain opened_chain (IsHeldByAnchors with_chain)
unfolding with_chain words_of_class blocks_of class_sizes
chain_is_reopened = record {
  descriptors = in_class;
  listed = λ list few. record {
    sound = λ d p. elim (which_class list) [
      | inl here ↦ elim (head_or_rest 0 d [] (subst (λ ds. Contains ds d) here.1 p)) as
          (λ _. IsListed (layout_of with_chain) (IsHeldByAnchors with_chain) list d) [
            | inl first ↦ subst (IsListed (layout_of with_chain) (IsHeldByAnchors with_chain) list) first
                (subst (λ l. IsListed (layout_of with_chain) (IsHeldByAnchors with_chain) l 0) (sym here.0) some_are_free)
            | inr later ↦ absurd (in_none d later)
          ]
      | inr other ↦ absurd (in_none d (subst (λ ds. Contains ds d) other.1 p))
    ];
    complete = λ d is.
        let at = is_listed list d is in
        subst (λ l. Contains (in_class l) d) (sym at.0) (subst (λ e. Contains (0 ∷ []) e) (sym at.1) (in_head 0 []));
    ascending = elim (which_class list) [
      | inl here ↦ subst (λ (ds : List ℕ). AllPairs (λ x y. x < y) ds) (sym here.1) (λ i j d less within. absurd (omega arith))
      | inr other ↦ subst (λ (ds : List ℕ). AllPairs (λ x y. x < y) ds) (sym other.1) (λ i j d less within. absurd (omega arith))
    ];
  };
  state = refl;
  same = λ word is. same_inside word (kept_no_state 1 word is) (λ same. kept_no_head 1 word is 20 (omega arith) same);
  heads = λ list few. elim (which_class list) [
    | inl here ↦ subst (λ l. opened_chain (16 + l) ≡ first_number (in_class l)) (sym here.0) refl
    | inr other ↦ chain_head list few other.0 ∙ subst (λ ds. 0 ≡ first_number ds) (sym other.1) refl
  ];
  links = λ list few. elim (which_class list) [
    | inl here ↦ subst (λ ds. Follows (λ d. opened_chain (link_word d)) 1 (first_number ds) ds) (sym here.1) (refl, omega arith, refl)
    | inr other ↦ subst (λ ds. Follows (λ d. opened_chain (link_word d)) 1 (first_number ds) ds) (sym other.1) refl
  ];
  unlisted = λ d below away. absurd (away 20 (omega arith) (let first : d ≡ 0 = omega arith in
      subst (λ e. Contains (0 ∷ []) e) (sym first) (in_head 0 [])));
  free = λ d free. absurd (let zeroth = (is_listed 0 d free).0 in omega arith);
  partial = λ class d is part.
      let taken = part.taken in
      let first : d ≡ 0 = omega arith in
      let info : 20 ≡ class = subst (λ e. with_chain (1064 + 8 * e) ≡ class) first part.info_is in
      record {
        info_is = subst (λ e. opened_chain (1064 + 8 * e) ≡ class) (sym first) info;
        anchor_is = subst (λ e. opened_chain (1065 + 8 * e) ≡ with_chain (1065 + 8 * e)) (sym first) refl;
      };
  full = λ class d is full.
      let taken = full.taken in
      let first : d ≡ 0 = omega arith in
      let info : class ≡ 20 = sym full.info_is ∙ subst (λ e. with_chain (1064 + 8 * e) ≡ 20) (sym first) refl in
      absurd (chained_is_not_held (full.all 1 (quarter 1) (subst (λ c. IsBlockOfClass 1 c d 1 (quarter 1)) (sym info)
      (subst (λ e. IsBlockOfClass 1 20 e 1 (quarter 1)) (sym first) (is_quarter 1 (omega arith))))));
  in_large = λ d large.
      let taken = large.taken in
      let first : d ≡ 0 = omega arith in
      absurd (large.no_class (subst (λ e. IsClass (with_chain (1064 + 8 * e))) (sym first) (record { some = omega arith; last = omega arith })));
  untaken = λ d past below. absurd (omega arith);
  inside = λ word low. same_inside word (λ same. omega arith) (λ same. omega arith);
}

-- the chain may not be turned round
chain_turns : IsReopened with_chain (put opened_chain 1065 (anchor_of partial_state 3 2)) (IsHeldByAnchors with_chain) → ⊥
unfolding with_chain
chain_turns is =
    let anchor : ◌≡◌ {A = ℕ} 17179869197 17179869189 = (is.partial 20 0 (record { some = omega arith; last = omega arith }) some_are_free).anchor_is in
    omega arith

-- nor is the superblock left in no list
class_is_empty : IsReopened with_chain (put with_chain 3 dirty) (IsHeldByAnchors with_chain) → ⊥
unfolding with_chain
class_is_empty is = by_list (is.descriptors 20) ((is.listed 20 (omega arith)).complete 0 some_are_free) (is.heads 20 (omega arith)) where
  by_list : (ds : List ℕ) → Contains ds 0 → 0 ≡ first_number ds → ⊥
  by_list [] p head = in_none 0 p
  by_list (d ∷ ds) p head = omega arith
