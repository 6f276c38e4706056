-- The chain of a partial superblock, as it is walked.
use Rattle.std.proofs.Common.{◌≡◌, ◌≢◌, ℕ, ◌+◌, ◌<◌, ◌≤◌, inl, inr, Bool, true, false, List, [], ◌∷◌, ◌++◌, set, length, get_or, replicate, Contains, refl, ap, sym, subst, ◌∙◌, arith, length-append}
use Rattle.std.specs.Prelude.{AllPairs}
use Rattle.std.proofs.lemmas.Bool.{cases_order}
use Rattle.std.proofs.lemmas.List.Elements.{Contains-get_or, Contains-append_right, Contains-push_cases}
use Rattle.std.proofs.lemmas.List.Quantifiers.{all_pairs_push}
use Rattle.heap_model.specs.Geometry.{anchor_word, largest_capacity_fits}
use Rattle.heap_model.specs.Image.{Image}
use Rattle.heap_model.specs.Header.{capacity_of}
use Rattle.heap_model.specs.Sizes.{IsClass, words_of_class, blocks_of}
use Rattle.heap_model.specs.Words.{anchor_state, anchor_first, anchor_count, empty_state, partial_state, full_anchor}
use Rattle.heap_model.specs.Recovered.{IsBlockOfClass}
use Rattle.heap_model.specs.Chains.{Walks, after}
use Rattle.heap_model.proofs.BlockLemmas.{block_step}
use Rattle.heap_model.proofs.SizeLemmas.{two_words, blocks_fit}
use Rattle.heap_model.proofs.MemberLemmas.{in_none, in_head, head_or_rest, order_head, order_rest}
use Rattle.heap_at_rest.specs.Orderly.{HasOrderlyAnchor, all_free, none_free, some_free}
use Rattle.quick_recover.specs.Anchored.{IsReadable, AreMarks, block_word, AreDifferentBlocks, IsChainTo, HasChain, HasNoChain, IsToldBy, by_chain}
use Rattle.quick_recover.proofs.MarkLemmas.{marks_none, marks_push}

-- one more block
walks_push : (next : ℕ → ℕ) (from : ℕ) (seen : List ℕ) → Walks next from seen → Walks next from (seen ++ after next from seen ∷ [])
walks_push next from [] walks = (refl, tt)
walks_push next from (b ∷ bs) walks = (walks.0, walks_push next (next b) bs walks.1)

after_push : (next : ℕ → ℕ) (from : ℕ) (seen : List ℕ) (x : ℕ) → after next from (seen ++ x ∷ []) ≡ next x
after_push next from [] x = refl
after_push next from (b ∷ bs) x = after_push next (next b) bs x

-- a longer walk goes on from there
walks_on : (next : ℕ → ℕ) (from : ℕ) (seen bs : List ℕ) → Walks next from seen → Walks next from bs → length seen < length bs → (rest : List ℕ)
    × (bs ≡ seen ++ (after next from seen ∷ rest))
walks_on next from [] [] seen_walks walks less = absurd (omega arith)
walks_on next from [] (b ∷ bs) seen_walks walks less = (bs, ap (λ x. x ∷ bs) (sym walks.0))
walks_on next from (x ∷ seen) [] seen_walks walks less = absurd (omega arith)
walks_on next from (x ∷ seen) (b ∷ bs) seen_walks walks less =
    let same : b ≡ x = sym walks.0 ∙ seen_walks.0 in
    let rest = walks_on next (next x) seen bs seen_walks.1 (subst (λ y. Walks next (next y) bs) same walks.1) (omega arith) in
    (rest.0, ap (λ y. y ∷ bs) same ∙ ap (λ ys. x ∷ ys) rest.1)

-- different numbers, and one more
different_push : (xs : List ℕ) (x : ℕ) → AllPairs (λ a b. a ≢ b) xs → (Contains xs x → ⊥) → AllPairs (λ a b. a ≢ b) (xs ++ x ∷ [])
different_push xs x old new = all_pairs_push (λ a b. a ≢ b) xs x old
    (λ k d below same. new (subst (λ y. Contains xs y) same (Contains-get_or xs k d below)))

-- with one that stands before it they are not different
not_different : (xs : List ℕ) (x : ℕ) (rest : List ℕ) → AllPairs (λ a b. a ≢ b) (xs ++ x ∷ rest) → Contains xs x → ⊥
not_different [] x rest pairs p = in_none x p
not_different (y ∷ xs) x rest pairs p = elim (head_or_rest y x xs p) as (λ _. ⊥) [
  | inl same ↦ order_head (λ a b. a ≢ b) y x (xs ++ x ∷ rest) pairs (Contains-append_right xs (x ∷ rest) x (in_head x rest)) same
  | inr later ↦ not_different xs x rest (order_rest (λ a b. a ≢ b) y (xs ++ x ∷ rest) pairs) later
]

-- blocks of one first word have one index
pub one_index : (capacity class d m n : ℕ) → IsClass class → block_word capacity class d m ≡ block_word capacity class d n → m ≡ n
one_index capacity class d m n is same = elim (cases_order m n) as (λ _. m ≡ n) [
  | inl equal ↦ equal
  | inr two ↦ elim two as (λ _. m ≡ n) [
    | inl less ↦ absurd (omega (arith, block_step m n (words_of_class class) less, two_words class is))
    | inr more ↦ absurd (omega (arith, block_step n m (words_of_class class) more, two_words class is))
  ]
]

-- a block lies in the image
pub block_inside : (words : List ℕ) (capacity used class d index : ℕ) → IsReadable words capacity used → IsClass class → d < capacity
    → index < blocks_of class
    → (block_word capacity class d index < length words) × (block_word capacity class d index < 33589288)
block_inside words capacity used class d index readable is less below =
    let step = block_step index (blocks_of class) (words_of_class class) below in
    let fit = blocks_fit class is in
    let long = readable.formed.length_is in
    let small = readable.formed.small in
    let same = readable.capacity_is in
    let some = two_words class is in
    (omega (arith, largest_capacity_fits), omega (arith, largest_capacity_fits))

module _ (image : Image) (capacity class d from : ℕ) (is : IsClass class) where
  -- nothing walked yet
  pub chain_none : (marks : List Bool) → marks ≡ replicate (blocks_of class) false → IsChainTo image capacity class d from 0 from marks
  chain_none marks are = record {
    seen = [];
    long = refl;
    walks = tt;
    leads = refl;
    are = record { blocks = λ b p. absurd (in_none b p); different = λ i j d less within. absurd (omega arith) };
    marked = marks_none (block_word capacity class d) (blocks_of class) marks are;
  }

  -- one more block
  pub chain_push : (count to index next : ℕ) (marks new : List Bool) → IsChainTo image capacity class d from count to marks
      → index < blocks_of class → to ≡ block_word capacity class d index
      → get_or marks index false ≡ false → new ≡ set marks index true → next ≡ image to → IsChainTo image capacity class d from (count + 1) next new
  chain_push count to index next marks new old below here unmarked are next_is = record {
    seen = old.seen ++ block_word capacity class d index ∷ [];
    long = length-append old.seen (block_word capacity class d index ∷ []) ∙ ap (λ n. n + 1) old.long;
    walks = subst (λ w. Walks image from (old.seen ++ w ∷ [])) (old.leads ∙ here) (walks_push image from old.seen old.walks);
    leads = after_push image from old.seen (block_word capacity class d index) ∙ ap image (sym here) ∙ sym next_is;
    are = record {
      blocks = λ b p. elim (Contains-push_cases old.seen (block_word capacity class d index) b p) [
        | inl before ↦ old.are.blocks b before
        | inr same ↦ (index, record { below = below; at = sym same; size = refl })
      ];
      different = different_push old.seen (block_word capacity class d index) old.are.different (λ p. old.marked.unmarked index below unmarked p);
    };
    marked = marks_push (block_word capacity class d) old.seen (blocks_of class) index marks new are below
        (λ m less same. one_index capacity class d index m is same) old.marked;
  }

  -- what a longer chain of different blocks has next: a block that it did not have before
  pub chain_on : (count to n : ℕ) (marks : List Bool) → IsChainTo image capacity class d from count to marks → count < n
      → ((index : ℕ) → index < blocks_of class → to ≡ block_word capacity class d index → get_or marks index false ≡ false → ⊥)
      → (chain : List ℕ) → length chain ≡ n → Walks image from chain → AreDifferentBlocks capacity class d chain → ⊥
  chain_on count to n marks old less none chain long walks are =
      let longer : length old.seen < length chain = let seen_long = old.long in omega arith in
      let on = walks_on image from old.seen chain old.walks walks longer in
      let whole : chain ≡ old.seen ++ to ∷ on.0 = on.1 ∙ ap (λ w. old.seen ++ w ∷ on.0) old.leads in
      let block = are.blocks to (subst (λ ws. Contains ws to) (sym whole) (Contains-append_right old.seen (to ∷ on.0) to (in_head to on.0))) in
      none block.0 block.1.below block.1.at (unmarked block.0 (get_or marks block.0 false) refl block.1.below block.1.at
      on.0 (subst (λ ws. AllPairs (λ a b. a ≢ b) ws) whole are.different))
    where
      unmarked : (index : ℕ) (mark : Bool) → get_or marks index false ≡ mark → index < blocks_of class → to ≡ block_word capacity class d index
          → (rest : List ℕ) → AllPairs (λ a b. a ≢ b) (old.seen ++ to ∷ rest) → get_or marks index false ≡ false
      unmarked index true is_true below at rest pairs = absurd (not_different old.seen to rest pairs
          (subst (λ w. Contains old.seen w) (sym at) (old.marked.marked index below is_true)))
      unmarked index false is_false below at rest pairs = is_false

  -- so there is none
  pub chain_never : (first count to n : ℕ) (marks : List Bool) → from ≡ block_word capacity class d first
      → IsChainTo image capacity class d from count to marks → count < n
      → ((index : ℕ) → index < blocks_of class → to ≡ block_word capacity class d index → get_or marks index false ≡ false → ⊥)
      → HasNoChain image capacity class d first n
  chain_never first count to n marks from_is old less none = record {
    never = λ chain some not_all long walks are. chain_on count to n marks old less none chain long
        (subst (λ w. Walks image w chain) (sym from_is) walks) are;
  }

  -- all blocks of the chain
  pub chain_end : (first count to n : ℕ) (marks : List Bool) → from ≡ block_word capacity class d first
      → IsChainTo image capacity class d from count to marks → count ≡ n → 1 ≤ n → n < blocks_of class
      → HasChain image capacity class d first n marks
  chain_end first count to n marks from_is old all some not_all = record {
    chain = old.seen;
    some = some;
    not_all = not_all;
    long = old.long ∙ all;
    walks = subst (λ w. Walks image w old.seen) from_is old.walks;
    are = old.are;
    marked = old.marked;
  }

-- the anchor of a superblock, whose parts are these
pub record HasWord (image : Image) (d state first count : ℕ) : Type 0 where
  pub state_is : anchor_state (image (anchor_word d)) ≡ state
  pub first_is : anchor_first (image (anchor_word d)) ≡ first
  pub count_is : anchor_count (image (anchor_word d)) ≡ count

module _ (image : Image) (capacity class d first count : ℕ) (same : capacity ≡ capacity_of image)
    (word : HasWord image d partial_state first count) where
  -- a chain that is there tells which blocks are free
  pub told_by_chain : (marks : List Bool) → HasChain image capacity class d first count marks → IsToldBy image class d marks
  told_by_chain marks has = by_chain has.chain (record {
    state = word.state_is;
    count = word.count_is ∙ sym has.long;
    some = let long = has.long in let some = has.some in omega arith;
    not_all = let long = has.long in let fewer = has.not_all in omega arith;
    linked = record {
      walks = subst (λ k. Walks image (block_word (capacity_of image) class d k) has.chain) (sym word.first_is)
          (subst (λ c. Walks image (block_word c class d first) has.chain) same has.walks);
      blocks = subst (λ c. (b : ℕ) → Contains has.chain b → (index : ℕ)
          × IsBlockOfClass c class d index (record { first_word = b; words = words_of_class class })) same has.are.blocks;
    };
    different = has.are.different;
  }) (subst (λ c. AreMarks (block_word c class d) has.chain (blocks_of class) marks) same has.marked)

  -- without one the anchor is none to rely on
  pub no_anchor : HasNoChain image capacity class d first count → HasOrderlyAnchor image class d → ⊥
  no_anchor none (all_free empty) = let state = word.state_is in omega arith
  no_anchor none (none_free full) = let state = word.state_is in let two : anchor_state (image (anchor_word d)) ≡ 2 = ap anchor_state full in
      omega arith
  no_anchor none (some_free chain has) =
      let long : length chain ≡ count = sym has.count ∙ word.count_is in
      none.never chain (let some = has.some in omega arith) (let fewer = has.not_all in omega arith) long
      (subst (λ c. Walks image (block_word c class d first) chain) (sym same)
      (subst (λ k. Walks image (block_word (capacity_of image) class d k) chain) word.first_is has.linked.walks))
      (record {
        blocks = subst (λ c. (b : ℕ) → Contains chain b → (index : ℕ)
            × IsBlockOfClass c class d index (record { first_word = b; words = words_of_class class })) (sym same) has.linked.blocks;
        different = has.different;
      })

-- nor is an anchor of another state that is not the full one
pub other_anchor : (image : Image) (class d : ℕ) → (anchor_state (image (anchor_word d)) ≡ empty_state → ⊥)
    → (anchor_state (image (anchor_word d)) ≡ partial_state → ⊥)
    → (image (anchor_word d) ≡ full_anchor → ⊥) → HasOrderlyAnchor image class d → ⊥
other_anchor image class d no_empty no_partial no_full (all_free empty) = no_empty empty
other_anchor image class d no_empty no_partial no_full (none_free full) = no_full full
other_anchor image class d no_empty no_partial no_full (some_free chain has) = no_partial has.state
