-- A block that a seat offers goes from the held ones, one that it accepts comes to them, and all others stay.
use Rattle.std.proofs.Common.{◌≡◌, ◌≢◌, ◌<◌, ◌⊎◌, ℕ, zero, suc, ◌+◌, ◌*◌, inl, inr, Bool, true, false, cond, not, nat_eq, List, [], ◌∷◌, ◌++◌, refl, ap, sym, subst, ◌∙◌, eq-eqb, ne_eqb, eqb-true, arith}
use Rattle.std.specs.Prelude.{Contains}
use Rattle.std.proofs.lemmas.Bool.{cases_eq, cases_lt}
use Rattle.std.proofs.lemmas.List.Elements.{Contains-append_cases}
use Rattle.heap_model.proofs.MemberLemmas.{head_or_rest, in_none}
use Rattle.heap_model.specs.declared.block.Block.{Block}
use Rattle.heap_model.specs.Blocks.{IsIn}
use Rattle.heap_model.specs.Counting.{one_if, times}
use Rattle.heap_model.specs.Geometry.{start_word, superblock_words, superblock_of}
use Rattle.heap_model.specs.Sizes.{words_of_class}
use Rattle.heap_model.proofs.PartLemmas.{same_fields}
use Rattle.core_model.specs.Carriers.{accepted, offered}
use Rattle.core_model.specs.Cells.{cell_at, data_cell}
use Rattle.core_model.specs.Effects.{span_count}
use Rattle.core_model.specs.Held.{IsHeld, a_small, a_large}
use Rattle.core_model.specs.Splitting.{chosen, chosen_lists, chosen_spans}
use Rattle.core_model.specs.View.{Setup, Span, View, of_class, times_large}
use Rattle.core_model.proofs.BothLemmas.{both_class, both_within, large_append}
use Rattle.core_model.proofs.OwnerLemmas.{in_lists_total, which_class}
use Rattle.core_model.proofs.TotalLemmas.{eq-eqb-one, ne-eqb-none}
use Rattle.heap_table.specs.Plays.{HasSoundState}
use Rattle.seat_index.specs.declared.owned.Holding.{Holding}
use Rattle.seat_index.specs.Holdings.{HoldsAlone}
use Rattle.heap_rule.proofs.HeldLemmas.{held_apart, held_placed, one_large}
use Rattle.core_model.proofs.LinkFrameLemmas.{span_covers}
use Rattle.seat_costs.specs.Words.{IsHeldWord, times_held}
use Rattle.seat_model.specs.CacheState.{held_blocks, large_blocks, small_blocks}
use Rattle.seat_model.proofs.HeldLemmas.{block_cell, word_of_block}
use Rattle.seat_model.proofs.ViewBlocks.{small_there}
use Rattle.seat_model.proofs.TakenBlocks.{as_block, word_once}
use Rattle.seat_index.specs.declared.owned.Holding.TheVariants as holding

-- blocks that are chosen stay in their class, and the others go
in_list : (test : ℕ → Bool) (n : ℕ) (xs : List ℕ) → times n (chosen test xs) ≡ cond (test n) (times n xs) 0
in_list test n [] = by_test (test n) where
  by_test : (t : Bool) → times n [] ≡ cond t (times n []) 0
  by_test true = refl
  by_test false = refl
in_list test n (x ∷ xs) = elim (cases_eq x n) as (λ _. times n (cond (test x) (x ∷ chosen test xs) (chosen test xs)) ≡ cond (test n)
    (times n (x ∷ xs)) 0) [
      | inl same ↦ here (test n) (ap test same) (in_list test n xs)
      | inr other ↦ there (test x) (in_list test n xs) (ne-eqb-none x n other)
    ] where
      here : (t : Bool) → test x ≡ t → times n (chosen test xs) ≡ cond t (times n xs) 0
          → times n (cond (test x) (x ∷ chosen test xs) (chosen test xs)) ≡ cond t (times n (x ∷ xs)) 0
      here true is rest = ap (λ t. times n (cond t (x ∷ chosen test xs) (chosen test xs))) is ∙ (let r = rest in omega arith)
      here false is rest = ap (λ t. times n (cond t (x ∷ chosen test xs) (chosen test xs))) is ∙ rest

      there : (t : Bool) → times n (chosen test xs) ≡ cond (test n) (times n xs) 0 → one_if (nat_eq x n) ≡ 0
          → times n (cond t (x ∷ chosen test xs) (chosen test xs)) ≡ cond (test n) (times n (x ∷ xs)) 0
      there true rest none = (let r : times n (x ∷ chosen test xs) ≡ times n (chosen test xs) = omega (arith, none) in r) ∙ rest
          ∙ ap (λ k. cond (test n) k 0) (let e : times n xs ≡ times n (x ∷ xs) = omega (arith, none) in e)
      there false rest none = rest ∙ ap (λ k. cond (test n) k 0) (let e : times n xs ≡ times n (x ∷ xs) = omega (arith, none) in e)

in_lists : (test : ℕ → Bool) (n class : ℕ) (xss : List (List ℕ))
    → times n (of_class (chosen_lists test xss) class) ≡ cond (test n) (times n (of_class xss class)) 0
in_lists test n class [] = in_list test n []
in_lists test n zero (xs ∷ xss) = in_list test n xs
in_lists test n (suc class) (xs ∷ xss) = in_lists test n class xss

in_spans : (test : ℕ → Bool) (d : ℕ) (spans : List Span) → span_count d (chosen_spans test spans) ≡ cond (test d) (span_count d spans) 0
in_spans test d [] = by_test (test d) where
  by_test : (t : Bool) → span_count d [] ≡ cond t (span_count d []) 0
  by_test true = refl
  by_test false = refl
in_spans test d (span ∷ spans) = elim (cases_eq span.first d) as
    (λ _. span_count d (cond (test span.first) (span ∷ chosen_spans test spans) (chosen_spans test spans)) ≡ cond (test d)
    (span_count d (span ∷ spans)) 0) [
      | inl same ↦ here (test d) (ap test same) (eq-eqb span.first d same) (in_spans test d spans)
      | inr other ↦ there (test span.first) (ne_eqb span.first d other) (in_spans test d spans)
    ] where
      here : (t : Bool) → test span.first ≡ t → nat_eq span.first d ≡ true → span_count d (chosen_spans test spans) ≡ cond t (span_count d spans) 0
          → span_count d (cond (test span.first) (span ∷ chosen_spans test spans) (chosen_spans test spans)) ≡ cond t (span_count d (span ∷ spans)) 0
      here true is at rest = ap (λ t. span_count d (cond t (span ∷ chosen_spans test spans) (chosen_spans test spans))) is
          ∙ ap (λ t. cond t span.count (span_count d (chosen_spans test spans))) at ∙ sym (ap (λ t. cond t span.count (span_count d spans)) at)
      here false is at rest = ap (λ t. span_count d (cond t (span ∷ chosen_spans test spans) (chosen_spans test spans))) is ∙ rest

      there : (t : Bool) → nat_eq span.first d ≡ false → span_count d (chosen_spans test spans) ≡ cond (test d) (span_count d spans) 0
          → span_count d (cond t (span ∷ chosen_spans test spans) (chosen_spans test spans)) ≡ cond (test d) (span_count d (span ∷ spans)) 0
      there true at rest = ap (λ t. cond t span.count (span_count d (chosen_spans test spans))) at ∙ rest
          ∙ ap (λ k. cond (test d) k 0) (sym (ap (λ t. cond t span.count (span_count d spans)) at))
      there false at rest = rest ∙ ap (λ k. cond (test d) k 0) (sym (ap (λ t. cond t span.count (span_count d spans)) at))

-- some of a choice are some of all, by a test that holds
some_chosen : (t : Bool) (n m : ℕ) → m ≡ cond t n 0 → 0 < m → m ≡ n
some_chosen true n m is some = is
some_chosen false n m is some = absurd (omega (arith, is, some))

-- where the same is held
pub held_alike : (v u : View) → u.setup ≡ v.setup → u.small ≡ v.small → u.large ≡ v.large → (a : Block) → IsHeld v a → IsHeld u a
held_alike v u setup small large _ (a_small class x there) = a_small class x (subst (λ l. 0 < times x (of_class l class)) (sym small) there)
held_alike v u setup small large _ (a_large d n some is) = subst
    (λ (k : Setup). IsHeld u (record { first_word = start_word k.capacity d; words = superblock_words * n })) setup
    (a_large d n some (ap (span_count d) large ∙ is))

-- a seat that offers
module _ (v : View) (s : HasSoundState v) (b : Block) (held : IsHeld v b) where
  abbrev place : ℕ
  place = superblock_of v.setup.capacity b.first_word

  pub offer_keeps : (a : Block) → IsHeld (offered v b.first_word) a → IsHeld v a
  offer_keeps _ (a_small class x there) = a_small class x (let e =
      some_chosen (not (nat_eq x b.first_word)) (times x (of_class v.small class)) _
      (in_lists (λ y. not (nat_eq y b.first_word)) x class v.small) there in omega (arith, e, there))
  offer_keeps _ (a_large d n some is) = a_large d n some
      (sym (some_chosen (not (nat_eq d place)) (span_count d v.large) _ (in_spans (λ e. not (nat_eq e place)) d v.large)
      (omega (arith, is, some))) ∙ is)

  -- a block that has a word of the block is the block
  one : (a : Block) → IsHeld v a → (word : ℕ) → IsIn a word → IsIn b word → a ≡ b
  one a at word in_a in_b = let from = in_a.from in let until = in_a.until in let low = in_b.from in let high = in_b.until in
      elim (held_apart v s a b at held) as (λ _. a ≡ b) [
        | inl same ↦ same
        | inr apart ↦ elim apart as (λ _. a ≡ b) [ inl before ↦ absurd (omega arith) | inr behind ↦ absurd (omega arith) ]
      ]

  first_of : (a : Block) → IsHeld v a → IsIn a a.first_word
  first_of a at = let some = (held_placed v s a at).some in record { from = omega arith; until = omega arith }

  pub offer_only : (a : Block) → IsHeld v a → (a ≡ b) ⊎ IsHeld (offered v b.first_word) a
  offer_only _ (a_small class x there) = elim (cases_eq x b.first_word) as
      (λ _. (record { first_word = x; words = words_of_class class } ≡ b) ⊎ IsHeld (offered v b.first_word)
      (record { first_word = x; words = words_of_class class })) [
        | inl same ↦ inl (one (record { first_word = x; words = words_of_class class }) (a_small class x there) b.first_word
            (subst (IsIn (record { first_word = x; words = words_of_class class })) same
            (first_of (record { first_word = x; words = words_of_class class }) (a_small class x there))) (first_of b held))
        | inr other ↦ inr (a_small class x (subst (λ n. 0 < n) (sym (in_lists (λ y. not (nat_eq y b.first_word)) x class v.small
            ∙ ap (λ t. cond (not t) (times x (of_class v.small class)) 0) (ne_eqb x b.first_word other))) there))
      ]
  offer_only _ (a_large d n some is) = elim (cases_eq d place) as
      (λ _. (record { first_word = start_word v.setup.capacity d; words = superblock_words * n } ≡ b) ⊎ IsHeld (offered v b.first_word)
      (record { first_word = start_word v.setup.capacity d; words = superblock_words * n })) [
        | inl same ↦ inl (one (record { first_word = start_word v.setup.capacity d; words = superblock_words * n }) (a_large d n some is) b.first_word
            (let from = (held_placed v s b held).from in record { from = omega (arith, same, from); until = omega (arith, same, from, some) })
            (first_of b held))
        | inr other ↦ inr (a_large d n some (in_spans (λ e. not (nat_eq e place)) d v.large
            ∙ ap (λ t. cond (not t) (span_count d v.large) 0) (ne_eqb d place other) ∙ is))
      ]

-- it is not held then
gone_from : (v w : View) (block : ℕ) (b : Block) → w.setup ≡ v.setup → w.small ≡ chosen_lists (λ y. not (nat_eq y block)) v.small
    → w.large ≡ chosen_spans (λ e. not (nat_eq e (superblock_of v.setup.capacity block))) v.large
    → b.first_word ≡ block → IsHeld w b → ⊥
gone_from v w block _ setup small large same (a_small class x there) =
    let e = ap (λ l. times x (of_class l class)) small ∙ in_lists (λ y. not (nat_eq y block)) x class v.small
    ∙ ap (λ t. cond (not t) (times x (of_class v.small class)) 0) (eq-eqb x block same) in omega (arith, e, there)
gone_from v w block _ setup small large same (a_large d n some is) =
    let capacity = ap (λ (k : Setup). k.capacity) setup in
    let here : d ≡ superblock_of v.setup.capacity block = omega (arith, same, capacity) in
    let e = ap (span_count d) large ∙ in_spans (λ e. not (nat_eq e (superblock_of v.setup.capacity block))) d v.large
    ∙ ap (λ t. cond (not t) (span_count d v.large) 0) (eq-eqb d (superblock_of v.setup.capacity block) here) in
    omega (arith, e, is, some)

pub offer_gone : (v : View) (b : Block) → IsHeld (offered v b.first_word) b → ⊥
offer_gone v b = gone_from v (offered v b.first_word) b.first_word b refl refl refl refl

-- what a carrier holds
pub alone_held : (u : View) (b : Block) (h : Holding) → HoldsAlone u b h → IsHeld u b
alone_held u b (holding.Small class) alone =
    let there = which_class b.first_word u.small (let o = alone.once b.first_word in let e = eq-eqb-one b.first_word b.first_word refl in
    omega arith) in
    let in_class = alone.in_class there.n b.first_word there.there in
    subst (IsHeld u) (as_block b (words_of_class class) alone.is.words)
    (a_small class b.first_word (subst (λ n. 0 < times b.first_word (of_class u.small n)) in_class there.there))
alone_held u b (holding.Large d n) alone =
    subst (IsHeld u) (same_fields (record { first_word = start_word u.setup.capacity d; words = superblock_words * n }) b (sym alone.is.first)
    (sym alone.is.words))
    (a_large d n (let some = alone.is.some in omega arith) (ap (span_count d) alone.once ∙ ap (λ t. cond t n 0) (eq-eqb d d refl)))

pub alone_only : (u : View) (b : Block) (h : Holding) → HoldsAlone u b h → (a : Block) → IsHeld u a → a ≡ b
alone_only u b (holding.Small class) alone _ (a_small k x there) = same_fields (record { first_word = x; words = words_of_class k }) b
    (elim (cases_eq b.first_word x) as (λ _. x ≡ b.first_word) [
      | inl same ↦ sym same
      | inr other ↦ absurd (let o = alone.once x in let t = in_lists_total x k u.small there in let z = ne-eqb-none b.first_word x other in omega arith)
    ])
    (ap words_of_class (alone.in_class k x there) ∙ sym alone.is.words)
alone_only u b (holding.Small class) alone _ (a_large d n some is) = absurd (let e = ap (span_count d) alone.none_large in omega (arith, e, is, some))
alone_only u b (holding.Large d n) alone _ (a_small k x there) = absurd (let t = in_lists_total x k u.small there in
    let z = alone.none_small x in omega arith)
alone_only u b (holding.Large d n) alone _ (a_large e m some is) = by_test (nat_eq d e) refl (sym (ap (span_count e) alone.once) ∙ is) where
  by_test : (t : Bool) → nat_eq d e ≡ t → cond t n 0 ≡ m → record { first_word = start_word u.setup.capacity e; words = superblock_words * m } ≡ b
  by_test true same count = same_fields (record { first_word = start_word u.setup.capacity e; words = superblock_words * m }) b
      (ap (start_word u.setup.capacity) (sym (eqb-true d e same)) ∙ sym alone.is.first) (ap (λ k. superblock_words * k) (sym count)
      ∙ sym alone.is.words)
  by_test false other count = absurd (omega (arith, count, some))

-- so its list of held blocks has this one alone
pub alone_listed : (u : View) (b : Block) (h : Holding) → HoldsAlone u b h → (a : Block) → Contains (held_blocks u) a → a ≡ b
alone_listed u b h alone a c = elim (Contains-append_cases (small_blocks 0 u.small) (large_blocks u.setup.capacity u.large) a c) as (λ _. a ≡ b) [
  | inl small ↦ let there = small_there 0 u.small a small in
      alone_only u b h alone a (subst (IsHeld u) (as_block a (words_of_class there.n) (there.words
      ∙ ap words_of_class (let e : 0 + there.n ≡ there.n = omega arith in e))) (a_small there.n a.first_word there.there))
  | inr large ↦ by_holding h alone large
] where
  by_holding : (h : Holding) → HoldsAlone u b h → Contains (large_blocks u.setup.capacity u.large) a → a ≡ b
  by_holding (holding.Small class) one large = absurd (in_none a (subst (λ l. Contains (large_blocks u.setup.capacity l) a) one.none_large large))
  by_holding (holding.Large d n) one large = elim (head_or_rest (record {
    first_word = start_word u.setup.capacity d;
    words = superblock_words * n;
  }) a [] (subst (λ l. Contains (large_blocks u.setup.capacity l) a) one.once large)) as (λ _. a ≡ b) [
    | inl same ↦ sym same ∙ same_fields (record { first_word = start_word u.setup.capacity d; words = superblock_words * n }) b
        (sym one.is.first) (sym one.is.words)
    | inr none ↦ absurd (in_none a none)
  ]

-- a word of it is one of the carrier's
pub alone_word : (v u : View) (b : Block) (h : Holding) → HoldsAlone u b h → u.setup.capacity ≡ v.setup.capacity → HasSoundState v → IsHeld v b
    → (word : ℕ) → IsIn b word → IsHeldWord u word
alone_word v u b h alone capacity s held word within = subst (λ cell. 0 < times_held u cell)
    (sym (ap (λ n. cell_at n word) capacity ∙ block_cell v s b held word within)) (word_of_block u b (alone_held u b h alone) word within)

-- of two lists of spans the first that tells of a superblock counts
first_counts : (d : ℕ) (xs ys : List Span) → 0 < span_count d xs → span_count d (xs ++ ys) ≡ span_count d xs
first_counts d [] ys some = absurd (omega (arith, some))
first_counts d (x ∷ xs) ys some = by_test (nat_eq x.first d) (first_counts d xs ys) some where
  by_test : (t : Bool) → (0 < span_count d xs → span_count d (xs ++ ys) ≡ span_count d xs) → 0 < cond t x.count (span_count d xs)
      → cond t x.count (span_count d (xs ++ ys)) ≡ cond t x.count (span_count d xs)
  by_test true rest here = refl
  by_test false rest later = rest later

either_counts : (d : ℕ) (xs ys : List Span) → (span_count d (xs ++ ys) ≡ span_count d xs) ⊎ (span_count d (xs ++ ys) ≡ span_count d ys)
either_counts d [] ys = inr refl
either_counts d (x ∷ xs) ys = by_test (nat_eq x.first d) (either_counts d xs ys) where
  by_test : (t : Bool) → (span_count d (xs ++ ys) ≡ span_count d xs) ⊎ (span_count d (xs ++ ys) ≡ span_count d ys)
      → (cond t x.count (span_count d (xs ++ ys)) ≡ cond t x.count (span_count d xs)) ⊎ (cond t x.count (span_count d (xs ++ ys)) ≡ span_count d ys)
  by_test true rest = inl refl
  by_test false rest = rest

-- a seat that accepts
module _ (v u : View) (b : Block) (h : Holding) (alone : HoldsAlone u b h) (capacity : u.setup.capacity ≡ v.setup.capacity)
    (s : HasSoundState v) (after : HasSoundState (accepted v u)) where
  abbrev w : View
  w = accepted v u

  words_both : (word : ℕ) → times_held w (data_cell word) ≡ times_held v (data_cell word) + times_held u (data_cell word)
  words_both word = let s = both_within word 0 u.small v.small in let l = large_append (superblock_of v.setup.capacity word) u.large v.large in
      let p = ap (λ n. times_large (superblock_of n word) u.large) capacity in omega arith

  pub accept_new : IsHeld v b → ⊥
  accept_new held =
      let some = (held_placed v s b held).some in let first : IsIn b b.first_word = record { from = omega arith; until = omega arith } in
      let mine = word_of_block v b held b.first_word first in let theirs = word_of_block u b (alone_held u b h alone) b.first_word first in
      let sum = words_both b.first_word in let once = word_once w after b.first_word in omega arith

  -- what either holds is held
  theirs_too : (a : Block) → IsHeld u a → IsHeld w a
  theirs_too _ (a_small class x there) = a_small class x (let e = both_class x class u.small v.small in omega arith)
  theirs_too _ (a_large d n some is) = subst (λ c. IsHeld w (record { first_word = start_word c d; words = superblock_words * n }))
      (sym capacity) (a_large d n some (first_counts d u.large v.large (omega (arith, is, some)) ∙ is))

  pub accept_has : IsHeld w b
  accept_has = theirs_too b (alone_held u b h alone)

  pub accept_keeps : (a : Block) → IsHeld v a → IsHeld w a
  accept_keeps _ (a_small class x there) = a_small class x (let e = both_class x class u.small v.small in omega arith)
  accept_keeps _ (a_large d n some is) = a_large d n some (by_holding h alone) where
    by_holding : (h : Holding) → HoldsAlone u b h → span_count d (u.large ++ v.large) ≡ n
    by_holding (holding.Small class) theirs = ap (λ l. span_count d (l ++ v.large)) theirs.none_large ∙ is
    by_holding (holding.Large e m) theirs = ap (λ l. span_count d (l ++ v.large)) theirs.once
        ∙ ap (λ t. cond t m (span_count d v.large)) (ne_eqb e d other) ∙ is where
          other : e ≢ d
          other same =
              let counted : span_count d u.large ≡ m = ap (span_count d) theirs.once ∙ ap (λ t. cond t m 0) (eq-eqb e d same) in
              let more = theirs.is.some in
              let two = span_covers d d u.large (omega (arith, counted, more)) (omega arith) (omega (arith, counted, more)) in
              let one = span_covers d d v.large (omega (arith, is, some)) (omega arith) (omega (arith, is, some)) in
              let sum = large_append d u.large v.large in let once = one_large w after d in omega arith

  pub accept_only : (a : Block) → IsHeld w a → (a ≡ b) ⊎ IsHeld v a
  accept_only _ (a_small class x there) = elim (cases_lt 0 (times x (of_class u.small class))) as
      (λ _. (record { first_word = x; words = words_of_class class } ≡ b) ⊎ IsHeld v (record { first_word = x; words = words_of_class class })) [
        | inl theirs ↦ inl (alone_only u b h alone (record { first_word = x; words = words_of_class class }) (a_small class x theirs))
        | inr none ↦ inr (a_small class x (let e = both_class x class u.small v.small in omega arith))
      ]
  accept_only _ (a_large d n some is) = elim (either_counts d u.large v.large) as
      (λ _. (record { first_word = start_word v.setup.capacity d; words = superblock_words * n } ≡ b) ⊎ IsHeld v
      (record { first_word = start_word v.setup.capacity d; words = superblock_words * n })) [
        | inl theirs ↦ inl (subst (λ c. record { first_word = start_word c d; words = superblock_words * n } ≡ b) capacity
            (alone_only u b h alone (record { first_word = start_word u.setup.capacity d; words = superblock_words * n })
            (a_large d n some (sym theirs ∙ is))))
        | inr mine ↦ inr (a_large d n some (sym mine ∙ is))
      ]
