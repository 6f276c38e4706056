-- Blocks in order: which of them a superblock has.
use Rattle.std.proofs.Common.{◌≡◌, ℕ, zero, suc, ◌+◌, ◌-◌, ◌<◌, ◌≤◌, Bool, true, false, cond, nat_lt, ◌&&◌, List, [], ◌∷◌, length, slice_index, get_or, take, drop, Option, Some, None, ◌≢◌, refl, sym, ap, ◌∙◌, subst, arith, inl, inr}
use Rattle.std.specs.List.{filter, find, AllWithin}
use Rattle.std.specs.Option.{option_map_or}
use Rattle.std.specs.List.Sorted.{IsNonDecreasingBy}
use Rattle.std.proofs.lemmas.Bool.{cond-true, cond-false, cases_lt, lt-ltb, le-ltb, le-leb, lt-leb}
use Rattle.std.proofs.lemmas.List.Elements.{Contains-get_or}
use Rattle.heap_model.specs.declared.block.Block.{Block}
use Rattle.heap_model.specs.Blocks.{AreOneOrApart, layout_of}
use Rattle.heap_model.specs.Geometry.{start_word}
use Rattle.heap_model.specs.Rest.{IsReady}
use Rattle.heap_model.proofs.BlockLemmas.{never_overlap}
use Rattle.trace_text.specs.HeapMap.{AreInOrder, begins_in, reaches_into, begun_in, first_of}

-- blocks that are one or apart, of which one begins before the other
ends_before : (a b : Block) → AreOneOrApart a b → a.first_word < b.first_word → a.first_word + a.words ≤ b.first_word
ends_before a b (inl same) less = let at = ap (λ (x : Block). x.first_word) same in absurd (omega arith)
ends_before a b (inr (inl before)) less = before
ends_before a b (inr (inr behind)) less = absurd (omega arith)

-- the held blocks of a heap at rest are in order
pub ready_in_order : (words : List ℕ) (held : List Block) → IsReady words held → AreInOrder held
ready_in_order words held ready i j d low high =
    let a = get_or held i d in
    let b = get_or held j d in
    ends_before a b
    (never_overlap (layout_of (slice_index words)) a b (ready.blocks a (Contains-get_or held i d (omega arith)))
    (ready.blocks b (Contains-get_or held j d high)))
    (ready.ascending i j d low high)

-- their first words do not fall
pub first_words_rise : (held : List Block) → AreInOrder held → IsNonDecreasingBy (λ (b : Block). b.first_word) held
first_words_rise held order i j d low high =
    elim (cases_lt i j) as (λ _. (get_or held i d).first_word ≤ (get_or held j d).first_word) [
      | inl less ↦ let before = order i j d less high in omega arith
      | inr most ↦ let same : i ≡ j = omega arith in subst (λ k. (get_or held i d).first_word ≤ (get_or held k d).first_word) same (omega arith)
    ]

-- no fewer begin before a later word
pub counts_rise : (held : List Block) (m n i j : ℕ) → m ≤ n → i ≤ length held
    → AllWithin (λ (b : Block). b.first_word < m) held 0 i → AllWithin (λ (b : Block). n ≤ b.first_word) held j (length held) → i ≤ j
counts_rise held m n i j less within before behind =
    elim (cases_lt j i) as (λ _. i ≤ j) [
      | inl fewer ↦
          let none : Block = record { first_word = 0; words = 0 } in
          let low = before j none (omega arith) fewer in
          let high = behind j none (omega arith) (omega arith) in
          absurd (omega arith)
      | inr most ↦ most
    ]

-- a filter that keeps the elements of one stretch
pub filter_between : (p : Block → Bool) (xs : List Block) (from count : ℕ) → from + count ≤ length xs
    → ((k : ℕ) (d : Block) → k < from → p (get_or xs k d) ≡ false)
    → ((k : ℕ) (d : Block) → from ≤ k → k < from + count → p (get_or xs k d) ≡ true)
    → ((k : ℕ) (d : Block) → from + count ≤ k → k < length xs → p (get_or xs k d) ≡ false)
    → filter p xs ≡ take count (drop from xs)
filter_between p [] zero zero short before within behind = refl
filter_between p [] zero (suc count) short before within behind = absurd (omega arith)
filter_between p [] (suc from) count short before within behind = absurd (omega arith)
filter_between p (x ∷ xs) zero zero short before within behind =
    cond-false (p x) (x ∷ filter p xs) (filter p xs) (behind zero x (omega arith) (omega arith))
    ∙ filter_between p xs zero zero (omega arith) (λ k d low. absurd (omega arith)) (λ k d low high. absurd (omega arith))
    (λ k d low high. behind (suc k) d (omega arith) (omega arith))
filter_between p (x ∷ xs) zero (suc count) short before within behind =
    cond-true (p x) (x ∷ filter p xs) (filter p xs) (within zero x (omega arith) (omega arith))
    ∙ ap (λ (l : List Block). x ∷ l) (filter_between p xs zero count (omega arith) (λ k d low. absurd (omega arith))
    (λ k d low high. within (suc k) d (omega arith) (omega arith))
    (λ k d low high. behind (suc k) d (omega arith) (omega arith)))
filter_between p (x ∷ xs) (suc from) count short before within behind =
    cond-false (p x) (x ∷ filter p xs) (filter p xs) (before zero x (omega arith))
    ∙ filter_between p xs from count (omega arith) (λ k d low. before (suc k) d (omega arith))
    (λ k d low high. within (suc k) d (omega arith) (omega arith))
    (λ k d low high. behind (suc k) d (omega arith) (omega arith))

-- a search that no element passes, and one that a single element may pass
pub find_none : (p : Block → Bool) (xs : List Block) → ((k : ℕ) (d : Block) → k < length xs → p (get_or xs k d) ≡ false) → find p xs ≡ None
find_none p [] fails = refl
find_none p (x ∷ xs) fails =
    cond-false (p x) (Some x) (find p xs) (fails zero x (omega arith)) ∙ find_none p xs (λ k d high. fails (suc k) d (omega arith))

pub find_only : (p : Block → Bool) (xs : List Block) (at : ℕ) (d : Block) → at < length xs
    → ((k : ℕ) (e : Block) → k < length xs → k ≢ at → p (get_or xs k e) ≡ false)
    → find p xs ≡ cond (p (get_or xs at d)) (Some (get_or xs at d)) None
find_only p [] at d within others = absurd (omega arith)
find_only p (x ∷ xs) zero d within others =
    ap (λ (o : Option Block). cond (p x) (Some x) o) (find_none p xs (λ k e high. others (suc k) e (omega arith) (λ same. omega arith)))
find_only p (x ∷ xs) (suc at) d within others =
    cond-false (p x) (Some x) (find p xs) (others zero x (omega arith) (λ same. omega arith))
    ∙ find_only p xs at d (omega arith) (λ k e high other. others (suc k) e (omega arith) (λ same. other (omega arith)))

-- tests on one block
and_false : (t : Bool) → (t && false) ≡ false
and_false true = refl
and_false false = refl

pub both : (s t : Bool) → s ≡ true → t ≡ true → (s && t) ≡ true
both s t first second = rw (first, second) refl

pub second_fails : (s t : Bool) → t ≡ false → (s && t) ≡ false
second_fails s t fails = ap (λ x. s && x) fails ∙ and_false s

pub first_fails : (s t : Bool) → s ≡ false → (s && t) ≡ false
first_fails s t fails = ap (λ x. x && t) fails

-- the held blocks that begin in a superblock are those between two counts
pub begun_between : (capacity d : ℕ) (held : List Block) (from until : ℕ) → from ≤ until → until ≤ length held
    → AllWithin (λ (b : Block). b.first_word < start_word capacity d) held 0 from
    → AllWithin (λ (b : Block). start_word capacity d ≤ b.first_word) held from (length held)
    → AllWithin (λ (b : Block). b.first_word < start_word capacity (d + 1)) held 0 until
    → AllWithin (λ (b : Block). start_word capacity (d + 1) ≤ b.first_word) held until (length held)
    → take (until - from) (drop from held) ≡ filter (begins_in capacity d) held
begun_between capacity d held from until order within before behind under over =
    sym (filter_between (begins_in capacity d) held from (until - from) (omega arith)
    (λ k e low. first_fails _ _ (lt-leb _ _ (before k e (omega arith) low)))
    (λ k e low high. both _ _ (le-leb _ _ (behind k e low (omega arith))) (lt-ltb _ _ (under k e (omega arith) (omega arith))))
    (λ k e low high. second_fails _ _ (le-ltb _ _ (over k e (omega arith) high))))

-- no held block begins before the superblock
pub first_of-none : (capacity d : ℕ) (held : List Block)
    → AllWithin (λ (b : Block). start_word capacity d ≤ b.first_word) held 0 (length held) → first_of capacity d held ≡ 0
first_of-none capacity d held behind =
    ap (λ (o : Option Block). option_map_or (begun_in capacity) o 0)
    (find_none (reaches_into capacity d) held (λ k e high. first_fails _ _ (le-ltb _ _ (behind k e (omega arith) high))))

-- a number that is at least another less one, and not that, is at least the other
lt_from_ne : (count k : ℕ) → count - 1 ≤ k → k ≢ count - 1 → count ≤ k
lt_from_ne count k low other = omega arith

-- the last held block that begins before the superblock is the one that may go on into it
last_reaches : (capacity d : ℕ) (held : List Block) (count : ℕ) (e : Block) → AreInOrder held → 0 < count → count ≤ length held
    → AllWithin (λ (b : Block). b.first_word < start_word capacity d) held 0 count
    → AllWithin (λ (b : Block). start_word capacity d ≤ b.first_word) held count (length held)
    → find (reaches_into capacity d) held ≡ cond (reaches_into capacity d (get_or held (count - 1) e)) (Some (get_or held (count - 1) e)) None
last_reaches capacity d held count e order some within before behind =
    find_only (reaches_into capacity d) held (count - 1) e (omega arith)
    (λ k x high other. elim (cases_lt k (count - 1)) as (λ _. reaches_into capacity d (get_or held k x) ≡ false) [
      | inl less ↦
          let ends = order k (count - 1) x less (omega arith) in
          let begins = before (count - 1) x (omega arith) (omega arith) in
          second_fails _ _ (le-ltb (start_word capacity d) _ (omega arith))
      | inr most ↦
          let above : count ≤ k = lt_from_ne count k most other in
          first_fails _ _ (le-ltb _ _ (behind k x above high))
    ])

pub first_of-some : (capacity d : ℕ) (held : List Block) (count : ℕ) (e : Block) → AreInOrder held → 0 < count → count ≤ length held
    → AllWithin (λ (b : Block). b.first_word < start_word capacity d) held 0 count
    → AllWithin (λ (b : Block). start_word capacity d ≤ b.first_word) held count (length held)
    → start_word capacity d - (get_or held (count - 1) e).first_word < (get_or held (count - 1) e).words
    → first_of capacity d held ≡ begun_in capacity (get_or held (count - 1) e)
first_of-some capacity d held count e order some within before behind reaches =
    let b = get_or held (count - 1) e in
    let first = before (count - 1) e (omega arith) (omega arith) in
    let test = both (nat_lt b.first_word (start_word capacity d)) (nat_lt (start_word capacity d) (b.first_word + b.words)) (lt-ltb _ _ first)
    (lt-ltb _ _ (omega arith)) in
    ap (λ (o : Option Block). option_map_or (begun_in capacity) o 0)
    (last_reaches capacity d held count e order some within before behind ∙ cond-true (reaches_into capacity d b) (Some b) None test)

pub first_of-other : (capacity d : ℕ) (held : List Block) (count : ℕ) (e : Block) → AreInOrder held → 0 < count → count ≤ length held
    → AllWithin (λ (b : Block). b.first_word < start_word capacity d) held 0 count
    → AllWithin (λ (b : Block). start_word capacity d ≤ b.first_word) held count (length held)
    → (get_or held (count - 1) e).words ≤ start_word capacity d - (get_or held (count - 1) e).first_word
    → first_of capacity d held ≡ 0
first_of-other capacity d held count e order some within before behind short =
    let b = get_or held (count - 1) e in
    let first = before (count - 1) e (omega arith) (omega arith) in
    let test = second_fails (nat_lt b.first_word (start_word capacity d)) (nat_lt (start_word capacity d) (b.first_word + b.words))
    (le-ltb _ _ (omega arith)) in
    ap (λ (o : Option Block). option_map_or (begun_in capacity) o 0)
    (last_reaches capacity d held count e order some within before behind ∙ cond-false (reaches_into capacity d b) (Some b) None test)
