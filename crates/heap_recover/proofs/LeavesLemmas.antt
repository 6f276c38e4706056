-- What recovery leaves of each superblock by itself: its chain leads from each spare block to the next, and no other of its words changes.
use Rattle.std.proofs.Common.{◌≡◌, ℕ, zero, suc, ◌+◌, ◌*◌, ◌<◌, ◌≤◌, inl, inr, List, [], ◌∷◌, length, slice_index, Contains, ap, sym, subst, ◌∙◌, arith}
use Rattle.std.proofs.lemmas.Bool.{cases_lt}
use Rattle.std.proofs.lemmas.List.{get_or_default}
use Rattle.std.proofs.lemmas.List.Elements.{Contains-get_or}
use Rattle.heap_model.specs.declared.block.Block.{Block}
use Rattle.heap_model.specs.Geometry.{start_word}
use Rattle.heap_model.specs.Header.{capacity_of}
use Rattle.heap_model.specs.Image.{Image}
use Rattle.heap_model.specs.Sizes.{words_of_class}
use Rattle.heap_model.specs.Blocks.{Layout, layout_of}
use Rattle.heap_model.specs.Recovered.{AreAscending}
use Rattle.heap_model.specs.Recovery.{IsSpare, IsRecovered, but_last}
use Rattle.heap_model.specs.Chains.{Walks}
use Rattle.heap_recover.specs.Superblock.{IsNextSpare, IsRelinked, LeavesSuperblock}
use Rattle.heap_at_rest.proofs.PartLemmas.{class_inside}
use Rattle.heap_recover.proofs.SuperblockLemmas.{but_last_in}

-- along a walk each first word leads to the next
walk_step : (next : ℕ → ℕ) (bs : List ℕ) (from : ℕ) → Walks next from bs → (j : ℕ) → suc j < length bs
    → next (slice_index bs j) ≡ slice_index bs (suc j)
walk_step next [] from walks j below = absurd (omega arith)
walk_step next (b ∷ []) from walks j below = absurd (omega arith)
walk_step next (b ∷ c ∷ cs) from walks zero below = walks.1.0
walk_step next (b ∷ c ∷ cs) from walks (suc j) below = walk_step next (c ∷ cs) (next b) walks.1 j (omega arith)

-- where a member of all but the last stands
pub record IsBeforeLast (xs : List ℕ) (w : ℕ) : Type 0 where
  pub index : ℕ
  pub below : suc index < length xs
  pub is : slice_index xs index ≡ w

before_last : (xs : List ℕ) (w : ℕ) → Contains (but_last xs) w → IsBeforeLast xs w
before_last [] w has = absurd (omega (arith, has.1))
before_last (x ∷ []) w has = absurd (omega (arith, has.1))
before_last (x ∷ y ∷ ys) w (zero, below, is) = record { index = 0; below = omega arith; is = is }
before_last (x ∷ y ∷ ys) w (suc k, below, is) =
    let rest = before_last (y ∷ ys) w (k, omega arith, is) in
    record { index = suc rest.index; below = (let inside = rest.below in omega arith); is = rest.is }

-- in an ascending list of the spares, the one behind a spare is its next
module _ (l : Layout) (kept : Block → Type 0) (class d : ℕ) (chain : List ℕ) (are : AreAscending (λ w. w) (IsSpare l kept class d) chain) where
  at : (i : ℕ) → i < length chain → IsSpare l kept class d (slice_index chain i)
  at i below = are.sound (slice_index chain i) (Contains-get_or chain i 0 below)

  index_of : (w : ℕ) → IsSpare l kept class d w → (i : ℕ) × (i < length chain) × (slice_index chain i ≡ w)
  index_of w spare = let has = are.complete w spare in (has.0, has.1, get_or_default chain has.0 0 w has.1 ∙ has.2)

  -- a smaller spare stands before
  before : (i j : ℕ) → i < length chain → slice_index chain i < slice_index chain j → i < j
  before i j in_i less = elim (cases_lt i j) as (λ _. i < j) [
    | inl first ↦ first
    | inr past ↦ elim (cases_lt j i) as (λ _. i < j) [
      | inl behind ↦ absurd (let up = are.ascending j i 0 behind in_i in omega arith)
      | inr same ↦ absurd (let e = ap (slice_index chain) (omega arith) in let both : slice_index chain i ≡ slice_index chain j = e in omega arith)
    ]
  ]

  next_at : (i : ℕ) → suc i < length chain → IsNextSpare l kept class d (slice_index chain i) (slice_index chain (suc i))
  next_at i below = record {
    spare = at i (omega arith);
    is_next = at (suc i) below;
    behind = are.ascending i (suc i) 0 (omega arith) below;
    least = λ v spare less.
        let found = index_of v spare in
        let later = before i found.0 (omega arith) (subst (λ x. slice_index chain i < x) (sym found.2) less) in
        elim (cases_lt (suc i) found.0) as (λ _. slice_index chain (suc i) ≤ v) [
          | inl more ↦ let up = are.ascending (suc i) found.0 0 more found.1 in omega (arith, found.2)
          | inr here ↦ let same : suc i ≡ found.0 = omega arith in let e = ap (slice_index chain) same in omega (arith, found.2)
        ];
  }

  -- so the next of the spare at an index is the one behind it
  next_is : (w next : ℕ) → IsNextSpare l kept class d w next → (i : ℕ) × (suc i < length chain) × (slice_index chain i ≡ w)
      × (slice_index chain (suc i) ≡ next)
  next_is w next is =
      let here = index_of w is.spare in
      let there = index_of next is.is_next in
      let later = before here.0 there.0 here.1 (let behind = is.behind in omega (arith, here.2, there.2)) in
      let inside : suc here.0 < length chain = let low = there.1 in omega arith in
      let follows = next_at here.0 inside in
      let first = follows.least next is.is_next (let behind = is.behind in omega (arith, here.2)) in
      let second = is.least (slice_index chain (suc here.0)) follows.is_next (let behind = follows.behind in omega (arith, here.2)) in
      (here.0, inside, here.2, omega arith)

pub leaves_superblock : (old new : Image) (kept : Block → Type 0) → IsRecovered old new kept → (d : ℕ) → LeavesSuperblock old new kept d
leaves_superblock old new kept recovered d = record { relinked = relinked; others = others } where
  relinked : (w next : ℕ) → IsRelinked (layout_of old) kept d w next → new w ≡ next
  relinked w next is =
      let chain = recovered.chains d in
      let found = next_is (layout_of old) kept is.class d chain (recovered.chained is.class d is.is_class is.partial) w next is.next_spare in
      let rechained = recovered.partial is.class d is.is_class is.partial in
      ap new (sym found.2) ∙ walk_step new chain (start_word (capacity_of old) d + rechained.first * words_of_class is.class)
      rechained.walks found.0 found.1 ∙ found.3

  others : (word : ℕ) → start_word (capacity_of old) d ≤ word → word < start_word (capacity_of old) (d + 1)
      → ((next : ℕ) → IsRelinked (layout_of old) kept d word next → ⊥) → new word ≡ old word
  others word low high unlinked = recovered.inside word (omega arith) (λ class e is_class partial linked.
      let are = recovered.chained class e is_class partial in
      let spare = are.sound word (but_last_in (recovered.chains e) word linked) in
      let inside = class_inside (capacity_of old) class e spare.index spare.block is_class spare.is_block in
      let first = spare.first in
      let same : e ≡ d = omega (arith, inside.0, inside.1, inside.2) in
      let last = before_last (recovered.chains e) word linked in
      let next = next_at (layout_of old) kept class e (recovered.chains e) are last.index last.below in
      unlinked (slice_index (recovered.chains e) (suc last.index)) (subst
      (λ i. IsRelinked (layout_of old) kept i word (slice_index (recovered.chains e) (suc last.index))) same
      (record {
        class = class;
        is_class = is_class;
        partial = partial;
        next_spare = subst (λ w. IsNextSpare (layout_of old) kept class e w (slice_index (recovered.chains e) (suc last.index))) last.is next;
      })))
