-- What recovery leaves, superblock by superblock: in which list each stands, and which held block takes it.
use Rattle.std.proofs.Common.{◌≡◌, ℕ, zero, suc, ◌+◌, ◌*◌, ◌<◌, ◌≤◌, ◌⊎◌, inl, inr, ◌&&◌, nat_le, nat_lt, List, Contains, refl, ap, sym, subst, ◌∙◌, arith}
use Rattle.std.proofs.lemmas.Bool.{and_parts, and_from, le-leb, lt-ltb, leb-true, ltb-true}
use Rattle.heap_model.specs.declared.block.Block.{Block}
use Rattle.heap_model.specs.Geometry.{lists, info_word, link_word, head_word, start_word, superblock_words, state_word, dirty}
use Rattle.heap_model.specs.Image.{Image}
use Rattle.heap_model.specs.Header.{capacity_of}
use Rattle.heap_model.specs.Sizes.{IsClass, words_of_class}
use Rattle.heap_model.specs.Words.{full_anchor}
use Rattle.heap_model.specs.Blocks.{Layout, layout_of, IsBlock}
use Rattle.heap_model.specs.Recovered.{HasPartIn, IsFreeSuperblock, IsBlockOfClass, AreAscending}
use Rattle.heap_model.specs.Chains.{Follows}
use Rattle.heap_model.specs.Counting.{times, total}
use Rattle.heap_model.specs.Recovery.{HoldsKept, IsSpare, IsPartial, IsFullyKept, IsInLarge, IsListed, first_number, IsKeptWord, HasInfoAndAnchor}
use Rattle.heap_model.specs.Rest.{list_numbers, large_part, IsAnchored}
use Rattle.heap_model.proofs.SizeLemmas.{two_words, four_blocks}
use Rattle.heap_model.proofs.BlockLemmas.{never_overlap}
use Rattle.heap_model.proofs.CountingLemmas.{total_none, total_some, total_once, times_none, times_some, times_once, one_if_true, one_if_false, one_if_some, is_number, number_below, numbers_ascend}
use Rattle.heap_model.proofs.PartLemmas.{TakesAll, cases_of_part}
use Rattle.heap_at_rest.proofs.PartLemmas.{long_takes}

-- a superblock in a list is free, or partial in that class
pub listed_cases : (l : Layout) (kept : Block → Type 0) (list d : ℕ) → list < lists → IsListed l kept list d
    → IsFreeSuperblock l kept d ⊎ (IsClass list × IsPartial l kept list d)
listed_cases l kept zero d less listed = inl listed
listed_cases l kept (suc c) d less listed = inr (record { some = omega arith; last = omega arith }, listed)

-- the list of a class has the partial superblocks of the class
pub listed_partial : (l : Layout) (kept : Block → Type 0) (class d : ℕ) → IsClass class → IsListed l kept class d → IsPartial l kept class d
listed_partial l kept zero d is listed = absurd (let some = is.some in omega arith)
listed_partial l kept (suc c) d is listed = listed

pub partial_listed : (l : Layout) (kept : Block → Type 0) (class d : ℕ) → IsClass class → IsPartial l kept class d → IsListed l kept class d
partial_listed l kept zero d is part = absurd (let some = is.some in omega arith)
partial_listed l kept (suc c) d is part = part

-- a free superblock is in no class, a partial one in one class with a block to spare, a fully kept one has none
pub free_not_partial : (l : Layout) (kept : Block → Type 0) (class d : ℕ) → IsFreeSuperblock l kept d → IsPartial l kept class d → ⊥
free_not_partial l kept class d free part = free.empty part.holds.block part.holds.is_kept part.holds.part

pub one_class : (l : Layout) (kept : Block → Type 0) (class other d : ℕ) → IsPartial l kept class d → IsPartial l kept other d → class ≡ other
one_class l kept class other d part part' = sym part.info_is ∙ part'.info_is

pub full_not_partial : (l : Layout) (kept : Block → Type 0) (class other d : ℕ) → IsFullyKept l kept class d → IsPartial l kept other d → ⊥
full_not_partial l kept class other d full part =
    let same : other ≡ class = sym part.info_is ∙ full.info_is in
    let spare = part.spare.1 in
    spare.unkept (full.all spare.index spare.block (subst (λ c. IsBlockOfClass l.capacity c d spare.index spare.block) same spare.is_block))

pub large_not_partial : (l : Layout) (kept : Block → Type 0) (class d : ℕ) → IsClass class → IsInLarge l kept d → IsPartial l kept class d → ⊥
large_not_partial l kept class d is large part = large.no_class (subst IsClass (sym part.info_is) is)

-- a fully kept superblock holds its first block
pub full_holds : (l : Layout) (kept : Block → Type 0) (class d : ℕ) → IsClass class → IsFullyKept l kept class d → HoldsKept l kept d
full_holds l kept class d is full =
    let some = four_blocks class is in
    let two = two_words class is in
    let first : Block = record { first_word = start_word l.capacity d; words = words_of_class class } in
    let none : 0 * words_of_class class ≡ 0 = omega arith in
    let is_first : IsBlockOfClass l.capacity class d 0 first = record { below = omega arith; at = omega arith; size = refl } in
    record { block = first; is_kept = full.all 0 first is_first; part = record { begins = omega arith; ends = omega arith } }

-- a large block with a part in a superblock counts 1 there, and no other block does
pub large_counts : (capacity d : ℕ) (b : Block) → superblock_words ≤ b.words → HasPartIn capacity b d → large_part capacity d b ≡ 1
large_counts capacity d b long part =
    one_if_true _ (and_from _ _ (le-leb 8192 b.words long) (and_from _ _ (lt-ltb b.first_word (start_word capacity (d + 1)) part.begins)
    (lt-ltb (start_word capacity d) (b.first_word + b.words) part.ends)))

pub counts_large : (capacity d : ℕ) (b : Block) → 0 < large_part capacity d b → (superblock_words ≤ b.words) × HasPartIn capacity b d
counts_large capacity d b counts =
    let tests = and_parts (nat_le 8192 b.words) (nat_lt b.first_word (start_word capacity (d + 1)) && nat_lt (start_word capacity d)
    (b.first_word + b.words)) (one_if_some _ counts) in
    let sides = and_parts (nat_lt b.first_word (start_word capacity (d + 1))) (nat_lt (start_word capacity d) (b.first_word + b.words)) tests.1 in (
      leb-true 8192 b.words tests.0,
      record {
        begins = ltb-true b.first_word (start_word capacity (d + 1)) sides.0;
        ends = ltb-true (start_word capacity d) (b.first_word + b.words) sides.1;
      },
    )

-- the list has the spare blocks of a superblock of the class, each once
pub record HasSpares (l : Layout) (kept : Block → Type 0) (class d : ℕ) (ws : List ℕ) : Type 0 where
  pub sound : (w : ℕ) → Contains ws w → IsSpare l kept class d w
  pub once : (w : ℕ) → IsSpare l kept class d w → times w ws ≡ 1

-- what an image is left as where these blocks are kept: lists, chains and anchors are right for them, in whatever order the chains are
pub record LeavesHeap (old new : Image) (kept : Block → Type 0) : Type 0 where
  pub descriptors : ℕ → List ℕ
  pub chains : ℕ → List ℕ
  pub listed : (list : ℕ) → list < lists → AreAscending (λ d. d) (IsListed (layout_of old) kept list) (descriptors list)
  pub chained : (class d : ℕ) → IsClass class → IsPartial (layout_of old) kept class d → HasSpares (layout_of old) kept class d (chains d)
  pub state : new state_word ≡ dirty
  pub same : (word : ℕ) → IsKeptWord (capacity_of old) word → new word ≡ old word
  pub heads : (list : ℕ) → list < lists → new (head_word list) ≡ first_number (descriptors list)
  pub links : (list : ℕ) → list < lists
      → Follows (λ d. new (link_word d)) (capacity_of old) (first_number (descriptors list)) (descriptors list)
  pub unlisted : (d : ℕ) → d < capacity_of old → ((list : ℕ) → list < lists → Contains (descriptors list) d → ⊥) → new (link_word d) ≡ 0
  pub free : (d : ℕ) → IsFreeSuperblock (layout_of old) kept d → HasInfoAndAnchor new d 0 0
  pub partial : (class d : ℕ) → IsClass class → IsPartial (layout_of old) kept class d
      → (new (info_word d) ≡ class) × IsAnchored new class d (chains d)
  pub full : (class d : ℕ) → IsClass class → IsFullyKept (layout_of old) kept class d → HasInfoAndAnchor new d class full_anchor
  pub in_large : (d : ℕ) → IsInLarge (layout_of old) kept d → HasInfoAndAnchor new d (old (info_word d)) full_anchor
  pub untaken : (d : ℕ) → (layout_of old).used ≤ d → d < capacity_of old → HasInfoAndAnchor new d 0 0

-- the held blocks are the kept ones in order, each a block, and the image is left so
pub record IsLeft (old new : Image) (kept : Block → Type 0) (held : List Block) : Type 0 where
  pub heap : LeavesHeap old new kept
  pub named : (b : Block) → kept b → IsBlock (layout_of old) b
  pub are_held : AreAscending (λ (b : Block). b.first_word) kept held

module _ (old new : Image) (kept : Block → Type 0) (held : List Block) (left : IsLeft old new kept held) (d : ℕ) where
  -- what being in a list says
  pub in_list : (list : ℕ) → list < lists → 0 < times d (left.heap.descriptors list) → IsListed (layout_of old) kept list d
  in_list list less some = (left.heap.listed list less).sound d (times_some d (left.heap.descriptors list) some)

  -- a superblock that may be in no list is in none
  pub lists_none : ((list : ℕ) → list < lists → IsListed (layout_of old) kept list d → ⊥)
      → total (λ list. times d (left.heap.descriptors list)) list_numbers ≡ 0
  lists_none none = total_none (λ list. times d (left.heap.descriptors list)) list_numbers (λ list p.
      let less = number_below list p in
      times_none d (left.heap.descriptors list) (λ q. none list less ((left.heap.listed list less).sound d q)))

  -- one that is in one list alone is there once
  pub lists_once : (list : ℕ) → list < lists → IsListed (layout_of old) kept list d
      → ((other : ℕ) → other < lists → IsListed (layout_of old) kept other d → other ≡ list)
      → total (λ list'. times d (left.heap.descriptors list')) list_numbers ≡ 1
  lists_once list less here alone = total_once (λ a b. a < b) (λ list'. times d (left.heap.descriptors list')) list_numbers list numbers_ascend
      (λ a b in_a in_b before some_a some_b.
      let below_a = number_below a in_a in
      let below_b = number_below b in_b in
      let at_a = alone a below_a (in_list a below_a some_a) in
      let at_b = alone b below_b (in_list b below_b some_b) in
      omega arith)
      (is_number list less)
      (times_once d (left.heap.descriptors list) (left.heap.listed list less).ascending ((left.heap.listed list less).complete d here))

  -- where a large block is counted, it takes the whole superblock
  pub large_some : 0 < total (large_part (layout_of old).capacity d) held → (b : Block) × kept b × HasPartIn (layout_of old).capacity b d
      × TakesAll (layout_of old) b d
  large_some some =
      let found = total_some (large_part (layout_of old).capacity d) held some in
      let is_kept = left.are_held.sound found.0 found.1 in
      let large = counts_large (layout_of old).capacity d found.0 found.2 in
      (found.0, is_kept, large.1, long_takes (layout_of old) found.0 d (left.named found.0 is_kept) large.1 large.0)

  pub large_none : ((b : Block) → kept b → HasPartIn (layout_of old).capacity b d → TakesAll (layout_of old) b d → ⊥)
      → total (large_part (layout_of old).capacity d) held ≡ 0
  large_none none = total_none (large_part (layout_of old).capacity d) held (λ b p.
      let is_kept = left.are_held.sound b p in
      one_if_false _ (λ test.
      let large = counts_large (layout_of old).capacity d b (let one = one_if_true _ test in omega arith) in
      none b is_kept large.1 (long_takes (layout_of old) b d (left.named b is_kept) large.1 large.0)))

  -- a superblock in a large block is in one
  pub large_once : IsInLarge (layout_of old) kept d → total (large_part (layout_of old).capacity d) held ≡ 1
  large_once large =
      elim (cases_of_part (layout_of old) large.holds.block d (left.named large.holds.block large.holds.is_kept) large.holds.part) as
      (λ _. total (large_part (layout_of old).capacity d) held ≡ 1) [
        | inl one ↦ absurd (large.no_class (subst IsClass (sym one.info_is) one.is_class))
        | inr all ↦ total_once (λ (a b : Block). a.first_word < b.first_word)
            (large_part (layout_of old).capacity d) held large.holds.block left.are_held.ascending
            (λ a b in_a in_b before counts_a counts_b. two_large a b (left.are_held.sound a in_a) (left.are_held.sound b in_b) before counts_a counts_b)
            (left.are_held.complete large.holds.block large.holds.is_kept)
            (large_counts (layout_of old).capacity d large.holds.block all.long large.holds.part)
      ]
    where
      two_large : (a b : Block) → kept a → kept b → a.first_word < b.first_word → 0 < large_part (layout_of old).capacity d a
          → 0 < large_part (layout_of old).capacity d b → ⊥
      two_large a b kept_a kept_b before counts_a counts_b =
          let large_a = counts_large (layout_of old).capacity d a counts_a in
          let large_b = counts_large (layout_of old).capacity d b counts_b in
          let all_a = long_takes (layout_of old) a d (left.named a kept_a) large_a.1 large_a.0 in
          let all_b = long_takes (layout_of old) b d (left.named b kept_b) large_b.1 large_b.0 in
          elim (never_overlap (layout_of old) a b (left.named a kept_a) (left.named b kept_b)) as (λ _. ⊥) [
            | inl same ↦ let first : a.first_word ≡ b.first_word = ap (λ (x : Block). x.first_word) same in omega arith
            | inr apart ↦ elim apart as (λ _. ⊥) [
              | inl a_first ↦ let until = all_a.until in let from = all_b.from in omega arith
              | inr b_first ↦ omega arith
            ]
          ]
