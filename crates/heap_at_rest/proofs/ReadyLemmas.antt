-- What recovery leaves is a heap at rest, and so is what else is left in that way.
use Rattle.std.proofs.Common.{◌≡◌, ◌≢◌, ℕ, ◌+◌, ◌*◌, ◌<◌, ◌≤◌, inl, inr, List, [], ◌∷◌, map, length, slice_index, Contains, refl, ap, sym, subst, ◌∙◌, arith}
use Rattle.std.specs.Prelude.{AllPairs}
use Rattle.heap_model.specs.declared.block.Block.{Block}
use Rattle.heap_model.specs.Geometry.{info_word, anchor_word, link_word}
use Rattle.heap_model.specs.Image.{Image}
use Rattle.heap_model.specs.Header.{IsWellFormed, capacity_of, used_of}
use Rattle.heap_model.specs.Sizes.{IsClass}
use Rattle.heap_model.specs.Words.{anchor_state, partial_state, full_anchor}
use Rattle.heap_model.specs.Blocks.{layout_of, IsBlock}
use Rattle.heap_model.specs.Recovered.{HasPartIn, IsBlockOfClass, AreAscending}
use Rattle.heap_model.specs.Chains.{Follows}
use Rattle.heap_model.specs.Counting.{times, total, below}
use Rattle.heap_model.specs.Recovery.{first_number, IsPartial, IsRecovered}
use Rattle.heap_model.specs.Rest.{list_numbers, large_part, IsAnchored, IsShaped, IsReady}
use Rattle.heap_model.proofs.CountingLemmas.{times_none}
use Rattle.heap_model.proofs.PartLemmas.{TakesAll}
use Rattle.heap_at_rest.proofs.PartLemmas.{part_taken, same_start}
use Rattle.heap_at_rest.proofs.LayoutLemmas.{class_block, same_there}
use Rattle.heap_at_rest.proofs.StandingLemmas.{Standing, is_untaken, is_free, is_partial, is_fully_kept, is_in_large, cases_kept}
use Rattle.heap_at_rest.proofs.RecoveryLeftLemmas.{LeavesHeap, IsLeft, listed_cases, listed_partial, free_not_partial, large_not_partial, in_list, large_some}
use Rattle.heap_at_rest.proofs.PlaceLemmas.{full_mark, chain_mark, chain_of_partial, one_place, held_once, held_none}
use Rattle.heap_at_rest.proofs.RecoveredLemmas.{capacity_is, used_is, formed_left, standing, info_left, heap_left}

module _ (old new : Image) (kept : Block → Type 0) (held : List Block) (left : IsLeft old new kept held) where
  -- a superblock in the list of a class is partial
  in_class : (class d : ℕ) → IsClass class → 0 < times d (left.heap.descriptors class) → IsPartial (layout_of old) kept class d
  in_class class d is some = let last = is.last in listed_partial (layout_of old) kept class d is
      (in_list old new kept held left d class (omega arith) some)

  -- a full one is full
  is_full : (d : ℕ) (s : Standing (layout_of old) kept d) → 0 < full_mark s → IsClass (new (info_word d)) × (new (anchor_word d) ≡ full_anchor)
      × (chain_mark (left.heap.chains d) s ≡ [])
  is_full d (is_untaken past) some = absurd (omega arith)
  is_full d (is_free free) some = absurd (omega arith)
  is_full d (is_partial class is part) some = absurd (omega arith)
  is_full d (is_fully_kept class is full) some = let words = left.heap.full class d is full in
      (subst IsClass (sym words.info_is) is, words.anchor_is, refl)
  is_full d (is_in_large large) some = absurd (omega arith)

  -- one in a large block is not partial
  in_large : (d : ℕ) (s : Standing (layout_of old) kept d) → 0 < total (large_part (layout_of old).capacity d) held
      → anchor_state (new (anchor_word d)) ≢ partial_state
  in_large d s some = let found = large_some old new kept held left d some in by_standing found.0 found.1 found.2 found.3 s where
    by_standing : (b : Block) → kept b → HasPartIn (layout_of old).capacity b d → TakesAll (layout_of old) b d → Standing (layout_of old) kept d
        → anchor_state (new (anchor_word d)) ≢ partial_state
    by_standing b is_kept part all (is_untaken past) = absurd (let taken = part_taken (layout_of old) b d (left.named b is_kept) part in omega arith)
    by_standing b is_kept part all (is_free free) = absurd (free.empty b is_kept part)
    by_standing b is_kept part all (is_partial class is partial) = absurd (all.no_class (subst IsClass (sym partial.info_is) is))
    by_standing b is_kept part all (is_fully_kept class is full) = absurd (all.no_class (subst IsClass (sym full.info_is) is))
    by_standing b is_kept part all (is_in_large large) = λ partial. let anchor = (left.heap.in_large d large).anchor_is in
        let state : anchor_state (new (anchor_word d)) ≡ 2 = ap anchor_state anchor in omega arith

  -- each block of a superblock of a class is in its chain or held, and not both
  one_owner : (class d index : ℕ) (b : Block) (s : Standing (layout_of old) kept d) → IsClass class
      → 0 < times d (left.heap.descriptors class) + full_mark s → new (info_word d) ≡ class
      → IsBlockOfClass (layout_of old).capacity class d index b → times b.first_word (chain_mark (left.heap.chains d) s) + times b.first_word
      (map (λ (h : Block). h.first_word) held) ≡ 1
  one_owner class d index b (is_untaken past) is some info of = absurd (let part = in_class class d is (omega arith) in
      let taken = part.taken in omega arith)
  one_owner class d index b (is_free free) is some info of = absurd
      (free_not_partial (layout_of old) kept class d free (in_class class d is (omega arith)))
  one_owner class d index b (is_in_large large) is some info of =
      absurd (large_not_partial (layout_of old) kept class d is large (in_class class d is (omega arith)))
  one_owner class d index b (is_fully_kept c is_c full) is some info of =
      let same : class ≡ c = sym info ∙ (left.heap.full c d is_c full).info_is in
      let here = held_once old new kept held left b (full.all index b (subst (λ x. IsBlockOfClass (layout_of old).capacity x d index b) same of)) in
      omega arith
  one_owner class d index b (is_partial c is_c part) is some info of =
      let same : class ≡ c = sym info ∙ (left.heap.partial c d is_c part).0 in
      let of_c : IsBlockOfClass (layout_of old).capacity c d index b = subst (λ x. IsBlockOfClass (layout_of old).capacity x d index b) same of in
      let chained = left.heap.chained c d is_c part in
      elim (cases_kept (layout_of old) kept held b left.are_held) as
      (λ _. times b.first_word (left.heap.chains d) + times b.first_word (map (λ (h : Block). h.first_word) held) ≡ 1) [
        | inl is_kept ↦
            let here = held_once old new kept held left b is_kept in
            let none = times_none b.first_word (left.heap.chains d) (λ p. let spare = chained.sound b.first_word p in
            spare.unkept (subst kept (same_start (layout_of old).capacity c d index spare.index b spare.block
            (sym spare.first) of_c spare.is_block) is_kept)) in
            omega arith
        | inr unkept ↦
            let here = chained.once b.first_word (record { index = index; block = b; is_block = of_c; first = refl; unkept = unkept }) in
            let none = held_none old new kept held left b (class_block (layout_of old) c d index b part.taken part.info_is is_c of_c) unkept in
            omega arith
      ]

  -- a list in which a number stands is not empty
  some_chained : (ws : List ℕ) (w : ℕ) → 0 < times w ws → 1 ≤ length ws
  some_chained [] w some = absurd (omega arith)
  some_chained (x ∷ ws) w some = omega arith

  -- lists, chains and anchors are right for the held blocks
  shaped_left : IsShaped new held
  shaped_left = record {
    descriptors = left.heap.descriptors;
    full = λ d. full_mark (standing old new kept held left d);
    chains = λ d. chain_mark (left.heap.chains d) (standing old new kept held left d);
    follows = λ list less. subst (λ head. Follows (λ d. new (link_word d)) (capacity_of new) head (left.heap.descriptors list))
        (sym (left.heap.heads list less))
        (subst (λ c. Follows (λ d. new (link_word d)) c (first_number (left.heap.descriptors list)) (left.heap.descriptors list))
        (sym (capacity_is old new kept held left)) (left.heap.links list less));
    one_place = λ d. subst (λ c. total (λ list. times d (left.heap.descriptors list)) list_numbers + full_mark
        (standing old new kept held left d) + total (large_part c d) held ≡ below d (used_of new)) (sym (capacity_is old new kept held left))
        (subst (λ u. total (λ list. times d (left.heap.descriptors list)) list_numbers + full_mark (standing old new kept held left d) + total
        (large_part (capacity_of old) d) held ≡ below d u) (sym (used_is old new kept held left))
        (one_place old new kept held left d (standing old new kept held left d)));
    free = λ d some.
        let listed = in_list old new kept held left d 0 (omega arith) some in
        let words = left.heap.free d listed in (
          ap anchor_state words.anchor_is,
          λ b p part. listed.empty b (left.are_held.sound b p)
              (subst (λ c. HasPartIn c b d) (capacity_is old new kept held left) part),
        );
    in_class = λ class d is some.
        let part = in_class class d is some in
        let words = left.heap.partial class d is part in
        let valid = words.1.full in
        let chain = chain_of_partial (layout_of old) kept class d (left.heap.chains d) (standing old new kept held left d) is part in
        let more = some_chained (left.heap.chains d) part.spare.0 (let once =
        (left.heap.chained class d is part).once part.spare.0 part.spare.1 in omega arith) in
        (words.0, λ is_full. (let none = valid.0 is_full in omega arith), subst (λ ws. IsAnchored new class d ws) (sym chain) words.1);
    is_full = λ d some. is_full d (standing old new kept held left d) some;
    in_large = λ d some. in_large d (standing old new kept held left d)
        (subst (λ c. 0 < total (large_part c d) held) (capacity_is old new kept held left) some);
    one_owner = λ class d index b is some info of. one_owner class d index b (standing old new kept held left d) is some info
        (subst (λ c. IsBlockOfClass c class d index b) (capacity_is old new kept held left) of);
    untaken = λ d past less.
        let past_old : (layout_of old).used ≤ d = let same = used_is old new kept held left in omega arith in
        let less_old : d < capacity_of old = let same = capacity_is old new kept held left in omega arith in
        let words = left.heap.untaken d past_old less_old in (
          words.info_is,
          words.anchor_is,
          left.heap.unlisted d less_old (λ list below_lists p. elim (listed_cases (layout_of old) kept list d below_lists
              ((left.heap.listed list below_lists).sound d p)) as (λ _. ⊥) [
                | inl free ↦ let taken = free.taken in omega arith
                | inr part ↦ let taken = part.1.taken in omega arith
              ]),
        );
  }

-- What is left so is a heap at rest.
pub left_ready : (old new : List ℕ) (kept : Block → Type 0) (held : List Block) → IsWellFormed (8 * length old) (slice_index old)
    → length new ≡ length old
    → ((b : Block) → kept b → IsBlock (layout_of (slice_index old)) b) → AreAscending (λ (b : Block). b.first_word) kept held
    → LeavesHeap (slice_index old) (slice_index new) kept → IsReady new held
left_ready old new kept held formed long named are_held heap = record {
  formed = subst (λ n. IsWellFormed (8 * n) (slice_index new)) (sym long)
      (formed_left (slice_index old) (slice_index new) kept held left (8 * length old) formed);
  blocks = λ b p.
      let is_kept = are_held.sound b p in
      same_there (layout_of (slice_index old)) (layout_of (slice_index new)) b (capacity_is (slice_index old) (slice_index new) kept held left)
      (used_is (slice_index old) (slice_index new) kept held left)
      (λ d part. info_left (slice_index old) (slice_index new) kept held left b d is_kept part) (named b is_kept);
  ascending = are_held.ascending;
  shaped = shaped_left (slice_index old) (slice_index new) kept held left;
} where
  left : IsLeft (slice_index old) (slice_index new) kept held
  left = record { heap = heap; named = named; are_held = are_held }

-- What recovery leaves is a heap at rest.
pub ready_left : (old new : List ℕ) (kept : Block → Type 0) (held : List Block) → IsWellFormed (8 * length old) (slice_index old)
    → length new ≡ length old
    → ((b : Block) → kept b → IsBlock (layout_of (slice_index old)) b) → AreAscending (λ (b : Block). b.first_word) kept held
    → IsRecovered (slice_index old) (slice_index new) kept → IsReady new held
ready_left old new kept held formed long named are_held recovered =
    left_ready old new kept held formed long named are_held (heap_left (slice_index old) (slice_index new) kept named recovered)

-- the same, of the blocks of a list
pub ready : (old new : List ℕ) (held : List Block) → IsWellFormed (8 * length old) (slice_index old) → length new ≡ length old
    → ((b : Block) → Contains held b → IsBlock (layout_of (slice_index old)) b) → AllPairs (λ (a b : Block). a.first_word < b.first_word) held
    → IsRecovered (slice_index old) (slice_index new) (Contains held) → IsReady new held
ready old new held formed long named ascending recovered =
    ready_left old new (Contains held) held formed long named (record { sound = λ b p. p; complete = λ b p. p; ascending = ascending }) recovered
