-- After recovery each superblock is in one place, and each block is held or in a chain.
use Rattle.std.proofs.Common.{◌≡◌, ℕ, zero, suc, ◌+◌, ◌<◌, inl, inr, List, [], map, refl, sym, subst, arith}
use Rattle.std.proofs.lemmas.Bool.{lt-ltb, ltb-true}
use Rattle.heap_model.specs.declared.block.Block.{Block}
use Rattle.heap_model.specs.Geometry.{lists}
use Rattle.heap_model.specs.Image.{Image}
use Rattle.heap_model.specs.Sizes.{IsClass}
use Rattle.heap_model.specs.Blocks.{Layout, layout_of, IsBlock}
use Rattle.heap_model.specs.Counting.{times, total, below}
use Rattle.heap_model.specs.Recovery.{IsPartial, IsListed}
use Rattle.heap_model.specs.Rest.{list_numbers, large_part}
use Rattle.heap_model.proofs.BlockLemmas.{same_first}
use Rattle.heap_model.proofs.MemberLemmas.{map_in}
use Rattle.heap_model.proofs.CountingLemmas.{times_none, times_once, one_if_true, one_if_false}
use Rattle.heap_at_rest.proofs.PartLemmas.{part_taken}
use Rattle.heap_at_rest.proofs.ListLemmas.{in_map, order_map}
use Rattle.heap_at_rest.proofs.StandingLemmas.{Standing, is_untaken, is_free, is_partial, is_fully_kept, is_in_large}
use Rattle.heap_at_rest.proofs.RecoveryLeftLemmas.{IsLeft, listed_cases, partial_listed, free_not_partial, one_class, full_not_partial, large_not_partial, full_holds, lists_none, lists_once, large_none, large_once}

-- 1 for a superblock that is full, and the chain of one that is partial
abbrev pub full_mark : {l : Layout} {kept : Block → Type 0} {d : ℕ} → Standing l kept d → ℕ
full_mark (is_untaken _) = 0
full_mark (is_free _) = 0
full_mark (is_partial class _ _) = 0
full_mark (is_fully_kept class _ _) = 1
full_mark (is_in_large _) = 0

abbrev pub chain_mark : {l : Layout} {kept : Block → Type 0} {d : ℕ} → List ℕ → Standing l kept d → List ℕ
chain_mark ws (is_untaken _) = []
chain_mark ws (is_free _) = []
chain_mark ws (is_partial class _ _) = ws
chain_mark ws (is_fully_kept class _ _) = []
chain_mark ws (is_in_large _) = []

-- a partial superblock has its chain
pub chain_of_partial : (l : Layout) (kept : Block → Type 0) (class d : ℕ) (ws : List ℕ) (s : Standing l kept d) → IsClass class
    → IsPartial l kept class d → chain_mark ws s ≡ ws
chain_of_partial l kept class d ws (is_untaken past) is part = absurd (let taken = part.taken in omega arith)
chain_of_partial l kept class d ws (is_free free) is part = absurd (free_not_partial l kept class d free part)
chain_of_partial l kept class d ws (is_partial c of part') is part = refl
chain_of_partial l kept class d ws (is_fully_kept c of full) is part = absurd (full_not_partial l kept c class d full part)
chain_of_partial l kept class d ws (is_in_large large) is part = absurd (large_not_partial l kept class d is large part)

module _ (old new : Image) (kept : Block → Type 0) (held : List Block) (left : IsLeft old new kept held) where
  -- each taken superblock is in one place
  pub one_place : (d : ℕ) (s : Standing (layout_of old) kept d)
      → total (λ list. times d (left.heap.descriptors list)) list_numbers + full_mark s + total
      (large_part (layout_of old).capacity d) held ≡ below d (layout_of old).used
  one_place d (is_untaken past) =
      let outside : below d (layout_of old).used ≡ 0 = one_if_false _ (λ test. let less = ltb-true d (layout_of old).used test in omega arith) in
      let unlisted = lists_none old new kept held left d (λ list less listed. elim (listed_cases (layout_of old) kept list d less listed) as (λ _. ⊥) [
        | inl free ↦ let taken = free.taken in omega arith
        | inr part ↦ let taken = part.1.taken in omega arith
      ]) in
      let no_large = large_none old new kept held left d (λ b is_kept part all. let taken =
      part_taken (layout_of old) b d (left.named b is_kept) part in omega arith) in
      omega arith
  one_place d (is_free free) =
      let inside : below d (layout_of old).used ≡ 1 = one_if_true _ (lt-ltb d (layout_of old).used free.taken) in
      let listed = lists_once old new kept held left d 0 (omega arith) free
      (λ other less listed. elim (listed_cases (layout_of old) kept other d less listed) as (λ _. other ≡ 0) [
        | inl again ↦ same_free other less listed
        | inr part ↦ absurd (free_not_partial (layout_of old) kept other d free part.1)
      ]) in
      let no_large = large_none old new kept held left d (λ b is_kept part all. free.empty b is_kept part) in
      omega arith
    where
      same_free : (other : ℕ) → other < lists → IsListed (layout_of old) kept other d → other ≡ 0
      same_free zero less listed = refl
      same_free (suc c) less part = absurd (free_not_partial (layout_of old) kept (suc c) d free part)
  one_place d (is_partial class is part) =
      let inside : below d (layout_of old).used ≡ 1 = one_if_true _ (lt-ltb d (layout_of old).used part.taken) in
      let last = is.last in
      let listed = lists_once old new kept held left d class (omega arith) (partial_listed (layout_of old) kept class d is part)
      (λ other less listed. elim (listed_cases (layout_of old) kept other d less listed) as (λ _. other ≡ class) [
        | inl free ↦ absurd (free_not_partial (layout_of old) kept class d free part)
        | inr again ↦ one_class (layout_of old) kept other class d again.1 part
      ]) in
      let no_large = large_none old new kept held left d (λ b is_kept in_d all. all.no_class (subst IsClass (sym part.info_is) is)) in
      omega arith
  one_place d (is_fully_kept class is full) =
      let inside : below d (layout_of old).used ≡ 1 = one_if_true _ (lt-ltb d (layout_of old).used full.taken) in
      let holds = full_holds (layout_of old) kept class d is full in
      let unlisted = lists_none old new kept held left d (λ list less listed. elim (listed_cases (layout_of old) kept list d less listed) as (λ _. ⊥) [
        | inl free ↦ free.empty holds.block holds.is_kept holds.part
        | inr part ↦ full_not_partial (layout_of old) kept class list d full part.1
      ]) in
      let no_large = large_none old new kept held left d (λ b is_kept in_d all. all.no_class (subst IsClass (sym full.info_is) is)) in
      omega arith
  one_place d (is_in_large large) =
      let inside : below d (layout_of old).used ≡ 1 = one_if_true _ (lt-ltb d (layout_of old).used large.taken) in
      let unlisted = lists_none old new kept held left d (λ list less listed. elim (listed_cases (layout_of old) kept list d less listed) as (λ _. ⊥) [
        | inl free ↦ free.empty large.holds.block large.holds.is_kept large.holds.part
        | inr part ↦ large_not_partial (layout_of old) kept list d part.0 large part.1
      ]) in
      let once = large_once old new kept held left d large in
      omega arith

  -- a block that is kept is held once, and one that is not, nowhere
  pub held_once : (b : Block) → kept b → times b.first_word (map (λ (h : Block). h.first_word) held) ≡ 1
  held_once b is_kept = times_once b.first_word (map (λ (h : Block). h.first_word) held)
      (order_map (λ (h : Block). h.first_word) held left.are_held.ascending)
      (map_in (λ (h : Block). h.first_word) held b (left.are_held.complete b is_kept))

  pub held_none : (b : Block) → IsBlock (layout_of old) b → (kept b → ⊥) → times b.first_word (map (λ (h : Block). h.first_word) held) ≡ 0
  held_none b is unkept = times_none b.first_word (map (λ (h : Block). h.first_word) held) (λ p.
      let found = in_map (λ (h : Block). h.first_word) held b.first_word p in
      let is_kept = left.are_held.sound found.0 found.1 in
      unkept (subst kept (same_first (layout_of old) found.0 b (left.named found.0 is_kept) is found.2) is_kept))
