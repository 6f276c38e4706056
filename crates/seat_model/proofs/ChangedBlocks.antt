-- Each call that takes or gives a block changes the held ones by that block alone.
use Rattle.std.proofs.Common.{◌<◌, ℕ, suc, List, length, arith, Bool}
use Rattle.std.proofs.Math.Logic.{∥∥₁_elim}
use Rattle.heap_model.specs.declared.block.Block.{Block}
use Rattle.heap_model.specs.Sizes.{IsClass}
use Rattle.heap_model.proofs.DecisionLemmas.{at_most, decided}
use Rattle.heap_seat.specs.Alloc.{Adds}
use Rattle.core_model.specs.View.{View}
use Rattle.heap_table.specs.Plays.{HasSoundState}
use Rattle.seat_model.specs.CacheState.{CacheState, CallCounts, counts_of, heap_view, heap_view_of}
use Rattle.seat_model.specs.Changes.{GivesBlock, GivesSpan, HoldsBlock, HoldsSpan, Loses}
use Rattle.seat_model.proofs.TakenBlocks
use Rattle.seat_model.proofs.GivenBlocks

-- the same of seats of a heap: some sound states have the two views, known or not
abbrev pub HaveStates : View → View → Type 0
HaveStates v w = (HasSoundState v → HasSoundState w → ⊥) → ⊥

module _ (v w : View) (marks marks' : List Bool) (n n' : CallCounts) (states : HaveStates v w) where
  pub holds_by : (class : ℕ) (b : Block) → class < length v.small → HoldsBlock class b v w → Adds b (heap_view_of v marks n) (heap_view_of w marks' n')
  holds_by class b below holds = record {
    new = λ c. states (λ has now. TakenBlocks.small_new class b v w below holds has now c);
    has = TakenBlocks.small_has class b v w below holds;
    keeps = TakenBlocks.small_keeps class b v w below holds;
    only = TakenBlocks.small_only class b v w below holds;
    roots = holds.roots;
  }

  pub span_by : (d m : ℕ) (b : Block) → HoldsSpan d m b v w → Adds b (heap_view_of v marks n) (heap_view_of w marks' n')
  span_by d m b holds = record {
    new = λ c. states (λ has now. TakenBlocks.large_new d m b v w holds has now c);
    has = TakenBlocks.large_has d m b v w holds;
    keeps = TakenBlocks.large_keeps d m b v w holds;
    only = TakenBlocks.large_only d m b v w holds;
    roots = holds.roots;
  }

  pub gives_by : (class : ℕ) (b : Block) → class < length v.small → GivesBlock class b v w → Loses b (heap_view_of v marks n) (heap_view_of w marks' n')
  gives_by class b below gives = record {
    gone = λ c. states (λ has now. GivenBlocks.small_gone class b v w below gives has now c);
    only = GivenBlocks.small_was class b v w below gives;
    keeps = GivenBlocks.small_others class b v w below gives;
  }

  pub gives_span_by : (d : ℕ) (b : Block) → GivesSpan d b v w → Loses b (heap_view_of v marks n) (heap_view_of w marks' n')
  gives_span_by d b gives = record {
    gone = λ c. states (λ has now. GivenBlocks.large_gone d b v w gives has now c);
    only = GivenBlocks.large_was d b v w gives;
    keeps = GivenBlocks.large_others d b v w gives;
  }

pub class_in : (v : View) → HasSoundState v → (class : ℕ) → IsClass class → class < length v.small
class_in v has class is = let long = (has.sound.good.set_up has.seat v has.below has.at).small in omega (arith, is.some, is.last)

class_below : (s : CacheState) (class : ℕ) → IsClass class → class < length s.view.small
class_below s class is = decided (at_most (suc class) (length s.view.small)) (λ (has : HasSoundState s.view). class_in s.view has class is) s.sound

of_both : (s t : CacheState) → HaveStates s.view t.view
of_both s t not = ∥∥₁_elim s.sound (λ a b. absurd a) (λ has. ∥∥₁_elim t.sound (λ a b. absurd a) (λ now. not has now))

pub holds_law : (class : ℕ) (b : Block) (s t : CacheState) → HoldsBlock class b s.view t.view → Adds b (heap_view s) (heap_view t)
holds_law class b s t holds = holds_by s.view t.view s.marks t.marks (counts_of s) (counts_of t) (of_both s t) class b
    (class_below s class holds.is_class) holds

pub span_law : (d m : ℕ) (b : Block) (s t : CacheState) → HoldsSpan d m b s.view t.view → Adds b (heap_view s) (heap_view t)
span_law d m b s t holds = span_by s.view t.view s.marks t.marks (counts_of s) (counts_of t) (of_both s t) d m b holds

pub gives_law : (class : ℕ) (b : Block) (s t : CacheState) → GivesBlock class b s.view t.view → Loses b (heap_view s) (heap_view t)
gives_law class b s t gives = gives_by s.view t.view s.marks t.marks (counts_of s) (counts_of t) (of_both s t) class b
    (class_below s class gives.is_class) gives

pub gives_span_law : (d : ℕ) (b : Block) (s t : CacheState) → GivesSpan d b s.view t.view → Loses b (heap_view s) (heap_view t)
gives_span_law d b s t gives = gives_span_by s.view t.view s.marks t.marks (counts_of s) (counts_of t) (of_both s t) d b gives
