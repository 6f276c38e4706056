-- The header of the image that is left: it is as it was, but for the state and the mark of taken superblocks.
use Rattle.std.proofs.Common.{◌≡◌, ◌≢◌, ℕ, ◌*◌, inl, inr, List, length, slice_index, None, Some, subst, sym, ◌∙◌, arith}
use Rattle.std.specs.Prelude.{Bool, true, false}
use Rattle.heap_model.specs.declared.block.Block.{Block}
use Rattle.heap_model.specs.Geometry.{version_word, capacity_word, state_word, kind_word, image_words, IsReserved, in_header, in_descriptor}
use Rattle.heap_model.specs.Header.{IsWellFormed, HasKindsBelow, header_fault, capacity_of}
use Rattle.core_model.specs.Opening.{setup_of}
use Rattle.core_model.specs.View.{Setup}
use Rattle.heap_rule.specs.Left.{HasFixedWordsButState}
use Rattle.heap_rule.proofs.CrashLemmas.{left_fixed, left_good}
use Rattle.dict_model.specs.Links.{kind_count}
use Rattle.dict_model.specs.Requests.{Request}
use Rattle.run_model.specs.Workers.{Replies}
use Rattle.run_model.specs.Runs.{LeavesHeader, LeavesState}
use Rattle.run_outcome.specs.Together.{HaveWorked, IsLeftOf}
use Rattle.run_outcome.proofs.ShareLemmas.{may_be_left}
use Rattle.run_outcome.proofs.WorkerLemmas.{below_count, view_at}

-- the state has a meaning
not_state : (capacity word : ℕ) → IsReserved capacity word → word ≢ state_word
not_state capacity _ (in_header word low high used_not lists_not) e = omega arith
not_state capacity _ (in_descriptor d at word below low high is) e = omega arith

state_left : (stopped : Bool) (now kept left : List ℕ) → IsLeftOf stopped now kept left → LeavesState stopped (slice_index left)
state_left false now kept left is = is.state
state_left true now kept left is = is.state

module _ (words : List ℕ) (held : List Block) (workers budget : ℕ) (requests : List Request) (replies : Replies) (stopped : Bool)
    (now kept left : List ℕ)
    (h : HaveWorked words held workers budget requests replies stopped now kept left) where
  set_up : (h.last 0).view.setup ≡ setup_of words budget workers
  set_up = (h.closed.sound.good.set_up 0 (h.last 0).view (below_count h 0 h.some) (view_at h 0 (h.last 0).view h.some)).setup

  fixed : HasFixedWordsButState (setup_of words budget workers) (slice_index left)
  fixed = subst (λ (k : Setup). HasFixedWordsButState k (slice_index left)) set_up
      (left_fixed (h.last 0).view (slice_index left) (may_be_left words held workers budget requests replies stopped now kept left h 0 h.some))

  good : header_fault (Some kind_count) (8 * image_words (capacity_of (slice_index words))) (slice_index left) ≡ None
  good = subst (λ (k : Setup). IsWellFormed (8 * length k.opened) (slice_index k.opened) → HasKindsBelow (Some kind_count) (slice_index k.opened)
      → header_fault (Some kind_count) (8 * image_words k.capacity) (slice_index left) ≡ None) set_up
      (λ formed kinds. left_good (h.last 0).view (slice_index left) (may_be_left words held workers budget requests replies stopped now kept
      left h 0 h.some) formed (Some kind_count) kinds)
      h.ready.formed h.dictionary.maps.kinds

  same_capacity : capacity_of (slice_index left) ≡ capacity_of (slice_index words)
  same_capacity = fixed.each capacity_word (inl (omega arith)) (λ e. omega (arith, e))

  pub leaves_header : LeavesHeader (slice_index words) (length left) (slice_index left)
  leaves_header = record {
    well_formed = subst (λ bytes. header_fault (Some kind_count) bytes (slice_index left) ≡ None)
        (let whole = h.ready.formed.length_is in let long = h.left_long in omega arith) good;
    version_is = fixed.each version_word (inl (omega arith)) (λ e. omega (arith, e)) ∙ h.ready.formed.version_is;
    capacity = same_capacity;
    kinds = λ root below. subst (λ n. slice_index left (kind_word n root) ≡ slice_index words
        (kind_word (capacity_of (slice_index words)) root)) (sym same_capacity)
        (fixed.each (kind_word (capacity_of (slice_index words)) root) (inr (inr (record { from = omega arith; until = omega arith })))
        (λ e. omega (arith, e)));
    without_meaning = λ word reserved. fixed.each word (inr (inl reserved)) (not_state (capacity_of (slice_index words)) word reserved);
  }

  pub leaves_state : LeavesState stopped (slice_index left)
  leaves_state = state_left stopped now kept left h.left_is
