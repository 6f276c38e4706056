-- What a heap for one thread leaves that was opened with a dictionary is a whole image; and there is room for the replies.
use Rattle.std.proofs.Common.{◌≡◌, ℕ, ◌*◌, ◌≤◌, inl, List, length, slice_index, refl, arith}
use Rattle.std.specs.Prelude.{not}
use Rattle.std.proofs.lemmas.List.{length-map}
use Rattle.std.proofs.lemmas.List.Filters.{length-filter_both}
use Rattle.heap_model.specs.declared.block.Block.{Block}
use Rattle.heap_model.specs.Geometry.{capacity_word}
use Rattle.heap_model.specs.Header.{IsWellFormed, capacity_of}
use Rattle.block_heap.specs.Closing.{IsOpened, KeepsFixed}
use Rattle.block_heap.specs.SeqState.{SeqState}
use Rattle.block_heap.proofs.FixedLemmas.{fixed_opened, long_opened}
use Rattle.run_model.specs.Workers.{is_of_worker, worker_requests}
use Rattle.worker_run.specs.Left.{AreWholeImage}
use Rattle.worker_run.specs.Said.{Line, request_of, requests_of}

-- the words that a heap leaves which was opened over an image at rest
module _ (words : List ℕ) (held : List Block) (budget : ℕ) (s t : SeqState) (formed : IsWellFormed (8 * length words) (slice_index words))
    (opened : IsOpened words held budget s) (keeps : KeepsFixed s t) where
  pub capacity_seen : capacity_of (slice_index t.parts.words.volatile) ≡ capacity_of (slice_index words)
  capacity_seen = (fixed_opened words held budget s t opened keeps capacity_word (inl (omega arith))).0

  pub capacity_durable : capacity_of (slice_index t.parts.words.durable) ≡ capacity_of (slice_index words)
  capacity_durable = (fixed_opened words held budget s t opened keeps capacity_word (inl (omega arith))).1

  -- what loads see are those of a whole image
  pub whole_seen : AreWholeImage t.parts.words.volatile
  whole_seen =
      let is = capacity_seen in
      let some = formed.some in
      let small = formed.small in
      let whole = formed.length_is in
      let long = long_opened words held budget s t opened keeps in
      record { some = omega arith; small = omega arith; long = omega arith }

-- one worker alone has no more requests than there are lines
pub few_requests : (lines : List Line) → length (worker_requests 1 0 (requests_of lines)) ≤ length lines
few_requests lines =
    let both = length-filter_both (is_of_worker 1 0) (λ q. not (is_of_worker 1 0 q)) (λ q. refl) (requests_of lines) in
    let long = length-map lines request_of in
    omega arith
