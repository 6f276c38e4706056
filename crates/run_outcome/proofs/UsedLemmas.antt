-- How many superblocks a run leaves taken.
use Rattle.std.proofs.Common.{◌≡◌, ℕ, ◌+◌, ◌≤◌, ◌⊎◌, inl, inr, Bool, true, false, nat_lt, List, slice_index, ap, sym, ◌∙◌, arith}
use Rattle.std.proofs.lemmas.Bool.{cond-true, lt-ltb}
use Rattle.heap_model.specs.declared.block.Block.{Block}
use Rattle.heap_model.specs.Geometry.{capacity_word, image_words, used_word}
use Rattle.heap_model.proofs.HeaderLemmas.{header_lasts}
use Rattle.heap_model.specs.Image.{Image}
use Rattle.dict_model.specs.Requests.{Request}
use Rattle.core_model.specs.Opening.{setup_of}
use Rattle.core_model.specs.View.{Setup}
use Rattle.heap_rule.proofs.ClosedLemmas.{kept_behind}
use Rattle.heap_rule.proofs.ImageLemmas.{durable_is}
use Rattle.run_model.specs.Needs.{tables_needed}
use Rattle.run_model.specs.Runs.{LeavesUsed, worker_span}
use Rattle.run_model.specs.Workers.{Replies}
use Rattle.run_model.proofs.SumLemmas.{sum_over, sum_within, sum_both}
use Rattle.run_outcome.specs.Together.{HaveWorked, IsLeftOf}
use Rattle.run_outcome.proofs.CountLemmas.{tables_all}
use Rattle.run_outcome.proofs.WorkerLemmas.{all_views, goes_on, of_each, opened_setup, unused, taken_of, tables_of, taken_few, used_now}

-- a close leaves the volatile mark, and a crash the durable one
used_left : (stopped : Bool) (now kept left : List ℕ) → IsLeftOf stopped now kept left
    → (slice_index left used_word ≡ slice_index now used_word) ⊎ (slice_index left used_word ≡ slice_index kept used_word)
used_left false now kept left is = inl (is.others used_word (λ e. omega (arith, e)))
used_left true now kept left is = inr (is.others used_word (λ e. omega (arith, e)) (header_lasts _ used_word (omega arith)))

module _ (words : List ℕ) (held : List Block) (workers budget : ℕ) (requests : List Request) (replies : Replies) (stopped : Bool)
    (now kept left : List ℕ)
    (h : HaveWorked words held workers budget requests replies stopped now kept left) where
  taken_most : slice_index now used_word ≤ slice_index words used_word + sum_over
      (λ worker. worker_span workers worker requests replies) 0 workers + tables_needed requests
  taken_most =
      let all = used_now h in
      let few = sum_within (taken_of h) (λ worker. worker_span workers worker requests replies + tables_of h worker) 0 workers
      (λ i low high. taken_few h i (omega arith)) in
      let parts = sum_both (λ worker. worker_span workers worker requests replies) (tables_of h) 0 workers in
      let tables = tables_all workers requests in
      omega arith

  -- the durable mark has not fallen below what a seat knows, which knew the opened mark
  kept_least : slice_index words used_word ≤ slice_index kept used_word
  kept_least =
      let some = h.some in
      let opened = (unused h 0 some).nothing.floor in
      let setup = ap (λ (k : Setup). k.used) (opened_setup h 0 some) in
      let risen = (goes_on h 0 some).1.floor in
      let knows = (of_each h _ h.closed.sound.good.knows 0 some).floor in
      let capacity = slice_index words capacity_word in
      let durable = sym (cond-true (nat_lt used_word (image_words capacity)) _ 0 (lt-ltb used_word (image_words capacity) (omega arith)))
      ∙ ap (λ (image : Image). image used_word) (durable_is capacity now kept h.closed.drawn h.closed.now_long h.closed.kept_long) in
      omega arith

  pub leaves_used : LeavesUsed (slice_index words) workers requests replies (slice_index left)
  leaves_used = record {
    least = let all = used_now h in let least = kept_least in elim
        (used_left stopped now kept left h.left_is) [ inl closed ↦ omega arith | inr crashed ↦ omega arith ];
    most = let most = taken_most in
        let behind = kept_behind (setup_of words budget workers) now kept (all_views h) h.closed in
        elim (used_left stopped now kept left h.left_is) [ inl closed ↦ omega arith | inr crashed ↦ omega arith ];
  }
