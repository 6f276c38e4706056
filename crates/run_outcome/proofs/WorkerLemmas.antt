-- What is so of each worker of a run: where its view stands, how its seat went on, that it was unused, and which of its requests are answered.
use Rattle.std.proofs.Common.{◌≡◌, ℕ, ◌+◌, ◌<◌, ◌≤◌, Bool, List, ◌++◌, length, get_or, slice_index, sum_by, ap, ◌∙◌, arith}
use Rattle.std.proofs.lemmas.List.{get_or_append_left, length-append}
use Rattle.heap_model.specs.declared.block.Block.{Block}
use Rattle.heap_model.specs.Counting.{total}
use Rattle.heap_model.specs.Geometry.{used_word}
use Rattle.heap_model.proofs.CountingLemmas.{total_none, total_append}
use Rattle.heap_rule.proofs.ClosedLemmas.{taken_in_all}
use Rattle.dict_model.specs.Requests.{Request}
use Rattle.core_model.specs.Carriers.{IsCarrier}
use Rattle.core_model.specs.Opening.{setup_of}
use Rattle.core_model.specs.Sound.{Each}
use Rattle.core_model.specs.View.{View}
use Rattle.run_model.specs.Needs.{worker_tables}
use Rattle.run_model.specs.Runs.{answered, unanswered, worker_answered, worker_unanswered, worker_span, span_taken, first_span}
use Rattle.run_model.specs.Workers.{Replies, worker_requests}
use Rattle.run_model.proofs.SumLemmas.{sum_over, total_over}
use Rattle.worker_parts.specs.Going.{GoesOn, IsUnused}
use Rattle.run_outcome.specs.Together.{HaveWorked}
use Rattle.run_outcome.proofs.CountLemmas.{answered_padded, unanswered_padded}

module _ {words : List ℕ} {held : List Block} {workers budget : ℕ} {requests : List Request} {replies : Replies} {stopped : Bool}
    {now kept left : List ℕ}
    (h : HaveWorked words held workers budget requests replies stopped now kept left) where
  -- the view of a worker's seat as it was closed
  abbrev pub last_view : ℕ → View
  last_view worker = (h.last worker).view

  -- the views of the closed heap: the workers' seats, and carriers that are left
  abbrev pub all_views : List View
  all_views = h.views ++ h.carriers

  -- a worker's view stands among them, at the worker's number
  pub below_count : (worker : ℕ) → worker < workers → worker < length all_views
  below_count worker below = let long = length-append h.views h.carriers in let count = h.count in omega arith

  pub view_at : (worker : ℕ) (any : View) → worker < workers → get_or all_views worker any ≡ last_view worker
  view_at worker any below = get_or_append_left h.views h.carriers any worker (let count = h.count in omega arith) ∙ h.views_are worker any below

  -- its seat went on from the opening to its end, and is no carrier
  pub goes_on : (worker : ℕ) → worker < workers → GoesOn (h.first worker) (h.last worker)
  goes_on worker below = (h.parts worker below).goes_on

  pub is_seat : (worker : ℕ) → worker < workers → (h.last worker).view.carries ≡ 0
  is_seat worker below = (goes_on worker below).2 ∙ ap (λ (v : View). v.carries) (h.fresh worker below).view_is

  -- what is so of each view is so of each worker's, and a sum over the views of what no carrier counted is one over the workers
  pub of_each : (P : View → Type 0) → Each all_views P → (worker : ℕ) → worker < workers → P (last_view worker)
  of_each P each worker below = each worker (last_view worker) (below_count worker below) (view_at worker (last_view worker) below)

  pub seats_total : (of : View → ℕ) → ((v : View) → IsCarrier v → of v ≡ 0) → total of all_views ≡ sum_over (λ worker. of (last_view worker)) 0 workers
  seats_total of none =
      let both = total_append of h.views h.carriers in
      let nothing = total_none of h.carriers (λ v there. none v (h.carry v there)) in
      let seats = total_over of h.views (λ worker. of (last_view worker)) 0
      (λ i v below. ap of (h.views_are i v (let count = h.count in omega arith)) ∙ ap (λ n. of (last_view n)) (let e : i ≡ 0 + i = omega arith in e))
      ∙ ap (sum_over (λ worker. of (last_view worker)) 0) h.count in
      omega (arith, both, nothing, seats)

  -- a worker's replies are those that it was told
  pub answered_told : (worker : ℕ) → worker < workers → worker_answered workers worker requests replies ≡ answered
      (worker_requests workers worker requests) (h.told worker)
  answered_told worker below =
      ap (answered (worker_requests workers worker requests)) (h.padded worker below)
      ∙ answered_padded (worker_requests workers worker requests) (h.told worker) _

  pub unanswered_told : (worker : ℕ) → worker < workers → worker_unanswered workers worker requests replies ≡ unanswered
      (worker_requests workers worker requests) (h.told worker)
  unanswered_told worker below =
      ap (unanswered (worker_requests workers worker requests)) (h.padded worker below)
      ∙ unanswered_padded (worker_requests workers worker requests) (h.told worker) _

  -- whatever keys the image has, the seats had made no call
  pub unused : (worker : ℕ) → worker < workers → IsUnused (h.first worker)
  unused worker below = (h.parts worker below).unused

  pub opened_setup : (worker : ℕ) → worker < workers → (h.first worker).view.setup ≡ setup_of words budget workers
  opened_setup worker below = ap (λ (v : View). v.setup) (h.fresh worker below).view_is

  -- no more superblocks were taken by a worker than its nodes' and its tables', and the mark rose by those of all
  abbrev pub taken_of : ℕ → ℕ
  taken_of worker = (last_view worker).taken

  abbrev pub tables_of : ℕ → ℕ
  tables_of worker = worker_tables workers worker requests

  pub taken_few : (worker : ℕ) → worker < workers → taken_of worker ≤ worker_span workers worker requests replies + tables_of worker
  taken_few worker below =
      let taken = (h.parts worker below).taken.taken in
      let none = (unused worker below).nothing.counts in
      let done = ap (sum_by span_taken) (answered_told worker below) in
      let first = ap first_span (unanswered_told worker below) in
      omega arith

  pub used_now : slice_index now used_word ≡ slice_index words used_word + sum_over taken_of 0 workers
  used_now =
      taken_in_all (setup_of words budget workers) now kept all_views h.closed
      ∙ ap (λ n. slice_index words used_word + n) (seats_total (λ (v : View). v.taken) (λ v is. is.counts.3))
