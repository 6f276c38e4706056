-- A worker whose tables are made asks for its requests: what its seat relies on, and what it did as its state has it.
use Rattle.std.proofs.Common.{◌≡◌, ◌≢◌, ◌<◌, ◌↔◌, ℕ, Bool, true, false, List, [], Option, None, Some, Contains, slice_index, refl, subst, sym, ap, ◌∙◌}
use Rattle.heap_model.specs.Image.{Image}
use Rattle.core_model.specs.View.{Setup}
use Rattle.heap_table.specs.AtTable.{SharedView}
use Rattle.dict_model.specs.Links.{shards}
use Rattle.dict_model.specs.Requests.{Request}
use Rattle.run_model.specs.Opened.{HasMaps}
use Rattle.run_model.specs.Progress.{HasAnswered}
use Rattle.run_model.specs.Workers.{Replies, worker_of}
use Rattle.seat_model.specs.CacheState.{CacheState, CacheValue, heap_view}
use Rattle.shard_moves.specs.Tables.{TellsTable}
use Rattle.worker_parts.specs.Asking.{HasExecuted, HasExecutedOf}
use Rattle.worker_parts.specs.Begun.{IsBegun}
use Rattle.worker_parts.specs.Going.{GoesOn, TurnsAway}
use Rattle.worker_parts.specs.Jobs.{IsFirst, image_of}
use Rattle.worker_parts.proofs.BeginLemmas.{first_opened, first_owns}
use Rattle.worker_parts.proofs.StateLemmas.{full_rightly, none_of, takes_all, view_of}

-- it was stopped exactly where its seat was
pub stops_by : (stopped : Bool) (now : Option ℕ) → (stopped ≡ true → (ticket : ℕ) × (now ≡ Some ticket)) → (stopped ≡ false → now ≡ None)
    → (stopped ≡ true) ↔ (now ≢ None)
stops_by true now cause going = (λ e none. let at = cause refl in let clash : Some at.0 ≡ None = sym at.1 ∙ none in absurd (cc), λ some. refl)
stops_by false now cause going = (λ e. absurd (let clash : false ≡ true = e in cc), λ some. absurd (some (going refl)))

not_stopped : (now : Option ℕ) → ((false ≡ true) ↔ (now ≢ None)) → now ≡ None
not_stopped None iff = refl
not_stopped (Some ticket) iff = absurd (let clash : false ≡ true = iff.1 (λ e. absurd (cc)) in cc)

-- what a worker's seat relies on whose tables are made
module _ (shared : SharedView) (workers worker : ℕ) (wanted tables : ℕ → Bool) (stopped : Bool) (going : stopped ≡ false) (first s : CacheState)
    (is_first : IsFirst shared workers worker first) (part : IsBegun (image_of shared) wanted tables stopped first s) where
  pub begun_image : image_of shared ≡ slice_index s.view.setup.opened
  begun_image = sym (ap (λ (k : Setup). slice_index k.opened) (part.goes_on.1.setup ∙ is_first.setup))

  pub begun_going : s.view.stopped ≡ None
  begun_going = not_stopped s.view.stopped (subst (λ b. (b ≡ true) ↔ (s.view.stopped ≢ None)) going part.stops)

  pub begun_owns : (shard : ℕ) → shard < shards → worker_of workers shard ≡ worker → Contains s.view.roots shard
  begun_owns shard small is = subst (λ (ns : List ℕ). Contains ns shard) (sym part.roots_are)
      (first_owns shared workers worker first is_first shard small is)

  pub begun_maps : HasMaps (slice_index s.view.setup.opened)
  begun_maps = subst HasMaps begun_image (first_opened shared workers worker first is_first).maps

  pub begun_answered : HasAnswered (slice_index s.view.setup.opened) [] (heap_view s)
  begun_answered = subst (λ (i : Image). HasAnswered i [] (heap_view s)) begun_image part.answered

  -- the same with the tables of all workers
  pub begun_among : (all : ℕ → Bool) → ((shard : ℕ) → shard < shards → wanted shard ≡ true → all shard ≡ tables shard)
      → IsBegun (image_of shared) wanted all false first s
  begun_among all same = record {
    answered = part.answered;
    told = λ none shard small is. subst (λ b. TellsTable heap_view GoesOn TurnsAway shard b first s) (sym (same shard small is))
        (part.told going shard small is);
    taken = λ none. part.taken going;
    most = part.most;
    calls = part.calls;
    roots_are = part.roots_are;
    role_is = part.role_is;
    goes_on = part.goes_on;
    stops = subst (λ b. (b ≡ true) ↔ (s.view.stopped ≢ None)) going part.stops;
    exact = λ none. part.exact going;
  }

-- what was asked of a seat with its chance was asked of its state
pub asked_state : {C : Type 0} (goes : CacheValue C → CacheValue C → Type 0) → ((s t : CacheValue C) → goes s t → GoesOn s.state t.state)
    → (image : Image) (mine : List Request) (tables : ℕ → Bool) (replies : Replies) (stopped : Bool) (s t : CacheValue C)
    → HasExecutedOf view_of goes none_of image mine tables replies stopped s t → HasExecuted image mine tables replies stopped s.state t.state
asked_state goes on image mine tables replies stopped s t asked = record {
  worked = asked.worked;
  in_one = asked.in_one;
  full = full_rightly goes on _ _ s t asked.full;
  taken = asked.taken;
  few = asked.few;
  by_tables = asked.by_tables;
  steps = let steps = asked.steps in (steps.0.state, takes_all goes on _ s steps.0 steps.1, steps.2, on steps.0 t steps.3);
  roots_are = asked.roots_are;
  goes_on = on s t asked.goes_on;
  stops = asked.stops;
  exact = asked.exact;
}
