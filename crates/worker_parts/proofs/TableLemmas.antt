-- What comes to shards that are told to have a table finds it, also behind the worker's own requests.
use Rattle.std.proofs.Common.{◌≡◌, ℕ, Bool, false, All, List, [], ◌∷◌, Contains, refl, subst, sym}
use Rattle.std.proofs.lemmas.List.Elements.{All-contains}
use Rattle.heap_seat.specs.View.{View}
use Rattle.heap_table.specs.AtTable.{SharedView}
use Rattle.dict_model.specs.Nodes.{shard_of}
use Rattle.dict_model.specs.Requests.{Request, get, Reply, done, after_one}
use Rattle.dict_requests.specs.Puts.{RootIsSet}
use Rattle.dict_requests.specs.Removal.{IsShard}
use Rattle.dict_requests.proofs.HandingLemmas.{set_changed}
use Rattle.seat_model.specs.CacheState.{CacheState, heap_view}
use Rattle.run_model.specs.Needs.{is_target_of}
use Rattle.run_model.specs.Sending.{Sent}
use Rattle.run_model.specs.Workers.{Replies, shard_asked, worker_requests}
use Rattle.run_model.specs.Working.{IsUnderWay, TakesRequests}
use Rattle.run_model.proofs.GoesOnLemmas.{asked_shard}
use Rattle.run_model.proofs.OneMapLemmas.{small_shard}
use Rattle.run_model.proofs.TargetLemmas.{target_is_own}
use Rattle.shard_moves.specs.Arriving.{HaveTables}
use Rattle.shard_moves.specs.Tables.{TellsTable}
use Rattle.worker_run.proofs.SpendLemmas.{unanswered_now}
use Rattle.worker_parts.specs.Asking.{HasExecuted}
use Rattle.worker_parts.specs.Begun.{IsBegun}
use Rattle.worker_parts.specs.Going.{GoesOn, TurnsAway}
use Rattle.worker_parts.specs.Jobs.{HasTableFor, IsFirst, image_of}
use Rattle.worker_parts.proofs.BeginLemmas.{first_opened, first_owns}

-- a table stays over requests
table_stays : (shard : ℕ) (rs : List (Request × Reply)) (s t : CacheState) → TakesRequests heap_view GoesOn TurnsAway rs s t
    → Contains s.view.roots shard
    → RootIsSet (heap_view s) shard → RootIsSet (heap_view t) shard
table_stays shard [] s t same owned set = subst (λ (x : CacheState). RootIsSet (heap_view x) shard) (sym same) set
table_stays shard (r ∷ rs) s t all owned set =
    table_stays shard rs all.0 t all.2 (subst (λ (roots : List ℕ). Contains roots shard) (sym all.1.keeps_it.1.roots) owned)
    (set_changed (heap_view s) (heap_view all.0) (shard_asked r.0) shard (λ map. after_one map r.0 done) all.1.may owned set)

-- a worker whose tables are made, and that has worked off its requests
module _ (shared : SharedView) (requests : List Request) (workers worker : ℕ) (tables : ℕ → Bool) (replies : Replies) (first begun asked : CacheState)
    (is_first : IsFirst shared workers worker first)
    (made : IsBegun (image_of shared) (is_target_of workers worker requests) tables false first begun)
    (part : HasExecuted (image_of shared) (worker_requests workers worker requests) tables replies false begun asked) where
  module _ (key : ℕ) (has : HasTableFor tables requests workers worker key) where
    begun_owns : Contains begun.view.roots (shard_of key)
    begun_owns = subst (λ (roots : List ℕ). Contains roots (shard_of key)) (sym made.roots_are)
        (first_owns shared workers worker first is_first (shard_of key) (small_shard (get key))
        (target_is_own workers worker requests (shard_of key) has.target))

    asked_owns : Contains asked.view.roots (shard_of key)
    asked_owns = subst (λ (roots : List ℕ). Contains roots (shard_of key)) (sym part.roots_are) begun_owns

    shard_there : IsShard (heap_view asked) (shard_of key)
    shard_there = asked_shard (image_of shared) (part.worked refl).rs (heap_view asked) (shard_of key)
        (first_opened shared workers worker first is_first).maps (small_shard (get key)) asked_owns
        (part.worked refl).answered

    begun_has : RootIsSet (heap_view begun) (shard_of key)
    begun_has = subst (λ b. TellsTable heap_view GoesOn TurnsAway (shard_of key) b first begun) has.table
        (made.told refl (shard_of key) (small_shard (get key)) has.target)

    asked_has : RootIsSet (heap_view asked) (shard_of key)
    asked_has =
        let steps = part.steps in
        let none_left = unanswered_now (image_of shared) (worker_requests workers worker requests) [] replies (heap_view asked) (part.worked refl) in
        let same : heap_view asked ≡ heap_view steps.0 = subst (λ left. IsUnderWay left (heap_view steps.0) (heap_view asked)) none_left steps.2 in
        subst (λ (v : View). RootIsSet v (shard_of key)) (sym same) (table_stays (shard_of key) _ begun steps.0 steps.1 begun_owns begun_has)

  pub have_tables : (came : List Sent) → All (λ s. HasTableFor tables requests workers worker s.key) came → HaveTables came (heap_view asked)
  have_tables came all = record {
    shard = λ s among. shard_there s.key (All-contains (λ x. HasTableFor tables requests workers worker x.key) came s all among);
    table = λ s among. asked_has s.key (All-contains (λ x. HasTableFor tables requests workers worker x.key) came s all among);
  }
