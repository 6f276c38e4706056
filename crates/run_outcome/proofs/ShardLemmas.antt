-- The requests to a shard that a trace answers are those that the shard's worker answers.
use Rattle.std.proofs.Common.{◌≡◌, ℕ, List, [], ◌∷◌, None, Some, cond, refl, sym, ap, ◌∙◌}
use Rattle.std.specs.Prelude.{Bool, true, false}
use Rattle.std.proofs.lemmas.Bool.{cond-false, eq-eqb, eqb-true, false_from_ne_true, false≢true}
use Rattle.dict_model.specs.Requests.{Request, Reply}
use Rattle.run_model.specs.Workers.{Replies, worker_of, shard_asked, is_of_worker, worker_requests, worker_replies}
use Rattle.run_model.specs.Needs.{is_to}
use Rattle.run_model.specs.Runs.{answered, of_shard, worker_answered}
use Rattle.worker_run.proofs.SpendLemmas.{answered_none}

-- an unanswered request adds nothing, whosever it is
none_added : (mine : Bool) (request : Request) (requests : List Request) (replies : Replies)
    → answered requests replies ≡ answered (cond mine (request ∷ requests) requests) (cond mine (None ∷ replies) replies)
none_added true request requests replies = refl
none_added false request requests replies = refl

-- nor does one of another worker, which is to another shard
one_added : (shard : ℕ) (mine : Bool) (request : Request) (reply : Reply) (requests : List Request) (replies : Replies)
    → (is_to shard request ≡ true → mine ≡ true)
    → of_shard shard ((request, reply) ∷ answered requests replies)
    ≡ of_shard shard (answered (cond mine (request ∷ requests) requests) (cond mine (Some reply ∷ replies) replies))
one_added shard true request reply requests replies so = refl
one_added shard false request reply requests replies so = cond-false (is_to shard request) _ _
    (false_from_ne_true (is_to shard request) (λ e. false≢true (so e)))

module _ (workers shard : ℕ) where
  abbrev mine : Request → Bool
  mine = is_of_worker workers (worker_of workers shard)

  -- a request to the shard is one of the shard's worker
  is_mine : (request : Request) → is_to shard request ≡ true → mine request ≡ true
  is_mine request to = eq-eqb (worker_of workers (shard_asked request)) (worker_of workers shard)
      (ap (worker_of workers) (eqb-true (shard_asked request) shard to))

  pub of_its_worker : (requests : List Request) (replies : Replies)
      → of_shard shard (answered requests replies) ≡ of_shard shard (worker_answered workers (worker_of workers shard) requests replies)
  of_its_worker [] replies = refl
  of_its_worker (request ∷ requests) [] = ap (of_shard shard) (sym
      (answered_none (worker_requests workers (worker_of workers shard) (request ∷ requests))))
  of_its_worker (request ∷ requests) (None ∷ replies) = of_its_worker requests replies
      ∙ ap (of_shard shard) (none_added (mine request) request (worker_requests workers (worker_of workers shard) requests)
      (worker_replies workers (worker_of workers shard) requests replies))
  of_its_worker (request ∷ requests) (Some reply ∷ replies) = ap (λ (rs : List (Request × Reply)). cond (is_to shard request)
      ((request, reply) ∷ rs) rs) (of_its_worker requests replies)
      ∙ one_added shard (mine request) request reply (worker_requests workers (worker_of workers shard) requests)
      (worker_replies workers (worker_of workers shard) requests replies) (is_mine request)
