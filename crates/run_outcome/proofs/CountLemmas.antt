-- What of a trace is each worker's adds up to the trace: its requests, the tables that it needs, and what is unanswered.
use Rattle.std.proofs.Common.{◌≡◌, ℕ, zero, suc, ◌+◌, ◌<◌, ◌≤◌, inl, inr, Bool, true, false, nat_eq, cond, List, [], ◌∷◌, ◌++◌, length, replicate, sum_by, None, Some, refl, ap, subst, sym, ◌∙◌, arith}
use Rattle.std.specs.Prelude.{count_by, ◌&&◌}
use Rattle.std.proofs.lemmas.Bool.{cases_lt, eq-eqb, ne_eqb, eqb-true, and_parts, false_from_ne_true}
use Rattle.std.proofs.lemmas.List.Sums.{sum_by-cons, length-filter, count_by-le-length}
use Rattle.heap_model.specs.Image.{words_from}
use Rattle.dict_model.specs.Links.{shards}
use Rattle.dict_model.specs.Requests.{Request}
use Rattle.run_model.specs.Needs.{is_brought_to, tables_needed, worker_tables}
use Rattle.run_model.specs.Runs.{answered, unanswered, worker_unanswered}
use Rattle.run_model.specs.Workers.{Replies, shard_asked, worker_of, is_of_worker, worker_requests, worker_replies, worker_numbers}
use Rattle.run_model.proofs.CountLemmas.{one_count}
use Rattle.run_model.proofs.SumLemmas.{sum_over, sum_within, sum_both, sum_one, sum_none}
use Rattle.worker_run.proofs.SpendLemmas.{answered_none}

-- a test that at most one of the workers passes, and only where the whole passes it
pub count_one : (tests : ℕ → Bool) (whole : Bool) (owner workers : ℕ) → ((w : ℕ) → tests w ≡ true → (whole ≡ true) × (owner ≡ w))
    → sum_over (λ w. cond (tests w) 1 0) 0 workers ≤ cond whole 1 0
count_one tests whole owner workers only = elim (cases_lt owner workers) as (λ _. sum_over (λ w. cond (tests w) 1 0) 0 workers ≤ cond whole 1 0) [
  | inl below ↦
      let one = sum_one (λ w. cond (tests w) 1 0) owner 0 workers (omega arith) (omega arith)
      (λ w other. ap (λ b. cond b 1 0) (false_from_ne_true (tests w) (λ is. other (sym (only w is).1)))) in
      let here = one_count (tests owner) whole (λ is. (only owner is).0) in
      omega arith
  | inr above ↦
      let none = sum_none (λ w. cond (tests w) 1 0) 0 workers (λ w low high. ap (λ b. cond b 1 0)
      (false_from_ne_true (tests w) (λ is. let e = (only w is).1 in omega arith))) in
      omega arith
]

-- and so over a list, of whose members each is one worker's
pub count_parts : {X : Type 0} (tests : ℕ → X → Bool) (whole : X → Bool) (owner : X → ℕ) (workers : ℕ) (xs : List X)
    → ((w : ℕ) (x : X) → tests w x ≡ true → (whole x ≡ true) × (owner x ≡ w))
    → sum_over (λ w. count_by (tests w) xs) 0 workers ≤ count_by whole xs
count_parts tests whole owner workers [] only = omega (arith, sum_none (λ w. 0) 0 workers (λ w low high. refl))
count_parts tests whole owner workers (x ∷ xs) only =
    let head = count_one (λ w. tests w x) (whole x) (owner x) workers (λ w is. only w x is) in
    let rest = count_parts tests whole owner workers xs only in
    let all = sum_by-cons (λ y. cond (whole y) 1 0) x xs in
    let each = sum_within (λ w. count_by (tests w) (x ∷ xs)) (λ w. cond (tests w x) 1 0 + count_by (tests w) xs) 0 workers
    (λ w low high. let e = sum_by-cons (λ y. cond (tests w y) 1 0) x xs in omega arith) in
    let parts = sum_both (λ w. cond (tests w x) 1 0) (λ w. count_by (tests w) xs) 0 workers in
    omega arith

-- the worker that a shard belongs to
pub worker_below : (workers shard : ℕ) → 1 ≤ workers → worker_of workers shard < workers
worker_below workers shard some = omega arith

own_request : (workers worker : ℕ) (request : Request) → worker ≡ worker_of workers (shard_asked request) → is_of_worker workers worker request ≡ true
own_request workers worker request is = eq-eqb (worker_of workers (shard_asked request)) worker (sym is)

-- each request is one worker's
pub requests_all : (workers : ℕ) (requests : List Request) → 1 ≤ workers
    → sum_by (λ worker. length (worker_requests workers worker requests)) (worker_numbers workers) ≡ length requests
requests_all workers [] some = sum_none (λ w. 0) 0 workers (λ w low high. refl)
requests_all workers (request ∷ requests) some =
    let owner = worker_of workers (shard_asked request) in
    let below = worker_below workers (shard_asked request) some in
    let one = sum_one (λ w. cond (is_of_worker workers w request) 1 0) owner 0 workers (omega arith) (omega arith)
    (λ w other. ap (λ b. cond b 1 0) (ne_eqb owner w (λ e. other (sym e)))) in
    let is : cond {A = ℕ} (is_of_worker workers owner request) 1 0 ≡ 1 = ap (λ b. cond {A = ℕ} b 1 0) (own_request workers owner request refl) in
    let rest = requests_all workers requests some in
    let less = sum_within (λ w. length (worker_requests workers w (request ∷ requests)))
    (λ w. cond (is_of_worker workers w request) 1 0 + length (worker_requests workers w requests)) 0 workers
    (λ w low high. let e = longer (is_of_worker workers w request) (worker_requests workers w requests) in omega arith) in
    let more = sum_within (λ w. cond (is_of_worker workers w request) 1 0 + length (worker_requests workers w requests))
    (λ w. length (worker_requests workers w (request ∷ requests))) 0 workers
    (λ w low high. let e = longer (is_of_worker workers w request) (worker_requests workers w requests) in omega arith) in
    let parts = sum_both (λ w. cond (is_of_worker workers w request) 1 0) (λ w. length (worker_requests workers w requests)) 0 workers in
    omega arith
  where
    longer : (b : Bool) (rs : List Request) → length (cond b (request ∷ rs) rs) ≡ cond b 1 0 + length rs
    longer true rs = omega arith
    longer false rs = omega arith

-- each shard that needs a table is one worker's
pub tables_all : (workers : ℕ) (requests : List Request)
    → sum_by (λ worker. worker_tables workers worker requests) (worker_numbers workers) ≤ tables_needed requests
tables_all workers requests =
    count_parts (λ w shard. nat_eq (worker_of workers shard) w && is_brought_to requests shard) (is_brought_to requests)
    (worker_of workers) workers (words_from (λ i. i) 0 shards)
    (λ w shard is. let both = and_parts (nat_eq (worker_of workers shard) w) (is_brought_to requests shard) is in
    (both.1, eqb-true (worker_of workers shard) w both.0))

-- a worker has no more requests than the trace
pub requests_few : (workers worker : ℕ) (requests : List Request) → length (worker_requests workers worker requests) ≤ length requests
requests_few workers worker requests = omega (
  arith,
  length-filter (is_of_worker workers worker) requests,
  count_by-le-length (is_of_worker workers worker) requests,
)

-- where each worker has answered all that is its own, all is answered
pub all_answered : (workers : ℕ) (requests : List Request) (replies : Replies) → 1 ≤ workers
    → ((worker : ℕ) → worker < workers → worker_unanswered workers worker requests replies ≡ []) → unanswered requests replies ≡ []
all_answered workers [] replies some each = refl
all_answered workers (request ∷ requests) [] some each =
    let owner = worker_of workers (shard_asked request) in
    let own = worker_requests workers owner requests in
    let left : request ∷ unanswered own [] ≡ [] =
    subst (λ (b : Bool). unanswered (cond b (request ∷ own) own) [] ≡ []) (own_request workers owner request refl)
    (each owner (worker_below workers (shard_asked request) some)) in
    absurd (cc)
all_answered workers (request ∷ requests) (None ∷ replies) some each =
    let owner = worker_of workers (shard_asked request) in
    let own = worker_requests workers owner requests in
    let told = worker_replies workers owner requests replies in
    let left : request ∷ unanswered own told ≡ [] =
    subst (λ (b : Bool). unanswered (cond b (request ∷ own) own) (cond b (None ∷ told) told) ≡ []) (own_request workers owner request refl)
    (each owner (worker_below workers (shard_asked request) some)) in
    absurd (cc)
all_answered workers (request ∷ requests) (Some reply ∷ replies) some each =
    all_answered workers requests replies some (λ w below. by_test w (is_of_worker workers w request) (each w below))
  where
    by_test : (w : ℕ) (b : Bool)
        → unanswered (cond b (request ∷ worker_requests workers w requests) (worker_requests workers w requests))
        (cond b (Some reply ∷ worker_replies workers w requests replies) (worker_replies workers w requests replies)) ≡ []
        → worker_unanswered workers w requests replies ≡ []
    by_test w true none = none
    by_test w false none = none

-- replies that are missing at the end answer nothing
pub answered_padded : (requests : List Request) (told : Replies) (more : ℕ) → answered requests (told ++ replicate more None) ≡ answered requests told
answered_padded requests [] more = unanswered_end requests more where
  unanswered_end : (qs : List Request) (n : ℕ) → answered qs (replicate n None) ≡ answered qs []
  unanswered_end [] n = refl
  unanswered_end (q ∷ qs) zero = refl
  unanswered_end (q ∷ qs) (suc n) = unanswered_end qs n ∙ answered_none qs
answered_padded [] (reply ∷ told) more = refl
answered_padded (request ∷ requests) (None ∷ told) more = answered_padded requests told more
answered_padded (request ∷ requests) (Some reply ∷ told) more = ap (λ rs. (request, reply) ∷ rs) (answered_padded requests told more)

pub unanswered_padded : (requests : List Request) (told : Replies) (more : ℕ)
    → unanswered requests (told ++ replicate more None) ≡ unanswered requests told
unanswered_padded requests [] more = unanswered_end requests more where
  unanswered_end : (qs : List Request) (n : ℕ) → unanswered qs (replicate n None) ≡ unanswered qs []
  unanswered_end [] n = refl
  unanswered_end (q ∷ qs) zero = refl
  unanswered_end (q ∷ qs) (suc n) = ap (λ rs. q ∷ rs) (unanswered_end qs n)
unanswered_padded [] (reply ∷ told) more = refl
unanswered_padded (request ∷ requests) (None ∷ told) more = ap (λ rs. request ∷ rs) (unanswered_padded requests told more)
unanswered_padded (request ∷ requests) (Some reply ∷ told) more = unanswered_padded requests told more
