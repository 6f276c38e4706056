-- What the calls of all workers cost together, over the tables that are made, their own requests and what comes by moves.
use Rattle.std.proofs.Common.{ℕ, ◌+◌, ◌*◌, ◌<◌, ◌≤◌, Bool, nat_eq, List, length, slice_index, sum_by, refl, ap, arith}
use Rattle.std.proofs.Math.Nat.{mul-le-mul_left}
use Rattle.std.proofs.lemmas.Bool.{eq-eqb, ne_eqb}
use Rattle.heap_model.specs.declared.block.Block.{Block}
use Rattle.heap_model.specs.Counting.{total}
use Rattle.heap_model.specs.Geometry.{largest_capacity_fits}
use Rattle.dict_model.specs.Requests.{Request}
use Rattle.core_model.specs.Opening.{setup_of}
use Rattle.core_model.specs.View.{View}
use Rattle.seat_model.specs.CacheState.{CacheState}
use Rattle.thread_cache.specs.Keeps.{most_draws, most_gives, most_wins}
use Rattle.run_model.specs.Needs.{ListsKeysOf, moves_among, puts_among, step_bound, targets_of}
use Rattle.run_model.specs.Workers.{Replies, is_of_worker, worker_requests}
use Rattle.run_model.specs.Sending.{coming}
use Rattle.run_model.specs.Working.{large_calls_of}
use Rattle.run_model.proofs.OneMapLemmas.{whole_map}
use Rattle.run_model.proofs.SumLemmas.{sum_over, sum_within, sum_beside, workers_sum}
use Rattle.worker_parts.specs.Going.{GoesOn, IsUnused}
use Rattle.worker_parts.specs.Parts.{SpendsFew}
use Rattle.run_outcome.specs.Together.{HaveWorked}
use Rattle.run_outcome.proofs.BoundLemmas.{draws_add, wins_add, times_add, losses_add, large_add, small_add, small_bound, within_bound}
use Rattle.run_outcome.proofs.CountLemmas.{requests_all, requests_few}
use Rattle.run_outcome.proofs.MoveLemmas.{coming_all, large_beside_moves, puts_and_moves, puts_within, targets_all}
use Rattle.run_outcome.proofs.WorkerLemmas.{all_views, last_view, of_each, seats_total, unused}

-- small calls are no more than for as many requests, puts and values of a longer trace
small_within : (small targets own came puts requests keys : ℕ) → own ≤ requests → puts + came ≤ requests
    → small ≤ 512 * targets + own * (33280 + 4 * (keys + own)) + came * (512 + 4 * (keys + puts + came))
    → small ≤ 512 * targets + (33280 + 4 * (keys + requests)) * own + (512 + 4 * (keys + requests)) * came
small_within small targets own came puts requests keys few brought spent =
    let a : own * (33280 + 4 * (keys + own)) ≤ own * (33280 + 4 * (keys + requests)) =
    mul-le-mul_left own (let e : 33280 + 4 * (keys + own) ≤ 33280 + 4 * (keys + requests) = omega arith in e) in
    let b : came * (512 + 4 * (keys + puts + came)) ≤ came * (512 + 4 * (keys + requests)) =
    mul-le-mul_left came (let e : 512 + 4 * (keys + puts + came) ≤ 512 + 4 * (keys + requests) = omega arith in e) in
    omega arith

-- what a seat's calls cost since it was opened
record SeatCosts (targets : ℕ) (mine : List Request) (came keys : ℕ) (t : CacheState) : Type 0 where
  draws : t.view.draws ≤ t.small_calls + most_draws * t.large_calls + 16 * t.view.losses + 16 * t.view.moves
  wins : t.view.wins ≤ most_wins * t.large_calls + 2 * t.view.moves
  gives : t.view.gives ≤ most_gives * t.large_calls
  few : SpendsFew targets mine came keys t

seat_costs : (targets : ℕ) (mine : List Request) (came keys : ℕ) (s t : CacheState) → IsUnused s → SpendsFew targets mine came keys t
    → GoesOn s t → SeatCosts targets mine came keys t
seat_costs targets mine came keys s t unused few kept = record {
  draws = let costs = kept.1.draws in let a = unused.small in let b = unused.large in let c = unused.nothing.counts in omega arith;
  wins = let costs = kept.1.wins in let b = unused.large in let c = unused.nothing.counts in omega arith;
  gives = let costs = kept.1.gives in let b = unused.large in let c = unused.nothing.counts in omega arith;
  few = few;
}

module _ {words : List ℕ} {held : List Block} {workers budget : ℕ} {requests : List Request} {replies : Replies} {stopped : Bool}
    {now kept left : List ℕ}
    (h : HaveWorked words held workers budget requests replies stopped now kept left) where
  abbrev own : ℕ → ℕ
  own worker = length (worker_requests workers worker requests)

  abbrev targets : ℕ → ℕ
  targets worker = targets_of workers worker requests

  abbrev came : ℕ → ℕ
  came worker = length (h.came worker)

  abbrev calls_of : ℕ → ℕ
  calls_of worker = sum_by large_calls_of (worker_requests workers worker requests)

  abbrev small_of : ℕ → ℕ
  small_of worker = (h.last worker).small_calls

  abbrev large_of : ℕ → ℕ
  large_of worker = (h.last worker).large_calls

  abbrev losses_of : ℕ → ℕ
  losses_of worker = (last_view h worker).losses

  abbrev moves_of : ℕ → ℕ
  moves_of worker = (last_view h worker).moves

  abbrev wins_of : ℕ → ℕ
  wins_of worker = (last_view h worker).wins

  abbrev gives_of : ℕ → ℕ
  gives_of worker = (last_view h worker).gives

  -- what came to all workers is no more than the moves of the trace
  came_all : sum_over came 0 workers ≤ moves_among requests
  came_all =
      let whole = whole_map (slice_index words) h.dictionary.maps in
      let same = sum_within came (λ worker. length (coming workers worker whole.0 requests replies)) 0 workers
      (λ w low high. let e = ap length (h.came_are whole.0 whole.1 w (omega arith)) in omega arith) in
      let few = coming_all workers whole.0 requests replies in
      omega arith

  came_few : (worker : ℕ) → worker < workers → puts_among (worker_requests workers worker requests) + came worker ≤ length requests
  came_few worker below =
      let all = came_all in
      let one = sum_beside came (λ other. nat_eq other worker) worker 0 workers (omega arith) (omega arith) (eq-eqb worker worker refl)
      (λ i other. ne_eqb i worker other) in
      let puts = puts_within (is_of_worker workers worker) requests in
      let both = puts_and_moves requests in
      omega arith

  -- what the seats spent together
  module _ (keys : List ℕ) (lists : ListsKeysOf (slice_index words) keys) where
    costs : (worker : ℕ) → worker < 0 + workers → SeatCosts (targets worker) (worker_requests workers worker requests) (came worker)
        (length keys) (h.last worker)
    costs worker below =
        let part = h.parts worker (omega arith) in
        seat_costs (targets worker) (worker_requests workers worker requests) (came worker) (length keys) (h.first worker)
        (h.last worker) part.unused (part.few keys lists) part.goes_on

    draws_all : total (λ (v : View). v.draws) (all_views h)
        ≤ sum_over small_of 0 workers + most_draws * sum_over large_of 0 workers + 16 * sum_over losses_of 0 workers + 16 * sum_over moves_of 0 workers
    draws_all =
        let all = seats_total h (λ (v : View). v.draws) (λ v is. is.counts.0) in
        let few = draws_add (λ w. (last_view h w).draws) small_of large_of losses_of moves_of 0 workers (λ w low high. (costs w high).draws) in
        omega arith

    losses_all : sum_over losses_of 0 workers + sum_over wins_of 0 workers ≤ workers * sum_over wins_of 0 workers
    losses_all = losses_add losses_of wins_of (sum_over wins_of 0 workers) 0 workers (λ w low high.
        let most = of_each h _ h.closed.sound.good.lost w (omega arith) in
        let all = seats_total h (λ (v : View). v.wins) (λ v is. is.counts.1) in
        omega arith)

    moves_all : sum_over moves_of 0 workers ≤ sum_over gives_of 0 workers + (setup_of words budget workers).capacity
    moves_all =
        let most = h.closed.sound.good.moves in
        let all = seats_total h (λ (v : View). v.moves) (λ v is. is.counts.6) in
        let given = seats_total h (λ (v : View). v.gives) (λ v is. is.counts.5) in
        omega arith

    large_all : sum_over large_of 0 workers ≤ 3 * length requests + workers
    large_all =
        let few = large_add large_of targets calls_of came 0 workers (λ w low high. (costs w high).few.large) in
        let tables = targets_all workers requests in
        let calls = workers_sum workers large_calls_of requests in
        let values = came_all in
        let all = large_beside_moves requests in
        omega arith

    small_all : sum_over small_of 0 workers ≤ length requests * (34304 + 8 * (length keys + length requests))
    small_all =
        let few = small_add small_of targets own came (33280 + 4 * (length keys + length requests))
        (512 + 4 * (length keys + length requests)) 0 workers
        (λ w low high. small_within (small_of w) (targets w) (own w) (came w) (puts_among (worker_requests workers w requests))
        (length requests) (length keys)
        (requests_few workers w requests) (came_few w (omega arith)) (costs w high).few.small) in
        let tables = targets_all workers requests in
        let mine = requests_all workers requests h.some in
        let values = came_all in
        let moves = puts_and_moves requests in
        small_bound (length requests) (length keys) (sum_over small_of 0 workers) (sum_over targets 0 workers) (sum_over own 0 workers)
        (sum_over came 0 workers)
        (omega arith) (omega arith) (omega arith) few

    pub drawn_few : total (λ (v : View). v.draws) (all_views h) ≤ step_bound (length requests) (length keys) workers
    drawn_few =
        within_bound (length requests) (length keys) workers (setup_of words budget workers).capacity
        (sum_over small_of 0 workers) (sum_over large_of 0 workers) (sum_over losses_of 0 workers) (sum_over moves_of 0 workers)
        (sum_over wins_of 0 workers) (sum_over gives_of 0 workers) (total (λ (v : View). v.draws) (all_views h))
        h.some (let low = h.closed.sound.good.small in let most = largest_capacity_fits in omega arith) draws_all losses_all
        (wins_add wins_of large_of moves_of 0 workers (λ w low high. (costs w high).wins))
        moves_all (times_add gives_of large_of most_gives 0 workers (λ w low high. (costs w high).gives)) large_all small_all
