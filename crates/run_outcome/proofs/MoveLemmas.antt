-- The moves of a trace: how few shards, values on their way and calls they come to.
use Rattle.std.proofs.Common.{◌≡◌, ℕ, ◌+◌, ◌*◌, ◌≤◌, Bool, true, false, cond, nat_eq, List, [], ◌∷◌, length, filter, sum_by, Option, None, Some, refl, arith}
use Rattle.std.specs.Prelude.{count_by, ◌&&◌, ◌||◌}
use Rattle.std.proofs.lemmas.Bool.{eqb-true, and_parts}
use Rattle.std.proofs.lemmas.List.{length-append}
use Rattle.std.proofs.lemmas.List.Sums.{sum_by-cons, length-filter}
use Rattle.heap_model.specs.Image.{words_from}
use Rattle.dict_model.specs.Links.{shards}
use Rattle.dict_model.specs.Nodes.{shard_of}
use Rattle.dict_model.specs.Requests.{Request, put, get, del, move, Reply, done, full, none, found, after_one}
use Rattle.dict_model.specs.Shards.{Map}
use Rattle.run_model.specs.Needs.{is_moved_to, moves_among, puts_among, targets_of}
use Rattle.run_model.specs.Sending.{Sent, all_sent, coming, numbered, on_its_way, sends}
use Rattle.run_model.specs.Workers.{Replies, worker_numbers, worker_of}
use Rattle.run_model.specs.Working.{large_calls_of}
use Rattle.run_model.proofs.SumLemmas.{sum_within}
use Rattle.run_outcome.proofs.CountLemmas.{count_one, count_parts}

-- puts and moves are requests, and a part of a trace has no more puts
pub puts_and_moves : (qs : List Request) → puts_among qs + moves_among qs ≤ length qs
puts_and_moves [] = let all : 0 + 0 ≤ 0 = omega arith in all
puts_and_moves (put key value ∷ qs) = let rest = puts_and_moves qs in
    let all : 1 + puts_among qs + moves_among qs ≤ 1 + length qs = omega arith in omega (arith, all)
puts_and_moves (get key ∷ qs) = let rest = puts_and_moves qs in let all : puts_among qs + moves_among qs ≤ 1 + length qs = omega arith in
    omega (arith, all)
puts_and_moves (del key ∷ qs) = let rest = puts_and_moves qs in let all : puts_among qs + moves_among qs ≤ 1 + length qs = omega arith in
    omega (arith, all)
puts_and_moves (move key to ∷ qs) = let rest = puts_and_moves qs in
    let all : puts_among qs + (1 + moves_among qs) ≤ 1 + length qs = omega arith in omega (arith, all)

first_put : (q : Request) (qs : List Request) → puts_among (q ∷ qs) ≡ puts_among (q ∷ []) + puts_among qs
first_put (put key value) qs = let all : 1 + puts_among qs ≡ 1 + 0 + puts_among qs = omega arith in all
first_put (get key) qs = let all : puts_among qs ≡ 0 + puts_among qs = omega arith in all
first_put (del key) qs = let all : puts_among qs ≡ 0 + puts_among qs = omega arith in all
first_put (move key to) qs = let all : puts_among qs ≡ 0 + puts_among qs = omega arith in all

pub puts_within : (test : Request → Bool) (qs : List Request) → puts_among (filter test qs) ≤ puts_among qs
puts_within test [] = let all : 0 ≤ 0 = omega arith in all
puts_within test (q ∷ qs) = by_case (test q) (filter test qs) (puts_within test qs) where
  by_case : (b : Bool) (some : List Request) → puts_among some ≤ puts_among qs → puts_among (cond b (q ∷ some) some) ≤ puts_among (q ∷ qs)
  by_case true some few = let a = first_put q some in let b = first_put q qs in omega arith
  by_case false some few = let b = first_put q qs in omega arith

-- a request makes three large calls at most, and a move none of these
pub large_beside_moves : (qs : List Request) → sum_by large_calls_of qs + 3 * moves_among qs ≤ 3 * length qs
large_beside_moves [] = let all : 0 + 3 * 0 ≤ 3 * 0 = omega arith in all
large_beside_moves (q ∷ qs) = let more = sum_by-cons large_calls_of q qs in let one = first q in let rest = large_beside_moves qs in omega arith where
  first : (r : Request) → large_calls_of r + 3 * moves_among (r ∷ qs) ≤ 3 + 3 * moves_among qs
  first (put key value) = let all : 3 + 3 * moves_among qs ≤ 3 + 3 * moves_among qs = omega arith in all
  first (get key) = let all : 3 + 3 * moves_among qs ≤ 3 + 3 * moves_among qs = omega arith in all
  first (del key) = let all : 3 + 3 * moves_among qs ≤ 3 + 3 * moves_among qs = omega arith in all
  first (move key to) = let all : 0 + 3 * (1 + moves_among qs) ≤ 3 + 3 * moves_among qs = omega arith in all

-- as many shards as moves are moved to at most
count_or : (p q : ℕ → Bool) (xs : List ℕ) → count_by (λ x. p x || q x) xs ≤ count_by p xs + count_by q xs
count_or p q [] = let all : 0 ≤ 0 + 0 = omega arith in all
count_or p q (x ∷ xs) =
    let a = sum_by-cons (λ y. cond (p y || q y) 1 0) x xs in
    let b = sum_by-cons (λ y. cond (p y) 1 0) x xs in
    let c = sum_by-cons (λ y. cond (q y) 1 0) x xs in
    let one = either (p x) (q x) in
    let rest = count_or p q xs in
    omega arith
  where
    either : (a b : Bool) → cond (a || b) 1 0 ≤ cond a 1 0 + cond b 1 0
    either true b = let all : 1 ≤ 1 + cond b 1 0 = omega arith in all
    either false b = let all : cond b 1 0 ≤ 0 + cond b 1 0 = omega arith in all

targets_few : (qs : List Request) → count_by (is_moved_to qs) (words_from (λ i. i) 0 shards) ≤ moves_among qs
targets_few [] = let all : 0 ≤ 0 = omega arith in all
targets_few (put key value ∷ qs) = targets_few qs
targets_few (get key ∷ qs) = targets_few qs
targets_few (del key ∷ qs) = targets_few qs
targets_few (move key to ∷ qs) =
    let both = count_or (nat_eq (shard_of to)) (is_moved_to qs) (words_from (λ i. i) 0 shards) in
    let one = count_one (nat_eq (shard_of to)) true (shard_of to) shards (λ shard is. (refl, eqb-true (shard_of to) shard is)) in
    let rest = targets_few qs in
    let all : count_by (is_moved_to (move key to ∷ qs)) (words_from (λ i. i) 0 shards) ≤ 1 + moves_among qs = omega arith in all

-- of which each is one worker's
pub targets_all : (workers : ℕ) (requests : List Request) → sum_by (λ worker. targets_of workers worker requests)
    (worker_numbers workers) ≤ moves_among requests
targets_all workers requests =
    let all = count_parts (λ w shard. nat_eq (worker_of workers shard) w && is_moved_to requests shard) (is_moved_to requests)
    (worker_of workers) workers (words_from (λ i. i) 0 shards)
    (λ w shard is. let both = and_parts (nat_eq (worker_of workers shard) w) (is_moved_to requests shard) is in
    (both.1, eqb-true (worker_of workers shard) w both.0)) in
    let few = targets_few requests in
    omega arith

-- a move sends one value at most, and each value comes to one worker
way_short : (o : Option (List ℕ)) (number key : ℕ) → length (on_its_way o number key) ≤ 1
way_short None number key = let all : 0 ≤ 1 = omega arith in all
way_short (Some value) number key = let all : 1 ≤ 1 = omega arith in all

sends_few : (map : Map) (number : ℕ) (q : Request) (a : Reply) (qs : List Request)
    → length (sends map number q a) + moves_among qs ≤ moves_among (q ∷ qs)
sends_few map number (put key value) a qs = let all : 0 + moves_among qs ≤ moves_among qs = omega arith in all
sends_few map number (get key) a qs = let all : 0 + moves_among qs ≤ moves_among qs = omega arith in all
sends_few map number (del key) a qs = let all : 0 + moves_among qs ≤ moves_among qs = omega arith in all
sends_few map number (move key to) done qs = let short = way_short (map key) number to in
    let all : length (on_its_way (map key) number to) + moves_among qs ≤ 1 + moves_among qs = omega arith in all
sends_few map number (move key to) full qs = let all : 0 + moves_among qs ≤ 1 + moves_among qs = omega arith in all
sends_few map number (move key to) none qs = let all : 0 + moves_among qs ≤ 1 + moves_among qs = omega arith in all
sends_few map number (move key to) (found value) qs = let all : 0 + moves_among qs ≤ 1 + moves_among qs = omega arith in all

no_fewer : (q : Request) (qs : List Request) → moves_among qs ≤ moves_among (q ∷ qs)
no_fewer (put key value) qs = let all : moves_among qs ≤ moves_among qs = omega arith in all
no_fewer (get key) qs = let all : moves_among qs ≤ moves_among qs = omega arith in all
no_fewer (del key) qs = let all : moves_among qs ≤ moves_among qs = omega arith in all
no_fewer (move key to) qs = let all : moves_among qs ≤ 1 + moves_among qs = omega arith in all

sent_few : (map : Map) (number : ℕ) (qs : List Request) (rs : Replies) → length (all_sent map (numbered number qs) rs) ≤ moves_among qs
sent_few map number [] rs = let all : 0 ≤ 0 = omega arith in all
sent_few map number (q ∷ qs) [] = let all : 0 ≤ moves_among (q ∷ qs) = omega arith in all
sent_few map number (q ∷ qs) (None ∷ rs) = let more = no_fewer q qs in let rest = sent_few map (number + 1) qs rs in omega (arith, more, rest)
sent_few map number (q ∷ qs) (Some a ∷ rs) =
    let more = sends_few map number q a qs in
    let rest = sent_few (after_one map q a) (number + 1) qs rs in
    let both = length-append (sends map number q a) (all_sent (after_one map q a) (numbered (number + 1) qs) rs) in
    omega (arith, more, rest, both)

pub coming_all : (workers : ℕ) (whole : Map) (requests : List Request) (replies : Replies)
    → sum_by (λ worker. length (coming workers worker whole requests replies)) (worker_numbers workers) ≤ moves_among requests
coming_all workers whole requests replies =
    let sent = all_sent whole (numbered 0 requests) replies in
    let to : ℕ → Sent → Bool = λ w s. nat_eq (worker_of workers (shard_of s.key)) w in
    let each = sum_within (λ w. length (coming workers w whole requests replies)) (λ w. count_by (to w) sent) 0 workers
    (λ w low high. let e = length-filter (to w) sent in omega arith) in
    let all = count_parts to (λ s. true) (λ s. worker_of workers (shard_of s.key)) workers sent
    (λ w s is. (refl, eqb-true (worker_of workers (shard_of s.key)) w is)) in
    let long = every sent in
    let few = sent_few whole 0 requests replies in
    omega arith
  where
    every : (xs : List Sent) → count_by (λ s. true) xs ≡ length xs
    every [] = refl
    every (x ∷ xs) = let a = sum_by-cons (λ (s : Sent). cond true 1 0) x xs in let rest = every xs in omega (arith, a, rest)
