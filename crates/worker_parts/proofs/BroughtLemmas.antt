-- How many tables a worker's moves and puts need.
use Rattle.std.proofs.Common.{◌≡◌, ℕ, ◌+◌, ◌≤◌, ◌⊎◌, inl, inr, Bool, true, false, not, cond, List, [], ◌∷◌, refl, subst, arith}
use Rattle.std.specs.Prelude.{count_by, nat_eq, ◌||◌, ◌&&◌}
use Rattle.std.proofs.lemmas.Bool.{and_from, and_parts, eqb-true, or_cases, or_left, or_right}
use Rattle.std.proofs.lemmas.List.Sums.{sum_by-cons}
use Rattle.heap_model.specs.Image.{words_from}
use Rattle.heap_seat.specs.View.{View}
use Rattle.dict_model.specs.Links.{shards}
use Rattle.dict_model.specs.Nodes.{shard_of}
use Rattle.dict_model.specs.Requests.{Request, put, get, del, move}
use Rattle.run_model.specs.Needs.{brings, is_brought_to, is_moved_to, is_target_of, is_to, put_into, worker_tables}
use Rattle.run_model.specs.Spending.{sees_table, tables_made, tables_missing}
use Rattle.run_model.specs.Workers.{is_of_worker, shard_asked, worker_of, worker_requests}
use Rattle.run_model.proofs.CountLemmas.{count_rises}

-- two tests that exclude each other and imply a third
count_both : (p q r : ℕ → Bool) (xs : List ℕ) → ((x : ℕ) → p x ≡ true → r x ≡ true) → ((x : ℕ) → q x ≡ true → r x ≡ true)
    → ((x : ℕ) → p x ≡ true → q x ≡ true → ⊥)
    → count_by p xs + count_by q xs ≤ count_by r xs
count_both p q r [] one two apart = let all : 0 + 0 ≤ 0 = omega arith in all
count_both p q r (x ∷ xs) one two apart =
    let a = sum_by-cons (λ y. cond (p y) 1 0) x xs in
    let b = sum_by-cons (λ y. cond (q y) 1 0) x xs in
    let c = sum_by-cons (λ y. cond (r y) 1 0) x xs in
    let first = at (p x) (q x) (r x) (one x) (two x) (apart x) in
    let rest = count_both p q r xs one two apart in
    omega arith where
      at : (a b c : Bool) → (a ≡ true → c ≡ true) → (b ≡ true → c ≡ true) → (a ≡ true → b ≡ true → ⊥)
          → cond {A = ℕ} a 1 0 + cond {A = ℕ} b 1 0 ≤ cond {A = ℕ} c 1 0
      at true true c one two apart = absurd (apart refl refl)
      at true false true one two apart = let all : 1 + 0 ≤ 1 = omega arith in all
      at true false false one two apart = let e : false ≡ true = one refl in absurd (cc)
      at false true true one two apart = let all : 0 + 1 ≤ 1 = omega arith in all
      at false true false one two apart = let e : false ≡ true = two refl in absurd (cc)
      at false false true one two apart = let all : 0 + 0 ≤ 1 = omega arith in all
      at false false false one two apart = let all : 0 + 0 ≤ 0 = omega arith in all

-- whether the shard is the worker's, and one of the requests brings a value to it
abbrev is_brought : ℕ → ℕ → List Request → ℕ → Bool
is_brought workers worker requests shard = nat_eq (worker_of workers shard) worker && is_brought_to requests shard

-- it stays so with a request more
brought_more : (workers worker : ℕ) (q : Request) (qs : List Request) (shard : ℕ) → is_brought workers worker qs shard ≡ true
    → is_brought workers worker (q ∷ qs) shard ≡ true
brought_more workers worker q qs shard is =
    let parts = and_parts (nat_eq (worker_of workers shard) worker) (is_brought_to qs shard) is in
    and_from (nat_eq (worker_of workers shard) worker) (brings shard q || is_brought_to qs shard) parts.0
    (or_right (brings shard q) (is_brought_to qs shard) parts.1)

-- one request more before those that put into it
put_more : (workers worker : ℕ) (q : Request) (qs : List Request) (shard : ℕ)
    → (is_of_worker workers worker q ≡ true → put_into (q ∷ worker_requests workers worker qs) shard ≡ true
    → ((brings shard q ≡ true) × (is_to shard q ≡ true)) ⊎ (put_into (worker_requests workers worker qs) shard ≡ true))
    → (put_into (worker_requests workers worker qs) shard ≡ true → is_brought workers worker qs shard ≡ true)
    → put_into (worker_requests workers worker (q ∷ qs)) shard ≡ true → is_brought workers worker (q ∷ qs) shard ≡ true
put_more workers worker q qs shard first rest is = by_case (is_of_worker workers worker q) refl is where
  by_case : (b : Bool) → is_of_worker workers worker q ≡ b → put_into
      (cond b (q ∷ worker_requests workers worker qs) (worker_requests workers worker qs)) shard ≡ true
      → is_brought workers worker (q ∷ qs) shard ≡ true
  by_case true own is = elim (first own is) as (λ _. is_brought workers worker (q ∷ qs) shard ≡ true) [
    | inl it ↦ and_from (nat_eq (worker_of workers shard) worker) (is_brought_to (q ∷ qs) shard)
        (subst (λ n. nat_eq (worker_of workers n) worker ≡ true) (eqb-true (shard_asked q) shard it.1) own)
        (or_left (brings shard q) (is_brought_to qs shard) it.0)
    | inr later ↦ brought_more workers worker q qs shard (rest later)
  ]
  by_case false other is = brought_more workers worker q qs shard (rest is)

-- a shard that a worker's requests put into is its own, and is brought a value
pub own_put_is_brought : (workers worker : ℕ) (requests : List Request) (shard : ℕ)
    → put_into (worker_requests workers worker requests) shard ≡ true → is_brought workers worker requests shard ≡ true
own_put_is_brought workers worker [] shard is = absurd (cc)
own_put_is_brought workers worker (put key value ∷ qs) shard is = put_more workers worker (put key value) qs shard
    (λ own into. elim (or_cases (is_to shard (put key value)) (put_into (worker_requests workers worker qs) shard) into)
    as (λ _. ((brings shard (put key value) ≡ true) × (is_to shard (put key value) ≡ true)) ⊎
    (put_into (worker_requests workers worker qs) shard ≡ true)) [
      | inl first ↦ inl (first, first)
      | inr later ↦ inr later
    ]) (own_put_is_brought workers worker qs shard) is
own_put_is_brought workers worker (get key ∷ qs) shard is = put_more workers worker (get key) qs shard (λ own into. inr into)
    (own_put_is_brought workers worker qs shard) is
own_put_is_brought workers worker (del key ∷ qs) shard is = put_more workers worker (del key) qs shard (λ own into. inr into)
    (own_put_is_brought workers worker qs shard) is
own_put_is_brought workers worker (move key to ∷ qs) shard is = put_more workers worker (move key to) qs shard (λ own into. inr into)
    (own_put_is_brought workers worker qs shard) is

-- so it is of a shard that is moved to
moved_is_brought : (requests : List Request) (shard : ℕ) → is_moved_to requests shard ≡ true → is_brought_to requests shard ≡ true
moved_is_brought [] shard is = is
moved_is_brought (put key value ∷ qs) shard is = or_right (brings shard (put key value)) (is_brought_to qs shard) (moved_is_brought qs shard is)
moved_is_brought (get key ∷ qs) shard is = moved_is_brought qs shard is
moved_is_brought (del key ∷ qs) shard is = moved_is_brought qs shard is
moved_is_brought (move key to ∷ qs) shard is = elim (or_cases (nat_eq (shard_of to) shard) (is_moved_to qs shard) is) as
    (λ _. is_brought_to (move key to ∷ qs) shard ≡ true) [
      | inl first ↦ or_left (brings shard (move key to)) (is_brought_to qs shard) first
      | inr later ↦ or_right (brings shard (move key to)) (is_brought_to qs shard) (moved_is_brought qs shard later)
    ]

target_is_brought : (workers worker : ℕ) (requests : List Request) (shard : ℕ) → is_target_of workers worker requests shard ≡ true
    → is_brought workers worker requests shard ≡ true
target_is_brought workers worker requests shard is =
    let parts = and_parts (nat_eq (worker_of workers shard) worker) (is_moved_to requests shard) is in
    and_from (nat_eq (worker_of workers shard) worker) (is_brought_to requests shard) parts.0 (moved_is_brought requests shard parts.1)

-- the tables that were made before the first request, and those that are missing then, are no more than the worker's
pub tables_both : (workers worker : ℕ) (requests : List Request) (v w : View)
    → tables_made (is_target_of workers worker requests) v w + tables_missing
    (put_into (worker_requests workers worker requests)) w ≤ worker_tables workers worker requests
tables_both workers worker requests v w =
    count_both (λ shard. is_target_of workers worker requests shard && (sees_table w shard && not (sees_table v shard)))
    (λ shard. put_into (worker_requests workers worker requests) shard && not (sees_table w shard)) (is_brought workers worker requests)
    (words_from (λ i. i) 0 shards)
    (λ shard is. target_is_brought workers worker requests shard (and_parts (is_target_of workers worker requests shard)
    (sees_table w shard && not (sees_table v shard)) is).0)
    (λ shard is. own_put_is_brought workers worker requests shard (and_parts (put_into (worker_requests workers worker requests) shard)
    (not (sees_table w shard)) is).0)
    (λ shard made missing.
    let sees = (and_parts (sees_table w shard) (not (sees_table v shard))
    (and_parts (is_target_of workers worker requests shard) (sees_table w shard && not (sees_table v shard)) made).1).0 in
    let none = (and_parts (put_into (worker_requests workers worker requests) shard) (not (sees_table w shard)) missing).1 in
    let both : not true ≡ true = subst (λ b. not b ≡ true) sees none in
    absurd (cc))

pub tables_wanted : (workers worker : ℕ) (requests : List Request) (v : View)
    → tables_missing (is_target_of workers worker requests) v ≤ worker_tables workers worker requests
tables_wanted workers worker requests v =
    count_rises (λ shard. is_target_of workers worker requests shard && not (sees_table v shard)) (is_brought workers worker requests)
    (words_from (λ i. i) 0 shards)
    (λ shard among is. target_is_brought workers worker requests shard
    (and_parts (is_target_of workers worker requests shard) (not (sees_table v shard)) is).0)
