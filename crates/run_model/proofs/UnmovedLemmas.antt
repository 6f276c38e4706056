-- A trace without moves: nothing arrives, no move is refused, and the shards that need tables are those that are put into.
use Rattle.std.proofs.Common.{◌≡◌, ℕ, ◌≤◌, inl, inr, Bool, true, false, cond, List, [], ◌∷◌, filter, None, Some, refl, ap, arith}
use Rattle.std.specs.Prelude.{count_by}
use Rattle.std.proofs.lemmas.Bool.{or_left, or_right, or_cases}
use Rattle.std.proofs.lemmas.List.Sums.{sum_by-cons}
use Rattle.dict_model.specs.Requests.{Request, put, get, del, move, after_one}
use Rattle.dict_model.specs.Shards.{Map}
use Rattle.run_model.specs.Arrivals.{arrivals, worker_arrivals}
use Rattle.run_model.specs.Needs.{is_to, put_into, is_brought_to, brings, has_move}
use Rattle.run_model.specs.Runs.{answered}
use Rattle.run_model.specs.Workers.{Replies, is_of_worker}

pub nothing_arrives : (map : Map) (requests : List Request) (replies : Replies) → has_move requests ≡ false
    → arrivals map (answered requests replies) ≡ []
nothing_arrives map [] replies unmoved = refl
nothing_arrives map (q ∷ qs) [] unmoved = refl
nothing_arrives map (put key value ∷ qs) (None ∷ rs) unmoved = nothing_arrives map qs rs unmoved
nothing_arrives map (get key ∷ qs) (None ∷ rs) unmoved = nothing_arrives map qs rs unmoved
nothing_arrives map (del key ∷ qs) (None ∷ rs) unmoved = nothing_arrives map qs rs unmoved
nothing_arrives map (move key to ∷ qs) (None ∷ rs) unmoved = absurd (cc)
nothing_arrives map (put key value ∷ qs) (Some r ∷ rs) unmoved = nothing_arrives (after_one map (put key value) r) qs rs unmoved
nothing_arrives map (get key ∷ qs) (Some r ∷ rs) unmoved = nothing_arrives (after_one map (get key) r) qs rs unmoved
nothing_arrives map (del key ∷ qs) (Some r ∷ rs) unmoved = nothing_arrives (after_one map (del key) r) qs rs unmoved
nothing_arrives map (move key to ∷ qs) (Some r ∷ rs) unmoved = absurd (cc)

-- so at no worker
pub none_comes : (workers worker : ℕ) (map : Map) (requests : List Request) (replies : Replies) → has_move requests ≡ false
    → worker_arrivals workers worker map (answered requests replies) ≡ []
none_comes workers worker map requests replies unmoved = ap (filter (λ r. is_of_worker workers worker r.0))
    (nothing_arrives map requests replies unmoved)

-- a part of the trace has none
pub none_of_part : (test : Request → Bool) (requests : List Request) → has_move requests ≡ false → has_move (filter test requests) ≡ false
none_of_part test [] unmoved = refl
none_of_part test (put key value ∷ qs) unmoved = by_case (none_of_part test qs unmoved) (test (put key value)) where
  by_case : has_move (filter test qs) ≡ false → (b : Bool) → has_move (cond b (put key value ∷ filter test qs) (filter test qs)) ≡ false
  by_case rest true = rest
  by_case rest false = rest
none_of_part test (get key ∷ qs) unmoved = by_case (none_of_part test qs unmoved) (test (get key)) where
  by_case : has_move (filter test qs) ≡ false → (b : Bool) → has_move (cond b (get key ∷ filter test qs) (filter test qs)) ≡ false
  by_case rest true = rest
  by_case rest false = rest
none_of_part test (del key ∷ qs) unmoved = by_case (none_of_part test qs unmoved) (test (del key)) where
  by_case : has_move (filter test qs) ≡ false → (b : Bool) → has_move (cond b (del key ∷ filter test qs) (filter test qs)) ≡ false
  by_case rest true = rest
  by_case rest false = rest
none_of_part test (move key to ∷ qs) unmoved = absurd (cc)

-- a shard that is put into is brought a value
pub put_is_brought : (requests : List Request) (shard : ℕ) → put_into requests shard ≡ true → is_brought_to requests shard ≡ true
put_is_brought [] shard is = is
put_is_brought (put key value ∷ qs) shard is = elim (or_cases (is_to shard (put key value)) (put_into qs shard) is) as
    (λ _. is_brought_to (put key value ∷ qs) shard ≡ true) [
      | inl first ↦ or_left (brings shard (put key value)) (is_brought_to qs shard) first
      | inr later ↦ or_right (brings shard (put key value)) (is_brought_to qs shard) (put_is_brought qs shard later)
    ]
put_is_brought (get key ∷ qs) shard is = put_is_brought qs shard is
put_is_brought (del key ∷ qs) shard is = put_is_brought qs shard is
put_is_brought (move key to ∷ qs) shard is = or_right (brings shard (move key to)) (is_brought_to qs shard) (put_is_brought qs shard is)

count_more : (p q : ℕ → Bool) (xs : List ℕ) → ((x : ℕ) → p x ≡ true → q x ≡ true) → count_by p xs ≤ count_by q xs
count_more p q [] more = let all : 0 ≤ 0 = omega arith in all
count_more p q (x ∷ xs) more =
    let a = sum_by-cons (λ y. cond (p y) 1 0) x xs in
    let b = sum_by-cons (λ y. cond (q y) 1 0) x xs in
    let first = at (p x) (q x) (more x) in
    let rest = count_more p q xs more in
    omega arith where
      at : (a b : Bool) → (a ≡ true → b ≡ true) → cond {A = ℕ} a 1 0 ≤ cond {A = ℕ} b 1 0
      at true true more = let all : 1 ≤ 1 = omega arith in all
      at true false more = let e : false ≡ true = more refl in absurd (cc)
      at false true more = let all : 0 ≤ 1 = omega arith in all
      at false false more = let all : 0 ≤ 0 = omega arith in all
