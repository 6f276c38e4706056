-- What a worker sends goes to shards that have a table, and what workers were told by their numbers.
use Rattle.std.proofs.Common.{◌≡◌, ◌≢◌, ℕ, zero, suc, ◌+◌, ◌<◌, Bool, true, false, cond, nat_eq, List, [], ◌∷◌, All, Contains, length, map, get_or, Option, None, Some, refl, subst, ap, arith, ◌∙◌}
use Rattle.std.specs.Prelude.{filter}
use Rattle.std.proofs.lemmas.Bool.{eq-eqb, ne_eqb, or_left}
use Rattle.std.proofs.lemmas.List.Elements.{All-append, All-cons, All-filter, All-head, All-nil, All-tail, All-weaker}
use Rattle.heap_model.proofs.MemberLemmas.{in_head, in_rest}
use Rattle.dict_model.specs.Nodes.{shard_of}
use Rattle.dict_model.specs.Requests.{Request, put, get, del, move, Reply, done, full, none, found, after_one}
use Rattle.dict_model.specs.Shards.{Map}
use Rattle.run_model.specs.Needs.{is_moved_to}
use Rattle.run_model.specs.Runs.{answered}
use Rattle.run_model.specs.Sending.{Sent, all_sent, numbered, on_its_way, sends, worker_numbered}
use Rattle.run_model.specs.Workers.{Replies, is_of_worker, worker_requests}
use Rattle.run_model.proofs.TargetLemmas.{moved_behind}
use Rattle.worker_run.specs.Sending.{GoesByTables}

-- a move of these requests
abbrev MovesIn : List Request → Request → Type 0
MovesIn requests (put key value) = Unit {0}
MovesIn requests (get key) = Unit {0}
MovesIn requests (del key) = Unit {0}
MovesIn requests (move key to) = is_moved_to requests (shard_of to) ≡ true

moves_more : (q : Request) (qs : List Request) (r : Request) → MovesIn qs r → MovesIn (q ∷ qs) r
moves_more q qs (put key value) is = tt
moves_more q qs (get key) is = tt
moves_more q qs (del key) is = tt
moves_more q qs (move key to) is = moved_behind q qs (shard_of to) is

moves_first : (q : Request) (qs : List Request) → MovesIn (q ∷ qs) q
moves_first (put key value) qs = tt
moves_first (get key) qs = tt
moves_first (del key) qs = tt
moves_first (move key to) qs = or_left (nat_eq (shard_of to) (shard_of to)) (is_moved_to qs (shard_of to)) (eq-eqb (shard_of to) (shard_of to) refl)

all_moves : (at : ℕ) (qs : List Request) → All (λ (n : ℕ × Request). MovesIn qs n.1) (numbered at qs)
all_moves at [] = All-nil (λ (n : ℕ × Request). MovesIn [] n.1)
all_moves at (q ∷ qs) = All-cons (λ (n : ℕ × Request). MovesIn (q ∷ qs) n.1) (at, q) (numbered (at + 1) qs) (moves_first q qs)
    (All-weaker (λ (n : ℕ × Request). MovesIn qs n.1) (λ (n : ℕ × Request). MovesIn (q ∷ qs) n.1) (λ n is. moves_more q qs n.1 is)
    (numbered (at + 1) qs) (all_moves (at + 1) qs))

-- a worker's requests without their numbers
without_numbers : (p : Request → Bool) (at : ℕ) (qs : List Request)
    → map (λ (n : ℕ × Request). n.1) (filter (λ (n : ℕ × Request). p n.1) (numbered at qs)) ≡ filter p qs
without_numbers p at [] = refl
without_numbers p at (q ∷ qs) = by_case (p q) (filter (λ (n : ℕ × Request). p n.1) (numbered (at + 1) qs)) (filter p qs)
    (without_numbers p (at + 1) qs) where
      by_case : (b : Bool) (ns : List (ℕ × Request)) (rs : List Request) → map (λ (n : ℕ × Request). n.1) ns ≡ rs
          → map (λ (n : ℕ × Request). n.1) (cond b ((at, q) ∷ ns) ns) ≡ cond b (q ∷ rs) rs
      by_case true ns rs same = ap (λ (l : List Request). q ∷ l) same
      by_case false ns rs same = same

-- the key's shard is told to have a table, and a move goes there
pub record IsMovedTo (tables : ℕ → Bool) (requests : List Request) (key : ℕ) : Type 0 where
  pub table : tables (shard_of key) ≡ true
  pub moved : is_moved_to requests (shard_of key) ≡ true

module _ (tables : ℕ → Bool) (requests : List Request) where
  way_moves : (o : Option (List ℕ)) (number to : ℕ) → IsMovedTo tables requests to
      → All (λ (s : Sent). IsMovedTo tables requests s.key) (on_its_way o number to)
  way_moves None number to is = All-nil (λ (s : Sent). IsMovedTo tables requests s.key)
  way_moves (Some value) number to is = All-cons (λ (s : Sent). IsMovedTo tables requests s.key)
      (record { number = number; key = to; value = value }) [] is
      (All-nil (λ (s : Sent). IsMovedTo tables requests s.key))

  one_moves : (whole : Map) (number : ℕ) (q : Request) (a : Reply) → MovesIn requests q → GoesByTables tables q (Some a)
      → All (λ (s : Sent). IsMovedTo tables requests s.key) (sends whole number q a)
  one_moves whole number (put key value) a moves goes = All-nil (λ (s : Sent). IsMovedTo tables requests s.key)
  one_moves whole number (get key) a moves goes = All-nil (λ (s : Sent). IsMovedTo tables requests s.key)
  one_moves whole number (del key) a moves goes = All-nil (λ (s : Sent). IsMovedTo tables requests s.key)
  one_moves whole number (move key to) done moves goes = way_moves (whole key) number to (record { table = goes; moved = moves })
  one_moves whole number (move key to) full moves goes = All-nil (λ (s : Sent). IsMovedTo tables requests s.key)
  one_moves whole number (move key to) none moves goes = All-nil (λ (s : Sent). IsMovedTo tables requests s.key)
  one_moves whole number (move key to) (found v) moves goes = All-nil (λ (s : Sent). IsMovedTo tables requests s.key)

  all_moved : (whole : Map) (ns : List (ℕ × Request)) (told : Replies) → All (λ (n : ℕ × Request). MovesIn requests n.1) ns
      → ((q : Request) (a : Reply) → Contains (answered (map (λ (n : ℕ × Request). n.1) ns) told) (q, a) → GoesByTables tables q (Some a))
      → All (λ (s : Sent). IsMovedTo tables requests s.key) (all_sent whole ns told)
  all_moved whole [] told moves goes = All-nil (λ (s : Sent). IsMovedTo tables requests s.key)
  all_moved whole (n ∷ ns) [] moves goes = All-nil (λ (s : Sent). IsMovedTo tables requests s.key)
  all_moved whole (n ∷ ns) (None ∷ told) moves goes = all_moved whole ns told (All-tail (λ (m : ℕ × Request). MovesIn requests m.1) n ns moves) goes
  all_moved whole (n ∷ ns) (Some a ∷ told) moves goes =
      let qs = map (λ (m : ℕ × Request). m.1) ns in
      All-append (λ (s : Sent). IsMovedTo tables requests s.key) (sends whole n.0 n.1 a) (all_sent (after_one whole n.1 a) ns told)
      (one_moves whole n.0 n.1 a (All-head (λ (m : ℕ × Request). MovesIn requests m.1) n ns moves) (goes n.1 a (in_head (n.1, a) (answered qs told))))
      (all_moved (after_one whole n.1 a) ns told (All-tail (λ (m : ℕ × Request). MovesIn requests m.1) n ns moves)
      (λ q b among. goes q b (in_rest (n.1, a) (q, b) (answered qs told) among)))

  -- what a worker sends
  pub sent_moved : (whole : Map) (workers worker : ℕ) (told : Replies)
      → ((q : Request) (a : Reply) → Contains (answered (worker_requests workers worker requests) told) (q, a) → GoesByTables tables q (Some a))
      → All (λ (s : Sent). IsMovedTo tables requests s.key) (all_sent whole (worker_numbered workers worker requests) told)
  sent_moved whole workers worker told goes =
      all_moved whole (worker_numbered workers worker requests) told
      (All-filter (λ (n : ℕ × Request). is_of_worker workers worker n.1) (λ (n : ℕ × Request). MovesIn requests n.1) (numbered 0 requests)
      (all_moves 0 requests))
      (λ q a among. goes q a (subst (λ (qs : List Request). Contains (answered qs told) (q, a))
      (without_numbers (is_of_worker workers worker) 0 requests) among))

-- what was told by numbers, to those who stand in their turn, the last one first
module _ {X : Type 0} (told : X → Replies) where
  abbrev pub told_of : List X → ℕ → Replies
  told_of [] i = []
  told_of (x ∷ xs) i = cond (nat_eq i (length xs)) (told x) (told_of xs i)

  pub told_at : (xs : List X) (k i : ℕ) (d : X) → k < length xs → i + k + 1 ≡ length xs → told_of xs i ≡ told (get_or xs k d)
  told_at [] k i d below is = absurd (omega (arith, below))
  told_at (x ∷ xs) zero i d below is = let e : i ≡ length xs = omega (arith, is) in ap (λ b. cond b (told x) (told_of xs i)) (eq-eqb i (length xs) e)
  told_at (x ∷ xs) (suc k) i d below is =
      let other : i ≢ length xs = λ e. omega (arith, is, e) in
      ap (λ b. cond b (told x) (told_of xs i)) (ne_eqb i (length xs) other) ∙ told_at xs k i d (omega (arith, below)) (omega (arith, is))
