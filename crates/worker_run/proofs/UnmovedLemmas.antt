-- Requests without a move need no room to send.
use Rattle.std.proofs.Common.{◌≡◌, ℕ, ◌≤◌, false, List, [], ◌∷◌, arith}
use Rattle.std.proofs.lemmas.List.Sums.{sum_by-cons}
use Rattle.dict_model.specs.Requests.{Request, put, get, del, move}
use Rattle.run_model.specs.Needs.{has_move}
use Rattle.run_model.specs.Workers.{is_of_worker, worker_requests}
use Rattle.run_model.proofs.UnmovedLemmas.{none_of_part}
use Rattle.worker_run.specs.Sending.{needs_room, rooms_needed}

none_needed : (requests : List Request) → has_move requests ≡ false → rooms_needed requests ≤ 0
none_needed [] unmoved = let none : 0 ≤ 0 = omega arith in none
none_needed (put key value ∷ qs) unmoved = let e = sum_by-cons needs_room (put key value) qs in let rest = none_needed qs unmoved in omega arith
none_needed (get key ∷ qs) unmoved = let e = sum_by-cons needs_room (get key) qs in let rest = none_needed qs unmoved in omega arith
none_needed (del key ∷ qs) unmoved = let e = sum_by-cons needs_room (del key) qs in let rest = none_needed qs unmoved in omega arith
none_needed (move key to ∷ qs) unmoved = absurd (cc)

-- so none of a worker's do
pub no_room_needed : (workers worker : ℕ) (requests : List Request) → has_move requests ≡ false
    → rooms_needed (worker_requests workers worker requests) ≤ 0
no_room_needed workers worker requests unmoved = none_needed (worker_requests workers worker requests)
    (none_of_part (is_of_worker workers worker) requests unmoved)
