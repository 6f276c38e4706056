-- A request more that is no move, behind requests of which none is.
use Rattle.std.proofs.Common.{◌≡◌, ℕ, Bool, true, false, List, [], ◌∷◌, ◌++◌, refl}
use Rattle.dict_model.specs.Requests.{Request, put, get, del, move}
use Rattle.run_model.specs.Needs.{has_move}
use Rattle.trace_text.specs.declared.request.Request.TheVariants.{Put, Get, Del, Move}
use Rattle.worker_run.specs.Said.{Line, request_of}

still_none : (qs : List Request) (q : Request) → has_move qs ≡ false → has_move (q ∷ []) ≡ false → has_move (qs ++ (q ∷ [])) ≡ false
still_none [] q none one = one
still_none (put key value ∷ qs) q none one = still_none qs q none one
still_none (get key ∷ qs) q none one = still_none qs q none one
still_none (del key ∷ qs) q none one = still_none qs q none one
still_none (move key to ∷ qs) q none one = absurd (cc)

not_a_move : (line : Line) → ((key to : ℕ) → line ≡ Move key to → ⊥) → has_move (request_of line ∷ []) ≡ false
not_a_move (Put key value) not = refl
not_a_move (Get key) not = refl
not_a_move (Del key) not = refl
not_a_move (Move key to) not = absurd (not key to refl)

pub none_more : (qs : List Request) (line : Line) → ((key to : ℕ) → line ≡ Move key to → ⊥) → has_move qs ≡ false
    → has_move (qs ++ (request_of line ∷ [])) ≡ false
none_more qs line not none = still_none qs (request_of line) none (not_a_move line not)
