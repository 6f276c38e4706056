-- An answered request is one of the trace; and an answered move is a move to its shard.
use Rattle.std.proofs.Common.{◌≡◌, ℕ, inl, inr, Bool, true, false, cond, nat_eq, List, [], ◌∷◌, filter, None, Some, Contains, refl, subst, sym}
use Rattle.std.proofs.lemmas.Bool.{eq-eqb, or_left}
use Rattle.heap_model.proofs.MemberLemmas.{in_none, in_head, in_rest, head_or_rest}
use Rattle.dict_model.specs.Nodes.{shard_of}
use Rattle.dict_model.specs.Requests.{Request, move, Reply}
use Rattle.run_model.specs.Needs.{is_moved_to}
use Rattle.run_model.specs.Runs.{answered}
use Rattle.run_model.specs.Workers.{Replies, is_of_worker, worker_requests}
use Rattle.run_model.proofs.TargetLemmas.{moved_behind}

-- an answered request is one of the trace, and a move is one to the shard of its other key
asked : (qs : List Request) (rs : Replies) (x : Request × Reply) → Contains (answered qs rs) x → Contains qs x.0
asked [] rs x there = absurd (in_none x there)
asked (q ∷ qs) [] x there = absurd (in_none x there)
asked (q ∷ qs) (None ∷ rs) x there = in_rest q x.0 qs (asked qs rs x there)
asked (q ∷ qs) (Some a ∷ rs) x there = elim (head_or_rest (q, a) x (answered qs rs) there) as (λ _. Contains (q ∷ qs) x.0) [
  | inl same ↦ subst (λ (y : Request × Reply). Contains (q ∷ qs) y.0) same (in_head q qs)
  | inr later ↦ in_rest q x.0 qs (asked qs rs x later)
]

of_part : (test : Request → Bool) (qs : List Request) (x : Request) → Contains (filter test qs) x → Contains qs x
of_part test [] x there = there
of_part test (q ∷ qs) x there = by_case (test q) (filter test qs) (of_part test qs x) there where
  by_case : (b : Bool) (some : List Request) → (Contains some x → Contains qs x) → Contains (cond b (q ∷ some) some) x → Contains (q ∷ qs) x
  by_case true some later is = elim (head_or_rest q x some is) as
      (λ _. Contains (q ∷ qs) x) [ inl same ↦ subst (Contains (q ∷ qs)) same (in_head q qs) | inr rest ↦ in_rest q x qs (later rest) ]
  by_case false some later is = in_rest q x qs (later is)

moved : (qs : List Request) (key to : ℕ) → Contains qs (move key to) → is_moved_to qs (shard_of to) ≡ true
moved [] key to there = absurd (in_none (move key to) there)
moved (q ∷ qs) key to there = elim (head_or_rest q (move key to) qs there) as (λ _. is_moved_to (q ∷ qs) (shard_of to) ≡ true) [
  | inl same ↦ subst (λ (r : Request). is_moved_to (r ∷ qs) (shard_of to) ≡ true) (sym same)
      (or_left (nat_eq (shard_of to) (shard_of to)) (is_moved_to qs (shard_of to)) (eq-eqb (shard_of to) (shard_of to) refl))
  | inr later ↦ moved_behind q qs (shard_of to) (moved qs key to later)
]

pub answered_move : (workers worker : ℕ) (requests : List Request) (replies : Replies) (key to : ℕ) (a : Reply)
    → Contains (answered (worker_requests workers worker requests) replies) (move key to, a) → is_moved_to requests (shard_of to) ≡ true
answered_move workers worker requests replies key to a there =
    moved requests key to (of_part (is_of_worker workers worker) requests (move key to)
    (asked (worker_requests workers worker requests) replies (move key to, a) there))
