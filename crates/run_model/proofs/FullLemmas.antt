-- How many replies a run has, and when none of them is for want of room.
use Rattle.std.proofs.Common.{◌≡◌, ℕ, ◌+◌, ◌<◌, ◌≤◌, inl, inr, List, [], ◌∷◌, ◌++◌, length, map, replicate, sum_by, Option, None, Some, Bool, true, false, cond, Contains, refl, subst, sym, ap, ◌∙◌, arith}
use Rattle.std.proofs.Math.Nat.{mod-lt}
use Rattle.std.proofs.lemmas.Bool.{eq-eqb}
use Rattle.std.proofs.lemmas.List.{length-map, length-replicate, length-append}
use Rattle.std.proofs.lemmas.List.Elements.{Contains-append_right}
use Rattle.std.proofs.lemmas.List.Sums.{sum_by-cons, sum_by-append}
use Rattle.heap_model.specs.Image.{Image}
use Rattle.heap_model.specs.Header.{capacity_of, used_of}
use Rattle.heap_model.proofs.MemberLemmas.{in_none, in_head, in_rest, head_or_rest}
use Rattle.dict_model.specs.Nodes.{shard_of}
use Rattle.dict_model.specs.Requests.{Request, put, get, del, move, Reply, done, full, none, found}
use Rattle.run_model.specs.Needs.{node_span, has_move, superblocks_needed}
use Rattle.run_model.specs.Runs.{answered, unanswered, AnswersInOrder, IsFullRightly, span_taken, first_span, worker_span, worker_answered}
use Rattle.run_model.specs.Workers.{Replies, shard_asked, worker_of, is_of_worker, worker_requests, worker_replies}
use Rattle.run_model.proofs.SumLemmas.{beside_fits, workers_sum}

-- each request has one reply, or stands as unanswered
pub one_each : (requests : List Request) (replies : Replies) → AnswersInOrder requests replies → length replies ≡ length requests
one_each requests replies is =
    let a = ap length is.first in
    let b = ap length is.then_none in
    let a1 = length-append (map (λ r. r.0) (answered requests replies)) (unanswered requests replies) in
    let b1 = length-append (map (λ r. Some r.1) (answered requests replies)) (replicate (length (unanswered requests replies)) None) in
    let a2 = length-map (answered requests replies) (λ r. r.0) in
    let b2 = length-map (answered requests replies) (λ r. Some r.1) in
    let b3 = length-replicate {A = Option Reply} (length (unanswered requests replies)) None in
    omega arith

-- the superblocks of the node of an answered request
abbrev span_asked : Request × Reply → ℕ
span_asked r = node_span r.0

-- what the nodes of the answered puts take is no more than what those of all puts take
asked_fits : (requests : List Request) (replies : Replies) → sum_by span_asked (answered requests replies) ≤ sum_by node_span requests
asked_fits [] replies = let all : 0 ≤ 0 = omega arith in all
asked_fits (q ∷ qs) [] = let all : 0 ≤ sum_by node_span (q ∷ qs) = omega arith in all
asked_fits (q ∷ qs) (None ∷ rs) =
    let rest = asked_fits qs rs in
    let more = sum_by-cons node_span q qs in
    let all : sum_by span_asked (answered qs rs) ≤ sum_by node_span (q ∷ qs) = omega arith in all
asked_fits (q ∷ qs) (Some r ∷ rs) =
    let rest = asked_fits qs rs in
    let more = sum_by-cons node_span q qs in
    let asked = sum_by-cons span_asked (q, r) (answered qs rs) in
    let all : sum_by span_asked ((q, r) ∷ answered qs rs) ≤ sum_by node_span (q ∷ qs) = omega arith in all

taken_fits : (q : Request) (r : Reply) → span_taken (q, r) ≤ node_span q
taken_fits q done = let all : node_span q ≤ node_span q = omega arith in all
taken_fits q full = let all : 0 ≤ node_span q = omega arith in all
taken_fits q none = let all : 0 ≤ node_span q = omega arith in all
taken_fits q (found value) = let all : 0 ≤ node_span q = omega arith in all

all_fit : (rs : List (Request × Reply)) → sum_by span_taken rs ≤ sum_by span_asked rs
all_fit [] = let all : 0 ≤ 0 = omega arith in all
all_fit (r ∷ rs) =
    let rest = all_fit rs in
    let one = taken_fits r.0 r.1 in
    let taken = sum_by-cons span_taken r rs in
    let asked = sum_by-cons span_asked r rs in
    omega arith

before_fits : (before later : List (Request × Reply)) (x : Request × Reply)
    → sum_by span_taken before + node_span x.0 ≤ sum_by span_asked (before ++ (x ∷ later))
before_fits before later x =
    let few = all_fit before in
    let both = sum_by-append span_asked before (x ∷ later) in
    let more = sum_by-cons span_asked x later in
    omega arith

-- the first of the unanswered requests takes no more than all of them
first_fits : (requests : List Request) (replies : Replies) → sum_by span_asked (answered requests replies) + first_span
    (unanswered requests replies) ≤ sum_by node_span requests
first_fits [] replies = let all : 0 + 0 ≤ 0 = omega arith in all
first_fits (q ∷ qs) [] =
    let more = sum_by-cons node_span q qs in
    let all : 0 + node_span q ≤ sum_by node_span (q ∷ qs) = omega arith in all
first_fits (q ∷ qs) (None ∷ rs) =
    let rest = asked_fits qs rs in
    let more = sum_by-cons node_span q qs in
    let all : sum_by span_asked (answered qs rs) + node_span q ≤ sum_by node_span (q ∷ qs) = omega arith in all
first_fits (q ∷ qs) (Some r ∷ rs) =
    let rest = first_fits qs rs in
    let more = sum_by-cons node_span q qs in
    let asked = sum_by-cons span_asked (q, r) (answered qs rs) in
    let all : sum_by span_asked ((q, r) ∷ answered qs rs) + first_span (unanswered qs rs) ≤ sum_by node_span (q ∷ qs) = omega arith in all

-- so a worker's part takes no more than its requests' nodes
span_fits : (workers worker : ℕ) (requests : List Request) (replies : Replies)
    → worker_span workers worker requests replies ≤ sum_by node_span (worker_requests workers worker requests)
span_fits workers worker requests replies =
    let all = all_fit (worker_answered workers worker requests replies) in
    let first = first_fits (worker_requests workers worker requests) (worker_replies workers worker requests replies) in
    omega arith

-- an answered request is one that its worker answered
pub answered_of : (workers worker : ℕ) (requests : List Request) (replies : Replies) (x : Request × Reply) → is_of_worker workers worker x.0 ≡ true
    → Contains (answered requests replies) x
    → Contains (worker_answered workers worker requests replies) x
answered_of workers worker [] replies x mine h = absurd (in_none x h)
answered_of workers worker (q ∷ qs) [] x mine h = absurd (in_none x h)
answered_of workers worker (q ∷ qs) (None ∷ rs) x mine h = by_case (is_of_worker workers worker q) (answered_of workers worker qs rs x mine h) where
  by_case : (b : Bool) → Contains (worker_answered workers worker qs rs) x
      → Contains (answered (cond b (q ∷ worker_requests workers worker qs) (worker_requests workers worker qs))
      (cond b (None ∷ worker_replies workers worker qs rs) (worker_replies workers worker qs rs))) x
  by_case true later = later
  by_case false later = later
answered_of workers worker (q ∷ qs) (Some r ∷ rs) x mine h = by_case (answered_of workers worker qs rs x mine)
    (is_of_worker workers worker q) refl where
      by_case : (Contains (answered qs rs) x → Contains (worker_answered workers worker qs rs) x) → (b : Bool) → is_of_worker workers worker q ≡ b
          → Contains (answered (cond b (q ∷ worker_requests workers worker qs) (worker_requests workers worker qs))
          (cond b (Some r ∷ worker_replies workers worker qs rs) (worker_replies workers worker qs rs))) x
      by_case behind true is = elim (head_or_rest (q, r) x (answered qs rs) h) as (λ _. Contains ((q, r) ∷ worker_answered workers worker qs rs) x) [
        | inl same ↦ subst (Contains ((q, r) ∷ worker_answered workers worker qs rs)) same (in_head (q, r) (worker_answered workers worker qs rs))
        | inr later ↦ in_rest (q, r) x (worker_answered workers worker qs rs) (behind later)
      ]
      by_case behind false is = elim (head_or_rest (q, r) x (answered qs rs) h) as (λ _. Contains (worker_answered workers worker qs rs) x) [
        | inl same ↦ let e : true ≡ false = sym mine ∙ subst (λ (y : Request × Reply). is_of_worker workers worker y.0 ≡ false) same is in absurd (cc)
        | inr later ↦ behind later
      ]

-- what is in a list stands between two parts of it
pub between : {X : Type 0} (xs : List X) (x : X) → Contains xs x → (before : List X) × (later : List X) × (xs ≡ before ++ (x ∷ later))
between [] x h = absurd (in_none x h)
between (y ∷ ys) x h = elim (head_or_rest y x ys h) as (λ _. (before : List _) × (later : List _) × (y ∷ ys ≡ before ++ (x ∷ later))) [
  | inl same ↦ ([], ys, ap (λ z. z ∷ ys) same)
  | inr rest ↦ let parts = between ys x rest in (y ∷ parts.0, parts.1, ap (λ zs. y ∷ zs) parts.2)
]

-- where the superblocks that the trace needs are left, no put is told that there is no room
pub never_full : (image : Image) (workers : ℕ) (requests : List Request) (replies : Replies) → 1 ≤ workers
    → IsFullRightly image workers requests replies
    → used_of image + superblocks_needed requests ≤ capacity_of image
    → (before later : List (Request × Reply)) (key : ℕ) (value : List ℕ) → answered requests replies ≡ before ++ ((put key value, full) ∷ later) → ⊥
never_full image workers requests replies some is enough before later key value at =
    let q = put key value in
    let worker = worker_of workers (shard_asked q) in
    let small : worker < workers = mod-lt (shard_asked q) some in
    let h = subst (λ xs. Contains xs (q, full)) (sym at) (Contains-append_right before ((q, full) ∷ later) (q, full) (in_head (q, full) later)) in
    let parts = between (worker_answered workers worker requests replies) (q, full)
    (answered_of workers worker requests replies (q, full) (eq-eqb worker worker refl) h) in
    let past = is.cause worker small parts.0 parts.1 key value parts.2 in
    let asked = asked_fits (worker_requests workers worker requests) (worker_replies workers worker requests replies) in
    let first = before_fits parts.0 parts.1 (q, full) in
    let is_put : node_span q + sum_by span_taken parts.0 ≤ sum_by span_asked (parts.0 ++ ((q, full) ∷ parts.1)) = omega arith in
    let same : sum_by span_asked (worker_answered workers worker requests replies) ≡ sum_by span_asked (parts.0 ++ ((q, full) ∷ parts.1)) =
    ap (sum_by span_asked) parts.2 in
    let mine : node_span q + sum_by span_taken parts.0 ≤ sum_by node_span (worker_requests workers worker requests) = omega arith in
    let all = beside_fits workers worker (λ other. sum_by node_span (worker_requests workers other requests))
    (λ other. worker_span workers other requests replies) (node_span q + sum_by span_taken parts.0) small mine
    (λ other. span_fits workers other requests replies) in
    let whole = workers_sum workers node_span requests in
    omega arith

-- a move among the requests is one behind any other
behind : (q : Request) (qs : List Request) → has_move qs ≡ true → has_move (q ∷ qs) ≡ true
behind (put key value) qs there = there
behind (get key) qs there = there
behind (del key) qs there = there
behind (move key to) qs there = refl

-- an answered move is one of the trace
pub moves_in : (requests : List Request) (replies : Replies) (key to : ℕ) (a : Reply) → Contains (answered requests replies) (move key to, a)
    → has_move requests ≡ true
moves_in [] replies key to a h = absurd (in_none (move key to, a) h)
moves_in (q ∷ qs) [] key to a h = absurd (in_none (move key to, a) h)
moves_in (q ∷ qs) (None ∷ rs) key to a h = behind q qs (moves_in qs rs key to a h)
moves_in (q ∷ qs) (Some r ∷ rs) key to a h = elim (head_or_rest (q, r) (move key to, a) (answered qs rs) h) as (λ _. has_move (q ∷ qs) ≡ true) [
  | inl same ↦ let e : q ≡ move key to = ap (λ (x : Request × Reply). x.0) same in ap (λ x. has_move (x ∷ qs)) e
  | inr later ↦ behind q qs (moves_in qs rs key to a later)
]

-- where the superblocks that the trace needs are left, no move is told so either
pub never_full_moved : (image : Image) (workers : ℕ) (requests : List Request) (replies : Replies) → 1 ≤ workers
    → IsFullRightly image workers requests replies
    → used_of image + superblocks_needed requests ≤ capacity_of image
    → (before later : List (Request × Reply)) (key to : ℕ) → answered requests replies ≡ before ++ ((move key to, full) ∷ later) → ⊥
never_full_moved image workers requests replies some is enough before later key to at =
    let q = move key to in
    let worker = worker_of workers (shard_asked q) in
    let small : worker < workers = mod-lt (shard_asked q) some in
    let h = subst (λ xs. Contains xs (q, full)) (sym at) (Contains-append_right before ((q, full) ∷ later) (q, full) (in_head (q, full) later)) in
    let parts = between (worker_answered workers worker requests replies) (q, full)
    (answered_of workers worker requests replies (q, full) (eq-eqb worker worker refl) h) in
    let past = is.move_cause worker small parts.0 parts.1 key to parts.2 in
    let target = worker_of workers (shard_of to) in
    let none : 0 ≤ sum_by node_span (worker_requests workers target requests) = omega arith in
    let others = beside_fits workers target (λ other. sum_by node_span (worker_requests workers other requests))
    (λ other. worker_span workers other requests replies) 0
    (mod-lt (shard_of to) some) none (λ other. span_fits workers other requests replies) in
    let whole = workers_sum workers node_span requests in
    let one : cond {A = ℕ} (has_move requests) 1 0 ≡ 1 = ap (λ b. cond {A = ℕ} b 1 0) (moves_in requests replies key to full h) in
    omega (arith, past, one, enough, others, whole)
