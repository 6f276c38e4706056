-- A worker's requests are those of the trace to the shards of its own.
use Rattle.std.proofs.Common.{◌≡◌, ℕ, ◌<◌, inl, inr, List, [], ◌∷◌, Bool, true, false, filter, cond, length, Contains, refl, subst, sym, ap, ◌∙◌}
use Rattle.std.specs.Prelude.{◌||◌}
use Rattle.std.proofs.lemmas.Bool.{cond-true, eqb-true}
use Rattle.heap_model.specs.Image.{Image}
use Rattle.heap_model.proofs.MemberLemmas.{in_none, in_head, in_rest, head_or_rest}
use Rattle.heap_seat.specs.View.{View}
use Rattle.dict_model.specs.Links.{shards}
use Rattle.dict_model.specs.Requests.{Request, put, get, del, move}
use Rattle.dict_requests.specs.Removal.{IsShard}
use Rattle.run_model.specs.Needs.{is_to, put_into}
use Rattle.run_model.specs.Opened.{HasMaps}
use Rattle.run_model.specs.Workers.{Replies, shard_asked, worker_of, is_of_worker, worker_requests}
use Rattle.run_model.specs.Working.{HasWorked, HasRoom, HaveRoom}
use Rattle.worker_run.specs.Said.{Line, request_of, requests_of}
use Rattle.run_model.proofs.OneMapLemmas.{small_shard}
use Rattle.worker_run.proofs.WorkLemmas.{next_among, next_shard}

-- what a filter lets through is in the list, and passes
in_filter : {X : Type 0} (p : X → Bool) (xs : List X) (x : X) → Contains (filter p xs) x → Contains xs x × (p x ≡ true)
in_filter p [] x h = absurd (in_none x h)
in_filter p (y ∷ ys) x h = by_case (in_filter p ys x) (p y) refl h where
  by_case : (Contains (filter p ys) x → Contains ys x × (p x ≡ true)) → (b : Bool) → p y ≡ b
      → Contains (cond b (y ∷ filter p ys) (filter p ys)) x → Contains (y ∷ ys) x × (p x ≡ true)
  by_case behind true is h = elim (head_or_rest y x (filter p ys) h) as (λ _. Contains (y ∷ ys) x × (p x ≡ true)) [
    | inl same ↦ (subst (Contains (y ∷ ys)) same (in_head y ys), subst (λ z. p z ≡ true) same is)
    | inr later ↦ let rest = behind later in (in_rest y x ys rest.0, rest.1)
  ]
  by_case behind false is h = let rest = behind h in (in_rest y x ys rest.0, rest.1)

-- a put into a shard is one of the requests
put_there : (requests : List Request) (shard : ℕ) → put_into requests shard ≡ true → (q : Request) × Contains requests q × (shard_asked q ≡ shard)
put_there [] shard is = absurd (cc)
put_there (get key ∷ rest) shard is = let later = put_there rest shard is in (later.0, in_rest (get key) later.0 rest later.1, later.2)
put_there (del key ∷ rest) shard is = let later = put_there rest shard is in (later.0, in_rest (del key) later.0 rest later.1, later.2)
put_there (move key to ∷ rest) shard is = let later = put_there rest shard is in (later.0, in_rest (move key to) later.0 rest later.1, later.2)
put_there (put key value ∷ rest) shard is = by_case (put_there rest shard) (is_to shard (put key value)) refl is where
  by_case : (put_into rest shard ≡ true → (q : Request) × Contains rest q × (shard_asked q ≡ shard)) → (b : Bool)
      → is_to shard (put key value) ≡ b → (b || put_into rest shard) ≡ true → (q : Request) × Contains (put key value ∷ rest) q
      × (shard_asked q ≡ shard)
  by_case behind true first is = (put key value, in_head (put key value) rest, eqb-true (shard_asked (put key value)) shard first)
  by_case behind false first is = let later = behind is in (later.0, in_rest (put key value) later.0 rest later.1, later.2)

-- a run comes to a request that is one of its own, to a shard of the seat
pub record IsNext (image : Image) (mine rest : List Request) (q : Request) (told : Replies) (v : View) : Type 0 where
  pub worked : HasWorked image mine (q ∷ rest) told v
  pub among : Contains mine q
  pub owned : Contains v.roots (shard_asked q)
  pub shard : IsShard v (shard_asked q)

module _ (workers worker : ℕ) where
  -- a worker has the roots of its shards
  abbrev pub OwnsShards : View → Type 0
  OwnsShards v = (shard : ℕ) → shard < shards → worker_of workers shard ≡ worker → Contains v.roots shard

  pub owns_still : (v w : View) → w.roots ≡ v.roots → OwnsShards v → OwnsShards w
  owns_still v w same owns shard small is = subst (λ (ns : List ℕ). Contains ns shard) (sym same) (owns shard small is)

  pub mine_among : (requests : List Request) (q : Request) → Contains (worker_requests workers worker requests) q → Contains requests q
  mine_among requests q h = (in_filter (is_of_worker workers worker) requests q h).0

  -- so it has that of each of its requests, and of each shard that one of them puts into
  pub mine_owned : (v : View) (requests : List Request) (q : Request) → OwnsShards v → Contains (worker_requests workers worker requests) q
      → Contains v.roots (shard_asked q)
  mine_owned v requests q owns h = owns (shard_asked q) (small_shard q)
      (eqb-true (worker_of workers (shard_asked q)) worker (in_filter (is_of_worker workers worker) requests q h).1)

  pub puts_owned : (v : View) (requests : List Request) → OwnsShards v → (shard : ℕ)
      → put_into (worker_requests workers worker requests) shard ≡ true → Contains v.roots shard
  puts_owned v requests owns shard is =
      let there = put_there (worker_requests workers worker requests) shard is in
      subst (Contains v.roots) there.2 (mine_owned v requests there.0 owns there.1)

  -- the next request of the trace, where it is one of them
  module _ (left rest : List Line) (first : Line) (has : Bool) (is : left ≡ first ∷ rest)
      (tells : has ≡ is_of_worker workers worker (request_of first)) (yes : has ≡ true) where
    pub mine_next : worker_requests workers worker (requests_of left) ≡ request_of first ∷ worker_requests workers worker (requests_of rest)
    mine_next = ap (λ ls. worker_requests workers worker (requests_of ls)) is
        ∙ cond-true (is_of_worker workers worker (request_of first)) (request_of first ∷ worker_requests workers worker (requests_of rest))
        (worker_requests workers worker (requests_of rest)) (sym tells ∙ yes)

    pub rooms_next : (image : Image) (all : List Request) (rooms others : List (List ℕ)) (room : List ℕ) → rooms ≡ room ∷ others
        → HaveRoom image all (worker_requests workers worker (requests_of left)) rooms
        → HasRoom image all (request_of first) (length room) × HaveRoom image all (worker_requests workers worker (requests_of rest)) others
    rooms_next image all rooms others room at have =
        subst (λ (rs : List (List ℕ)). HaveRoom image all (request_of first ∷ worker_requests workers worker (requests_of rest)) rs) at
        (subst (λ (qs : List Request). HaveRoom image all qs rooms) mine_next have)

    pub no_room_left : (image : Image) (all : List Request) (rooms : List (List ℕ)) → rooms ≡ []
        → HaveRoom image all (worker_requests workers worker (requests_of left)) rooms → ⊥
    no_room_left image all rooms at have =
        subst (λ (rs : List (List ℕ)). HaveRoom image all (request_of first ∷ worker_requests workers worker (requests_of rest)) rs) at
        (subst (λ (qs : List Request). HaveRoom image all qs rooms) mine_next have)

    -- the run goes on with it, and what it relies on is there
    pub is_next : (image : Image) (lines : List Line) (told : Replies) (v : View) → HasMaps image → OwnsShards v
        → HasWorked image (worker_requests workers worker (requests_of lines)) (worker_requests workers worker (requests_of left)) told v
        → IsNext image (worker_requests workers worker (requests_of lines)) (worker_requests workers worker (requests_of rest))
        (request_of first) told v
    is_next image lines told v maps owns worked =
        let mine = worker_requests workers worker (requests_of lines) in
        let after = worker_requests workers worker (requests_of rest) in
        let q = request_of first in
        let now = subst (λ (qs : List Request). HasWorked image mine qs told v) mine_next worked in
        let among = next_among image mine after q told v now in
        let owned = mine_owned v (requests_of lines) q owns among in
        record { worked = now; among = among; owned = owned; shard = next_shard image mine after q told v maps owned now }
