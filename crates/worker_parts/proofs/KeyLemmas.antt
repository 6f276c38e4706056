-- Which keys the shards of what comes may have: those of the image, those that the worker puts, and those that come.
use Rattle.std.proofs.Common.{◌≡◌, ◌≢◌, ℕ, ◌+◌, ◌<◌, inl, inr, List, [], ◌∷◌, ◌++◌, length, map, None, Some, Contains, refl, subst, sym, ◌∙◌, arith}
use Rattle.std.proofs.lemmas.List.{length-append, length-map}
use Rattle.std.proofs.lemmas.List.Elements.{Contains-append_left, Contains-append_right}
use Rattle.heap_model.specs.Image.{Image}
use Rattle.heap_model.proofs.MemberLemmas.{head_or_rest, in_head, in_none, in_rest, map_in}
use Rattle.heap_seat.specs.View.{View}
use Rattle.dict_model.specs.Links.{shards}
use Rattle.dict_model.specs.Nodes.{shard_of}
use Rattle.dict_model.specs.Requests.{Request, put, get, del, move, Reply, after}
use Rattle.dict_model.specs.Shards.{Map, MapOf}
use Rattle.dict_requests.specs.Walks.{ListsKeys}
use Rattle.run_model.specs.Needs.{ListsKeysOf, puts_among}
use Rattle.run_model.specs.Opened.{HasMaps}
use Rattle.run_model.specs.Runs.{of_shard}
use Rattle.run_model.specs.Sending.{Sent}
use Rattle.run_model.specs.Workers.{Replies}
use Rattle.run_model.specs.Working.{HasWorked}
use Rattle.run_model.proofs.OneMapLemmas.{small_shard}
use Rattle.shard_moves.specs.Arriving.{HaveTables, ListAllKeys}
use Rattle.shard_moves.proofs.AwayLemmas.{there_or_not}
use Rattle.worker_run.proofs.WorkLemmas.{all_where}

-- the keys that puts have
pub put_keys : List Request → List ℕ
put_keys [] = []
put_keys (put key value ∷ qs) = key ∷ put_keys qs
put_keys (get key ∷ qs) = put_keys qs
put_keys (del key ∷ qs) = put_keys qs
put_keys (move key to ∷ qs) = put_keys qs

put_keys_long : (qs : List Request) → length (put_keys qs) ≡ puts_among qs
unfolding put_keys
put_keys_long [] = refl
put_keys_long (put key value ∷ qs) = let rest = put_keys_long qs in
    let one : length (key ∷ put_keys qs) ≡ 1 + length (put_keys qs) = omega arith in omega (arith, one, rest)
put_keys_long (get key ∷ qs) = put_keys_long qs
put_keys_long (del key ∷ qs) = put_keys_long qs
put_keys_long (move key to ∷ qs) = put_keys_long qs

put_keys_has : (qs : List Request) (key : ℕ) (value : List ℕ) → Contains qs (put key value) → Contains (put_keys qs) key
unfolding put_keys
put_keys_has [] key value h = absurd (in_none (put key value) h)
put_keys_has (put k v ∷ qs) key value h = elim (head_or_rest (put k v) (put key value) qs h) as (λ _. Contains (k ∷ put_keys qs) key) [
  | inl same ↦ let e : k ≡ key = cc in subst (Contains (k ∷ put_keys qs)) e (in_head k (put_keys qs))
  | inr later ↦ in_rest k key (put_keys qs) (put_keys_has qs key value later)
]
put_keys_has (get k ∷ qs) key value h = elim (head_or_rest (get k) (put key value) qs h) as (λ _. Contains (put_keys qs) key) [
  | inl same ↦ absurd (cc)
  | inr later ↦ put_keys_has qs key value later
]
put_keys_has (del k ∷ qs) key value h = elim (head_or_rest (del k) (put key value) qs h) as (λ _. Contains (put_keys qs) key) [
  | inl same ↦ absurd (cc)
  | inr later ↦ put_keys_has qs key value later
]
put_keys_has (move k to ∷ qs) key value h = elim (head_or_rest (move k to) (put key value) qs h) as (λ _. Contains (put_keys qs) key) [
  | inl same ↦ absurd (cc)
  | inr later ↦ put_keys_has qs key value later
]

-- the keys that the shards of what came may have behind a worker's requests: those of the image, those that its puts have, and those that came
abbrev pub arrival_keys : List ℕ → List Request → List Sent → List ℕ
arrival_keys keys mine came = keys ++ (put_keys mine ++ map (λ s. s.key) came)

pub arrival_keys_long : (keys : List ℕ) (mine : List Request) (came : List Sent)
    → length (arrival_keys keys mine came) ≡ length keys + puts_among mine + length came
arrival_keys_long keys mine came =
    let a = length-append keys (put_keys mine ++ map (λ (s : Sent). s.key) came) in
    let b = length-append (put_keys mine) (map (λ (s : Sent). s.key) came) in
    let c = length-map came (λ (s : Sent). s.key) in
    let d = put_keys_long mine in
    omega (arith, a, b, c, d)

module _ (image : Image) (mine : List Request) (replies : Replies) (v : View) (came : List Sent) (keys : List ℕ) (maps : HasMaps image)
    (lists : ListsKeysOf image keys)
    (worked : HasWorked image mine [] replies v) (tables : HaveTables came v) where
  there : (s : Sent) → Contains came s → ListsKeys v (shard_of s.key) (arrival_keys keys mine came)
  there s among = record {
    map = now;
    gives = worked.answered.gives (shard_of s.key) first.0 small (tables.shard s among).owned first.1;
    all = listed;
  } where
    small : shard_of s.key < shards
    small = small_shard (get s.key)

    first : (m : Map) × MapOf image (shard_of s.key) m
    first = maps.each (shard_of s.key) (small_shard (get s.key))

    now : Map
    now = after first.0 (of_shard (shard_of s.key) worked.rs)

    listed : (key : ℕ) → now key ≢ None → Contains (arrival_keys keys mine came) key
    listed key some = elim (there_or_not (now key)) as (λ _. Contains (arrival_keys keys mine came) key) [
      | inl nothing ↦ absurd (some nothing)
      | inr value ↦ elim (all_where (shard_of s.key) first.0 worked.rs key value.0 value.1) as (λ _. Contains (arrival_keys keys mine came) key) [
        | inl old ↦ Contains-append_left keys (put_keys mine ++ map (λ (x : Sent). x.key) came) key
            (lists.all (shard_of s.key) first.0 small first.1 key (λ none. let e : None ≡ Some value.0 = sym none ∙ old in absurd (cc)))
        | inr by_put ↦ Contains-append_right keys (put_keys mine ++ map (λ (x : Sent). x.key) came) key
            (Contains-append_left (put_keys mine) (map (λ (x : Sent). x.key) came) key
            (put_keys_has mine key value.0 (subst (λ (xs : List Request). Contains xs (put key value.0)) (sym worked.requests_are)
            (Contains-append_left (map (λ (r : Request × Reply). r.0) worked.rs) [] (put key value.0) by_put))))
      ]
    ]

  pub arrivals_listed : ListAllKeys came v (arrival_keys keys mine came)
  arrivals_listed = record {
    there = there;
    coming = λ s among. Contains-append_right keys (put_keys mine ++ map (λ (x : Sent). x.key) came) s.key
        (Contains-append_right (put_keys mine) (map (λ (x : Sent). x.key) came) s.key (map_in (λ (x : Sent). x.key) came s among));
  }
