-- A run goes on along its requests: those that are left, the room for values, and the replies.
use Rattle.std.proofs.Common.{◌≡◌, ℕ, ◌≤◌, ◌⊎◌, inl, inr, List, [], ◌∷◌, ◌++◌, length, map, None, Some, Contains, cond, refl, subst, sym, ap, ◌∙◌}
use Rattle.std.specs.Prelude.{nat_eq, Bool, true, false}
use Rattle.std.proofs.lemmas.Bool.{cases_eq, cond-true, cond-false, ne_eqb, eq-eqb}
use Rattle.std.proofs.lemmas.List.{map_push}
use Rattle.std.proofs.lemmas.List.Elements.{Contains-append_left, Contains-append_right}
use Rattle.heap_model.specs.Image.{Image}
use Rattle.heap_model.proofs.MemberLemmas.{in_head, in_rest}
use Rattle.heap_seat.specs.View.{View}
use Rattle.heap_seat.specs.Sound.{IsSeat}
use Rattle.dict_model.specs.Nodes.{shard_of}
use Rattle.dict_model.specs.Requests.{Request, put, get, del, move, Reply, done, full, none, found, after, after_one}
use Rattle.dict_model.specs.Shards.{Map}
use Rattle.dict_requests.proofs.TrailLemmas.{same_map}
use Rattle.run_model.specs.Needs.{is_to}
use Rattle.run_model.specs.Opened.{HasMaps}
use Rattle.run_model.specs.Progress.{Answers, MayAnswer, HasAnswered}
use Rattle.run_model.specs.Runs.{of_shard}
use Rattle.run_model.specs.Workers.{Replies, shard_asked}
use Rattle.run_model.specs.Working.{HasWorked, of_image, of_trace, HasRoom, Fits, Replied}
use Rattle.worker_run.specs.Said.{Told, reply_of, replies_of}
use Rattle.dict_requests.specs.Removal.{IsShard}
use Rattle.run_model.proofs.OneMapLemmas.{small_shard}
use Rattle.run_model.proofs.GoesOnLemmas.{goes_on, asked_shard}

-- a key has its value from before, or the request put it
one_where : (m : Map) (q : Request) (r : Reply) (key : ℕ) (value : List ℕ) → after_one m q r key ≡ Some value
    → (m key ≡ Some value) ⊎ (q ≡ put key value)
one_where m (put k v) done key value is = elim (cases_eq k key) as (λ _. (m key ≡ Some value) ⊎ (put k v ≡ put key value)) [
  | inl same ↦
      let e : Some v ≡ Some value = sym (cond-true (nat_eq k key) (Some v) (m key) (eq-eqb k key same)) ∙ is in
      inr (ap (λ n. put n v) same ∙ ap (λ x. put key x) (some_is v value e))
  | inr other ↦ inl (sym (cond-false (nat_eq k key) (Some v) (m key) (ne_eqb k key other)) ∙ is)
] where
  some_is : (a b : List ℕ) → Some a ≡ Some b → a ≡ b
  some_is a b e = cc
one_where m (del k) done key value is = elim (cases_eq k key) as (λ _. (m key ≡ Some value) ⊎ (del k ≡ put key value)) [
  | inl same ↦ let e : None ≡ Some value = sym (cond-true (nat_eq k key) None (m key) (eq-eqb k key same)) ∙ is in absurd (cc)
  | inr other ↦ inl (sym (cond-false (nat_eq k key) None (m key) (ne_eqb k key other)) ∙ is)
]
one_where m (move k to) done key value is = elim (cases_eq k key) as (λ _. (m key ≡ Some value) ⊎ (move k to ≡ put key value)) [
  | inl same ↦ let e : None ≡ Some value = sym (cond-true (nat_eq k key) None (m key) (eq-eqb k key same)) ∙ is in absurd (cc)
  | inr other ↦ inl (sym (cond-false (nat_eq k key) None (m key) (ne_eqb k key other)) ∙ is)
]
one_where m (put k v) full key value is = inl is
one_where m (put k v) none key value is = inl is
one_where m (put k v) (found w) key value is = inl is
one_where m (del k) full key value is = inl is
one_where m (del k) none key value is = inl is
one_where m (del k) (found w) key value is = inl is
one_where m (move k to) full key value is = inl is
one_where m (move k to) none key value is = inl is
one_where m (move k to) (found w) key value is = inl is
one_where m (get k) done key value is = inl is
one_where m (get k) full key value is = inl is
one_where m (get k) none key value is = inl is
one_where m (get k) (found w) key value is = inl is

-- a key has its value from the first map, or one of the requests put it
pub all_where : (shard : ℕ) (m : Map) (rs : List (Request × Reply)) (key : ℕ) (value : List ℕ) → after m (of_shard shard rs) key ≡ Some value
    → (m key ≡ Some value) ⊎ Contains (map (λ r. r.0) rs) (put key value)
all_where shard m [] key value is = inl is
all_where shard m (r ∷ rs) key value is = by_case (is_to shard r.0) (all_where shard (after_one m r.0 r.1) rs key value)
    (all_where shard m rs key value) is where
      by_case : (b : Bool) → (after (after_one m r.0 r.1) (of_shard shard rs) key ≡ Some value
          → (after_one m r.0 r.1 key ≡ Some value) ⊎ Contains (map (λ r. r.0) rs) (put key value))
          → (after m (of_shard shard rs) key ≡ Some value → (m key ≡ Some value) ⊎ Contains (map (λ r. r.0) rs) (put key value))
          → after m (cond b (r ∷ of_shard shard rs) (of_shard shard rs)) key ≡ Some value
          → (m key ≡ Some value) ⊎ Contains (map (λ r. r.0) (r ∷ rs)) (put key value)
      by_case true with_it without is = elim (with_it is) as (λ _. (m key ≡ Some value) ⊎ Contains (map (λ r. r.0) (r ∷ rs)) (put key value)) [
        | inl one ↦ elim (one_where m r.0 r.1 key value one) as (λ _. (m key ≡ Some value) ⊎ Contains (map (λ r. r.0) (r ∷ rs)) (put key value)) [
          | inl first ↦ inl first
          | inr it ↦ inr (subst (Contains (map (λ r. r.0) (r ∷ rs))) it (in_head r.0 (map (λ r. r.0) rs)))
        ]
        | inr later ↦ inr (in_rest r.0 (put key value) (map (λ r. r.0) rs) later)
      ]
      by_case false with_it without is = elim (without is) as (λ _. (m key ≡ Some value) ⊎ Contains (map (λ r. r.0) (r ∷ rs)) (put key value)) [
        | inl first ↦ inl first
        | inr later ↦ inr (in_rest r.0 (put key value) (map (λ r. r.0) rs) later)
      ]

module _ (image : Image) (all requests : List Request) (maps : HasMaps image) (among : (q : Request) → Contains requests q → Contains all q) where
  -- the room that there is for a get fits what the seat has
  pub room_fits : (q : Request) (left : List Request) (replies : Replies) (v : View) (room : ℕ) → IsSeat v → Contains v.roots (shard_asked q)
      → HasWorked image requests left replies v
      → HasRoom image all q room → Fits v q room
  room_fits (get key) left replies v room seat owned worked has = (
    has.short,
    λ m value gives is.
        let shard = shard_of key in
        let small = small_shard (get key) in
        let first = maps.each shard small in
        let now = worked.answered.gives shard first.0 small owned first.1 in
        let same = same_map v seat shard (after first.0 (of_shard shard worked.rs)) m now gives key in
        elim (all_where shard first.0 worked.rs key value (same ∙ is)) as (λ _. length value ≤ room) [
          | inl old ↦ has.enough (length value) (of_image shard first.0 value small first.1 old)
          | inr by_put ↦ has.enough (length value) (of_trace value (among (put key value)
              (subst (λ (qs : List Request). Contains qs (put key value)) (sym worked.requests_are)
              (Contains-append_left (map (λ r. r.0) worked.rs) left (put key value) by_put))))
        ],
  )
  room_fits (put key value) left replies v room seat owned worked has = tt
  room_fits (del key) left replies v room seat owned worked has = tt
  room_fits (move key to) left replies v room seat owned worked has = tt

-- what stands before a list and behind another
push_between : {X : Type 0} (xs ys : List X) (y : X) → xs ++ (y ∷ ys) ≡ (xs ++ (y ∷ [])) ++ ys
push_between [] ys y = refl
push_between (x ∷ xs) ys y = ap (λ zs. x ∷ zs) (push_between xs ys y)

-- one request more
pub work_goes_on : (image : Image) (requests left : List Request) (q : Request) (replies : Replies) (r : Reply) (v w : View) → IsSeat v
    → HasWorked image requests (q ∷ left) replies v → MayAnswer q v w → Answers q r v w → HasWorked image requests left (replies ++ (Some r ∷ [])) w
work_goes_on image requests left q replies r v w seat worked may answers = record {
  rs = worked.rs ++ ((q, r) ∷ []);
  requests_are = worked.requests_are ∙ push_between (map (λ r. r.0) worked.rs) left q
      ∙ ap (λ zs. zs ++ left) (sym (map_push (λ r. r.0) worked.rs (q, r)));
  replies_are = ap (λ zs. zs ++ (Some r ∷ [])) worked.replies_are ∙ sym (map_push (λ r. Some r.1) worked.rs (q, r));
  answered = goes_on image worked.rs v w q seat worked.answered may r answers;
}

-- a run that has worked off nothing
pub work_begins : (image : Image) (requests : List Request) (v : View) → HasAnswered image [] v → HasWorked image requests requests [] v
work_begins image requests v has = record { rs = []; requests_are = refl; replies_are = refl; answered = has }

-- the next request may be made
pub next_shard : (image : Image) (qs left : List Request) (q : Request) (replies : Replies) (v : View) → HasMaps image
    → Contains v.roots (shard_asked q) → HasWorked image qs (q ∷ left) replies v
    → IsShard v (shard_asked q)
next_shard image qs left q replies v maps owned worked = asked_shard image worked.rs v (shard_asked q) maps (small_shard q) owned worked.answered

-- the next request is one of them
pub next_among : (image : Image) (qs left : List Request) (q : Request) (replies : Replies) (v : View) → HasWorked image qs (q ∷ left) replies v
    → Contains qs q
next_among image qs left q replies v worked =
    subst (λ (xs : List Request). Contains xs q) (sym worked.requests_are)
    (Contains-append_right (map (λ r. r.0) worked.rs) (q ∷ left) q (in_head q left))

-- one reply more
pub work_replied : (image : Image) (qs left : List Request) (q : Request) (told now : List Told) (reply : Told) (v w : View) → IsSeat v
    → now ≡ told ++ (reply ∷ [])
    → HasWorked image qs (q ∷ left) (replies_of told) v → MayAnswer q v w → Replied q (reply_of reply) v w → HasWorked image qs left (replies_of now) w
work_replied image qs left q told now reply v w seat is worked may replied =
    let on = work_goes_on image qs left q (replies_of told) replied.reply v w seat worked may replied.answers in
    let more : replies_of now ≡ replies_of told ++ (Some replied.reply ∷ []) = ap replies_of is ∙ map_push reply_of told reply
    ∙ ap (λ r. replies_of told ++ (r ∷ [])) replied.told_is in
    subst (λ rs. HasWorked image qs left rs w) (sym more) on
