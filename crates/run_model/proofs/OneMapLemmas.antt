-- What is so of each shard is so of the whole dictionary: a request changes its own shard alone.
use Rattle.std.proofs.Common.{◌≡◌, ◌≢◌, ◌⊎◌, ℕ, ◌+◌, ◌<◌, ◌≤◌, inl, inr, List, [], ◌∷◌, ◌++◌, length, map, filter, take, None, Some, Bool, true, false, cond, nat_eq, Contains, refl, subst, sym, ap, ◌∙◌, arith}
use Rattle.std.proofs.Math.Nat.{mod-lt}
use Rattle.std.proofs.Math.Seq.{take-length}
use Rattle.std.proofs.lemmas.Bool.{eq-eqb, eqb-true, ne_eqb, cond-false, false_from_ne_true, false≢true}
use Rattle.std.proofs.lemmas.List.Elements.{filter-append}
use Rattle.heap_model.specs.Image.{Image}
use Rattle.heap_model.specs.Header.{capacity_of, used_of}
use Rattle.heap_model.proofs.MemberLemmas.{in_none, in_head, in_rest, head_or_rest}
use Rattle.dict_model.specs.Links.{shards}
use Rattle.dict_model.specs.Nodes.{shard_of}
use Rattle.dict_model.specs.Requests.{Request, put, get, del, Reply, done, full, none, found, after, after_one, AreReplies, IsReply, put_done, put_full, get_found, get_none, del_done, del_none, move, move_done, move_full, move_none}
use Rattle.dict_model.specs.Shards.{Map, MapOf}
use Rattle.dict_model.proofs.ShardLemmas.{one_map_of}
use Rattle.run_model.specs.Needs.{is_to, superblocks_needed}
use Rattle.run_model.specs.Arrivals.{IsWholeMap, arrivals, worker_arrivals}
use Rattle.run_model.specs.OneMap.{NoneIsFull, IsAsOneThread}
use Rattle.run_model.specs.Opened.{HasMaps}
use Rattle.run_model.specs.Runs.{answered, unanswered, of_shard, AnswerInOrder, StopsRightly, IsFullRightly, RepliesRightly, LeavesMaps, IsMapLeft}
use Rattle.run_model.specs.Workers.{Replies, key_of, shard_asked, worker_of, is_of_worker}
use Rattle.run_model.proofs.FullLemmas.{between, never_full, never_full_moved}

-- a request is to one of the shards
pub small_shard : (request : Request) → shard_asked request < shards
small_shard request = mod-lt (key_of request) (omega arith)

-- the whole map is the part's for each key of the shard
record IsPartOf (shard : ℕ) (part whole : Map) : Type 0 where
  same : (key : ℕ) → shard_of key ≡ shard → part key ≡ whole key

-- what a reply says of a map it says of the key asked alone
reply_alike : (part whole : Map) (q : Request) (a : Reply) → part (key_of q) ≡ whole (key_of q) → IsReply part q a → IsReply whole q a
reply_alike part whole _ _ same (put_done key value) = put_done key value
reply_alike part whole _ _ same (put_full key value) = put_full key value
reply_alike part whole _ _ same (get_found key value is) = get_found key value (sym same ∙ is)
reply_alike part whole _ _ same (get_none key is) = get_none key (sym same ∙ is)
reply_alike part whole _ _ same (del_done key value is) = del_done key value (sym same ∙ is)
reply_alike part whole _ _ same (del_none key is) = del_none key (sym same ∙ is)
reply_alike part whole _ _ same (move_done key to value is) = move_done key to value (sym same ∙ is)
reply_alike part whole _ _ same (move_full key to value is) = move_full key to value (sym same ∙ is)
reply_alike part whole _ _ same (move_none key to is) = move_none key to (sym same ∙ is)

-- what a key has after a request follows from what it had
pub one_alike : (part whole : Map) (q : Request) (a : Reply) (key : ℕ) → part key ≡ whole key → after_one part q a key ≡ after_one whole q a key
one_alike part whole (put k value) done key same = ap (cond (nat_eq k key) (Some value)) same
one_alike part whole (put k value) full key same = same
one_alike part whole (put k value) none key same = same
one_alike part whole (put k value) (found v) key same = same
one_alike part whole (get k) a key same = same
one_alike part whole (del k) done key same = ap (cond (nat_eq k key) None) same
one_alike part whole (del k) full key same = same
one_alike part whole (del k) none key same = same
one_alike part whole (del k) (found v) key same = same
one_alike part whole (move k to) done key same = ap (cond (nat_eq k key) None) same
one_alike part whole (move k to) full key same = same
one_alike part whole (move k to) none key same = same
one_alike part whole (move k to) (found v) key same = same

-- another key has what it had
pub one_beside : (whole : Map) (q : Request) (a : Reply) (key : ℕ) → key_of q ≢ key → after_one whole q a key ≡ whole key
one_beside whole (put k value) done key other = cond-false (nat_eq k key) (Some value) (whole key) (ne_eqb k key other)
one_beside whole (put k value) full key other = refl
one_beside whole (put k value) none key other = refl
one_beside whole (put k value) (found v) key other = refl
one_beside whole (get k) a key other = refl
one_beside whole (del k) done key other = cond-false (nat_eq k key) None (whole key) (ne_eqb k key other)
one_beside whole (del k) full key other = refl
one_beside whole (del k) none key other = refl
one_beside whole (del k) (found v) key other = refl
one_beside whole (move k to) done key other = cond-false (nat_eq k key) None (whole key) (ne_eqb k key other)
one_beside whole (move k to) full key other = refl
one_beside whole (move k to) none key other = refl
one_beside whole (move k to) (found v) key other = refl

-- so a part goes on by a request to its shard, and stays over one to another
part_goes_on : (shard : ℕ) (part whole : Map) (q : Request) (a : Reply) → IsPartOf shard part whole
    → IsPartOf shard (after_one part q a) (after_one whole q a)
part_goes_on shard part whole q a is = record { same = λ key of. one_alike part whole q a key (is.same key of) }

part_stays : (shard : ℕ) (part whole : Map) (q : Request) (a : Reply) → shard_asked q ≢ shard → IsPartOf shard part whole
    → IsPartOf shard part (after_one whole q a)
part_stays shard part whole q a other is = record { same = λ key of. is.same key of ∙ sym (one_beside whole q a key (λ e. other (ap shard_of e ∙ of))) }

part_after : (shard : ℕ) (part whole : Map) (rs : List (Request × Reply)) → IsPartOf shard part whole
    → IsPartOf shard (after part (of_shard shard rs)) (after whole rs)
part_after shard part whole [] is = is
part_after shard part whole (r ∷ rs) is = by_case (is_to shard r.0) refl
    (λ p agrees. part_after shard p (after_one whole r.0 r.1) rs agrees) where
      by_case : (b : Bool) → is_to shard r.0 ≡ b
          → ((p : Map) → IsPartOf shard p (after_one whole r.0 r.1) → IsPartOf shard (after p (of_shard shard rs)) (after (after_one whole r.0 r.1) rs))
          → IsPartOf shard (after part (cond b (r ∷ of_shard shard rs) (of_shard shard rs))) (after (after_one whole r.0 r.1) rs)
      by_case true to later = later (after_one part r.0 r.1) (part_goes_on shard part whole r.0 r.1 is)
      by_case false to later = later part (part_stays shard part whole r.0 r.1
          (λ e. let no : true ≡ false = sym (eq-eqb (shard_asked r.0) shard e) ∙ to in absurd (cc)) is)

-- the replies to each shard are right for its part
abbrev InEachShard : Map → List (Request × Reply) → Type 0
InEachShard whole rs = (shard : ℕ) → shard < shards → (part : Map) × IsPartOf shard part whole × AreReplies part (of_shard shard rs)

own_first : (whole : Map) (r : Request × Reply) (rs : List (Request × Reply)) → InEachShard whole (r ∷ rs) → IsReply whole r.0 r.1
own_first whole r rs each =
    let shard = shard_asked r.0 in
    let own = each shard (small_shard r.0) in
    let right = subst (λ b. AreReplies own.0 (cond b (r ∷ of_shard shard rs) (of_shard shard rs))) (eq-eqb shard shard refl) own.2 in
    reply_alike own.0 whole r.0 r.1 (own.1.same (key_of r.0) refl) right.0

others_later : (whole : Map) (r : Request × Reply) (rs : List (Request × Reply)) → InEachShard whole (r ∷ rs) → InEachShard (after_one whole r.0 r.1) rs
others_later whole r rs each shard below = let own = each shard below in by_case own.0 own.1 (is_to shard r.0) refl own.2 where
  by_case : (part : Map) → IsPartOf shard part whole → (b : Bool) → is_to shard r.0 ≡ b
      → AreReplies part (cond b (r ∷ of_shard shard rs) (of_shard shard rs))
      → (part : Map) × IsPartOf shard part (after_one whole r.0 r.1) × AreReplies part (of_shard shard rs)
  by_case part is true to right = (after_one part r.0 r.1, part_goes_on shard part whole r.0 r.1 is, right.1)
  by_case part is false to right =
      (part, part_stays shard part whole r.0 r.1 (λ e. let no : true ≡ false = sym (eq-eqb (shard_asked r.0) shard e) ∙ to in absurd (cc)) is, right)

-- so all of them are right for the whole
all_right : (whole : Map) (rs : List (Request × Reply)) → InEachShard whole rs → AreReplies whole rs
all_right whole [] each = tt
all_right whole (r ∷ rs) each = (own_first whole r rs each, all_right (after_one whole r.0 r.1) rs (others_later whole r rs each))

-- each key has what the map of its shard has
pub whole_map : (image : Image) → HasMaps image → (whole : Map) × IsWholeMap image whole
whole_map image have = (
  λ key. (have.each (shard_of key) (mod-lt key (omega arith))).0 key,
  record { each = λ key. let of = have.each (shard_of key) (mod-lt key (omega arith)) in (of.0, of.1, refl) },
)

pub one_whole : (image : Image) (a b : Map) → IsWholeMap image a → IsWholeMap image b → (key : ℕ) → a key ≡ b key
one_whole image a b is_a is_b key =
    let of_a = is_a.each key in
    let of_b = is_b.each key in
    sym of_a.2 ∙ one_map_of image (shard_of key) of_a.0 of_b.0 of_a.1 of_b.1 key ∙ of_b.2

part_of : (image : Image) (whole : Map) → IsWholeMap image whole → (shard : ℕ) (part : Map) → MapOf image shard part → IsPartOf shard part whole
part_of image whole is shard part map_is = record {
  same = λ key of.
      let at = is.each key in
      one_map_of image shard part at.0 map_is (subst (λ s. MapOf image s at.0) of at.1) key ∙ at.2;
}

-- after some requests each key has in the whole map what it has in that of its shard
pub whole_after : (image : Image) (whole : Map) → IsWholeMap image whole → (shard : ℕ) (part : Map) → MapOf image shard part
    → (rs : List (Request × Reply)) (key : ℕ) → shard_of key ≡ shard
    → after part (of_shard shard rs) key ≡ after whole rs key
whole_after image whole is shard part map_is rs key of = (part_after shard part whole rs (part_of image whole is shard part map_is)).same key of

-- what passes the narrower of two tests is all there behind the wider one
filter_within : {X : Type 0} (narrow wide : X → Bool) → ((x : X) → narrow x ≡ true → wide x ≡ true) → (xs : List X)
    → filter narrow (filter wide xs) ≡ filter narrow xs
filter_within narrow wide so [] = refl
filter_within narrow wide so (x ∷ xs) = by_case (wide x) (so x) (filter_within narrow wide so xs) where
  by_case : (b : Bool) → (narrow x ≡ true → b ≡ true) → filter narrow (filter wide xs) ≡ filter narrow xs
      → filter narrow (cond b (x ∷ filter wide xs) (filter wide xs)) ≡ cond (narrow x) (x ∷ filter narrow xs) (filter narrow xs)
  by_case true passes same = ap (λ ys. cond (narrow x) (x ∷ ys) ys) same
  by_case false passes same = same ∙ sym (cond-false (narrow x) (x ∷ filter narrow xs) (filter narrow xs)
      (false_from_ne_true (narrow x) (λ e. false≢true (passes e))))

-- what arrives in a shard arrives at its worker
pub arrives_there : (workers shard : ℕ) (rs xs : List (Request × Reply))
    → of_shard shard (rs ++ filter (λ r. is_of_worker workers (worker_of workers shard) r.0) xs) ≡ of_shard shard (rs ++ xs)
arrives_there workers shard rs xs =
    filter-append (λ r. is_to shard r.0) rs (filter (λ r. is_of_worker workers (worker_of workers shard) r.0) xs)
    ∙ ap (λ ys. of_shard shard rs ++ ys) (filter_within (λ r. is_to shard r.0) (λ r. is_of_worker workers (worker_of workers shard) r.0)
    (λ r to. eq-eqb (worker_of workers (shard_asked r.0)) (worker_of workers shard) (ap (worker_of workers) (eqb-true (shard_asked r.0) shard to))) xs)
    ∙ sym (filter-append (λ r. is_to shard r.0) rs xs)

module _ (image : Image) (requests : List Request) (replies : Replies) (whole : Map) (have : HasMaps image) (is : IsWholeMap image whole) where
  pub whole_right : RepliesRightly image requests replies → AreReplies whole (answered requests replies)
  whole_right right = all_right whole (answered requests replies) (λ shard below.
      let of = have.each shard below in
      (of.0, part_of image whole is shard of.0 of.1, right.right shard of.0 below of.1))

  pub whole_left : (left : Image) (workers : ℕ) → LeavesMaps image workers requests replies false left
      → IsWholeMap left (after whole (answered requests replies ++ arrivals whole (answered requests replies)))
  whole_left left workers leaves = record {
    each = λ key.
        let shard = shard_of key in
        let below : shard < shards = mod-lt key (omega arith) in
        let of = have.each shard below in
        let rs = answered requests replies in
        let mine = worker_arrivals workers (worker_of workers shard) whole rs in
        let some : take (leaves.arrived (worker_of workers shard)) mine ≡ mine =
        ap (λ n. take n mine) (leaves.have_arrived.all refl whole is shard below) ∙ take-length mine in
        let all : of_shard shard (rs ++ take (leaves.arrived (worker_of workers shard)) mine) ≡ of_shard shard (rs ++ arrivals whole rs) =
        ap (λ xs. of_shard shard (rs ++ xs)) some ∙ arrives_there workers shard rs (arrivals whole rs) in
        let then = after of.0 (of_shard shard (rs ++ arrivals whole rs)) in
        let there : MapOf left shard then = subst (λ xs. MapOf left shard (after of.0 xs)) all (closed (leaves.each whole is shard of.0 below of.1)) in
        (then, there, (part_after shard of.0 whole (rs ++ arrivals whole rs) (part_of image whole is shard of.0 of.1)).same key refl);
  } where
    closed : {left : Image} {shard : ℕ} {map : Map} {rest : List Request} → IsMapLeft left shard map false rest → MapOf left shard map
    closed (inl there) = there
    closed (inr stop) = let e : false ≡ true = stop.0 in absurd (cc)

-- where no request is unanswered, each has its reply
all_answered : (requests : List Request) (replies : Replies) → length replies ≡ length requests → unanswered requests replies ≡ []
    → (requests ≡ map (λ r. r.0) (answered requests replies)) × (replies ≡ map (λ r. Some r.1) (answered requests replies))
all_answered [] [] long none_left = (refl, refl)
all_answered [] (a ∷ told) long none_left = absurd (omega (arith, long))
all_answered (q ∷ qs) [] long none_left = absurd (omega (arith, long))
all_answered (q ∷ qs) (None ∷ told) long none_left = absurd (cc)
all_answered (q ∷ qs) (Some a ∷ told) long none_left =
    let rest = all_answered qs told (omega (arith, long)) none_left in
    (ap (λ xs. q ∷ xs) rest.0, ap (λ xs. Some a ∷ xs) rest.1)

pub as_one_thread : (image left : Image) (workers budget : ℕ) (requests : List Request) (replies : Replies) → HasMaps image
    → AnswerInOrder workers requests replies
    → StopsRightly image workers requests budget replies false → RepliesRightly image requests replies
    → LeavesMaps image workers requests replies false left
    → NoneIsFull replies → IsAsOneThread image requests replies left
as_one_thread image left workers budget requests replies have answers stops right leaves none_full =
    let of = whole_map image have in
    let all = all_answered requests replies answers.long (stops.all refl) in
    record {
      none_full = none_full;
      whole = of.0;
      begins = of.1;
      requests_are = all.0;
      replies_are = all.1;
      right = whole_right image requests replies of.0 have of.1 right;
      leaves = whole_left image requests replies of.0 have of.1 left workers leaves;
    }

-- of right replies only a put's or a move's is for want of room
full_to : (whole : Map) (q : Request) → IsReply whole q full
    → ((key : ℕ) × (value : List ℕ) × (q ≡ put key value)) ⊎ ((key : ℕ) × (to : ℕ) × (q ≡ move key to))
full_to whole _ (put_full key value) = inl (key, value, refl)
full_to whole _ (move_full key to value there) = inr (key, to, refl)

full_one : (whole : Map) (rs : List (Request × Reply)) (q : Request) → AreReplies whole rs → Contains rs (q, full)
    → ((key : ℕ) × (value : List ℕ) × (q ≡ put key value)) ⊎ ((key : ℕ) × (to : ℕ) × (q ≡ move key to))
full_one whole [] q right h = absurd (in_none (q, full) h)
full_one whole (r ∷ rs) q right h = elim (head_or_rest r (q, full) rs h)
    as (λ _. ((key : ℕ) × (value : List ℕ) × (q ≡ put key value)) ⊎ ((key : ℕ) × (to : ℕ) × (q ≡ move key to))) [
      | inl same ↦ full_to whole q (subst (λ (x : Request × Reply). IsReply whole x.0 x.1) same right.0)
      | inr later ↦ full_one (after_one whole r.0 r.1) rs q right.1 later
    ]

-- each reply is one to a request
told_to : (requests : List Request) (replies : Replies) (a : Reply) → length replies ≡ length requests → Contains replies (Some a)
    → (q : Request) × Contains (answered requests replies) (q, a)
told_to [] [] a long h = absurd (in_none (Some a) h)
told_to [] (b ∷ bs) a long h = absurd (omega (arith, long))
told_to (q ∷ qs) [] a long h = absurd (omega (arith, long))
told_to (q ∷ qs) (None ∷ bs) a long h = elim (head_or_rest None (Some a) bs h) as (λ _. (p : Request) × Contains (answered qs bs) (p, a)) [
  | inl same ↦ absurd (cc)
  | inr later ↦ told_to qs bs a (omega (arith, long)) later
]
told_to (q ∷ qs) (Some b ∷ bs) a long h = elim (head_or_rest (Some b) (Some a) bs h) as (λ _. (p : Request)
    × Contains ((q, b) ∷ answered qs bs) (p, a)) [
      | inl same ↦ let one : b ≡ a = cc in (q, subst (λ x. Contains ((q, b) ∷ answered qs bs) (q, x)) one (in_head (q, b) (answered qs bs)))
      | inr later ↦ let rest = told_to qs bs a (omega (arith, long)) later in (rest.0, in_rest (q, b) (rest.0, a) (answered qs bs) rest.1)
    ]

pub room_for_all : (image : Image) (workers : ℕ) (requests : List Request) (replies : Replies) → 1 ≤ workers → HasMaps image
    → AnswerInOrder workers requests replies
    → RepliesRightly image requests replies → IsFullRightly image workers requests replies
    → used_of image + superblocks_needed requests ≤ capacity_of image → NoneIsFull replies
room_for_all image workers requests replies some have answers right full_right enough h =
    let of = whole_map image have in
    let told = told_to requests replies full answers.long h in
    let to = full_one of.0 (answered requests replies) told.0 (whole_right image requests replies of.0 have of.1 right) told.1 in
    let parts = between (answered requests replies) (told.0, full) told.1 in
    let at : (q : Request) → told.0 ≡ q → answered requests replies ≡ parts.0 ++ ((q, full) ∷ parts.1) =
    λ q e. parts.2 ∙ ap (λ x. parts.0 ++ ((x, full) ∷ parts.1)) e in
    elim to [
      | inl of_put ↦ never_full image workers requests replies some full_right enough parts.0 parts.1 of_put.0 of_put.1
          (at (put of_put.0 of_put.1) of_put.2)
      | inr of_move ↦ never_full_moved image workers requests replies some full_right enough parts.0 parts.1 of_move.0 of_move.1
          (at (move of_move.0 of_move.1) of_move.2)
    ]
