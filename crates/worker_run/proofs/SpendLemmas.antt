-- A run's requests add up: the calls that they make, the superblocks that they take, and why one was told that there is no room.
use Rattle.std.proofs.Common.{◌≡◌, ◌≢◌, ℕ, ◌+◌, ◌-◌, ◌*◌, ◌<◌, ◌≤◌, ◌⊎◌, inl, inr, List, [], ◌∷◌, ◌++◌, length, map, sum_by, None, Some, Contains, refl, subst, sym, ap, ◌∙◌, arith}
use Rattle.std.proofs.Math.Nat.{add-mul, mul-le-mul_right}
use Rattle.std.proofs.lemmas.List.{length-map, length-append, map_push}
use Rattle.std.proofs.lemmas.List.Elements.{Contains-append_left, Contains-append_right}
use Rattle.std.proofs.lemmas.List.Sums.{sum_by-cons, sum_by-append}
use Rattle.heap_model.specs.Image.{Image}
use Rattle.heap_model.proofs.MemberLemmas.{map_in}
use Rattle.heap_seat.specs.View.{View}
use Rattle.heap_seat.specs.Rows.{IsRow}
use Rattle.heap_seat.proofs.RowLemmas.{row_none, row_then, row_more}
use Rattle.dict_model.specs.Requests.{Request, put, Reply, full, after}
use Rattle.dict_model.specs.Links.{shards}
use Rattle.dict_model.specs.Shards.{Map, MapOf}
use Rattle.heap_seat.specs.Looks.{KnowsNoLess}
use Rattle.dict_requests.specs.Removal.{IsShard}
use Rattle.dict_requests.specs.Walks.{ListsKeys}
use Rattle.run_model.specs.Needs.{ListsKeysOf, put_into}
use Rattle.run_model.specs.Opened.{HasMaps}
use Rattle.run_model.specs.Runs.{answered, unanswered, of_shard, span_taken}
use Rattle.run_model.specs.Spending.{IsPut, HadNoRoom, IsFullBehind, AreFullRightly, MakeFew, tables_missing}
use Rattle.run_model.specs.Workers.{key_of, shard_asked, Replies}
use Rattle.run_model.specs.Working.{Fits, HasWorked, MakesCalls, large_calls_of, most_taken, words_copied}
use Rattle.worker_run.specs.Said.{IsShort, Told, reply_of, replies_of}
use Rattle.shard_moves.proofs.AwayLemmas.{there_or_not}
use Rattle.worker_run.proofs.AnsweringLemmas.{copies_few}
use Rattle.worker_run.proofs.KeyLemmas.{seat_keys}
use Rattle.run_model.proofs.OneMapLemmas.{small_shard}
use Rattle.worker_run.proofs.TakenLemmas.{HasTaken, tables_few}
use Rattle.worker_run.proofs.WorkLemmas.{all_where}

-- the answered requests of a run that has come so far, and with one more
pub answered_none : (left : List Request) → answered left [] ≡ []
answered_none [] = refl
answered_none (q ∷ qs) = refl

answered_first : (rs : List (Request × Reply)) (left : List Request) → answered (map (λ r. r.0) rs ++ left) (map (λ r. Some r.1) rs) ≡ rs
answered_first [] left = answered_none left
answered_first (r ∷ rs) left = ap (λ zs. (r.0, r.1) ∷ zs) (answered_first rs left)

answered_push : (rs : List (Request × Reply)) (q : Request) (left : List Request) (r : Reply)
    → answered (map (λ x. x.0) rs ++ (q ∷ left)) (map (λ x. Some x.1) rs ++ (Some r ∷ [])) ≡ rs ++ ((q, r) ∷ [])
answered_push [] q left r = ap (λ zs. (q, r) ∷ zs) (answered_none left)
answered_push (x ∷ rs) q left r = ap (λ zs. (x.0, x.1) ∷ zs) (answered_push rs q left r)

pub answered_now : (image : Image) (qs left : List Request) (replies : Replies) (v : View) (worked : HasWorked image qs left replies v)
    → answered qs replies ≡ worked.rs
answered_now image qs left replies v worked =
    subst (λ xs. answered xs replies ≡ worked.rs) (sym worked.requests_are)
    (subst (λ ts. answered (map (λ r. r.0) worked.rs ++ left) ts ≡ worked.rs) (sym worked.replies_are) (answered_first worked.rs left))

-- and what is left of it
unanswered_none : (left : List Request) → unanswered left [] ≡ left
unanswered_none [] = refl
unanswered_none (q ∷ qs) = ap (λ zs. q ∷ zs) (unanswered_none qs)

unanswered_first : (rs : List (Request × Reply)) (left : List Request) → unanswered (map (λ r. r.0) rs ++ left) (map (λ r. Some r.1) rs) ≡ left
unanswered_first [] left = unanswered_none left
unanswered_first (r ∷ rs) left = unanswered_first rs left

pub unanswered_now : (image : Image) (qs left : List Request) (replies : Replies) (v : View) → HasWorked image qs left replies v
    → unanswered qs replies ≡ left
unanswered_now image qs left replies v worked =
    subst (λ xs. unanswered xs replies ≡ left) (sym worked.requests_are)
    (subst (λ ts. unanswered (map (λ r. r.0) worked.rs ++ left) ts ≡ left) (sym worked.replies_are) (unanswered_first worked.rs left))

pub answered_next : (image : Image) (qs left : List Request) (q : Request) (told now : List Told) (reply : Told) (r : Reply) (v : View)
    → now ≡ told ++ (reply ∷ []) → reply_of reply ≡ Some r
    → HasWorked image qs (q ∷ left) (replies_of told) v → answered qs (replies_of now) ≡ answered qs (replies_of told) ++ ((q, r) ∷ [])
answered_next image qs left q told now reply r v is told_is worked =
    let more : replies_of now ≡ map (λ x. Some x.1) worked.rs ++ (Some r ∷ []) =
    ap replies_of is ∙ map_push reply_of told reply ∙ ap (λ o. replies_of told ++ (o ∷ [])) told_is
    ∙ ap (λ ts. ts ++ (Some r ∷ [])) worked.replies_are in
    subst (λ xs. answered xs (replies_of now) ≡ worked.rs ++ ((q, r) ∷ [])) (sym worked.requests_are)
    (subst (λ ts. answered (map (λ x. x.0) worked.rs ++ (q ∷ left)) ts ≡ worked.rs ++ ((q, r) ∷ [])) (sym more) (answered_push worked.rs q left r))
    ∙ ap (λ rs. rs ++ ((q, r) ∷ [])) (sym (answered_now image qs (q ∷ left) (replies_of told) v worked))

-- each request has its reply or is left
pub worked_count : (image : Image) (qs left : List Request) (told : List Told) (v : View) → HasWorked image qs left (replies_of told) v
    → length told + length left ≡ length qs
worked_count image qs left told v worked =
    let a = ap length worked.requests_are in
    let b = ap length worked.replies_are in
    let c = length-append (map (λ r. r.0) worked.rs) left in
    let d = length-map worked.rs (λ r. r.0) in
    let e = length-map worked.rs (λ r. Some r.1) in
    let f = length-map told reply_of in
    omega arith

-- the keys that a shard may have are those of the image and those of the trace
pub keys_listed : (image : Image) (qs left : List Request) (q : Request) (replies : Replies) (v : View) (keys : List ℕ) → HasMaps image
    → Contains v.roots (shard_asked q) → HasWorked image qs (q ∷ left) replies v
    → ListsKeysOf image keys → ListsKeys v (shard_asked q) (keys ++ map key_of qs)
keys_listed image qs left q replies v keys maps owned worked lists = record {
  map = now;
  gives = worked.answered.gives shard first.0 small owned first.1;
  all = listed;
} where
  shard : ℕ
  shard = shard_asked q

  small : shard_asked q < shards
  small = small_shard q

  first : (m : Map) × MapOf image (shard_asked q) m
  first = maps.each (shard_asked q) (small_shard q)

  now : Map
  now = after first.0 (of_shard (shard_asked q) worked.rs)

  listed : (key : ℕ) → now key ≢ None → Contains (keys ++ map key_of qs) key
  listed key some = elim (there_or_not (now key)) as (λ _. Contains (keys ++ map key_of qs) key) [
    | inl nothing ↦ absurd (some nothing)
    | inr value ↦ elim (all_where (shard_asked q) first.0 worked.rs key value.0 value.1) as (λ _. Contains (keys ++ map key_of qs) key) [
      | inl old ↦ Contains-append_left keys (map key_of qs) key (lists.all (shard_asked q) first.0 (small_shard q) first.1 key
          (λ none. let e : None ≡ Some value.0 = sym none ∙ old in absurd (cc)))
      | inr by_put ↦ Contains-append_right keys (map key_of qs) key (map_in key_of qs (put key value.0)
          (subst (λ (xs : List Request). Contains xs (put key value.0)) (sym worked.requests_are)
          (Contains-append_left (map (λ r. r.0) worked.rs) (q ∷ left) (put key value.0) by_put)))
    ]
  ]

-- the large calls of answered requests, and of some more
abbrev pub larges_of : List (Request × Reply) → ℕ
larges_of rs = sum_by (λ r. large_calls_of r.0) rs

pub larges_push : (rs : List (Request × Reply)) (q : Request) (r : Reply) → larges_of (rs ++ ((q, r) ∷ [])) ≡ larges_of rs + large_calls_of q
larges_push rs q r =
    let both = sum_by-append (λ (x : Request × Reply). large_calls_of x.0) rs ((q, r) ∷ []) in
    let one = sum_by-cons (λ (x : Request × Reply). large_calls_of x.0) (q, r) [] in
    omega arith

larges_asked : (rs : List (Request × Reply)) (left : List Request)
    → sum_by large_calls_of (map (λ r. r.0) rs ++ left) ≡ larges_of rs + sum_by large_calls_of left
larges_asked [] left = omega arith
larges_asked (r ∷ rs) left =
    let a = sum_by-cons large_calls_of r.0 (map (λ x. x.0) rs ++ left) in
    let b = sum_by-cons (λ (x : Request × Reply). large_calls_of x.0) r rs in
    let rest = larges_asked rs left in
    omega arith

pub larges_worked : (image : Image) (qs left : List Request) (replies : Replies) (v : View) → HasWorked image qs left replies v
    → larges_of (answered qs replies) + sum_by large_calls_of left ≡ sum_by large_calls_of qs
larges_worked image qs left replies v worked =
    subst (λ rs. larges_of rs + sum_by large_calls_of left ≡ sum_by large_calls_of qs) (sym (answered_now image qs left replies v worked))
    (subst (λ xs. larges_of worked.rs + sum_by large_calls_of left ≡ sum_by large_calls_of xs) (sym worked.requests_are)
    (sym (larges_asked worked.rs left)))

-- requests make few calls where these are a row, whatever superblocks it takes
few_of : (requests small large most : ℕ) (v w : View) → IsRow (requests * small) large most v w → MakeFew requests small large v w
few_of requests small large most v w row = record {
  goes_on = row.goes_on;
  small_from = row.small_from;
  small_few = row.small_few;
  large_from = row.large_from;
  large_few = row.large_few;
  taken = row.taken;
  looks = row.looks;
}

row_of : (requests small large : ℕ) (v w : View) → MakeFew requests small large v w → IsRow (requests * small) large (w.taken - v.taken) v w
row_of requests small large v w few = record {
  goes_on = few.goes_on;
  small_from = few.small_from;
  small_few = few.small_few;
  large_from = few.large_from;
  large_few = few.large_few;
  taken = few.taken;
  few = let taken = few.taken in omega arith;
  looks = few.looks;
}

-- no request makes no call, and one more makes as many as one does
pub few_none : (small : ℕ) (v : View) → MakeFew 0 small 0 v v
few_none small v = few_of 0 small 0 0 v v (row_more 0 0 0 (0 * small) 0 0 v v (omega arith) (omega arith) (omega arith) (row_none v))

pub few_next : (requests small large : ℕ) (image : Image) (qs left : List Request) (q : Request) (replies : Replies) (v u w : View) (room : ℕ)
    (keys : List ℕ) → small ≡ 33280 + 4 * (length keys + length qs)
    → HasMaps image → Contains u.roots (shard_asked q) → HasWorked image qs (q ∷ left) replies u → ListsKeysOf image keys → IsShort q
    → Fits u q room → MakesCalls q u w → MakeFew requests small large v u
    → MakeFew (requests + 1) small (large + large_calls_of q) v w
few_next requests small large image qs left q replies v u w room keys small_is maps owned worked lists short fits calls few =
    let listed = keys_listed image qs left q replies u keys maps owned worked lists in
    let moves : words_copied q listed.map ≤ 16384 = copies_few q u room short fits listed.map listed.gives in
    let row = calls.few listed.map listed.gives (keys ++ map key_of qs) listed in
    let long = length-append keys (map key_of qs) in
    let same = length-map qs key_of in
    let product = add-mul requests 1 small in
    let most = u.taken - v.taken + most_taken q in
    few_of (requests + 1) small (large + large_calls_of q) most v w
    (row_more (requests * small + (512 + 2 * words_copied q listed.map + 4 * length (keys ++ map key_of qs))) (large + large_calls_of q)
    most ((requests + 1) * small) (large + large_calls_of q) most v w (omega arith) (omega arith) (omega arith)
    (row_then (requests * small) large (u.taken - v.taken) (512 + 2 * words_copied q listed.map + 4 * length (keys ++ map key_of qs))
    (large_calls_of q) (most_taken q) v u w (row_of requests small large v u few) row))

pub few_more : (requests more small large larger : ℕ) (v w : View) → requests ≤ more → large ≤ larger → MakeFew requests small large v w
    → MakeFew more small larger v w
few_more requests more small large larger v w most most_large few =
    let taken = w.taken - v.taken in
    few_of more small larger taken v w
    (row_more (requests * small) large taken (more * small) larger taken v w (mul-le-mul_right small most) most_large (omega arith)
    (row_of requests small large v w few))

-- a place in a list that got one more: the last one, or one from before
no_end : {X : Type 0} (xs ys : List X) (x : X) → [] ≡ xs ++ (x ∷ ys) → ⊥
no_end [] ys x e = absurd (cc)
no_end (y ∷ xs) ys x e = absurd (cc)

last_or_before : {X : Type 0} (xs before later : List X) (y x : X) → xs ++ (y ∷ []) ≡ before ++ (x ∷ later)
    → ((xs ≡ before) × (y ≡ x)) ⊎ ((more : List X) × (xs ≡ before ++ (x ∷ more)))
last_or_before [] [] later y x e = let same : y ≡ x = cc in inl (refl, same)
last_or_before [] (b ∷ before) later y x e = let none : [] ≡ before ++ (x ∷ later) = cc in absurd (no_end before later x none)
last_or_before (z ∷ xs) [] later y x e = let same : z ≡ x = cc in inr (xs, ap (λ a. a ∷ xs) same)
last_or_before (z ∷ xs) (b ∷ before) later y x e =
    let same : z ≡ b = cc in
    let rest : xs ++ (y ∷ []) ≡ before ++ (x ∷ later) = cc in
    elim (last_or_before xs before later y x rest) as (λ _. ((z ∷ xs ≡ b ∷ before) × (y ≡ x)) ⊎ ((more : List _)
    × (z ∷ xs ≡ (b ∷ before) ++ (x ∷ more)))) [
      | inl last ↦ inl (ap (λ a. a ∷ xs) same ∙ ap (λ zs. b ∷ zs) last.0, last.1)
      | inr old ↦ inr (old.0, ap (λ a. a ∷ xs) same ∙ ap (λ zs. b ∷ zs) old.1)
    ]

-- a put that was told full, by what was taken then
pub full_behind : (requests : List Request) (rs : List (Request × Reply)) (q : Request) (r : Reply) (v w : View)
    → HasTaken requests (rs ++ ((q, r) ∷ [])) v w → r ≡ full → HadNoRoom q w
    → IsFullBehind (tables_missing (put_into requests) v) rs q v w
full_behind requests rs q r v w taken is room = record {
  room = room;
  taken = let few = tables_few requests v w in
      let before = taken.taken in
      let both = sum_by-append span_taken rs ((q, r) ∷ []) in
      let one = sum_by-cons span_taken (q, r) [] in
      let none : span_taken (q, r) ≡ 0 = ap (λ x. span_taken (q, x)) is in
      omega arith;
}

-- and so it is over the whole run
pub refused_none : {S : Type 0} (view : S → View) (keeps : S → S → Type 0) (tables : ℕ) (s t : S) → AreFullRightly view keeps tables [] s t
refused_none view keeps tables s t = record { each = λ before later key value is. absurd (no_end before later (put key value, full) is) }

-- what is known of the mark of taken superblocks doesn't fall over a request
pub knows_then : (u v w : View) → KnowsNoLess u v → KnowsNoLess v w → KnowsNoLess u w
knows_then u v w a b = omega arith

pub knows_call : (q : Request) (v w : View) → IsShard v (shard_asked q) → MakesCalls q v w → KnowsNoLess v w
knows_call q v w shard calls =
    let keys = seat_keys v (shard_asked q) shard.map shard.gives in
    (calls.few shard.map shard.gives keys.0 keys.1).goes_on.used

-- it stays so where the heap goes on
pub refused_on : {S : Type 0} (view : S → View) (keeps : S → S → Type 0) (tables : ℕ) (rs : List (Request × Reply)) (s t u : S)
    → AreFullRightly view keeps tables rs s t → ((x : S) → keeps x t → keeps x u) → KnowsNoLess (view t) (view u)
    → AreFullRightly view keeps tables rs s u
refused_on view keeps tables rs s t u was on knows = record {
  each = λ before later key value is. let at = was.each before later key value is in
      (at.0, at.1, on at.0 at.2, knows_then (view at.0) (view t) (view u) at.3 knows, at.4);
}

-- and at a request more
pub refused_next : {S : Type 0} (view : S → View) (keeps : S → S → Type 0) (tables : ℕ) (rs : List (Request × Reply)) (q : Request) (r : Reply)
    (s t : S)
    → AreFullRightly view keeps tables rs s t → keeps s t → keeps t t → (IsPut q → r ≡ full → IsFullBehind tables rs q (view s) (view t))
    → AreFullRightly view keeps tables (rs ++ ((q, r) ∷ [])) s t
refused_next view keeps tables rs q r s t was kept same now = record {
  each = λ before later key value is.
      elim (last_or_before rs before later (q, r) (put key value, full) is)
      as (λ _. (x : _) × keeps s x × keeps x t × KnowsNoLess (view x) (view t) × IsFullBehind tables before (put key value) (view s) (view x)) [
        | inl last ↦
            let asked : q ≡ put key value = ap (λ (x : Request × Reply). x.0) last.1 in
            let told : r ≡ full = ap (λ (x : Request × Reply). x.1) last.1 in (
              t,
              kept,
              same,
              let none : KnowsNoLess (view t) (view t) = omega arith in none,
              subst (λ (xs : List (Request × Reply)). IsFullBehind tables xs (put key value) (view s) (view t)) last.0
                  (subst (λ x. IsFullBehind tables rs x (view s) (view t)) asked (now (subst IsPut (sym asked) tt) told)),
            )
        | inr old ↦ was.each before old.0 key value old.1
      ];
}
