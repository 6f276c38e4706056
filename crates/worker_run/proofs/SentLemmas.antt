-- What a worker sends, request by request.
use Rattle.std.proofs.Common.{◌≡◌, ℕ, ◌+◌, inl, inr, List, [], ◌∷◌, ◌++◌, map, filter, Some, Bool, true, false, Contains, refl, subst, sym, ap, ◌∙◌, append_assoc}
use Rattle.std.proofs.lemmas.Bool.{cond-true, cond-false}
use Rattle.std.proofs.lemmas.List.{append-nil, map_push}
use Rattle.std.proofs.lemmas.List.Elements.{Contains-append_cases}
use Rattle.std.specs.List.Sorted.{IsPermutation}
use Rattle.std.proofs.lemmas.List.Sorted.{IsPermutation-refl, IsPermutation-trans, IsPermutation-append_comm, IsPermutation-append_left, IsPermutation-append_right}
use Rattle.heap_model.specs.Image.{Image}
use Rattle.heap_model.proofs.MemberLemmas.{head_or_rest, in_none}
use Rattle.heap_seat.specs.View.{View}
use Rattle.dict_model.specs.Requests.{Request, move, Reply, after, after_one}
use Rattle.dict_model.specs.Shards.{Map, MapOf}
use Rattle.run_model.specs.Arrivals.{IsWholeMap}
use Rattle.run_model.specs.Opened.{HasMaps}
use Rattle.run_model.specs.Runs.{of_shard}
use Rattle.run_model.specs.Sending.{Sent, sends, all_sent, numbered, worker_numbered, on_its_way}
use Rattle.run_model.specs.Workers.{Replies, is_of_worker, key_of, shard_asked}
use Rattle.run_model.specs.Working.{HasWorked}
use Rattle.run_model.proofs.OneMapLemmas.{small_shard, whole_after}
use Rattle.run_model.proofs.TogetherLemmas.{none_told, sends_alike}
use Rattle.shard_moves.specs.declared.away.MoveAnswer.{MoveAnswer}
use Rattle.shard_moves.specs.declared.away.MoveAnswer.TheVariants.{Done, Full, Missing}
use Rattle.shard_moves.specs.Moves.{reply_of, SendsFor}
use Rattle.worker_run.specs.Sending.{GoesByTables, HasSent}

-- a request that is answered, with its number
abbrev pub Answered : Type 0
Answered = ℕ × (Request × Reply)

abbrev pub asked_by : List Answered → List (ℕ × Request)
asked_by ds = map (λ d. (d.0, d.1.0)) ds

abbrev pub told_by : List Answered → Replies
told_by ds = map (λ d. Some d.1.1) ds

-- one request more sends what it sends after those before
sent_push : (m : Map) (ds : List Answered) (d : Answered)
    → all_sent m (asked_by (ds ++ (d ∷ []))) (told_by (ds ++ (d ∷ []))) ≡ all_sent m (asked_by ds) (told_by ds) ++ sends
    (after m (map (λ x. x.1) ds)) d.0 d.1.0 d.1.1
sent_push m [] d = append-nil (sends m d.0 d.1.0 d.1.1)
sent_push m (x ∷ ds) d =
    ap (λ l. sends m x.0 x.1.0 x.1.1 ++ l) (sent_push (after_one m x.1.0 x.1.1) ds d)
    ∙ sym (append_assoc (sends m x.0 x.1.0 x.1.1) (all_sent (after_one m x.1.0 x.1.1) (asked_by ds) (told_by ds))
    (sends (after m (map (λ y. y.1) (x ∷ ds))) d.0 d.1.0 d.1.1))

-- requests without a reply send nothing
sent_first : (m : Map) (ds : List Answered) (rest : List (ℕ × Request))
    → all_sent m (asked_by ds ++ rest) (told_by ds) ≡ all_sent m (asked_by ds) (told_by ds)
sent_first m [] rest = none_told m rest
sent_first m (d ∷ ds) rest = ap (λ l. sends m d.0 d.1.0 d.1.1 ++ l) (sent_first (after_one m d.1.0 d.1.1) ds rest)

-- a worker has come so far in the trace, of which these requests are left, the first of this number; what its requests
-- send until there is sent besides the old ones
pub record HasSentSo (image : Image) (workers worker : ℕ) (requests left : List Request) (number : ℕ) (rs : List (Request × Reply))
    (told : Replies) (old new : List Sent) : Type 0 where
  pub ds : List Answered
  pub rs_are : rs ≡ map (λ d. d.1) ds
  pub told_are : told ≡ told_by ds
  pub mine_are : worker_numbered workers worker requests ≡ asked_by ds ++ filter (λ n. is_of_worker workers worker n.1) (numbered number left)
  pub sent : (whole : Map) → IsWholeMap image whole → IsPermutation (all_sent whole (asked_by ds) (told_by ds) ++ old) new

-- at first it is sent what was
pub sent_begins : (image : Image) (workers worker : ℕ) (requests : List Request) (number : ℕ) (rs : List (Request × Reply)) (told : Replies)
    (old : List Sent) → number ≡ 0 → rs ≡ [] → told ≡ []
    → HasSentSo image workers worker requests requests number rs told old old
sent_begins image workers worker requests number rs told old first none_answered none_told = record {
  ds = [];
  rs_are = none_answered;
  told_are = none_told;
  mine_are = ap (λ n. filter (λ m. is_of_worker workers worker m.1) (numbered n requests)) (sym first);
  sent = λ whole is. IsPermutation-refl old;
}

-- a request of another worker sends nothing
pub sent_past : (image : Image) (workers worker : ℕ) (requests left rest : List Request) (q : Request) (number next : ℕ)
    (rs : List (Request × Reply)) (told : Replies) (old new : List Sent)
    → left ≡ q ∷ rest → next ≡ number + 1 → is_of_worker workers worker q ≡ false
    → HasSentSo image workers worker requests left number rs told old new → HasSentSo image workers worker requests rest next rs told old new
sent_past image workers worker requests left rest q number next rs told old new is count other so = record {
  ds = so.ds;
  rs_are = so.rs_are;
  told_are = so.told_are;
  mine_are = so.mine_are
      ∙ ap (λ ls. asked_by so.ds ++ filter (λ n. is_of_worker workers worker n.1) (numbered number ls)) is
      ∙ ap (λ l. asked_by so.ds ++ l) (cond-false (is_of_worker workers worker q)
      ((number, q) ∷ filter (λ n. is_of_worker workers worker n.1) (numbered (number + 1) rest))
      (filter (λ n. is_of_worker workers worker n.1) (numbered (number + 1) rest)) other)
      ∙ ap (λ k. asked_by so.ds ++ filter (λ n. is_of_worker workers worker n.1) (numbered k rest)) (sym count);
  sent = so.sent;
}

-- the worker's requests among these, of which the first has this number
abbrev numbers_behind : ℕ → ℕ → List Request → ℕ → List (ℕ × Request)
numbers_behind workers worker rest k = filter (λ n. is_of_worker workers worker n.1) (numbered k rest)

-- a request of its own sends what it sends of its shard's map
pub sent_next : (image : Image) (workers worker : ℕ) (mine requests left rest after_it : List Request) (q : Request) (r : Reply)
    (number next : ℕ) (rs : List (Request × Reply)) (told told_now : Replies) (old cur new : List Sent) (v : View)
    → HasMaps image → Contains v.roots (shard_asked q) → (worked : HasWorked image mine (q ∷ after_it) told v) → rs ≡ worked.rs
    → left ≡ q ∷ rest → next ≡ number + 1 → is_of_worker workers worker q ≡ true
    → told_now ≡ told ++ (Some r ∷ []) → HasSent number q (Some r) cur new v
    → HasSentSo image workers worker requests left number rs told old cur
    → HasSentSo image workers worker requests rest next (rs ++ ((q, r) ∷ [])) told_now old new
sent_next image workers worker mine requests left rest after_it q r number next rs told told_now old cur new v maps owned worked rs_is is count
    mine_it now has so = record {
      ds = so.ds ++ ((number, (q, r)) ∷ []);
      rs_are = ap (λ l. l ++ ((q, r) ∷ [])) so.rs_are ∙ sym (map_push (λ d. d.1) so.ds (number, (q, r)));
      told_are = now ∙ ap (λ l. l ++ (Some r ∷ [])) so.told_are ∙ sym (map_push (λ d. Some d.1.1) so.ds (number, (q, r)));
      mine_are = so.mine_are
          ∙ ap (λ ls. asked_by so.ds ++ filter (λ n. is_of_worker workers worker n.1) (numbered number ls)) is
          ∙ ap (λ l. asked_by so.ds ++ l) (cond-true (is_of_worker workers worker q) ((number, q) ∷ numbers_behind workers worker rest (number + 1))
          (numbers_behind workers worker rest (number + 1)) mine_it)
          ∙ sym (append_assoc (asked_by so.ds) ((number, q) ∷ []) (numbers_behind workers worker rest (number + 1)))
          ∙ ap (λ l. l ++ numbers_behind workers worker rest (number + 1)) (sym (map_push (λ d. (d.0, d.1.0)) so.ds (number, (q, r))))
          ∙ ap (λ k. asked_by (so.ds ++ ((number, (q, r)) ∷ [])) ++ numbers_behind workers worker rest k) (sym count);
      sent = λ whole is_whole. all_are whole is_whole;
    } where
      shard : ℕ
      shard = shard_asked q

      first : (m : Map) × MapOf image (shard_asked q) m
      first = maps.each (shard_asked q) (small_shard q)

      all_are : (whole : Map) → IsWholeMap image whole → IsPermutation
          (all_sent whole (asked_by (so.ds ++ ((number, (q, r)) ∷ []))) (told_by (so.ds ++ ((number, (q, r)) ∷ []))) ++ old) new
      all_are whole is_whole =
          let part = after first.0 (of_shard (shard_asked q) worked.rs) in
          let before = all_sent whole (asked_by so.ds) (told_by so.ds) in
          let one = sends part number q r in
          let alike : part (key_of q) ≡ after whole (map (λ x. x.1) so.ds) (key_of q) =
          whole_after image whole is_whole (shard_asked q) first.0 first.1 worked.rs (key_of q) refl
          ∙ ap (λ l. after whole l (key_of q)) (sym rs_is ∙ so.rs_are) in
          let list : all_sent whole (asked_by (so.ds ++ ((number, (q, r)) ∷ []))) (told_by (so.ds ++ ((number, (q, r)) ∷ []))) ≡ before ++ one =
          sent_push whole so.ds (number, (q, r)) ∙ ap (λ l. before ++ l) (sym (sends_alike part (after whole (map (λ x. x.1) so.ds)) number q r alike)) in
          let step : IsPermutation (one ++ cur) new = has part (worked.answered.gives (shard_asked q) first.0 (small_shard q) owned first.1) in
          let turned : IsPermutation ((before ++ one) ++ old) ((one ++ before) ++ old) =
          IsPermutation-append_left old (before ++ one) (one ++ before) (IsPermutation-append_comm before one) in
          let grouped : IsPermutation ((before ++ one) ++ old) (one ++ (before ++ old)) =
          subst (IsPermutation ((before ++ one) ++ old)) (append_assoc one before old) turned in
          let carried : IsPermutation (one ++ (before ++ old)) (one ++ cur) = IsPermutation-append_right one (before ++ old) cur (so.sent whole is_whole) in
          let all : IsPermutation ((before ++ one) ++ old) new =
          IsPermutation-trans ((before ++ one) ++ old) (one ++ cur) new (IsPermutation-trans ((before ++ one) ++ old) (one ++ (before ++ old))
          (one ++ cur) grouped carried) step in
          subst (λ l. IsPermutation (l ++ old) new) (sym list) all

-- so it is of all requests of the worker, wherever it ends
pub sent_all : (image : Image) (workers worker : ℕ) (requests left : List Request) (number : ℕ) (rs : List (Request × Reply)) (told : Replies)
    (old new : List Sent)
    → HasSentSo image workers worker requests left number rs told old new → (whole : Map) → IsWholeMap image whole
    → IsPermutation (all_sent whole (worker_numbered workers worker requests) told ++ old) new
sent_all image workers worker requests left number rs told old new so whole is_whole =
    let list : all_sent whole (worker_numbered workers worker requests) told ≡ all_sent whole (asked_by so.ds) (told_by so.ds) =
    ap (λ ns. all_sent whole ns told) so.mine_are ∙ ap (all_sent whole
    (asked_by so.ds ++ filter (λ n. is_of_worker workers worker n.1) (numbered number left))) so.told_are
    ∙ sent_first whole so.ds (filter (λ n. is_of_worker workers worker n.1) (numbered number left)) in
    subst (λ l. IsPermutation (l ++ old) new) (sym list) (so.sent whole is_whole)

-- a request that sends nothing leaves what was sent
pub sends_none : (number : ℕ) (q : Request) (r : Reply) (old : List Sent) (v : View) → ((m : Map) → sends m number q r ≡ [])
    → HasSent number q (Some r) old old v
sends_none number q r old v nothing = λ m gives. subst (λ l. IsPermutation (l ++ old) old) (sym (nothing m)) (IsPermutation-refl old)

-- what a move sent, as it was told
pub move_sends : (number key to : ℕ) (told : MoveAnswer) (old new : List Sent) (v : View) → SendsFor number key to told old new v
    → HasSent number (move key to) (Some (reply_of told)) old new v
move_sends number key to Done old new v sent = λ m gives. subst (λ o. IsPermutation (on_its_way o number to ++ old) new) (sym (sent.1 m gives)) sent.2
move_sends number key to Full old new v same = λ m gives. subst (IsPermutation old) (sym same) (IsPermutation-refl old)
move_sends number key to Missing old new v same = λ m gives. subst (IsPermutation old) (sym same) (IsPermutation-refl old)

-- one request more that goes by the tables
pub goes_on : (has : ℕ → Bool) (rs : List (Request × Reply)) (q : Request) (r : Reply) → GoesByTables has q (Some r)
    → ((request : Request) (answer : Reply) → Contains rs (request, answer) → GoesByTables has request (Some answer))
    → (request : Request) (answer : Reply) → Contains (rs ++ ((q, r) ∷ [])) (request, answer) → GoesByTables has request (Some answer)
goes_on has rs q r now before request answer h = elim (Contains-append_cases rs ((q, r) ∷ []) (request, answer) h) as
    (λ _. GoesByTables has request (Some answer)) [
      | inl old ↦ before request answer old
      | inr last ↦ elim (head_or_rest (q, r) (request, answer) [] last) as (λ _. GoesByTables has request (Some answer)) [
        | inl same ↦ subst (λ (x : Request × Reply). GoesByTables has x.0 (Some x.1)) same now
        | inr none_left ↦ absurd (in_none (request, answer) none_left)
      ]
    ]
