-- The replies of a run: each worker's in order, and right for the maps of its shards, once the rest of its requests stands as unanswered.
use Rattle.std.specs.Prelude.{Bool}
use Rattle.std.proofs.Common.{◌≡◌, ℕ, ◌-◌, ◌<◌, List, [], ◌∷◌, ◌++◌, length, map, replicate, slice_index, None, Some, Contains, refl, subst, sym, ap, ◌∙◌, arith}
use Rattle.std.proofs.lemmas.List.{length-map, length-append}
use Rattle.std.proofs.lemmas.List.Elements.{filter-append}
use Rattle.heap_model.specs.declared.block.Block.{Block}
use Rattle.heap_model.specs.Image.{Image}
use Rattle.heap_seat.specs.View.{View}
use Rattle.seat_model.specs.CacheState.{heap_view}
use Rattle.dict_model.specs.Links.{shards}
use Rattle.dict_model.specs.Requests.{Request, Reply, after_one, AreReplies}
use Rattle.dict_model.specs.Shards.{Map, MapOf}
use Rattle.run_model.specs.Needs.{is_to}
use Rattle.run_model.specs.Sending.{Sent, puts_of}
use Rattle.run_model.specs.Workers.{Replies, worker_of, worker_requests, worker_replies}
use Rattle.run_model.specs.Runs.{answered, unanswered, of_shard, AnswersInOrder, AnswerInOrder, RepliesRightly}
use Rattle.worker_parts.specs.Ending.{HasEnded, EndsIn, at_rest, not_begun, in_request, in_arrival}
use Rattle.run_outcome.specs.Together.{HaveWorked}
use Rattle.run_outcome.proofs.ShardLemmas.{of_its_worker}
use Rattle.run_outcome.proofs.ShareLemmas.{worker_below, owns_shard}

-- these replies, and none to what is left
abbrev filled : List (Request × Reply) → List Request → Replies
filled rs left = map (λ r. Some r.1) rs ++ replicate (length left) None

none_answered : (left : List Request) → (answered left (replicate (length left) None) ≡ []) × (unanswered left (replicate (length left) None) ≡ left)
none_answered [] = (refl, refl)
none_answered (q ∷ qs) = let rest = none_answered qs in (rest.0, ap (λ zs. q ∷ zs) rest.1)

-- the first requests are answered
filled_is : (rs : List (Request × Reply)) (left : List Request)
    → (answered (map (λ r. r.0) rs ++ left) (filled rs left) ≡ rs) × (unanswered (map (λ r. r.0) rs ++ left) (filled rs left) ≡ left)
filled_is [] left = none_answered left
filled_is (r ∷ rs) left = let rest = filled_is rs left in (ap (λ zs. (r.0, r.1) ∷ zs) rest.0, rest.1)

in_order : (rs : List (Request × Reply)) (left : List Request) → AnswersInOrder (map (λ r. r.0) rs ++ left) (filled rs left)
in_order rs left =
    let is = filled_is rs left in
    record {
      first = ap (λ zs. map (λ r. r.0) zs ++ left) (sym is.0) ∙ ap (λ zs. map (λ r. r.0)
          (answered (map (λ r. r.0) rs ++ left) (filled rs left)) ++ zs) (sym is.1);
      then_none = ap (λ zs. map (λ r. Some r.1) zs ++ replicate (length left) None) (sym is.0)
          ∙ ap (λ (zs : List Request). map (λ r. Some r.1) (answered (map (λ r. r.0) rs ++ left) (filled rs left)) ++ replicate
          (length zs) None) (sym is.1);
    }

-- the first of right replies are right
first_right : (map : Map) (xs ys : List (Request × Reply)) → AreReplies map (xs ++ ys) → AreReplies map xs
first_right map [] ys right = tt
first_right map (x ∷ xs) ys right = (right.0, first_right (after_one map x.0 x.1) xs ys right.1)

-- one worker's part
module _ (image : Image) (requests : List Request) (told final : Replies) (final_is : final ≡ told ++ replicate (length requests - length told) None)
    (came brought : List Sent) (halted stopped : Bool) (v : View) (ended : HasEnded image requests told came brought halted stopped v) where
  are_filled : final ≡ filled ended.rs ended.left
  are_filled =
      let a = ap length ended.requests_are in
      let b = ap length ended.replies_are in
      let c = length-append (map (λ r. r.0) ended.rs) ended.left in
      let d = length-map ended.rs (λ r. r.0) in
      let e = length-map ended.rs (λ r. Some r.1) in
      let rest : length requests - length told ≡ length ended.left = omega arith in
      final_is ∙ ap (λ xs. xs ++ replicate (length requests - length told) None) ended.replies_are
      ∙ ap (λ n. map (λ r. Some r.1) ended.rs ++ replicate n None) rest

  both : (answered requests final ≡ ended.rs) × (unanswered requests final ≡ ended.left)
  both = subst (λ xs. (answered xs final ≡ ended.rs) × (unanswered xs final ≡ ended.left)) (sym ended.requests_are)
      (subst (λ rs. (answered (map (λ r. r.0) ended.rs ++ ended.left) rs ≡ ended.rs)
      × (unanswered (map (λ r. r.0) ended.rs ++ ended.left) rs ≡ ended.left)) (sym are_filled)
      (filled_is ended.rs ended.left))

  pub ended_answered : answered requests final ≡ ended.rs
  ended_answered = both.0

  pub ended_left : unanswered requests final ≡ ended.left
  ended_left = both.1

  ended_in_order : AnswersInOrder requests final
  ended_in_order = subst (λ xs. AnswersInOrder xs final) (sym ended.requests_are)
      (subst (AnswersInOrder (map (λ r. r.0) ended.rs ++ ended.left)) (sym are_filled) (in_order ended.rs ended.left))

  -- the seat had its roots before it ended
  pub owned_before : (root : ℕ) → Contains v.roots root → Contains ended.before.roots root
  owned_before root owned = by_end ended.ends where
    by_end : EndsIn ended.left brought ended.later halted stopped ended.before v → Contains ended.before.roots root
    by_end (at_rest begun none_left none_later same) = subst (λ (w : View). Contains w.roots root) same owned
    by_end (not_begun halt none same) = subst (λ (w : View). Contains w.roots root) same owned
    by_end (in_request begun stop none request others is may) = subst (λ (roots : List ℕ). Contains roots root) may.others.roots owned
    by_end (in_arrival begun stop none_left next others is may) = subst (λ (roots : List ℕ). Contains roots root) may.others.roots owned

  -- the replies to a shard that the seat owns are right for its map
  ended_replies : (shard : ℕ) (m : Map) → shard < shards → Contains v.roots shard → MapOf image shard m
      → AreReplies m (of_shard shard (answered requests final))
  ended_replies shard m small owned is =
      subst (λ rs. AreReplies m (of_shard shard rs)) (sym ended_answered)
      (first_right m (of_shard shard ended.rs) (of_shard shard (puts_of brought))
      (subst (AreReplies m) (filter-append (λ r. is_to shard r.0) ended.rs (puts_of brought))
      (ended.answered.right shard m small (owned_before shard owned) is)))

module _ (words : List ℕ) (held : List Block) (workers budget : ℕ) (requests : List Request) (replies : Replies) (stopped : Bool)
    (now kept left : List ℕ)
    (h : HaveWorked words held workers budget requests replies stopped now kept left) where
  pub answer_in_order : AnswerInOrder workers requests replies
  answer_in_order = record {
    long = h.long;
    each = λ worker below. ended_in_order (slice_index words) (worker_requests workers worker requests) (h.told worker)
        (worker_replies workers worker requests replies) (h.padded worker below)
        (h.came worker) (h.brought worker) h.halted (h.stops worker) (heap_view (h.last worker)) (h.parts worker below).ended;
  }

  pub replies_rightly : RepliesRightly (slice_index words) requests replies
  replies_rightly = record {
    right = λ shard m small is.
        let worker = worker_of workers shard in
        let below = worker_below words held workers budget requests replies stopped now kept left h shard in
        subst (AreReplies m) (sym (of_its_worker workers shard requests replies))
        (ended_replies (slice_index words) (worker_requests workers worker requests) (h.told worker)
        (worker_replies workers worker requests replies) (h.padded worker below)
        (h.came worker) (h.brought worker) h.halted (h.stops worker) (heap_view (h.last worker)) (h.parts worker below).ended shard m small
        (owns_shard words held workers budget requests replies stopped now kept left h shard small) is);
  }
