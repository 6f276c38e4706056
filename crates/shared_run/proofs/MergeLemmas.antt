-- The replies of all workers, put in the order of the trace one by one.
use Rattle.std.proofs.Common.{◌≡◌, ℕ, suc, ◌+◌, ◌-◌, ◌<◌, ◌≤◌, Bool, true, false, List, [], ◌∷◌, ◌++◌, length, length-append, replicate, Option, None, cond, drop, get_or, inl, inr, set, take, refl, subst, sym, ap, ◌∙◌, arith, append_assoc}
use Rattle.std.proofs.lemmas.List.{append-nil, drop_more, get_or-set_other, get_or-set_same, length-replicate, nil_from_length}
use Rattle.std.proofs.lemmas.Bool.{cases_eq, eq-eqb, ne_eqb}
use Rattle.trace_text.specs.declared.reply.Reply.TheVariants.{Unanswered}
use Rattle.worker_run.specs.Said.{Line, Told, request_of, requests_of, reply_of, replies_of}
use Rattle.worker_run.proofs.RoomLemmas.{requests_next}
use Rattle.dict_model.specs.Requests.{Request, Reply}
use Rattle.run_model.specs.Workers.{Replies, is_of_worker, shard_asked, worker_of, worker_requests, worker_replies}
use Rattle.shared_run.specs.Dealing.{Queue, padded}

abbrev no_reply : Option Reply
no_reply = None

-- one request more, with its reply
pub requests_push : (workers worker : ℕ) (requests : List Request) (request : Request)
    → worker_requests workers worker (requests ++ (request ∷ [])) ≡ worker_requests workers worker requests ++ cond
    (is_of_worker workers worker request) (request ∷ []) []
requests_push workers worker [] request = refl
requests_push workers worker (q ∷ qs) request =
    by_case (is_of_worker workers worker q) (requests_push workers worker qs request) where
      by_case : (b : Bool) → worker_requests workers worker (qs ++ (request ∷ [])) ≡ worker_requests workers worker qs ++ cond
          (is_of_worker workers worker request) (request ∷ []) []
          → cond b (q ∷ worker_requests workers worker (qs ++ (request ∷ []))) (worker_requests workers worker (qs ++ (request ∷ [])))
          ≡ cond b (q ∷ worker_requests workers worker qs) (worker_requests workers worker qs) ++ cond (is_of_worker workers worker request)
          (request ∷ []) []
      by_case true is = ap (λ xs. q ∷ xs) is
      by_case false is = is

pub replies_push : (workers worker : ℕ) (requests : List Request) (replies : Replies) (request : Request) (reply : Option Reply)
    → length replies ≡ length requests
    → worker_replies workers worker (requests ++ (request ∷ [])) (replies ++ (reply ∷ []))
    ≡ worker_replies workers worker requests replies ++ cond (is_of_worker workers worker request) (reply ∷ []) []
replies_push workers worker [] [] request reply long = refl
replies_push workers worker [] (r ∷ rs) request reply long = absurd (omega (arith, long))
replies_push workers worker (q ∷ qs) [] request reply long = absurd (omega (arith, long))
replies_push workers worker (q ∷ qs) (r ∷ rs) request reply long =
    by_case (is_of_worker workers worker q) (replies_push workers worker qs rs request reply (omega (arith, long))) where
      by_case : (b : Bool) → worker_replies workers worker (qs ++ (request ∷ []))
          (rs ++ (reply ∷ [])) ≡ worker_replies workers worker qs rs ++ cond (is_of_worker workers worker request) (reply ∷ []) []
          → cond b (r ∷ worker_replies workers worker (qs ++ (request ∷ [])) (rs ++ (reply ∷ [])))
          (worker_replies workers worker (qs ++ (request ∷ [])) (rs ++ (reply ∷ [])))
          ≡ cond b (r ∷ worker_replies workers worker qs rs) (worker_replies workers worker qs rs) ++ cond (is_of_worker workers worker request)
          (reply ∷ []) []
      by_case true is = ap (λ xs. r ∷ xs) is
      by_case false is = is

pub replies_long : (workers worker : ℕ) (requests : List Request) (replies : Replies) → length replies ≡ length requests
    → length (worker_replies workers worker requests replies) ≡ length (worker_requests workers worker requests)
replies_long workers worker [] [] long = refl
replies_long workers worker [] (r ∷ rs) long = absurd (omega (arith, long))
replies_long workers worker (q ∷ qs) [] long = absurd (omega (arith, long))
replies_long workers worker (q ∷ qs) (r ∷ rs) long = by_case (is_of_worker workers worker q)
    (replies_long workers worker qs rs (omega (arith, long))) where
      by_case : (b : Bool) → length (worker_replies workers worker qs rs) ≡ length (worker_requests workers worker qs)
          → length (cond b (r ∷ worker_replies workers worker qs rs) (worker_replies workers worker qs rs)) ≡ length
          (cond b (q ∷ worker_requests workers worker qs) (worker_requests workers worker qs))
      by_case true is = omega (arith, is)
      by_case false is = is

-- so far the requests have these replies, and these of each worker are left
pub record AreMerged (workers : ℕ) (all done rest : List Request) (replies : Replies) (told left : ℕ → Replies) : Type 0 where
  pub all_is : all ≡ done ++ rest
  pub long : length replies ≡ length done
  pub each : (worker : ℕ) → worker < workers
      → worker_replies workers worker done replies ++ padded workers worker rest (left worker) ≡ padded workers worker all (told worker)

pub merge_begins : (workers : ℕ) (all : List Request) (told : ℕ → Replies) → AreMerged workers all [] all [] told told
merge_begins workers all told = record { all_is = refl; long = refl; each = λ worker below. refl }

-- what a worker has left goes on by one reply at a request of its own, and stays at another's
pub data GoesOn (mine : Bool) (reply : Option Reply) (old new : Replies) : Type 0 where
  takes : mine ≡ true → old ≡ reply ∷ new → GoesOn mine reply old new
  ends : mine ≡ true → reply ≡ None → old ≡ [] → new ≡ [] → GoesOn mine reply old new
  stays : mine ≡ false → new ≡ old → GoesOn mine reply old new

minus_none : (n : ℕ) → n - 0 ≡ n
minus_none n = omega arith

one_on : (workers worker : ℕ) (request : Request) (rest : List Request) (reply : Option Reply) (old new : Replies)
    → GoesOn (is_of_worker workers worker request) reply old new
    → cond (is_of_worker workers worker request) (reply ∷ []) [] ++ padded workers worker rest new ≡ padded workers worker (request ∷ rest) old
one_on workers worker request rest reply old new on = by_case (is_of_worker workers worker request) on where
  mine : Bool → List Request
  mine b = cond b (request ∷ worker_requests workers worker rest) (worker_requests workers worker rest)

  by_case : (b : Bool) → GoesOn b reply old new
      → cond b (reply ∷ []) [] ++ padded workers worker rest new ≡ old ++ replicate (length (mine b) - length old) None
  by_case true (takes own at) =
      let fewer : length (worker_requests workers worker rest) - length new ≡ suc (length (worker_requests workers worker rest)) - suc
      (length new) = omega arith in
      ap (λ n. reply ∷ (new ++ replicate n None)) fewer ∙ sym (ap (λ xs. xs ++ replicate (length (mine true) - length xs) None) at)
  by_case true (ends own is none now) =
      ap (λ x. x ∷ padded workers worker rest new) is ∙ ap (λ xs. None ∷ padded workers worker rest xs) now
      ∙ ap (λ n. None ∷ replicate n None) (minus_none (length (worker_requests workers worker rest)))
      ∙ ap (λ n. replicate n no_reply) (sym (minus_none (suc (length (worker_requests workers worker rest)))))
      ∙ sym (ap (λ xs. xs ++ replicate (length (mine true) - length xs) None) none)
  by_case true (stays other same) = absurd (let e : true ≡ false = other in cc)
  by_case false (takes own at) = absurd (let e : false ≡ true = own in cc)
  by_case false (ends own is none now) = absurd (let e : false ≡ true = own in cc)
  by_case false (stays other same) = ap (padded workers worker rest) same

pub merge_goes_on : (workers : ℕ) (all done rest : List Request) (replies : Replies) (told left next : ℕ → Replies) (request : Request)
    (reply : Option Reply)
    → AreMerged workers all done (request ∷ rest) replies told left
    → ((worker : ℕ) → worker < workers → GoesOn (is_of_worker workers worker request) reply (left worker) (next worker))
    → AreMerged workers all (done ++ (request ∷ [])) rest (replies ++ (reply ∷ [])) told next
merge_goes_on workers all done rest replies told left next request reply merged on = record {
  all_is = merged.all_is ∙ sym (append_assoc done (request ∷ []) rest);
  long = let was = merged.long in let a = length-append replies (reply ∷ []) in let b = length-append done (request ∷ []) in omega arith;
  each = λ worker below.
      ap (λ xs. xs ++ padded workers worker rest (next worker)) (replies_push workers worker done replies request reply merged.long)
      ∙ append_assoc (worker_replies workers worker done replies) (cond (is_of_worker workers worker request) (reply ∷ []) [])
      (padded workers worker rest (next worker))
      ∙ ap (λ xs. worker_replies workers worker done replies ++ xs) (one_on workers worker request rest reply (left worker) (next worker)
      (on worker below))
      ∙ merged.each worker below;
}

blanks : (n : ℕ) → length (replicate n no_reply) ≡ n
blanks n = length-replicate n no_reply

-- once all requests have their place, each worker's replies are there, and the rest of its requests is unanswered
pub merge_ends : (workers : ℕ) (all done : List Request) (replies : Replies) (told left : ℕ → Replies) → AreMerged workers all done [] replies told left
    → (worker : ℕ) → worker < workers → length (told worker) ≤ length (worker_requests workers worker all)
    → worker_replies workers worker all replies ≡ padded workers worker all (told worker)
merge_ends workers all done replies told left merged worker below few =
    let same : all ≡ done = merged.all_is ∙ append-nil done in
    let is = merged.each worker below in
    let here = replies_long workers worker done replies merged.long in
    let there = ap (λ qs. length (worker_requests workers worker qs)) same in
    let both = ap length is in
    let a = length-append (worker_replies workers worker done replies) (padded workers worker [] (left worker)) in
    let b = length-append (left worker) (replicate (0 - length (left worker)) None) in
    let c = length-append (told worker) (replicate (length (worker_requests workers worker all) - length (told worker)) None) in
    let d = blanks (length (worker_requests workers worker all) - length (told worker)) in
    let none : padded workers worker [] (left worker) ≡ [] = nil_from_length (padded workers worker [] (left worker)) (omega arith) in
    ap (λ qs. worker_replies workers worker qs replies) same
    ∙ sym (ap (λ xs. worker_replies workers worker done replies ++ xs) none ∙ append-nil (worker_replies workers worker done replies)) ∙ is

-- the first reply of a worker's queue, or that there is none
pub data Takes (reply : Told) (old new : Queue) : Type 0 where
  takes_first : old.items ≡ reply ∷ new.items → Takes reply old new
  finds_none : reply ≡ Unanswered → old.items ≡ [] → new.items ≡ [] → Takes reply old new

-- one line of the trace: its worker's queue goes on, and the others stay
module _ (workers : ℕ) (lines : List Line) (i : ℕ) (line : Line) (below : i < length lines) (is : line ≡ get_or lines i line)
    (told left : List Queue) (k : ℕ) (new : Queue) (reply : Told) (inside : k < length left)
    (k_is : k ≡ worker_of workers (shard_asked (request_of line)))
    (taken : (any : Queue) → Takes reply (get_or left k any) new) where
  left_next : requests_of (drop i lines) ≡ request_of line ∷ requests_of (drop (i + 1) lines)
  left_next = ap requests_of (drop_more lines i line below ∙ ap (λ x. x ∷ drop (i + 1) lines) (sym is))

  goes : (any : Queue) (worker : ℕ) → GoesOn (is_of_worker workers worker (request_of line)) (reply_of reply)
      (replies_of (get_or left worker any).items) (replies_of (get_or (set left k new) worker any).items)
  goes any worker = elim (cases_eq k worker) as (λ _. GoesOn (is_of_worker workers worker (request_of line)) (reply_of reply)
      (replies_of (get_or left worker any).items) (replies_of (get_or (set left k new) worker any).items)) [
        | inl same ↦ subst (λ w. GoesOn (is_of_worker workers w (request_of line)) (reply_of reply) (replies_of (get_or left w any).items)
            (replies_of (get_or (set left k new) w any).items)) same
            (subst (λ (q : Queue). GoesOn (is_of_worker workers k (request_of line)) (reply_of reply) (replies_of (get_or left k any).items)
            (replies_of q.items)) (sym (get_or-set_same left k new any inside))
            (by_queue (taken any)))
        | inr other ↦ stays (ne_eqb (worker_of workers (shard_asked (request_of line))) worker (λ e. other (k_is ∙ e)))
            (ap (λ (q : Queue). replies_of q.items) (get_or-set_other left k worker new any (λ e. other (sym e))))
      ] where
        own : is_of_worker workers k (request_of line) ≡ true
        own = eq-eqb (worker_of workers (shard_asked (request_of line))) k (sym k_is)

        by_queue : Takes reply (get_or left k any) new → GoesOn (is_of_worker workers k (request_of line)) (reply_of reply)
            (replies_of (get_or left k any).items) (replies_of new.items)
        by_queue (takes_first at) = takes own (ap replies_of at)
        by_queue (finds_none is_none old_none new_none) = ends own (ap reply_of is_none) (ap replies_of old_none) (ap replies_of new_none)

  pub merge_line : (replies : Replies) → ((any : Queue) → AreMerged workers (requests_of lines) (requests_of (take i lines))
      (requests_of (drop i lines)) replies
      (λ worker. replies_of (get_or told worker any).items) (λ worker. replies_of (get_or left worker any).items))
      → (any : Queue) → AreMerged workers (requests_of lines) (requests_of (take (i + 1) lines)) (requests_of (drop (i + 1) lines))
      (replies ++ (reply_of reply ∷ []))
      (λ worker. replies_of (get_or told worker any).items) (λ worker. replies_of (get_or (set left k new) worker any).items)
  merge_line replies merged any =
      subst (λ (qs : List Request). AreMerged workers (requests_of lines) qs (requests_of (drop (i + 1) lines))
      (replies ++ (reply_of reply ∷ [])) (λ worker. replies_of (get_or told worker any).items)
      (λ worker. replies_of (get_or (set left k new) worker any).items))
      (sym (requests_next lines i line below is))
      (merge_goes_on workers (requests_of lines) (requests_of (take i lines)) (requests_of (drop (i + 1) lines)) replies
      (λ worker. replies_of (get_or told worker any).items) (λ worker. replies_of (get_or left worker any).items)
      (λ worker. replies_of (get_or (set left k new) worker any).items) (request_of line) (reply_of reply)
      (subst (λ (qs : List Request). AreMerged workers (requests_of lines) (requests_of (take i lines)) qs replies
      (λ worker. replies_of (get_or told worker any).items) (λ worker. replies_of (get_or left worker any).items)) left_next (merged any))
      (λ worker small. goes any worker))
