use Rattle.std.proofs.Common.{◌≡◌, ◌<◌, ◌+◌, ◌++◌, ◌∷◌, [], length, length-append, set, take, drop, get_or, refl, subst, sym, ap, ◌∙◌, arith}
use Rattle.std.proofs.lemmas.List.{drop_all, get_or_default, length-map, length-set, map-append, nil_from_length}
use Rattle.run_model.specs.Workers.{shard_asked, worker_of}
use Rattle.worker_run.specs.Said.{request_of, requests_of, reply_of, replies_of}
use Rattle.shared_run.specs.Dealing.{Queue}
use Rattle.shared_run.proofs.MergeLemmas.{AreMerged, Takes, finds_none, merge_begins, merge_ends, merge_line, takes_first}
use Rattle.shared_run.proofs.gather.put_in_order.Goals as goal
use Rattle.shared_run.proofs.gather.put_in_order.Goals.{in-Some, in-None}

pub loop-request-init : goal.loop-request-init
loop-request-init c = record {
  merged = λ any. subst (λ rs. AreMerged (length c.args.told.items) (requests_of c.args.requests.now) [] (requests_of c.args.requests.now)
      (replies_of rs) (λ worker. replies_of (get_or c.args.told.items worker any).items)
      (λ worker. replies_of (get_or c.args.told.items worker any).items)) (sym c.requires.empty)
      (merge_begins (length c.args.told.items) (requests_of c.args.requests.now) (λ worker. replies_of (get_or c.args.told.items worker any).items));
  count = refl;
  long = ap length c.requires.empty;
  room = refl;
}

pub loop-request-preserved : goal.loop-request-preserved
loop-request-preserved c =
    let lines = c.args.requests.now in
    let i = c.loop-request.request-index in
    let line = c.request-item.result in
    let was = c.loop-request.invariant in
    let left = c.loop-request.told.items in
    let k = c.worker_of.result in
    let new = c.pop_front.new.self in
    let reply = c.match-pop_front.reply in
    let more = ap length c.push_reserved.ensures.items ∙ length-append c.loop-request.replies.items (reply ∷ []) in
    let count = was.count in
    let queue = c.index_mut.result.now in
    let inside : k < length left = let small = c.worker_of.ensures.below in let workers = c.len-workers.ensures in omega arith in
    let number : k ≡ worker_of (length c.args.told.items) (shard_asked (request_of line)) =
    c.worker_of.ensures.number ∙ ap (λ n. worker_of n (shard_asked (request_of line))) (let workers = c.len-workers.ensures in omega arith) in
    let first : Takes reply queue new = elim c.match-pop_front.branch [
      | in-Some w ↦ takes_first (w.in-Some.ensures.items ∙ ap (λ r. r ∷ new.items) (sym w.reply-is))
      | in-None w ↦
          let gone = nil_from_length new.items (let ok = new.ok in let none = w.in-None.ensures.cases.1 in omega arith) in
          finds_none w.reply-is (w.in-None.ensures.items ∙ gone) gone
    ] in
    let taken : (any : Queue) → Takes reply (get_or left k any) new =
    λ any. subst (λ (q : Queue). Takes reply q new) (sym (get_or_default left k any queue inside ∙ sym c.index_mut.ensures.value)) first in
    let now : replies_of c.push_reserved.new.self.items ≡ replies_of c.loop-request.replies.items ++ (reply_of reply ∷ []) =
    ap replies_of c.push_reserved.ensures.items ∙ map-append reply_of c.loop-request.replies.items (reply ∷ []) in
    record {
      merged = λ any. subst (λ rs. AreMerged (length c.args.told.items) (requests_of lines) (requests_of (take (i + 1) lines))
          (requests_of (drop (i + 1) lines)) rs
          (λ worker. replies_of (get_or c.args.told.items worker any).items) (λ worker. replies_of (get_or (set left k new) worker any).items))
          (sym now)
          (merge_line (length c.args.told.items) lines i line c.loop-request-test.true c.request-item.is c.args.told.items left k new reply
          inside number taken (replies_of c.loop-request.replies.items) was.merged any);
      count = length-set left k new ∙ count;
      long = (let was_long = was.long in omega arith);
      room = c.push_reserved.ensures.capacity ∙ was.room;
    }

pub returns-clause-each : goal.returns-clause-each
returns-clause-each c = λ worker any below few.
    let lines = c.args.requests.now in
    let i = c.loop-request.request-index in
    let workers = length c.args.told.items in
    let past = c.loop-request-test.false in
    let none : requests_of (drop i lines) ≡ [] = ap requests_of (drop_all i lines past) in
    let merged = subst (λ qs. AreMerged workers (requests_of lines) (requests_of (take i lines)) qs (replies_of c.loop-request.replies.items)
    (λ w. replies_of (get_or c.args.told.items w any).items) (λ w. replies_of (get_or c.loop-request.told.items w any).items)) none
    (c.loop-request.invariant.merged any) in
    merge_ends workers (requests_of lines) (requests_of (take i lines)) (replies_of c.loop-request.replies.items)
    (λ w. replies_of (get_or c.args.told.items w any).items) (λ w. replies_of (get_or c.loop-request.told.items w any).items) merged worker below
    (let long = length-map (get_or c.args.told.items worker any).items reply_of in omega arith)
