use Rattle.std.proofs.Common.{◌++◌, ◌∷◌, [], List, ℕ, length, take, subst, sym, ap, ◌∙◌, arith}
use Rattle.std.proofs.lemmas.List.{length-append, take_all}
use Rattle.dict_model.specs.Requests.{Request}
use Rattle.run_model.specs.Workers.{worker_requests}
use Rattle.run_model.specs.Working.{HaveRoom}
use Rattle.worker_run.specs.Said.{Line, request_of, requests_of}
use Rattle.worker_run.proofs.RoomLemmas.{rooms_push, mine_taken, mine_left}
use Rattle.worker_run.proofs.room.make_rooms.Goals as goal
use Rattle.worker_run.proofs.room.make_rooms.Goals.{then-has+in_ok-make_room, else-has}

pub loop-request-preserved : goal.loop-request-preserved
loop-request-preserved c =
    let lines = c.args.requests.now in
    let all = requests_of lines in
    let workers = c.args.worker.workers in
    let worker = c.args.worker.number in
    let i = c.loop-request.request-index in
    let before = worker_requests workers worker (requests_of (take i lines)) in
    let line = c.request-item.result in
    let below = c.loop-request-test.true in
    elim c.if-has.branch [
      | then-has+in_ok-make_room w ↦
          let next = mine_taken workers worker lines i line c.has.result below c.request-item.is c.has.ensures w.if-has.true in
          let old = c.loop-request.rooms.items in
          let items = w.push_back_reserved.ensures.items in
          let more = length-append old (w.in_ok-make_room.field-0 ∷ []) in
          let longer = length-append before (request_of line ∷ []) in
          let both = ap length next in
          let long = ap length items in
          let count = c.loop-request.invariant.count in
          let few = c.loop-request.invariant.few in
          rw (w.rooms-is) (record {
            rooms = λ image are longest.
                subst (λ (qs : List Request). HaveRoom image all qs w.push_back_reserved.new.self.items) (sym next)
                (subst (λ (rs : List (List ℕ)). HaveRoom image all (before ++ (request_of line ∷ [])) rs) (sym items)
                (rooms_push image all before (request_of line) old w.in_ok-make_room.field-0
                (c.loop-request.invariant.rooms image are longest) count (w.in_ok-make_room.ensures image all are longest)));
            count = omega arith;
            few = omega arith;
            reserved = let same = w.push_back_reserved.ensures.capacity in let room = c.loop-request.invariant.reserved in omega arith;
          })
      | else-has w ↦
          let next = mine_left workers worker lines i line c.has.result below c.request-item.is c.has.ensures w.if-has.false in
          rw (w.rooms-is) (record {
            rooms = λ image are longest. subst (λ (qs : List Request). HaveRoom image all qs c.loop-request.rooms.items) (sym next)
                (c.loop-request.invariant.rooms image are longest);
            count = c.loop-request.invariant.count ∙ sym (ap length next);
            few = let few = c.loop-request.invariant.few in omega arith;
            reserved = c.loop-request.invariant.reserved;
          })
    ]

pub returns : goal.returns
returns c = λ image maps are longest.
    let lines = c.args.requests.now in
    let whole = take_all c.loop-request.request-index lines (omega arith) in
    subst (λ (ls : List Line). HaveRoom image (requests_of lines) (worker_requests c.args.worker.workers c.args.worker.number (requests_of ls))
    c.loop-request.rooms.items) whole
    (c.loop-request.invariant.rooms image are longest)
