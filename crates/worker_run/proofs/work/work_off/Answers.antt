use Rattle.std.proofs.Common.{◌≡◌, ◌+◌, ◌-◌, ◌*◌, [], ◌∷◌, ◌++◌, length, sum_by, Some, Contains, refl, subst, sym, ap, ◌∙◌, arith}
use Rattle.std.proofs.lemmas.List.{nil_from_length, length-append, map_push}
use Rattle.std.proofs.lemmas.List.Sums.{sum_by-cons}
use Rattle.run_model.specs.Runs.{answered}
use Rattle.std.specs.List.Sorted.{IsPermutation}
use Rattle.run_model.specs.Needs.{put_into}
use Rattle.run_model.specs.Sending.{all_sent, worker_numbered}
use Rattle.run_model.specs.Spending.{AreFullRightly, HasTakenFew, MakeFew, tables_missing}
use Rattle.run_model.specs.Workers.{worker_requests}
use Rattle.run_model.specs.Working.{HasWorked, Fits, IsUnderWay, TakesRequests, large_calls_of}
use Rattle.dict_model.specs.Requests.{Request, Reply}
use Rattle.heap_model.proofs.MemberLemmas.{in_none}
use Rattle.shard_moves.specs.Tables.{is_flagged}
use Rattle.worker_run.specs.Said.{request_of, requests_of, reply_of, replies_of}
use Rattle.worker_run.specs.Sending.{GoesByTables, HasSent, needs_room, rooms_needed}
use Rattle.worker_run.proofs.SentLemmas.{HasSentSo, goes_on, sent_begins, sent_next, sent_all}
use Rattle.worker_run.proofs.MineLemmas.{mine_next, owns_still, puts_owned, rooms_next, no_room_left}
use Rattle.worker_run.proofs.NextLemmas.{at_own, calls_answered, calls_stopped, refused_answered, worked_through}
use Rattle.run_model.proofs.GoesOnLemmas.{takes_push}
use Rattle.worker_run.proofs.SpendLemmas.{answered_none, answered_now, answered_next, unanswered_now, worked_count, few_none, few_more, full_behind, knows_call, larges_of, larges_worked, refused_none, refused_on}
use Rattle.worker_run.proofs.TakenLemmas.{HasTaken, taken_none, taken_next, taken_stopped, taken_ended}
use Rattle.worker_run.proofs.WorkLemmas.{work_begins, work_replied}
use Rattle.worker_run.proofs.work.work_off.Goals as goal

pub loop-request-init : goal.loop-request-init
loop-request-init g c =
    let v = g.H.HeapSeat.view c.args.seat.now in
    let qs = worker_requests c.args.worker.workers c.args.worker.number (requests_of c.args.requests.now) in
    let empty = c.requires.1.1.1.1.1.1.1.1.1.0 in
    let none : answered qs (replies_of c.args.replies.now.items) ≡ [] = ap (λ rs. answered qs (replies_of rs)) empty ∙ answered_none qs in
    record {
      worked = subst (λ rs. HasWorked g.image qs qs (replies_of rs) v) (sym empty) (work_begins g.image qs v c.requires.1.1.1.1.0);
      rooms = c.requires.1.1.1.1.1.1.1.0;
      reserved = let none = ap length empty in let most = c.requires.1.1.1.1.1.1.1.1.1.1.0 in omega arith;
      shorter = omega arith;
      same_room = refl;
      taken = subst (λ rs. HasTaken qs rs v v) (sym none) (taken_none qs v);
      full = subst (λ rs. AreFullRightly g.H.HeapSeat.view g.O.Outbox.goes (tables_missing (put_into qs) v) rs c.args.seat.now c.args.seat.now)
          (sym none) (refused_none g.H.HeapSeat.view g.O.Outbox.goes (tables_missing (put_into qs) v) c.args.seat.now c.args.seat.now);
      calls = λ keys lists. subst (λ n. MakeFew n (33280 + 4 * (length keys + length qs))
          (larges_of (answered qs (replies_of c.args.replies.now.items))) v v) (sym (ap length empty))
          (subst (λ rs. MakeFew 0 (33280 + 4 * (length keys + length qs)) (larges_of rs) v v) (sym none)
          (few_none (33280 + 4 * (length keys + length qs)) v));
      steps = subst (λ rs. TakesRequests g.H.HeapSeat.view g.O.Outbox.goes g.H.HeapSeat.has_none rs c.args.seat.now c.args.seat.now) (sym none) refl;
      roots = refl;
      going = λ none. none;
      exact = λ all. all;
      goes_on = g.met.O.Outbox.goes_none c.args.seat.now;
      ready = c.requires.1.1.1.1.1.1.1.1.1.1.1.0;
      outgoing = c.requires.1.1.1.1.1.1.1.1.1.1.1.1;
      sent = sent_begins g.image c.args.worker.workers c.args.worker.number (requests_of c.args.requests.now)
          (length c.args.requests.now - length c.args.requests.now)
          (answered qs (replies_of c.args.replies.now.items)) (replies_of c.args.replies.now.items) (g.O.Outbox.sent c.args.outbox.now) (omega arith)
          none (ap replies_of empty);
      tables = subst (λ rs. (request : Request) (answer : Reply) → Contains rs (request, answer)
          → GoesByTables (is_flagged c.args.tables.now) request (Some answer)) (sym none)
          (λ request answer h. absurd (in_none (request, answer) h));
    }

pub answer-answered-requires-clause-shard : goal.answer-answered-requires-clause-shard
answer-answered-requires-clause-shard g c =
    let v = g.H.HeapSeat.view c.loop-request.seat in
    let here = at_own c.args.worker.workers c.args.worker.number (g.H.HeapSeat.view c.args.seat.now) v c.loop-request.left.now c.in-Some.rest.now
    c.in-Some.request.now c.has.result c.in-Some.ensures.cases.0 c.has.ensures c.if-has.true g.image c.args.requests.now
    (replies_of c.loop-request.replies.items) (g.met.H.HeapSeat.seat c.loop-request.seat) c.requires.1.1.1.1.1.1.0 c.requires.1.1.1.1.1.0
    c.requires.1.1.1.1.1.1.1.1.0 c.loop-request.invariant.roots c.loop-request.invariant.worked in
    here.next.shard

pub answer-answered-requires-clause-short : goal.answer-answered-requires-clause-short
answer-answered-requires-clause-short g c =
    let v = g.H.HeapSeat.view c.loop-request.seat in
    let here = at_own c.args.worker.workers c.args.worker.number (g.H.HeapSeat.view c.args.seat.now) v c.loop-request.left.now c.in-Some.rest.now
    c.in-Some.request.now c.has.result c.in-Some.ensures.cases.0 c.has.ensures c.if-has.true g.image c.args.requests.now
    (replies_of c.loop-request.replies.items) (g.met.H.HeapSeat.seat c.loop-request.seat) c.requires.1.1.1.1.1.1.0 c.requires.1.1.1.1.1.0
    c.requires.1.1.1.1.1.1.1.1.0 c.loop-request.invariant.roots c.loop-request.invariant.worked in
    here.short

pub answer-answered-requires-clause-fits : goal.answer-answered-requires-clause-fits
answer-answered-requires-clause-fits g c =
    let v = g.H.HeapSeat.view c.loop-request.seat in
    let here = at_own c.args.worker.workers c.args.worker.number (g.H.HeapSeat.view c.args.seat.now) v c.loop-request.left.now c.in-Some.rest.now
    c.in-Some.request.now c.has.result c.in-Some.ensures.cases.0 c.has.ensures c.if-has.true g.image c.args.requests.now
    (replies_of c.loop-request.replies.items) (g.met.H.HeapSeat.seat c.loop-request.seat) c.requires.1.1.1.1.1.1.0 c.requires.1.1.1.1.1.0
    c.requires.1.1.1.1.1.1.1.1.0 c.loop-request.invariant.roots c.loop-request.invariant.worked in
    subst (λ bytes. Fits v (request_of c.in-Some.request.now) (length bytes)) (sym c.into_vec.ensures)
    (here.fits c.loop-request.rooms.items c.pop_front.new.self.items c.in-Some-pop_front.room c.in-Some-pop_front.ensures.items
    c.loop-request.invariant.rooms)

pub returns-in_default-answered-clause-stopped : goal.returns-in_default-answered-clause-stopped
returns-in_default-answered-clause-stopped g c = λ stopped.
    let v = g.H.HeapSeat.view c.loop-request.seat in
    let here = at_own c.args.worker.workers c.args.worker.number (g.H.HeapSeat.view c.args.seat.now) v c.loop-request.left.now c.in-Some.rest.now
    c.in-Some.request.now c.has.result c.in-Some.ensures.cases.0 c.has.ensures c.if-has.true g.image c.args.requests.now
    (replies_of c.loop-request.replies.items) (g.met.H.HeapSeat.seat c.loop-request.seat) c.requires.1.1.1.1.1.1.0 c.requires.1.1.1.1.1.0
    c.requires.1.1.1.1.1.1.1.1.0 c.loop-request.invariant.roots c.loop-request.invariant.worked in
    record {
      request = request_of c.in-Some.request.now;
      others = worker_requests c.args.worker.workers c.args.worker.number (requests_of c.in-Some.rest.now);
      before = v;
      seat = g.met.H.HeapSeat.seat c.loop-request.seat;
      worked = here.next.worked;
      may = c.answer-answered.ensures.crash;
    }

pub returns-in_default-answered-clause-full : goal.returns-in_default-answered-clause-full
returns-in_default-answered-clause-full g c =
    let v = g.H.HeapSeat.view c.loop-request.seat in
    let here = at_own c.args.worker.workers c.args.worker.number (g.H.HeapSeat.view c.args.seat.now) v c.loop-request.left.now c.in-Some.rest.now
    c.in-Some.request.now c.has.result c.in-Some.ensures.cases.0 c.has.ensures c.if-has.true g.image c.args.requests.now
    (replies_of c.loop-request.replies.items) (g.met.H.HeapSeat.seat c.loop-request.seat) c.requires.1.1.1.1.1.1.0 c.requires.1.1.1.1.1.0
    c.requires.1.1.1.1.1.1.1.1.0 c.loop-request.invariant.roots c.loop-request.invariant.worked in
    let mine = worker_requests c.args.worker.workers c.args.worker.number (requests_of c.args.requests.now) in
    refused_on g.H.HeapSeat.view g.O.Outbox.goes (tables_missing (put_into mine) (g.H.HeapSeat.view c.args.seat.now))
    (answered mine (replies_of c.loop-request.replies.items)) c.args.seat.now c.loop-request.seat c.answer-answered.new.seat
    c.loop-request.invariant.full
    (λ x keeps. g.met.O.Outbox.goes_then x c.loop-request.seat c.answer-answered.new.seat keeps c.answer-answered.ensures.goes_on)
    (knows_call (request_of c.in-Some.request.now) v (g.H.HeapSeat.view c.answer-answered.new.seat) here.next.shard c.answer-answered.ensures.calls)

pub returns-in_default-answered-clause-taken : goal.returns-in_default-answered-clause-taken
returns-in_default-answered-clause-taken g c =
    let v = g.H.HeapSeat.view c.loop-request.seat in
    let here = at_own c.args.worker.workers c.args.worker.number (g.H.HeapSeat.view c.args.seat.now) v c.loop-request.left.now c.in-Some.rest.now
    c.in-Some.request.now c.has.result c.in-Some.ensures.cases.0 c.has.ensures c.if-has.true g.image c.args.requests.now
    (replies_of c.loop-request.replies.items) (g.met.H.HeapSeat.seat c.loop-request.seat) c.requires.1.1.1.1.1.1.0 c.requires.1.1.1.1.1.0
    c.requires.1.1.1.1.1.1.1.1.0 c.loop-request.invariant.roots c.loop-request.invariant.worked in
    let mine = worker_requests c.args.worker.workers c.args.worker.number (requests_of c.args.requests.now) in
    let q = request_of c.in-Some.request.now in
    let rest = worker_requests c.args.worker.workers c.args.worker.number (requests_of c.in-Some.rest.now) in
    let told = replies_of c.loop-request.replies.items in
    let start = g.H.HeapSeat.view c.args.seat.now in
    let w = g.H.HeapSeat.view c.answer-answered.new.seat in
    subst (λ qs. HasTakenFew (tables_missing (put_into mine) start) (answered mine told) qs start w)
    (sym (unanswered_now g.image mine (q ∷ rest) told v here.next.worked))
    (taken_stopped mine (answered mine told) q rest start v w here.next.among c.loop-request.invariant.taken c.answer-answered.ensures.taken)

pub returns-in_default-answered-clause-calls : goal.returns-in_default-answered-clause-calls
returns-in_default-answered-clause-calls g c = λ keys lists.
    let v = g.H.HeapSeat.view c.loop-request.seat in
    let here = at_own c.args.worker.workers c.args.worker.number (g.H.HeapSeat.view c.args.seat.now) v c.loop-request.left.now c.in-Some.rest.now
    c.in-Some.request.now c.has.result c.in-Some.ensures.cases.0 c.has.ensures c.if-has.true g.image c.args.requests.now
    (replies_of c.loop-request.replies.items) (g.met.H.HeapSeat.seat c.loop-request.seat) c.requires.1.1.1.1.1.1.0 c.requires.1.1.1.1.1.0
    c.requires.1.1.1.1.1.1.1.1.0 c.loop-request.invariant.roots c.loop-request.invariant.worked in
    let mine = worker_requests c.args.worker.workers c.args.worker.number (requests_of c.args.requests.now) in
    let rest = worker_requests c.args.worker.workers c.args.worker.number (requests_of c.in-Some.rest.now) in
    calls_stopped g.image mine rest (request_of c.in-Some.request.now) c.loop-request.replies.items (g.H.HeapSeat.view c.args.seat.now) v
    (g.H.HeapSeat.view c.answer-answered.new.seat) (length c.in-Some-pop_front.room) keys c.requires.1.1.1.1.1.1.0 here.next here.short
    (here.fits c.loop-request.rooms.items c.pop_front.new.self.items c.in-Some-pop_front.room c.in-Some-pop_front.ensures.items
    c.loop-request.invariant.rooms)
    lists c.answer-answered.ensures.calls (c.loop-request.invariant.calls keys lists)

pub returns-in_default-answered-clause-steps : goal.returns-in_default-answered-clause-steps
returns-in_default-answered-clause-steps g c =
    let v = g.H.HeapSeat.view c.loop-request.seat in
    let here = at_own c.args.worker.workers c.args.worker.number (g.H.HeapSeat.view c.args.seat.now) v c.loop-request.left.now c.in-Some.rest.now
    c.in-Some.request.now c.has.result c.in-Some.ensures.cases.0 c.has.ensures c.if-has.true g.image c.args.requests.now
    (replies_of c.loop-request.replies.items) (g.met.H.HeapSeat.seat c.loop-request.seat) c.requires.1.1.1.1.1.1.0 c.requires.1.1.1.1.1.0
    c.requires.1.1.1.1.1.1.1.1.0 c.loop-request.invariant.roots c.loop-request.invariant.worked in
    let mine = worker_requests c.args.worker.workers c.args.worker.number (requests_of c.args.requests.now) in
    let q = request_of c.in-Some.request.now in
    let rest = worker_requests c.args.worker.workers c.args.worker.number (requests_of c.in-Some.rest.now) in
    let w = g.H.HeapSeat.view c.answer-answered.new.seat in (
      c.loop-request.seat,
      c.loop-request.invariant.steps,
      subst (λ qs. IsUnderWay qs v w) (sym (unanswered_now g.image mine (q ∷ rest) (replies_of c.loop-request.replies.items) v here.next.worked))
          (c.answer-answered.ensures.crash, c.answer-answered.ensures.calls),
      c.answer-answered.ensures.goes_on,
    )

pub loop-request-preserved-in-Ok : goal.loop-request-preserved-in-Ok
loop-request-preserved-in-Ok g c =
    let image = g.image in
    let v = g.H.HeapSeat.view c.loop-request.seat in
    let lines = c.args.requests.now in
    let workers = c.args.worker.workers in
    let worker = c.args.worker.number in
    let mine = worker_requests workers worker (requests_of lines) in
    let q = request_of c.in-Some.request.now in
    let rest = worker_requests workers worker (requests_of c.in-Some.rest.now) in
    let told = c.loop-request.replies.items in
    let here = at_own c.args.worker.workers c.args.worker.number (g.H.HeapSeat.view c.args.seat.now) v c.loop-request.left.now c.in-Some.rest.now
    c.in-Some.request.now c.has.result c.in-Some.ensures.cases.0 c.has.ensures c.if-has.true g.image c.args.requests.now
    (replies_of c.loop-request.replies.items) (g.met.H.HeapSeat.seat c.loop-request.seat) c.requires.1.1.1.1.1.1.0 c.requires.1.1.1.1.1.0
    c.requires.1.1.1.1.1.1.1.1.0 c.loop-request.invariant.roots c.loop-request.invariant.worked in
    let w = g.H.HeapSeat.view c.answer-answered.new.seat in
    let start = g.H.HeapSeat.view c.args.seat.now in
    let owns = owns_still workers worker start v c.loop-request.invariant.roots c.requires.1.1.1.1.1.0 in
    let rooms = rooms_next workers worker c.loop-request.left.now c.in-Some.rest.now c.in-Some.request.now c.has.result
    c.in-Some.ensures.cases.0 c.has.ensures c.if-has.true image (requests_of lines)
    c.loop-request.rooms.items c.pop_front.new.self.items c.in-Some-pop_front.room c.in-Some-pop_front.ensures.items c.loop-request.invariant.rooms in
    let replied = c.in-Ok.ensures.ok in
    let now = answered_next image mine rest q told c.push_reserved.new.self.items c.in-Ok.reply replied.reply v c.push_reserved.ensures.items
    replied.told_is here.next.worked in
    let taken = taken_next mine (answered mine (replies_of told)) q replied.reply start v w here.next.among
    (puts_owned workers worker v (requests_of lines) owns) c.answer-answered.ensures.crash c.loop-request.invariant.taken
    replied.takes in
    let kept = g.met.O.Outbox.goes_then c.args.seat.now c.loop-request.seat c.answer-answered.new.seat c.loop-request.invariant.goes_on
    c.answer-answered.ensures.goes_on in
    let counted : length lines - length c.in-Some.rest.now ≡ length lines - length c.loop-request.left.now + 1 =
    let most = c.loop-request.invariant.shorter in let long = c.in-Some.ensures.cases.1 in omega arith in
    let one_more : length told + 1 ≡ length c.push_reserved.new.self.items =
    let items = ap length c.push_reserved.ensures.items in let longer = length-append told (c.in-Ok.reply ∷ []) in omega arith in
    record {
      worked = work_replied image mine rest q told c.push_reserved.new.self.items c.in-Ok.reply v w (g.met.H.HeapSeat.seat c.loop-request.seat)
          c.push_reserved.ensures.items here.next.worked c.answer-answered.ensures.crash c.in-Ok.ensures.ok;
      rooms = rooms.1;
      reserved = let most = c.loop-request.invariant.reserved in
          let long = ap length (mine_next workers worker c.loop-request.left.now c.in-Some.rest.now c.in-Some.request.now c.has.result
          c.in-Some.ensures.cases.0 c.has.ensures c.if-has.true) in
          let more = c.push_reserved.ensures.len in
          let same = c.push_reserved.ensures.capacity in
          omega arith;
      shorter = let most = c.loop-request.invariant.shorter in let long = c.in-Some.ensures.cases.1 in omega arith;
      same_room = c.push_reserved.ensures.capacity ∙ c.loop-request.invariant.same_room;
      taken = subst (λ rs. HasTaken mine rs start w) (sym now) taken;
      full = subst (λ rs. AreFullRightly g.H.HeapSeat.view g.O.Outbox.goes
          (tables_missing (put_into mine) start) rs c.args.seat.now c.answer-answered.new.seat) (sym now)
          (refused_answered g.H.HeapSeat.view g.O.Outbox.goes (tables_missing (put_into mine) start)
          (answered mine (replies_of told)) q replied.reply c.args.seat.now c.loop-request.seat c.answer-answered.new.seat
          c.loop-request.invariant.full
          (λ x keeps. g.met.O.Outbox.goes_then x c.loop-request.seat c.answer-answered.new.seat keeps c.answer-answered.ensures.goes_on)
          (knows_call q v w here.next.shard c.answer-answered.ensures.calls) kept (g.met.O.Outbox.goes_none c.answer-answered.new.seat)
          (λ is_put full. full_behind mine (answered mine (replies_of told)) q replied.reply start w taken full (replied.room is_put full)));
      calls = λ keys lists. calls_answered image mine rest q told start v w (length c.in-Some-pop_front.room) keys
          c.requires.1.1.1.1.1.1.0 here.next here.short
          (here.fits c.loop-request.rooms.items c.pop_front.new.self.items c.in-Some-pop_front.room c.in-Some-pop_front.ensures.items
          c.loop-request.invariant.rooms) lists c.answer-answered.ensures.calls (c.loop-request.invariant.calls keys lists)
          c.push_reserved.new.self.items replied.reply one_more now;
      steps = subst (λ rs. TakesRequests g.H.HeapSeat.view g.O.Outbox.goes g.H.HeapSeat.has_none rs c.args.seat.now c.answer-answered.new.seat)
          (sym now)
          (takes_push g.H.HeapSeat.view g.O.Outbox.goes g.H.HeapSeat.has_none
          (answered mine (replies_of told)) q replied.reply c.args.seat.now c.loop-request.seat c.answer-answered.new.seat
          c.loop-request.invariant.steps
          (record {
            answers = replied.answers;
            may = c.answer-answered.ensures.crash;
            runs = c.in-Ok.ensures.runs;
            calls = c.answer-answered.ensures.calls;
            keeps_it = c.answer-answered.ensures.goes_on;
            refused = λ is_put full. c.in-Ok.ensures.refused is_put (replied.told_is ∙ ap Some full);
            granted = λ not. c.in-Ok.ensures.granted (λ is_put told. let is = sym replied.told_is ∙ told in not is_put (cc));
          }));
      roots = c.answer-answered.ensures.crash.others.roots ∙ c.loop-request.invariant.roots;
      going = λ none. c.in-Ok.ensures.runs.running;
      exact = λ all. c.in-Ok.ensures.exact (c.loop-request.invariant.exact all);
      goes_on = kept;
      ready = c.answer-answered.ensures.ready_on;
      outgoing = let most = c.loop-request.invariant.outgoing in
          let mine_are = ap rooms_needed (mine_next workers worker c.loop-request.left.now c.in-Some.rest.now c.in-Some.request.now c.has.result
          c.in-Some.ensures.cases.0 c.has.ensures c.if-has.true) in
          let one = sum_by-cons needs_room q rest in
          let left = c.answer-answered.ensures.room_left in
          omega arith;
      sent = subst (λ rs. HasSentSo image workers worker (requests_of lines) (requests_of c.in-Some.rest.now)
          (length lines - length c.in-Some.rest.now) rs (replies_of c.push_reserved.new.self.items) (g.O.Outbox.sent c.args.outbox.now)
          (g.O.Outbox.sent c.answer-answered.new.outbox)) (sym now)
          (sent_next image workers worker mine (requests_of lines) (requests_of c.loop-request.left.now)
          (requests_of c.in-Some.rest.now) rest q replied.reply (length lines - length c.loop-request.left.now)
          (length lines - length c.in-Some.rest.now)
          (answered mine (replies_of told)) (replies_of told) (replies_of c.push_reserved.new.self.items) (g.O.Outbox.sent c.args.outbox.now)
          (g.O.Outbox.sent c.loop-request.outbox) (g.O.Outbox.sent c.answer-answered.new.outbox) v
          c.requires.1.1.1.1.1.1.0 here.next.owned here.next.worked (answered_now image mine (q ∷ rest) (replies_of told) v here.next.worked)
          (ap requests_of c.in-Some.ensures.cases.0) counted (sym c.has.ensures ∙ c.if-has.true)
          (ap replies_of c.push_reserved.ensures.items ∙ map_push reply_of told c.in-Ok.reply ∙ ap (λ o. replies_of told ++ (o ∷ [])) replied.told_is)
          (subst (λ o. HasSent (length lines - length c.loop-request.left.now) q o (g.O.Outbox.sent c.loop-request.outbox)
          (g.O.Outbox.sent c.answer-answered.new.outbox) v) replied.told_is c.in-Ok.ensures.sent) c.loop-request.invariant.sent);
      tables = subst (λ rs. (request : Request) (answer : Reply) → Contains rs (request, answer)
          → GoesByTables (is_flagged c.args.tables.now) request (Some answer)) (sym now)
          (goes_on (is_flagged c.args.tables.now) (answered mine (replies_of told)) q replied.reply
          (subst (GoesByTables (is_flagged c.args.tables.now) q) replied.told_is c.in-Ok.ensures.tables) c.loop-request.invariant.tables);
    }

pub unreachable-requires : goal.unreachable-requires
unreachable-requires g c =
    no_room_left c.args.worker.workers c.args.worker.number c.loop-request.left.now c.in-Some.rest.now c.in-Some.request.now c.has.result
    c.in-Some.ensures.cases.0 c.has.ensures c.if-has.true g.image (requests_of c.args.requests.now) c.loop-request.rooms.items
    (c.in_default-pop_front.ensures.items ∙ nil_from_length c.pop_front.new.self.items (let ok = c.pop_front.new.self.ok in
    let none = c.in_default-pop_front.ensures.cases.1 in omega arith)) c.loop-request.invariant.rooms

pub returns-clause-calls : goal.returns-clause-calls
returns-clause-calls g c = λ keys lists.
    let v = g.H.HeapSeat.view c.loop-request.seat in
    let start = g.H.HeapSeat.view c.args.seat.now in
    let mine = worker_requests c.args.worker.workers c.args.worker.number (requests_of c.args.requests.now) in
    let told = replies_of c.loop-request.replies.items in
    let worked = worked_through c.args.worker.workers c.args.worker.number g.image mine c.loop-request.left.now told v c.in_default.ensures.cases
    c.loop-request.invariant.worked in
    let items = c.loop-request.replies.items in
    let small = 33280 + 4 * (length keys + length mine) in
    few_more (length items) (length mine) small (larges_of (answered mine told)) (sum_by large_calls_of mine) start v
    (let count = worked_count g.image mine [] items v worked in omega arith)
    (let all = larges_worked g.image mine [] told v worked in omega arith) (c.loop-request.invariant.calls keys lists)

pub returns-clause-taken : goal.returns-clause-taken
returns-clause-taken g c =
    let v = g.H.HeapSeat.view c.loop-request.seat in
    let start = g.H.HeapSeat.view c.args.seat.now in
    let mine = worker_requests c.args.worker.workers c.args.worker.number (requests_of c.args.requests.now) in
    let told = replies_of c.loop-request.replies.items in
    let worked = worked_through c.args.worker.workers c.args.worker.number g.image mine c.loop-request.left.now told v c.in_default.ensures.cases
    c.loop-request.invariant.worked in
    subst (λ qs. HasTakenFew (tables_missing (put_into mine) start) (answered mine told) qs start v)
    (sym (unanswered_now g.image mine [] told v worked)) (taken_ended mine (answered mine told) start v c.loop-request.invariant.taken)

pub returns-clause-steps : goal.returns-clause-steps
returns-clause-steps g c =
    let v = g.H.HeapSeat.view c.loop-request.seat in
    let mine = worker_requests c.args.worker.workers c.args.worker.number (requests_of c.args.requests.now) in
    let told = replies_of c.loop-request.replies.items in
    let worked = worked_through c.args.worker.workers c.args.worker.number g.image mine c.loop-request.left.now told v c.in_default.ensures.cases
    c.loop-request.invariant.worked in (
      c.loop-request.seat,
      c.loop-request.invariant.steps,
      subst (λ qs. IsUnderWay qs v v) (sym (unanswered_now g.image mine [] told v worked)) refl,
      g.met.O.Outbox.goes_none c.loop-request.seat,
    )

pub returns-in_default-answered-clause-sent : goal.returns-in_default-answered-clause-sent
returns-in_default-answered-clause-sent g c = λ whole is_whole.
    let workers = c.args.worker.workers in
    let worker = c.args.worker.number in
    let lines = c.args.requests.now in
    let told = replies_of c.loop-request.replies.items in
    subst (λ now. IsPermutation (all_sent whole (worker_numbered workers worker (requests_of lines)) told ++ g.O.Outbox.sent c.args.outbox.now)
    now) (sym c.in_default-answered.ensures.unsent)
    (sent_all g.image workers worker (requests_of lines) (requests_of c.loop-request.left.now) (length lines - length c.loop-request.left.now)
    (answered (worker_requests workers worker (requests_of lines)) told) told
    (g.O.Outbox.sent c.args.outbox.now) (g.O.Outbox.sent c.loop-request.outbox) c.loop-request.invariant.sent whole is_whole)

pub returns-clause-sent : goal.returns-clause-sent
returns-clause-sent g c = λ whole is_whole.
    let workers = c.args.worker.workers in
    let worker = c.args.worker.number in
    let lines = c.args.requests.now in
    let told = replies_of c.loop-request.replies.items in
    sent_all g.image workers worker (requests_of lines) (requests_of c.loop-request.left.now) (length lines - length c.loop-request.left.now)
    (answered (worker_requests workers worker (requests_of lines)) told) told
    (g.O.Outbox.sent c.args.outbox.now) (g.O.Outbox.sent c.loop-request.outbox) c.loop-request.invariant.sent whole is_whole
