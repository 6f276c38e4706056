use Rattle.std.proofs.Common.{◌≡◌, Some, IfOk, subst, sym, ap, ◌∙◌}
use Rattle.std.proofs.lemmas.Result.{IfOk-weaker}
use Rattle.heap_seat.specs.Calls.{SameRefusals}
use Rattle.dict_model.specs.Requests.{Request, put, full}
use Rattle.run_model.specs.Spending.{IsPut}
use Rattle.run_model.specs.Working.{WasRefused}
use Rattle.worker_run.specs.Said.{request_of, reply_of}
use Rattle.worker_run.proofs.AnsweringLemmas.{refused_over}
use Rattle.worker_run.proofs.answer.answer.Goals as goal

pub returns-in-Put-clause-granted : goal.returns-in-Put-clause-granted
returns-in-Put-clause-granted g c =
    let v = g.H.HeapSeat.view c.args.seat.now in
    let w = g.H.HeapSeat.view c.put_reply.new.seat in
    subst (λ (q : Request). IfOk c.put_reply.result (λ reply. (IsPut q → reply_of reply ≡ Some full → ⊥) → SameRefusals v w))
    (ap (λ value. put c.in-Put.key value) c.as_slice.ensures ∙ sym (ap request_of c.in-Put.is)) c.put_reply.ensures.granted

pub returns-in-Put-clause-refused : goal.returns-in-Put-clause-refused
returns-in-Put-clause-refused g c =
    let s = c.args.seat.now in
    let t = c.put_reply.new.seat in
    IfOk-weaker c.put_reply.result (λ reply. reply_of reply ≡ Some full → WasRefused g.H.HeapSeat.view g.H.HeapSeat.keeps g.H.HeapSeat.has_none
    (request_of c.args.request.now) s t)
    (λ reply. IsPut (request_of c.args.request.now) → reply_of reply ≡ Some full
    → WasRefused g.H.HeapSeat.view g.O.Outbox.goes g.H.HeapSeat.has_none (request_of c.args.request.now) s t)
    (λ reply was is_put told. refused_over g.H.HeapSeat.view g.H.HeapSeat.keeps g.O.Outbox.goes g.H.HeapSeat.has_none
    (request_of c.args.request.now) s t g.met.O.Outbox.goes_kept (was told))
    (subst (λ (q : Request). IfOk c.put_reply.result (λ reply. reply_of reply ≡ Some full
    → WasRefused g.H.HeapSeat.view g.H.HeapSeat.keeps g.H.HeapSeat.has_none q s t))
    (ap (λ value. put c.in-Put.key value) c.as_slice.ensures ∙ sym (ap request_of c.in-Put.is)) c.put_reply.ensures.refused)
