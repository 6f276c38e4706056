use Rattle.std.proofs.Common.{length, refl, subst}
use Rattle.heap_seat.specs.declared.fault.AllocFault.{AllocFault}
use Rattle.dict_model.specs.Nodes.{shard_of, node_bytes}
use Rattle.dict_requests.specs.Puts.{PutAnswers}
use Rattle.worker_run.proofs.AnsweringLemmas.{put_spends, was_refused, replied_put, replied_full}
use Rattle.worker_run.proofs.answer.put_reply.Goals as goal

pub returns-in-Ok-clause-ok : goal.returns-in-Ok-clause-ok
returns-in-Ok-clause-ok g c = replied_put c.args.key c.args.value.now (g.H.HeapSeat.view c.args.seat.now)
    (g.H.HeapSeat.view c.put.new.seat) c.requires.shard c.in-Ok.ensures.ok c.put.ensures.taken

pub returns-in-Ok-clause-calls : goal.returns-in-Ok-clause-calls
returns-in-Ok-clause-calls g c = record { few = λ map gives. c.put.ensures.calls }

pub returns-in-Err-Full-clause-ok : goal.returns-in-Err-Full-clause-ok
returns-in-Err-Full-clause-ok g c =
    let v = g.H.HeapSeat.view c.args.seat.now in
    let w = g.H.HeapSeat.view c.put.new.seat in
    let why = subst (λ (fault : AllocFault). PutAnswers (node_bytes (length c.args.value.now)) (shard_of c.args.key) fault v w)
    c.in-Err-Full.field-0-is c.in-Err-Full.ensures.cause in
    replied_full c.args.key c.args.value.now _ v w why.0 why.1

pub returns-in-Err-Full-clause-calls : goal.returns-in-Err-Full-clause-calls
returns-in-Err-Full-clause-calls g c = record { few = λ map gives. c.put.ensures.calls }

pub returns-in-Err-Stopped-clause-calls : goal.returns-in-Err-Stopped-clause-calls
returns-in-Err-Stopped-clause-calls g c = record { few = λ map gives. c.put.ensures.calls }

pub returns-in-Ok-clause-taken : goal.returns-in-Ok-clause-taken
returns-in-Ok-clause-taken g c = put_spends c.args.key c.args.value.now (g.H.HeapSeat.view c.args.seat.now)
    (g.H.HeapSeat.view c.put.new.seat) c.put.ensures.taken

pub returns-in-Err-Full-clause-taken : goal.returns-in-Err-Full-clause-taken
returns-in-Err-Full-clause-taken g c = put_spends c.args.key c.args.value.now (g.H.HeapSeat.view c.args.seat.now)
    (g.H.HeapSeat.view c.put.new.seat) c.put.ensures.taken

pub returns-in-Err-Stopped-clause-taken : goal.returns-in-Err-Stopped-clause-taken
returns-in-Err-Stopped-clause-taken g c = put_spends c.args.key c.args.value.now (g.H.HeapSeat.view c.args.seat.now)
    (g.H.HeapSeat.view c.put.new.seat) c.put.ensures.taken

pub returns-in-Err-Full-clause-refused : goal.returns-in-Err-Full-clause-refused
returns-in-Err-Full-clause-refused g c = λ told.
    let v = g.H.HeapSeat.view c.args.seat.now in
    let w = g.H.HeapSeat.view c.put.new.seat in
    let why = subst (λ (fault : AllocFault). PutAnswers (node_bytes (length c.args.value.now)) (shard_of c.args.key) fault v w)
    c.in-Err-Full.field-0-is c.in-Err-Full.ensures.cause in
    was_refused g.H.HeapSeat.view g.H.HeapSeat.keeps g.H.HeapSeat.has_none c.args.key c.args.value.now _ c.args.seat.now c.put.new.seat why.0
    (c.in-Err-Full.ensures.none _ c.in-Err-Full.field-0-is)

pub returns-in-Err-Full-clause-exact : goal.returns-in-Err-Full-clause-exact
returns-in-Err-Full-clause-exact g c = c.in-Err-Full.ensures.exact_full _ c.in-Err-Full.field-0-is

pub returns-in-Err-Full-clause-granted : goal.returns-in-Err-Full-clause-granted
returns-in-Err-Full-clause-granted g c = λ not. absurd (not tt refl)

pub returns-in-Ok-clause-granted : goal.returns-in-Ok-clause-granted
returns-in-Ok-clause-granted g c = λ _. c.in-Ok.ensures.refusals
