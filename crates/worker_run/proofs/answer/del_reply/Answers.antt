use Rattle.std.proofs.Common.{Bool, subst, sym}
use Rattle.dict_model.specs.Requests.{del}
use Rattle.dict_requests.specs.Answers.{Deletes}
use Rattle.worker_run.specs.Said.{Told, reply_of}
use Rattle.run_model.specs.Working.{Replied}
use Rattle.worker_run.proofs.AnsweringLemmas.{none_spent, replied_gone, replied_none}
use Rattle.worker_run.proofs.KeyLemmas.{takes_none}
use Rattle.dict_model.specs.Nodes.{shard_of}
use Rattle.worker_run.proofs.answer.del_reply.Goals as goal
use Rattle.worker_run.proofs.answer.del_reply.Goals.{then-found, else-found}

pub returns-in_err-found-clause-calls : goal.returns-in_err-found-clause-calls
returns-in_err-found-clause-calls g c = record { few = λ map gives. c.del.ensures.calls }

pub returns-clause-calls : goal.returns-clause-calls
returns-clause-calls g c = record { few = λ map gives. c.del.ensures.calls }

pub returns-clause-ok : goal.returns-clause-ok
returns-clause-ok g c =
    let v = g.H.HeapSeat.view c.args.seat.now in
    let w = g.H.HeapSeat.view c.del.new.seat in
    elim c.if-found.branch [
      | then-found t ↦ subst (λ (told : Told). Replied (del c.args.key) (reply_of told) v w) (sym t.result-is)
          (replied_gone c.args.key v w c.requires.shard c.del.ensures.calls
          (subst (λ (b : Bool). Deletes c.args.key b v w) t.if-found.true c.in_ok-found.ensures.ok))
      | else-found t ↦ subst (λ (told : Told). Replied (del c.args.key) (reply_of told) v w) (sym t.result-is)
          (replied_none c.args.key v w c.requires.shard c.del.ensures.calls
          (subst (λ (b : Bool). Deletes c.args.key b v w) t.if-found.false c.in_ok-found.ensures.ok))
    ]

pub returns-in_err-found-clause-taken : goal.returns-in_err-found-clause-taken
returns-in_err-found-clause-taken g c = none_spent (del c.args.key) (g.H.HeapSeat.view c.args.seat.now) (g.H.HeapSeat.view c.del.new.seat)
    (takes_none 0 (shard_of c.args.key) c.requires.shard.map (g.H.HeapSeat.view c.args.seat.now)
    (g.H.HeapSeat.view c.del.new.seat) c.requires.shard.gives c.del.ensures.calls)

pub returns-clause-taken : goal.returns-clause-taken
returns-clause-taken g c = none_spent (del c.args.key) (g.H.HeapSeat.view c.args.seat.now) (g.H.HeapSeat.view c.del.new.seat)
    (takes_none 0 (shard_of c.args.key) c.requires.shard.map (g.H.HeapSeat.view c.args.seat.now)
    (g.H.HeapSeat.view c.del.new.seat) c.requires.shard.gives c.del.ensures.calls)
