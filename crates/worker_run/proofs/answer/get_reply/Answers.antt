use Rattle.std.proofs.Common.{length, subst, sym, ap, ◌∙◌, arith}
use Rattle.dict_requests.specs.Gets.{Gets, words_of}
use Rattle.dict_model.specs.Nodes.{shard_of}
use Rattle.dict_model.specs.Requests.{get}
use Rattle.worker_run.proofs.KeyLemmas.{takes_none}
use Rattle.worker_run.proofs.AnsweringLemmas.{none_spent, replied_missing, replied_found}
use Rattle.worker_run.proofs.answer.get_reply.Goals as goal

pub returns-in_err-length-clause-calls : goal.returns-in_err-length-clause-calls
returns-in_err-length-clause-calls g c = record { few = c.get.ensures.calls }

pub returns-in_default-clause-calls : goal.returns-in_default-clause-calls
returns-in_default-clause-calls g c = record { few = c.get.ensures.calls }

pub returns-clause-calls : goal.returns-clause-calls
returns-clause-calls g c = record { few = c.get.ensures.calls }

pub returns-in_default-clause-ok : goal.returns-in_default-clause-ok
returns-in_default-clause-ok g c =
    let v = g.H.HeapSeat.view c.args.seat.now in
    let w = g.H.HeapSeat.view c.get.new.seat in
    replied_missing c.args.key c.deref_mut.result.now c.get.new.out v w c.requires.shard c.get.ensures.calls c.get.ensures.maps
    (subst (λ answer. Gets c.args.key answer c.deref_mut.result.now c.get.new.out v w) c.in_default.is c.in_ok-length.ensures.ok)

pub returns-clause-ok : goal.returns-clause-ok
returns-clause-ok g c =
    let v = g.H.HeapSeat.view c.args.seat.now in
    let w = g.H.HeapSeat.view c.get.new.seat in
    replied_found c.args.key (length c.args.room.items) c.in-Some.length c.args.room.len c.deref_mut.result.now c.get.new.out _
    c.from_vec.result v w c.requires.fits
    (ap length (sym c.deref_mut.ensures.value)) (let same = ap length c.deref_mut.ensures.value in let ok = c.args.room.ok in
    let kept = c.get.ensures.length in omega arith) c.get.ensures.length (c.from_vec.ensures
    ∙ c.truncate.ensures.items) c.requires.shard c.get.ensures.calls c.get.ensures.maps
    (subst (λ answer. Gets c.args.key answer c.deref_mut.result.now c.get.new.out v w) c.in-Some.is c.in_ok-length.ensures.ok)

pub returns-in_err-length-clause-taken : goal.returns-in_err-length-clause-taken
returns-in_err-length-clause-taken g c = none_spent (get c.args.key) (g.H.HeapSeat.view c.args.seat.now) (g.H.HeapSeat.view c.get.new.seat)
    (takes_none (words_of (c.requires.shard.map c.args.key)) (shard_of c.args.key) c.requires.shard.map (g.H.HeapSeat.view c.args.seat.now)
    (g.H.HeapSeat.view c.get.new.seat) c.requires.shard.gives
    (c.get.ensures.calls c.requires.shard.map c.requires.shard.gives))

pub returns-in_default-clause-taken : goal.returns-in_default-clause-taken
returns-in_default-clause-taken g c = none_spent (get c.args.key) (g.H.HeapSeat.view c.args.seat.now) (g.H.HeapSeat.view c.get.new.seat)
    (takes_none (words_of (c.requires.shard.map c.args.key)) (shard_of c.args.key) c.requires.shard.map (g.H.HeapSeat.view c.args.seat.now)
    (g.H.HeapSeat.view c.get.new.seat) c.requires.shard.gives
    (c.get.ensures.calls c.requires.shard.map c.requires.shard.gives))

pub returns-clause-taken : goal.returns-clause-taken
returns-clause-taken g c = none_spent (get c.args.key) (g.H.HeapSeat.view c.args.seat.now) (g.H.HeapSeat.view c.get.new.seat)
    (takes_none (words_of (c.requires.shard.map c.args.key)) (shard_of c.args.key) c.requires.shard.map (g.H.HeapSeat.view c.args.seat.now)
    (g.H.HeapSeat.view c.get.new.seat) c.requires.shard.gives
    (c.get.ensures.calls c.requires.shard.map c.requires.shard.gives))
