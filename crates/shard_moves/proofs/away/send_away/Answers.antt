use Rattle.std.proofs.Common.{Option, subst}
use Rattle.heap_model.specs.declared.block.Block.{Block}
use Rattle.dict_model.specs.Nodes.{shard_of}
use Rattle.dict_model.specs.Requests.{without_key}
use Rattle.dict_requests.specs.Moving.{TakesOut, ReachesAllLeft}
use Rattle.shard_moves.proofs.AwayLemmas.{change_then, gone, all_gone, answers_done, answers_none, few_moves, few_sent}
use Rattle.shard_moves.proofs.away.send_away.Goals as goal

pub returns-in_err-node-clause-calls : goal.returns-in_err-node-clause-calls
returns-in_err-node-clause-calls g c = few_moves c.args.key c.args.to _ _ c.take.ensures.calls

pub returns-in_default-clause-calls : goal.returns-in_default-clause-calls
returns-in_default-clause-calls g c = few_moves c.args.key c.args.to _ _ c.take.ensures.calls

pub returns-in_default-clause-ok : goal.returns-in_default-clause-ok
returns-in_default-clause-ok g c =
    let v = g.H.HeapSeat.view c.args.seat.now in
    let u = g.H.HeapSeat.view c.take.new.seat in
    answers_none c.args.key c.args.to v u (subst (λ (o : Option Block). TakesOut c.args.key o v u) c.in_default.is c.in_ok-node.ensures.ok)

pub returns-in_err-send-clause-crash : goal.returns-in_err-send-clause-crash
returns-in_err-send-clause-crash g c =
    let view = g.H.HeapSeat.view in
    change_then (shard_of c.args.key) (λ m. without_key m c.args.key) (view c.args.seat.now) (view c.take.new.seat) (view c.send.new.seat)
    (g.met.H.HeapSeat.seat c.take.new.seat)
    (g.met.H.HeapSeat.seat c.send.new.seat) c.requires.shard.owned c.in_err-send.ensures.unchanged
    (c.send.ensures.counted c.requires.room).goes_on.kinds c.take.ensures.crash

pub returns-in_err-send-clause-calls : goal.returns-in_err-send-clause-calls
returns-in_err-send-clause-calls g c =
    let view = g.H.HeapSeat.view in
    few_sent c.args.key c.args.to (view c.args.seat.now) (view c.take.new.seat) (view c.send.new.seat) c.take.ensures.calls
    (c.send.ensures.counted c.requires.room)

pub returns-clause-calls : goal.returns-clause-calls
returns-clause-calls g c =
    let view = g.H.HeapSeat.view in
    few_sent c.args.key c.args.to (view c.args.seat.now) (view c.take.new.seat) (view c.send.new.seat) c.take.ensures.calls
    (c.send.ensures.counted c.requires.room)

pub returns-clause-ok : goal.returns-clause-ok
returns-clause-ok g c =
    let view = g.H.HeapSeat.view in
    let v = view c.args.seat.now in
    let u = view c.take.new.seat in
    let out = subst (λ (o : Option Block). TakesOut c.args.key o v u) c.in-Some.is c.in_ok-node.ensures.ok in
    answers_done c.args.key c.in-Some.node v u (view c.send.new.seat)
    (g.met.H.HeapSeat.seat c.take.new.seat) c.requires.shard out c.take.ensures.crash (c.in_ok-send.ensures.ok c.requires.room)
    (c.send.ensures.counted c.requires.room) c.args.to

pub returns-clause-crash : goal.returns-clause-crash
returns-clause-crash g c =
    let view = g.H.HeapSeat.view in
    let v = view c.args.seat.now in
    let u = view c.take.new.seat in
    let out = subst (λ (o : Option Block). TakesOut c.args.key o v u) c.in-Some.is c.in_ok-node.ensures.ok in
    (gone c.args.key c.in-Some.node v u (view c.send.new.seat) (g.met.H.HeapSeat.seat c.take.new.seat) c.requires.shard out c.take.ensures.crash
    (c.in_ok-send.ensures.ok c.requires.room) (c.send.ensures.counted c.requires.room)).1

pub returns-clause-exact : goal.returns-clause-exact
returns-clause-exact g c = λ all.
    let view = g.H.HeapSeat.view in
    let v = view c.args.seat.now in
    let u = view c.take.new.seat in
    let out = subst (λ (o : Option Block). TakesOut c.args.key o v u) c.in-Some.is c.in_ok-node.ensures.ok in
    let left = subst (λ (o : Option Block). ReachesAllLeft o v u) c.in-Some.is c.in_ok-node.ensures.exact in
    all_gone c.args.key c.in-Some.node v u (view c.send.new.seat) (g.met.H.HeapSeat.seat c.take.new.seat)
    c.requires.shard out c.take.ensures.crash (c.in_ok-send.ensures.ok c.requires.room) (c.send.ensures.counted c.requires.room) (left all)

pub returns-clause-goes_on : goal.returns-clause-goes_on
returns-clause-goes_on g c = g.met.O.Outbox.goes_then c.args.seat.now c.take.new.seat c.send.new.seat
    (g.met.O.Outbox.goes_kept c.args.seat.now c.take.new.seat c.take.ensures.kept) c.send.ensures.goes_on
