use Rattle.std.proofs.lemmas.Result.{on_ok_weaker}
use Rattle.dict_requests.proofs.NodeLemmas.{head_written}
use Rattle.dict_requests.proofs.bringing.write_head.Goals as goal

pub returns-clause-ok : goal.returns-clause-ok
returns-clause-ok g c =
    let view = g.H.HeapSeat.view in
    on_ok_weaker c.fence.result
    (λ fences. head_written c.args.node c.args.key c.args.next (view c.args.seat.now) (view c.write_word.new.seat)
    (view c.write_word-2.new.seat) (view c.fence.new.self) c.requires.held c.requires.room
    c.write_word.ensures.crash c.write_word-2.ensures.crash c.fence.ensures.unchanged c.in_ok-write_word.ensures.ok
    c.in_ok-write_word-2.ensures.ok fences) c.fence.ensures.ok
