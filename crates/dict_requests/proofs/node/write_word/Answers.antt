use Rattle.std.proofs.Common.{◌+◌}
use Rattle.std.proofs.lemmas.Result.{on_ok_weaker}
use Rattle.heap_seat.specs.declared.spot.Spot.TheVariants.{InBlock}
use Rattle.heap_seat.proofs.CallerLemmas.{own_spot, store_then}
use Rattle.dict_requests.proofs.NodeLemmas.{writes}
use Rattle.dict_requests.proofs.node.write_word.Goals as goal

pub returns-clause-ok : goal.returns-clause-ok
returns-clause-ok g c =
    let view = g.H.HeapSeat.view in
    on_ok_weaker c.write_back.result
    (λ written. writes c.args.block c.args.index c.args.value (view c.args.seat.now) (view c.store.new.self) (view c.write_back.new.self)
    (c.requires.held, c.requires.inside)
    c.store.ensures.crash c.in_ok-store.ensures.ok c.write_back.ensures.unchanged written) c.write_back.ensures.ok

pub returns-clause-crash : goal.returns-clause-crash
returns-clause-crash g c =
    let view = g.H.HeapSeat.view in
    store_then (c.args.block.first_word + c.args.index) c.args.value (view c.args.seat.now) (view c.store.new.self) (view c.write_back.new.self)
    (own_spot (view c.args.seat.now) (InBlock c.args.block c.args.index) (c.requires.held, c.requires.inside))
    c.store.ensures.crash c.write_back.ensures.unchanged
