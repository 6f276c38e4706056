use Rattle.std.proofs.Common.{◌∙◌, arith}
use Rattle.heap_seat.proofs.CallerLemmas.{held_in}
use Rattle.first_threads.proofs.Chains.{adds_then}
use Rattle.first_threads.proofs.chain.push.Goals as goal

pub persist-requires : goal.persist-requires
persist-requires g c =
    let view = g.H.HeapSeat.view in
    let has = c.in_ok-b.ensures.ok.blocks.has in (
      held_in (view c.alloc.new.self) (view c.load.new.self) c.in_ok-b.b c.load.ensures.unchanged.held has,
      ((g.met.H.HeapSeat.seat c.alloc.new.self).placed c.in_ok-b.b has).some,
    )

pub overflow_mul-b : goal.overflow_mul-b
overflow_mul-b g c = let short = ((g.met.H.HeapSeat.seat c.alloc.new.self).placed c.in_ok-b.b c.in_ok-b.ensures.ok.blocks.has).short in omega arith

pub encode-requires : goal.encode-requires
encode-requires g c = let short = ((g.met.H.HeapSeat.seat c.alloc.new.self).placed c.in_ok-b.b c.in_ok-b.ensures.ok.blocks.has).short in omega arith

pub returns-clause-adds : goal.returns-clause-adds
returns-clause-adds g c =
    let view = g.H.HeapSeat.view in
    let loaded = c.load.ensures.unchanged in
    let linked = c.persist.ensures.crash in
    let rooted = c.persist-2.ensures.crash in
    adds_then c.in_ok-b.b (view c.args.seat.now) (view c.alloc.new.self) (view c.persist-2.new.heap) c.in_ok-b.ensures.ok.blocks
    (rooted.held ∙ linked.held ∙ loaded.held) (rooted.roots ∙ linked.roots ∙ loaded.roots)
