use Rattle.std.proofs.Common.{Option, subst}
use Rattle.heap_model.specs.declared.block.Block.{Block}
use Rattle.dict_model.specs.Nodes.{shard_of}
use Rattle.dict_requests.specs.declared.walk.Place.{Place}
use Rattle.dict_requests.specs.Searches.{FindsTable}
use Rattle.dict_requests.specs.Walks.{Walks}
use Rattle.dict_requests.proofs.GrownLemmas.{grown_keeps, gives_grown}
use Rattle.dict_requests.proofs.SearchLemmas.{quiet_then_walk, searched_missing}
use Rattle.dict_requests.proofs.search.search.Goals as goal

pub walk-requires-clause-map : goal.walk-requires-clause-map
walk-requires-clause-map g c =
    let view = g.H.HeapSeat.view in
    let v = view c.args.seat.now in
    let u = view c.table_of.new.seat in
    (c.requires.map, gives_grown v u (grown_keeps v u c.table_of.ensures.quiet.unchanged) (shard_of c.args.key) c.requires.map c.requires.gives)

pub returns-in_err-place-clause-quiet : goal.returns-in_err-place-clause-quiet
returns-in_err-place-clause-quiet g c =
    let view = g.H.HeapSeat.view in
    quiet_then_walk 3 (shard_of c.args.key) (view c.args.seat.now) (view c.table_of.new.seat)
    (view c.walk.new.seat) c.table_of.ensures.quiet c.walk.ensures.quiet

pub returns-in-Some-2-clause-quiet : goal.returns-in-Some-2-clause-quiet
returns-in-Some-2-clause-quiet g c =
    let view = g.H.HeapSeat.view in
    quiet_then_walk 3 (shard_of c.args.key) (view c.args.seat.now) (view c.table_of.new.seat)
    (view c.walk.new.seat) c.table_of.ensures.quiet c.walk.ensures.quiet

pub returns-in-None-clause-quiet : goal.returns-in-None-clause-quiet
returns-in-None-clause-quiet g c =
    let view = g.H.HeapSeat.view in
    quiet_then_walk 3 (shard_of c.args.key) (view c.args.seat.now) (view c.table_of.new.seat)
    (view c.walk.new.seat) c.table_of.ensures.quiet c.walk.ensures.quiet

pub returns-in-None-clause-ok : goal.returns-in-None-clause-ok
returns-in-None-clause-ok g c =
    let view = g.H.HeapSeat.view in
    let v = view c.args.seat.now in
    let u = view c.table_of.new.seat in
    let w = view c.walk.new.seat in
    let finds = subst (λ (t : Option Block). FindsTable (shard_of c.args.key) t v u) c.in-Some.is c.in_ok-table.ensures.ok in
    let walks = subst (λ (p : Option Place). Walks c.args.key p u w) c.in-None.is c.in_ok-place.ensures.ok in
    searched_missing v u w c.args.key (g.met.H.HeapSeat.seat c.table_of.new.seat)
    c.table_of.ensures.quiet.unchanged finds.goes c.walk.ensures.quiet.quiet.unchanged
    c.in-Some.table finds.some walks
