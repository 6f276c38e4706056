use Rattle.std.proofs.Common.{ℕ, ◌<◌, Option, None, Some, subst, arith}
use Rattle.std.proofs.Math.Nat.{mod-lt}
use Rattle.std.proofs.lemmas.Result.{err_from_is_err_and}
use Rattle.heap_model.specs.declared.block.Block.{Block}
use Rattle.heap_seat.specs.Sound.{IsSeat}
use Rattle.heap_seat.specs.View.{View}
use Rattle.heap_seat.specs.declared.fault.AllocFault.{AllocFault}
use Rattle.dict_model.specs.Nodes.{shard_of}
use Rattle.dict_model.specs.Requests.{with_key, without_key}
use Rattle.dict_requests.specs.Changes.{MayChange}
use Rattle.dict_requests.specs.Moving.{TableFails, TakesOut}
use Rattle.dict_requests.specs.Puts.{RootIsSet}
use Rattle.dict_requests.specs.Shards.{HasShards}
use Rattle.dict_requests.proofs.HandingLemmas.{bring_shards, set_changed}
use Rattle.dict_requests.proofs.OthersLemmas.{shards_on}
use Rattle.dictionary_tests.proofs.moves.move_key.Goals as goal

-- requests go on after a take
takes_shards : (v w : View) (key : ℕ) (found : Option Block) → IsSeat v → MayChange (shard_of key) (λ map. without_key map key) v w
    → HasShards v → TakesOut key found v w → HasShards w
takes_shards v w key None seat change has takes =
    shards_on v w (shard_of key) (λ map. without_key map key) seat (mod-lt key (omega arith)) change (λ map. map) has
    (record { gives = λ map gives. (takes map gives).1 })
takes_shards v w key (Some node) seat change has takes =
    shards_on v w (shard_of key) (λ map. without_key map key) seat (mod-lt key (omega arith)) change (λ map. without_key map key) has
    (record { gives = takes.gives })

pub returns-in_err-make_table-clause-full : goal.returns-in_err-make_table-clause-full
returns-in_err-make_table-clause-full g c =
    let view = g.H.HeapSeat.view in
    let v = view c.args.seat.now in
    let u = view c.make_table.new.seat in
    let number = c.at.result.number in
    let below : number < 8 = let e = c.at.ensures in omega arith in
    let p = err_from_is_err_and c.from_residual.result c.from_residual.ensures.1 in
    rw (p.1, p.2)
    (λ looks is.
    let fails = subst (λ (f : AllocFault). TableFails number f v u) is c.in_err-make_table.ensures.cause in
    shards_on v u number (λ map. map) (g.met.H.HeapSeat.seat c.args.seat.now) below (c.make_table.ensures.crash (λ map. map))
    (λ map. map) c.requires (record { gives = fails.2 }))

pub take-requires-clause-shard : goal.take-requires-clause-shard
take-requires-clause-shard g c =
    let view = g.H.HeapSeat.view in
    let number = c.at.result.number in
    let below : number < 8 = let e = c.at.ensures in omega arith in
    (shards_on (view c.args.seat.now) (view c.make_table.new.seat) number (λ map. map) (g.met.H.HeapSeat.seat c.args.seat.now) below
    (c.make_table.ensures.crash (λ map. map)) (λ map. map) c.requires
    c.in_ok-make_table.ensures.ok).each (shard_of c.args.from) (mod-lt c.args.from (omega arith))

pub returns-in_default-clause-ok : goal.returns-in_default-clause-ok
returns-in_default-clause-ok g c =
    let view = g.H.HeapSeat.view in
    let u = view c.make_table.new.seat in
    let number = c.at.result.number in
    let below : number < 8 = let e = c.at.ensures in omega arith in
    let has = shards_on (view c.args.seat.now) u number (λ map. map) (g.met.H.HeapSeat.seat c.args.seat.now) below
    (c.make_table.ensures.crash (λ map. map)) (λ map. map) c.requires
    c.in_ok-make_table.ensures.ok in
    takes_shards u (view c.take.new.seat) c.args.from c.in_ok-node.field-0
    (g.met.H.HeapSeat.seat c.make_table.new.seat) c.take.ensures.crash has c.in_ok-node.ensures.ok

pub bring-requires-clause-shard : goal.bring-requires-clause-shard
bring-requires-clause-shard g c =
    let view = g.H.HeapSeat.view in
    let u = view c.make_table.new.seat in
    let number = c.at.result.number in
    let below : number < 8 = let e = c.at.ensures in omega arith in
    let has = shards_on (view c.args.seat.now) u number (λ map. map) (g.met.H.HeapSeat.seat c.args.seat.now) below
    (c.make_table.ensures.crash (λ map. map)) (λ map. map) c.requires
    c.in_ok-make_table.ensures.ok in
    (takes_shards u (view c.take.new.seat) c.args.from c.in_ok-node.field-0
    (g.met.H.HeapSeat.seat c.make_table.new.seat) c.take.ensures.crash has c.in_ok-node.ensures.ok).each
    (shard_of c.args.to) (mod-lt c.args.to (omega arith))

pub bring-requires-clause-table : goal.bring-requires-clause-table
bring-requires-clause-table g c =
    let view = g.H.HeapSeat.view in
    let u = view c.make_table.new.seat in
    let number = c.at.result.number in
    let below : number < 8 = let e = c.at.ensures in omega arith in
    let has = shards_on (view c.args.seat.now) u number (λ map. map) (g.met.H.HeapSeat.seat c.args.seat.now) below
    (c.make_table.ensures.crash (λ map. map)) (λ map. map) c.requires
    c.in_ok-make_table.ensures.ok in
    set_changed u (view c.take.new.seat) (shard_of c.args.from) (shard_of c.args.to) (λ map. without_key map c.args.from) c.take.ensures.crash
    (has.each (shard_of c.args.to) (mod-lt c.args.to (omega arith))).owned (subst (RootIsSet u) c.at.ensures c.in_ok-make_table.ensures.table)

pub returns-clause-ok : goal.returns-clause-ok
returns-clause-ok g c =
    let view = g.H.HeapSeat.view in
    let u = view c.make_table.new.seat in
    let w = view c.take.new.seat in
    let number = c.at.result.number in
    let below : number < 8 = let e = c.at.ensures in omega arith in
    let has = shards_on (view c.args.seat.now) u number (λ map. map) (g.met.H.HeapSeat.seat c.args.seat.now) below
    (c.make_table.ensures.crash (λ map. map)) (λ map. map) c.requires
    c.in_ok-make_table.ensures.ok in
    let after = takes_shards u w c.args.from c.in_ok-node.field-0 (g.met.H.HeapSeat.seat c.make_table.new.seat)
    c.take.ensures.crash has c.in_ok-node.ensures.ok in
    let out = subst (λ (o : Option Block). TakesOut c.args.from o u w) c.in-Some.is c.in_ok-node.ensures.ok in
    bring_shards w (view c.bring.new.seat) c.in-Some.node (shard_of c.args.to) (λ map. with_key map c.args.to out.value)
    (g.met.H.HeapSeat.seat c.take.new.seat) out.loose
    (c.bring.ensures.crash out.value out.node) (mod-lt c.args.to (omega arith)) (λ map. with_key map c.args.to out.value) after
    (c.in_ok-bring.ensures.ok out.value out.node)
