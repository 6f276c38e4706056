use Rattle.std.proofs.Common.{arith}
use Rattle.heap_seat.specs.View.{word_of}
use Rattle.heap_seat.proofs.RowLemmas.{row_then, row_large}
use Rattle.dict_model.specs.Requests.{with_key}
use Rattle.dict_requests.specs.Trails.{IsDurableAt}
use Rattle.dict_requests.proofs.BringLemmas.{quiet_left, head_left, over_brought, replaced_still, over_is_done, over_is_left, over_reaches}
use Rattle.dict_requests.proofs.bringing.bring_over.Goals as goal

pub returns-in_err-next-clause-crash : goal.returns-in_err-next-clause-crash
returns-in_err-next-clause-crash g c =
    let view = g.H.HeapSeat.view in
    let quiet = c.read_place.ensures.quiet in
    λ value node. quiet_left (view c.args.seat.now) (view c.read_place.new.seat) (g.met.H.HeapSeat.seat c.args.seat.now)
    (g.met.H.HeapSeat.seat c.read_place.new.seat) c.args.key c.args.node c.requires.shard c.requires.loose
    (let fits = c.requires.node.1.fits in omega arith)
    quiet.unchanged quiet.calls.goes_on.kinds (λ map. with_key map c.args.key value)

pub returns-in_err-write_head-clause-crash : goal.returns-in_err-write_head-clause-crash
returns-in_err-write_head-clause-crash g c =
    let view = g.H.HeapSeat.view in
    let quiet = c.read_place.ensures.quiet in
    λ value node. head_left (view c.args.seat.now) (view c.read_place.new.seat) (g.met.H.HeapSeat.seat c.args.seat.now)
    (g.met.H.HeapSeat.seat c.read_place.new.seat) c.args.key c.args.node c.requires.shard c.requires.loose
    (let fits = c.requires.node.1.fits in omega arith)
    quiet.unchanged quiet.calls.goes_on.kinds (view c.write_head.new.seat)
    (g.met.H.HeapSeat.seat c.write_head.new.seat) c.write_head.ensures.within (λ map. with_key map c.args.key value)

pub overflow_mul-node : goal.overflow_mul-node
overflow_mul-node g c =
    let short = ((g.met.H.HeapSeat.seat c.args.seat.now).placed c.args.node c.requires.loose.held).short in omega arith

pub encode-requires : goal.encode-requires
encode-requires g c =
    let short = ((g.met.H.HeapSeat.seat c.args.seat.now).placed c.args.node c.requires.loose.held).short in omega arith

pub returns-in_err-persist-clause-crash : goal.returns-in_err-persist-clause-crash
returns-in_err-persist-clause-crash g c =
    let view = g.H.HeapSeat.view in
    let quiet = c.read_place.ensures.quiet in
    let v = view c.args.seat.now in
    let t = view c.read_place.new.seat in
    let u = view c.write_head.new.seat in
    let w = view c.persist.new.heap in
    λ value node. over_brought v t (g.met.H.HeapSeat.seat c.args.seat.now)
    (g.met.H.HeapSeat.seat c.read_place.new.seat) c.args.key c.args.node c.requires.shard c.requires.loose
    (let fits = c.requires.node.1.fits in omega arith)
    quiet.unchanged quiet.calls.goes_on.kinds u (g.met.H.HeapSeat.seat c.write_head.new.seat)
    c.write_head.ensures.within c.in_ok-next.next c.in_ok-write_head.ensures.ok value node
    c.args.place c.in_ok-next.ensures.ok.taken w c.encode.result c.encode.ensures.tagged c.persist.ensures.crash c.persist.ensures.calls.goes_on.kinds

pub free-requires : goal.free-requires
free-requires g c =
    let view = g.H.HeapSeat.view in
    let quiet = c.read_place.ensures.quiet in
    let v = view c.args.seat.now in
    let t = view c.read_place.new.seat in
    let u = view c.write_head.new.seat in
    let w = view c.persist.new.heap in
    replaced_still v t (g.met.H.HeapSeat.seat c.args.seat.now) (g.met.H.HeapSeat.seat c.read_place.new.seat)
    c.args.key c.args.node c.requires.shard c.requires.loose (let fits = c.requires.node.1.fits in omega arith)
    quiet.unchanged quiet.calls.goes_on.kinds u (g.met.H.HeapSeat.seat c.write_head.new.seat)
    c.write_head.ensures.within c.in_ok-next.next c.in_ok-write_head.ensures.ok c.requires.node.0 c.requires.node.1
    c.args.place c.in_ok-next.ensures.ok.taken w c.encode.result c.encode.ensures.tagged c.persist.ensures.crash c.persist.ensures.calls.goes_on.kinds

pub returns-in_err-free-clause-crash : goal.returns-in_err-free-clause-crash
returns-in_err-free-clause-crash g c =
    let view = g.H.HeapSeat.view in
    let quiet = c.read_place.ensures.quiet in
    let v = view c.args.seat.now in
    let t = view c.read_place.new.seat in
    let u = view c.write_head.new.seat in
    let w = view c.persist.new.heap in
    let y = view c.free.new.self in
    let settled : IsDurableAt w (word_of c.args.place.link) c.encode.result = record {
      seen = c.in_ok-persist.ensures.ok;
      left = c.in_ok-persist.ensures.durable;
    } in
    λ value node. over_is_left v t (g.met.H.HeapSeat.seat c.args.seat.now)
    (g.met.H.HeapSeat.seat c.read_place.new.seat) c.args.key c.args.node c.requires.shard c.requires.loose
    (let fits = c.requires.node.1.fits in omega arith)
    quiet.unchanged quiet.calls.goes_on.kinds u (g.met.H.HeapSeat.seat c.write_head.new.seat)
    c.write_head.ensures.within c.in_ok-next.next c.in_ok-write_head.ensures.ok value node
    c.args.place c.in_ok-next.ensures.ok.taken w c.encode.result c.encode.ensures.tagged c.persist.ensures.crash
    c.persist.ensures.calls.goes_on.kinds (g.met.H.HeapSeat.seat c.persist.new.heap) settled y
    c.free.ensures.others c.free.ensures.counted.goes_on.kinds

pub returns-clause-crash : goal.returns-clause-crash
returns-clause-crash g c =
    let view = g.H.HeapSeat.view in
    let quiet = c.read_place.ensures.quiet in
    let v = view c.args.seat.now in
    let t = view c.read_place.new.seat in
    let u = view c.write_head.new.seat in
    let w = view c.persist.new.heap in
    let y = view c.free.new.self in
    let settled : IsDurableAt w (word_of c.args.place.link) c.encode.result = record {
      seen = c.in_ok-persist.ensures.ok;
      left = c.in_ok-persist.ensures.durable;
    } in
    λ value node. over_is_left v t (g.met.H.HeapSeat.seat c.args.seat.now)
    (g.met.H.HeapSeat.seat c.read_place.new.seat) c.args.key c.args.node c.requires.shard c.requires.loose
    (let fits = c.requires.node.1.fits in omega arith)
    quiet.unchanged quiet.calls.goes_on.kinds u (g.met.H.HeapSeat.seat c.write_head.new.seat)
    c.write_head.ensures.within c.in_ok-next.next c.in_ok-write_head.ensures.ok value node
    c.args.place c.in_ok-next.ensures.ok.taken w c.encode.result c.encode.ensures.tagged c.persist.ensures.crash
    c.persist.ensures.calls.goes_on.kinds (g.met.H.HeapSeat.seat c.persist.new.heap) settled y
    c.free.ensures.others c.free.ensures.counted.goes_on.kinds

pub returns-clause-ok : goal.returns-clause-ok
returns-clause-ok g c =
    let view = g.H.HeapSeat.view in
    let quiet = c.read_place.ensures.quiet in
    let v = view c.args.seat.now in
    let t = view c.read_place.new.seat in
    let u = view c.write_head.new.seat in
    let w = view c.persist.new.heap in
    let y = view c.free.new.self in
    let settled : IsDurableAt w (word_of c.args.place.link) c.encode.result = record {
      seen = c.in_ok-persist.ensures.ok;
      left = c.in_ok-persist.ensures.durable;
    } in
    λ value node. over_is_done v t (g.met.H.HeapSeat.seat c.args.seat.now)
    (g.met.H.HeapSeat.seat c.read_place.new.seat) c.args.key c.args.node c.requires.shard c.requires.loose
    (let fits = c.requires.node.1.fits in omega arith)
    quiet.unchanged quiet.calls.goes_on.kinds u (g.met.H.HeapSeat.seat c.write_head.new.seat)
    c.write_head.ensures.within c.in_ok-next.next c.in_ok-write_head.ensures.ok value node
    c.args.place c.in_ok-next.ensures.ok.taken w c.encode.result c.encode.ensures.tagged c.persist.ensures.crash
    c.persist.ensures.calls.goes_on.kinds (g.met.H.HeapSeat.seat c.persist.new.heap) settled y
    c.free.ensures.others c.free.ensures.counted.goes_on.kinds

pub returns-clause-exact : goal.returns-clause-exact
returns-clause-exact g c =
    let view = g.H.HeapSeat.view in
    let quiet = c.read_place.ensures.quiet in
    let v = view c.args.seat.now in
    let t = view c.read_place.new.seat in
    let u = view c.write_head.new.seat in
    let w = view c.persist.new.heap in
    let y = view c.free.new.self in
    let settled : IsDurableAt w (word_of c.args.place.link) c.encode.result = record {
      seen = c.in_ok-persist.ensures.ok;
      left = c.in_ok-persist.ensures.durable;
    } in
    λ value node. over_reaches v t (g.met.H.HeapSeat.seat c.args.seat.now)
    (g.met.H.HeapSeat.seat c.read_place.new.seat) c.args.key c.args.node c.requires.shard c.requires.loose
    (let fits = c.requires.node.1.fits in omega arith)
    quiet.unchanged quiet.calls.goes_on.kinds u (g.met.H.HeapSeat.seat c.write_head.new.seat)
    c.write_head.ensures.within c.in_ok-next.next c.in_ok-write_head.ensures.ok value node
    c.args.place c.in_ok-next.ensures.ok.taken w c.encode.result c.encode.ensures.tagged c.persist.ensures.crash
    c.persist.ensures.calls.goes_on.kinds (g.met.H.HeapSeat.seat c.persist.new.heap) settled y
    c.free.ensures.others c.free.ensures.counted.goes_on.kinds c.in_ok-free.ensures.ok.gone

pub returns-in_err-free-clause-calls : goal.returns-in_err-free-clause-calls
returns-in_err-free-clause-calls g c =
    let view = g.H.HeapSeat.view in
    let v = view c.args.seat.now in
    let t = view c.read_place.new.seat in
    let u = view c.write_head.new.seat in
    let w = view c.persist.new.heap in
    let y = view c.free.new.self in
    let a = row_then 3 0 0 5 0 0 v t u c.read_place.ensures.quiet.calls c.write_head.ensures.within.calls in
    let b = row_then 8 0 0 3 0 0 v u w a c.persist.ensures.calls in
    row_then 11 0 0 0 1 0 v w y b (row_large 0 w y c.free.ensures.counted)

pub returns-clause-calls : goal.returns-clause-calls
returns-clause-calls g c =
    let view = g.H.HeapSeat.view in
    let v = view c.args.seat.now in
    let t = view c.read_place.new.seat in
    let u = view c.write_head.new.seat in
    let w = view c.persist.new.heap in
    let y = view c.free.new.self in
    let a = row_then 3 0 0 5 0 0 v t u c.read_place.ensures.quiet.calls c.write_head.ensures.within.calls in
    let b = row_then 8 0 0 3 0 0 v u w a c.persist.ensures.calls in
    row_then 11 0 0 0 1 0 v w y b (row_large 0 w y c.free.ensures.counted)

pub returns-in_err-free-clause-kept : goal.returns-in_err-free-clause-kept
returns-in_err-free-clause-kept g c =
    let row = g.met.H.HeapSeat.keeps_row in
    row c.args.seat.now c.persist.new.heap c.free.new.self
    (row c.args.seat.now c.write_head.new.seat c.persist.new.heap (row c.args.seat.now c.read_place.new.seat c.write_head.new.seat
    c.read_place.ensures.kept c.write_head.ensures.kept) c.persist.ensures.kept)
    c.free.ensures.kept

pub returns-clause-kept : goal.returns-clause-kept
returns-clause-kept g c =
    let row = g.met.H.HeapSeat.keeps_row in
    row c.args.seat.now c.persist.new.heap c.free.new.self
    (row c.args.seat.now c.write_head.new.seat c.persist.new.heap (row c.args.seat.now c.read_place.new.seat c.write_head.new.seat
    c.read_place.ensures.kept c.write_head.ensures.kept) c.persist.ensures.kept)
    c.free.ensures.kept
