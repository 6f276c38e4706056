use Rattle.std.proofs.Common.{◌+◌, ◌*◌, length, ◌∙◌, arith}
use Rattle.std.proofs.lemmas.Result.{err_from_is_err_and}
use Rattle.heap_model.specs.Sizes.{span_of}
use Rattle.heap_seat.specs.View.{word_of}
use Rattle.heap_seat.proofs.RowLemmas.{row_then, row_more, row_large, same_refusals_then}
use Rattle.dict_model.specs.Nodes.{shard_of, value_words, node_bytes}
use Rattle.dict_model.specs.Requests.{with_key}
use Rattle.dict_requests.specs.Trails.{IsDurableAt}
use Rattle.dict_requests.proofs.GrownLemmas.{grown_keeps, grown_then}
use Rattle.dict_requests.proofs.TrailLemmas.{settles}
use Rattle.dict_requests.proofs.ChangeLemmas.{change_none}
use Rattle.dict_requests.proofs.FirstLemmas.{put_fails}
use Rattle.dict_requests.proofs.PutLemmas.{has_node}
use Rattle.dict_requests.proofs.OverLemmas.{taken_made, over_left, old_still, over_freed, all_over}
use Rattle.dict_requests.proofs.TurnedDownLemmas.{turned_down_behind}
use Rattle.dict_requests.proofs.publish.put_over.Goals as goal

pub returns-in_err-next-clause-crash : goal.returns-in_err-next-clause-crash
returns-in_err-next-clause-crash g c =
    let view = g.H.HeapSeat.view in
    let v = view c.args.seat.now in
    let t = view c.read_place.new.seat in
    change_none (shard_of c.args.key) (λ map. with_key map c.args.key c.args.value.now) v t
    (grown_keeps v t c.read_place.ensures.quiet.unchanged) c.read_place.ensures.quiet.calls.goes_on.kinds
    (g.met.H.HeapSeat.seat c.read_place.new.seat) c.requires.shard.only

pub returns-in_err-node-clause-crash : goal.returns-in_err-node-clause-crash
returns-in_err-node-clause-crash g c =
    let view = g.H.HeapSeat.view in
    let v = view c.args.seat.now in
    let t = view c.read_place.new.seat in
    let u = view c.make_node.new.seat in
    change_none (shard_of c.args.key) (λ map. with_key map c.args.key c.args.value.now) v u
    (grown_then v t u (grown_keeps v t c.read_place.ensures.quiet.unchanged) c.make_node.ensures.grown)
    (c.make_node.ensures.calls.goes_on.kinds ∙ c.read_place.ensures.quiet.calls.goes_on.kinds)
    (g.met.H.HeapSeat.seat c.make_node.new.seat) c.requires.shard.only

pub returns-in_err-node-clause-cause : goal.returns-in_err-node-clause-cause
returns-in_err-node-clause-cause g c =
    let view = g.H.HeapSeat.view in
    let v = view c.args.seat.now in
    let t = view c.read_place.new.seat in
    let u = view c.make_node.new.seat in
    let p = err_from_is_err_and c.from_residual-in_err-node.result c.from_residual-in_err-node.ensures.1 in
    rw (p.1, p.2)
    (put_fails (node_bytes (length c.args.value.now)) c.in_err-node.field-0.0 v t u c.in_ok-next.ensures.ok.goes.runs
    c.read_place.ensures.quiet.unchanged
    c.read_place.ensures.quiet.refusals c.read_place.ensures.quiet.calls.few c.in_err-node.ensures.full c.in_err-node.ensures.cause)

pub overflow_mul-node : goal.overflow_mul-node
overflow_mul-node g c = let short = ((g.met.H.HeapSeat.seat c.make_node.new.seat).placed c.in_ok-node.node
    c.in_ok-node.ensures.ok.held).short in omega arith

pub encode-requires : goal.encode-requires
encode-requires g c = let short = ((g.met.H.HeapSeat.seat c.make_node.new.seat).placed c.in_ok-node.node c.in_ok-node.ensures.ok.held).short in
    omega arith

pub persist-requires : goal.persist-requires
persist-requires g c =
    let view = g.H.HeapSeat.view in
    let v = view c.args.seat.now in
    let t = view c.read_place.new.seat in
    let u = view c.make_node.new.seat in
    let seat_t = g.met.H.HeapSeat.seat c.read_place.new.seat in
    let makes = has_node t u c.in_ok-node.node c.args.key c.in_ok-next.next c.args.value.now c.requires.short
    (λ k less. omega (arith, c.type_inv.value k)) c.in_ok-node.ensures.ok in
    let made = taken_made t u c.args.key c.in_ok-next.next c.args.place seat_t c.make_node.ensures.grown
    (λ word y own settling. settles t u word y own (c.make_node.ensures.grown.words word own) makes.settles settling) c.in_ok-next.ensures.ok.taken in
    made.0.own

pub returns-in_err-persist-clause-crash : goal.returns-in_err-persist-clause-crash
returns-in_err-persist-clause-crash g c =
    let view = g.H.HeapSeat.view in
    let v = view c.args.seat.now in
    let t = view c.read_place.new.seat in
    let u = view c.make_node.new.seat in
    let w = view c.persist.new.heap in
    let seat_t = g.met.H.HeapSeat.seat c.read_place.new.seat in
    let makes = has_node t u c.in_ok-node.node c.args.key c.in_ok-next.next c.args.value.now c.requires.short
    (λ k less. omega (arith, c.type_inv.value k)) c.in_ok-node.ensures.ok in
    let made = taken_made t u c.args.key c.in_ok-next.next c.args.place seat_t c.make_node.ensures.grown
    (λ word y own settling. settles t u word y own (c.make_node.ensures.grown.words word own) makes.settles settling) c.in_ok-next.ensures.ok.taken in
    over_left v t u w seat_t (g.met.H.HeapSeat.seat c.make_node.new.seat)
    c.args.key c.in_ok-next.next c.encode.result c.args.value.now c.args.place c.in_ok-node.node c.requires.shard
    c.read_place.ensures.quiet.unchanged made.0 made.1 made.2 made.3 c.make_node.ensures.grown makes c.encode.ensures.tagged c.persist.ensures.crash
    c.read_place.ensures.quiet.calls.goes_on.kinds c.make_node.ensures.calls.goes_on.kinds c.persist.ensures.calls.goes_on.kinds

pub free-requires : goal.free-requires
free-requires g c =
    let view = g.H.HeapSeat.view in
    let v = view c.args.seat.now in
    let t = view c.read_place.new.seat in
    let u = view c.make_node.new.seat in
    let w = view c.persist.new.heap in
    let seat_t = g.met.H.HeapSeat.seat c.read_place.new.seat in
    let makes = has_node t u c.in_ok-node.node c.args.key c.in_ok-next.next c.args.value.now c.requires.short
    (λ k less. omega (arith, c.type_inv.value k)) c.in_ok-node.ensures.ok in
    let made = taken_made t u c.args.key c.in_ok-next.next c.args.place seat_t c.make_node.ensures.grown
    (λ word y own settling. settles t u word y own (c.make_node.ensures.grown.words word own) makes.settles settling) c.in_ok-next.ensures.ok.taken in
    old_still v t u w seat_t (g.met.H.HeapSeat.seat c.make_node.new.seat)
    c.args.key c.in_ok-next.next c.encode.result c.args.value.now c.args.place c.in_ok-node.node c.requires.shard
    c.read_place.ensures.quiet.unchanged made.0 made.1 made.2 made.3 c.make_node.ensures.grown makes c.encode.ensures.tagged c.persist.ensures.crash
    c.read_place.ensures.quiet.calls.goes_on.kinds c.make_node.ensures.calls.goes_on.kinds c.persist.ensures.calls.goes_on.kinds

pub returns-in_err-free-clause-crash : goal.returns-in_err-free-clause-crash
returns-in_err-free-clause-crash g c =
    let view = g.H.HeapSeat.view in
    let v = view c.args.seat.now in
    let t = view c.read_place.new.seat in
    let u = view c.make_node.new.seat in
    let w = view c.persist.new.heap in
    let y = view c.free.new.self in
    let seat_t = g.met.H.HeapSeat.seat c.read_place.new.seat in
    let makes = has_node t u c.in_ok-node.node c.args.key c.in_ok-next.next c.args.value.now c.requires.short
    (λ k less. omega (arith, c.type_inv.value k)) c.in_ok-node.ensures.ok in
    let made = taken_made t u c.args.key c.in_ok-next.next c.args.place seat_t c.make_node.ensures.grown
    (λ word y own settling. settles t u word y own (c.make_node.ensures.grown.words word own) makes.settles settling) c.in_ok-next.ensures.ok.taken in
    let settled : IsDurableAt w (word_of c.args.place.link) c.encode.result = record {
      seen = c.in_ok-persist.ensures.ok;
      left = c.in_ok-persist.ensures.durable;
    } in
    (over_freed v t u w seat_t (g.met.H.HeapSeat.seat c.make_node.new.seat)
    c.args.key c.in_ok-next.next c.encode.result c.args.value.now c.args.place c.in_ok-node.node c.requires.shard
    c.read_place.ensures.quiet.unchanged made.0 made.1 made.2 made.3 c.make_node.ensures.grown makes c.encode.ensures.tagged c.persist.ensures.crash
    c.read_place.ensures.quiet.calls.goes_on.kinds c.make_node.ensures.calls.goes_on.kinds c.persist.ensures.calls.goes_on.kinds
    (g.met.H.HeapSeat.seat c.persist.new.heap) settled y c.free.ensures.others c.free.ensures.counted.goes_on.kinds).1

pub returns-clause-crash : goal.returns-clause-crash
returns-clause-crash g c =
    let view = g.H.HeapSeat.view in
    let v = view c.args.seat.now in
    let t = view c.read_place.new.seat in
    let u = view c.make_node.new.seat in
    let w = view c.persist.new.heap in
    let y = view c.free.new.self in
    let seat_t = g.met.H.HeapSeat.seat c.read_place.new.seat in
    let makes = has_node t u c.in_ok-node.node c.args.key c.in_ok-next.next c.args.value.now c.requires.short
    (λ k less. omega (arith, c.type_inv.value k)) c.in_ok-node.ensures.ok in
    let made = taken_made t u c.args.key c.in_ok-next.next c.args.place seat_t c.make_node.ensures.grown
    (λ word y own settling. settles t u word y own (c.make_node.ensures.grown.words word own) makes.settles settling) c.in_ok-next.ensures.ok.taken in
    let settled : IsDurableAt w (word_of c.args.place.link) c.encode.result = record {
      seen = c.in_ok-persist.ensures.ok;
      left = c.in_ok-persist.ensures.durable;
    } in
    (over_freed v t u w seat_t (g.met.H.HeapSeat.seat c.make_node.new.seat)
    c.args.key c.in_ok-next.next c.encode.result c.args.value.now c.args.place c.in_ok-node.node c.requires.shard
    c.read_place.ensures.quiet.unchanged made.0 made.1 made.2 made.3 c.make_node.ensures.grown makes c.encode.ensures.tagged c.persist.ensures.crash
    c.read_place.ensures.quiet.calls.goes_on.kinds c.make_node.ensures.calls.goes_on.kinds c.persist.ensures.calls.goes_on.kinds
    (g.met.H.HeapSeat.seat c.persist.new.heap) settled y c.free.ensures.others c.free.ensures.counted.goes_on.kinds).1

pub returns-clause-ok : goal.returns-clause-ok
returns-clause-ok g c =
    let view = g.H.HeapSeat.view in
    let v = view c.args.seat.now in
    let t = view c.read_place.new.seat in
    let u = view c.make_node.new.seat in
    let w = view c.persist.new.heap in
    let y = view c.free.new.self in
    let seat_t = g.met.H.HeapSeat.seat c.read_place.new.seat in
    let makes = has_node t u c.in_ok-node.node c.args.key c.in_ok-next.next c.args.value.now c.requires.short
    (λ k less. omega (arith, c.type_inv.value k)) c.in_ok-node.ensures.ok in
    let made = taken_made t u c.args.key c.in_ok-next.next c.args.place seat_t c.make_node.ensures.grown
    (λ word y own settling. settles t u word y own (c.make_node.ensures.grown.words word own) makes.settles settling) c.in_ok-next.ensures.ok.taken in
    let settled : IsDurableAt w (word_of c.args.place.link) c.encode.result = record {
      seen = c.in_ok-persist.ensures.ok;
      left = c.in_ok-persist.ensures.durable;
    } in
    (over_freed v t u w seat_t (g.met.H.HeapSeat.seat c.make_node.new.seat)
    c.args.key c.in_ok-next.next c.encode.result c.args.value.now c.args.place c.in_ok-node.node c.requires.shard
    c.read_place.ensures.quiet.unchanged made.0 made.1 made.2 made.3 c.make_node.ensures.grown makes c.encode.ensures.tagged c.persist.ensures.crash
    c.read_place.ensures.quiet.calls.goes_on.kinds c.make_node.ensures.calls.goes_on.kinds c.persist.ensures.calls.goes_on.kinds
    (g.met.H.HeapSeat.seat c.persist.new.heap) settled y c.free.ensures.others c.free.ensures.counted.goes_on.kinds).0

pub returns-in_err-persist-clause-calls : goal.returns-in_err-persist-clause-calls
returns-in_err-persist-clause-calls g c =
    let view = g.H.HeapSeat.view in
    let v = view c.args.seat.now in
    let t = view c.read_place.new.seat in
    let u = view c.make_node.new.seat in
    let w = view c.persist.new.heap in
    let n = value_words (length c.args.value.now) in
    let most = span_of (node_bytes (length c.args.value.now)) in
    let a = row_then 3 0 0 (2 * n + 7) 1 most v t u c.read_place.ensures.quiet.calls c.make_node.ensures.calls in
    let b = row_then (3 + (2 * n + 7)) (0 + 1) (0 + most) 3 0 0 v u w a c.persist.ensures.calls in
    row_more (3 + (2 * n + 7) + 3) (0 + 1 + 0) (0 + most + 0) (2 * n + 13) 2 most v w (omega arith) (omega arith) (omega arith) b

pub returns-in_err-free-clause-calls : goal.returns-in_err-free-clause-calls
returns-in_err-free-clause-calls g c =
    let view = g.H.HeapSeat.view in
    let v = view c.args.seat.now in
    let t = view c.read_place.new.seat in
    let u = view c.make_node.new.seat in
    let w = view c.persist.new.heap in
    let y = view c.free.new.self in
    let n = value_words (length c.args.value.now) in
    let most = span_of (node_bytes (length c.args.value.now)) in
    let a = row_then 3 0 0 (2 * n + 7) 1 most v t u c.read_place.ensures.quiet.calls c.make_node.ensures.calls in
    let b = row_then (3 + (2 * n + 7)) (0 + 1) (0 + most) 3 0 0 v u w a c.persist.ensures.calls in
    row_more (3 + (2 * n + 7) + 3 + 0) (0 + 1 + 0 + 1) (0 + most + 0 + 0) (2 * n + 13) 2 most v y (omega arith) (omega arith) (omega arith)
    (row_then (3 + (2 * n + 7) + 3) (0 + 1 + 0) (0 + most + 0) 0 1 0 v w y b (row_large 0 w y c.free.ensures.counted))

pub returns-clause-calls : goal.returns-clause-calls
returns-clause-calls g c =
    let view = g.H.HeapSeat.view in
    let v = view c.args.seat.now in
    let t = view c.read_place.new.seat in
    let u = view c.make_node.new.seat in
    let w = view c.persist.new.heap in
    let y = view c.free.new.self in
    let n = value_words (length c.args.value.now) in
    let most = span_of (node_bytes (length c.args.value.now)) in
    let a = row_then 3 0 0 (2 * n + 7) 1 most v t u c.read_place.ensures.quiet.calls c.make_node.ensures.calls in
    let b = row_then (3 + (2 * n + 7)) (0 + 1) (0 + most) 3 0 0 v u w a c.persist.ensures.calls in
    row_more (3 + (2 * n + 7) + 3 + 0) (0 + 1 + 0 + 1) (0 + most + 0 + 0) (2 * n + 13) 2 most v y (omega arith) (omega arith) (omega arith)
    (row_then (3 + (2 * n + 7) + 3) (0 + 1 + 0) (0 + most + 0) 0 1 0 v w y b (row_large 0 w y c.free.ensures.counted))

pub returns-in_err-free-clause-kept : goal.returns-in_err-free-clause-kept
returns-in_err-free-clause-kept g c =
    let row = g.met.H.HeapSeat.keeps_row in
    row c.args.seat.now c.persist.new.heap c.free.new.self
    (row c.args.seat.now c.make_node.new.seat c.persist.new.heap (row c.args.seat.now c.read_place.new.seat c.make_node.new.seat
    c.read_place.ensures.kept c.make_node.ensures.kept) c.persist.ensures.kept)
    c.free.ensures.kept

pub returns-clause-kept : goal.returns-clause-kept
returns-clause-kept g c =
    let row = g.met.H.HeapSeat.keeps_row in
    row c.args.seat.now c.persist.new.heap c.free.new.self
    (row c.args.seat.now c.make_node.new.seat c.persist.new.heap (row c.args.seat.now c.read_place.new.seat c.make_node.new.seat
    c.read_place.ensures.kept c.make_node.ensures.kept) c.persist.ensures.kept)
    c.free.ensures.kept

pub returns-clause-exact : goal.returns-clause-exact
returns-clause-exact g c =
    let view = g.H.HeapSeat.view in
    let v = view c.args.seat.now in
    let t = view c.read_place.new.seat in
    let u = view c.make_node.new.seat in
    let w = view c.persist.new.heap in
    let y = view c.free.new.self in
    let seat_t = g.met.H.HeapSeat.seat c.read_place.new.seat in
    let makes = has_node t u c.in_ok-node.node c.args.key c.in_ok-next.next c.args.value.now c.requires.short
    (λ k less. omega (arith, c.type_inv.value k)) c.in_ok-node.ensures.ok in
    let made = taken_made t u c.args.key c.in_ok-next.next c.args.place seat_t c.make_node.ensures.grown
    (λ word y own settling. settles t u word y own (c.make_node.ensures.grown.words word own) makes.settles settling) c.in_ok-next.ensures.ok.taken in
    let settled : IsDurableAt w (word_of c.args.place.link) c.encode.result = record {
      seen = c.in_ok-persist.ensures.ok;
      left = c.in_ok-persist.ensures.durable;
    } in
    all_over v t u w seat_t (g.met.H.HeapSeat.seat c.make_node.new.seat)
    c.args.key c.in_ok-next.next c.encode.result c.args.value.now c.args.place c.in_ok-node.node c.requires.shard
    c.read_place.ensures.quiet.unchanged made.0 made.1 made.2 made.3 c.make_node.ensures.grown makes c.encode.ensures.tagged c.persist.ensures.crash
    c.read_place.ensures.quiet.calls.goes_on.kinds c.make_node.ensures.calls.goes_on.kinds c.persist.ensures.calls.goes_on.kinds
    (g.met.H.HeapSeat.seat c.persist.new.heap) settled y c.free.ensures.others c.free.ensures.counted.goes_on.kinds c.in_ok-free.ensures.ok.gone

pub returns-in_err-node-clause-none : goal.returns-in_err-node-clause-none
returns-in_err-node-clause-none g c =
    let heap = g.H.HeapSeat in
    let p = err_from_is_err_and c.from_residual-in_err-node.result c.from_residual-in_err-node.ensures.1 in
    rw (p.1, p.2)
    (λ looks is. turned_down_behind heap.keeps heap.has_none g.met.H.HeapSeat.keeps_row
    (node_bytes (length c.args.value.now)) looks c.args.seat.now c.read_place.new.seat c.make_node.new.seat
    c.read_place.ensures.kept (c.in_err-node.ensures.none looks is))

pub returns-clause-refusals : goal.returns-clause-refusals
returns-clause-refusals g c =
    let view = g.H.HeapSeat.view in
    let v = view c.args.seat.now in
    let t = view c.read_place.new.seat in
    let u = view c.make_node.new.seat in
    let w = view c.persist.new.heap in
    let y = view c.free.new.self in
    let made = same_refusals_then v t u c.read_place.ensures.quiet.refusals c.in_ok-node.ensures.ok.refusals in
    same_refusals_then v w y (same_refusals_then v u w made c.persist.ensures.refusals) c.free.ensures.others.refusals
