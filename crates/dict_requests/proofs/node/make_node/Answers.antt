use Rattle.std.proofs.Common.{◌≡◌, ℕ, ◌+◌, ◌*◌, length, subst, arith}
use Rattle.std.proofs.lemmas.Result.{err_from_is_err_and}
use Rattle.heap_model.specs.Sizes.{span_of}
use Rattle.heap_seat.specs.Calls.{IsLargeCall}
use Rattle.heap_seat.proofs.RowLemmas.{row_then, row_small}
use Rattle.dict_model.specs.Nodes.{value_words, node_bytes}
use Rattle.dict_requests.proofs.GrownLemmas.{grown_then, grown_keeps}
use Rattle.dict_requests.proofs.MakeLemmas.{room_for, grown_within, made, made_row}
use Rattle.dict_requests.proofs.TurnedDownLemmas.{turned_down}
use Rattle.dict_requests.proofs.node.make_node.Goals as goal

pub returns-in_err-write_node-clause-grown : goal.returns-in_err-write_node-clause-grown
returns-in_err-write_node-clause-grown g c =
    let view = g.H.HeapSeat.view in
    let v = view c.args.seat.now in
    let u = view c.alloc.new.self in
    let t = view c.write_node.new.seat in
    let n = value_words (length c.args.value.now) in
    let bytes = 8 * (3 + c.div_ceil.result) in
    grown_within bytes c.in_ok-node.node v u t (g.met.H.HeapSeat.seat c.alloc.new.self) c.in_ok-node.ensures.ok (2 * n + 6) c.write_node.ensures.within

pub returns-in_err-write_node-clause-calls : goal.returns-in_err-write_node-clause-calls
returns-in_err-write_node-clause-calls g c =
    let view = g.H.HeapSeat.view in
    let v = view c.args.seat.now in
    let u = view c.alloc.new.self in
    let t = view c.write_node.new.seat in
    let n = value_words (length c.args.value.now) in
    let bytes = 8 * (3 + c.div_ceil.result) in
    let same : bytes ≡ node_bytes (length c.args.value.now) = omega arith in
    let large = subst (λ (b : ℕ). IsLargeCall (span_of b) v u) same c.alloc.ensures.counted in
    made_row (node_bytes (length c.args.value.now)) (2 * n + 6) (2 * n + 7) v u t (omega arith) large c.write_node.ensures.within.calls

pub returns-in_err-fence-clause-grown : goal.returns-in_err-fence-clause-grown
returns-in_err-fence-clause-grown g c =
    let view = g.H.HeapSeat.view in
    let v = view c.args.seat.now in
    let u = view c.alloc.new.self in
    let t = view c.write_node.new.seat in
    let n = value_words (length c.args.value.now) in
    let bytes = 8 * (3 + c.div_ceil.result) in
    let w = view c.fence.new.self in
    grown_then v t w (grown_within bytes c.in_ok-node.node v u t (g.met.H.HeapSeat.seat c.alloc.new.self) c.in_ok-node.ensures.ok
    (2 * n + 6) c.write_node.ensures.within) (grown_keeps t w c.fence.ensures.unchanged)

pub returns-in_err-fence-clause-calls : goal.returns-in_err-fence-clause-calls
returns-in_err-fence-clause-calls g c =
    let view = g.H.HeapSeat.view in
    let v = view c.args.seat.now in
    let u = view c.alloc.new.self in
    let t = view c.write_node.new.seat in
    let n = value_words (length c.args.value.now) in
    let bytes = 8 * (3 + c.div_ceil.result) in
    let w = view c.fence.new.self in
    let same : bytes ≡ node_bytes (length c.args.value.now) = omega arith in
    let large = subst (λ (b : ℕ). IsLargeCall (span_of b) v u) same c.alloc.ensures.counted in
    made_row (node_bytes (length c.args.value.now)) (2 * n + 6 + 1) (2 * n + 7) v u w (omega arith) large
    (row_then (2 * n + 6) 0 0 1 0 0 u t w c.write_node.ensures.within.calls (row_small t w c.fence.ensures.counted))

pub returns-clause-grown : goal.returns-clause-grown
returns-clause-grown g c =
    let view = g.H.HeapSeat.view in
    let v = view c.args.seat.now in
    let u = view c.alloc.new.self in
    let t = view c.write_node.new.seat in
    let n = value_words (length c.args.value.now) in
    let bytes = 8 * (3 + c.div_ceil.result) in
    let w = view c.fence.new.self in
    grown_then v t w (grown_within bytes c.in_ok-node.node v u t (g.met.H.HeapSeat.seat c.alloc.new.self) c.in_ok-node.ensures.ok
    (2 * n + 6) c.write_node.ensures.within) (grown_keeps t w c.fence.ensures.unchanged)

pub returns-clause-calls : goal.returns-clause-calls
returns-clause-calls g c =
    let view = g.H.HeapSeat.view in
    let v = view c.args.seat.now in
    let u = view c.alloc.new.self in
    let t = view c.write_node.new.seat in
    let n = value_words (length c.args.value.now) in
    let bytes = 8 * (3 + c.div_ceil.result) in
    let w = view c.fence.new.self in
    let same : bytes ≡ node_bytes (length c.args.value.now) = omega arith in
    let large = subst (λ (b : ℕ). IsLargeCall (span_of b) v u) same c.alloc.ensures.counted in
    made_row (node_bytes (length c.args.value.now)) (2 * n + 6 + 1) (2 * n + 7) v u w (omega arith) large
    (row_then (2 * n + 6) 0 0 1 0 0 u t w c.write_node.ensures.within.calls (row_small t w c.fence.ensures.counted))

pub returns-clause-ok : goal.returns-clause-ok
returns-clause-ok g c =
    let view = g.H.HeapSeat.view in
    let v = view c.args.seat.now in
    let u = view c.alloc.new.self in
    let t = view c.write_node.new.seat in
    let n = value_words (length c.args.value.now) in
    let bytes = 8 * (3 + c.div_ceil.result) in
    let w = view c.fence.new.self in
    let room = room_for bytes c.in_ok-node.node.words c.in_ok-node.ensures.ok.size in
    made bytes c.in_ok-node.node v u t (g.met.H.HeapSeat.seat c.alloc.new.self) c.in_ok-node.ensures.ok (2 * n + 6) c.write_node.ensures.within
    c.args.key c.args.next c.args.value.now w (omega arith) c.in_ok-write_node.ensures.ok c.fence.ensures.unchanged c.in_ok-fence.ensures.ok
    c.fence.ensures.counted.refusals

pub returns-in_err-node-clause-none : goal.returns-in_err-node-clause-none
returns-in_err-node-clause-none g c =
    let heap = g.H.HeapSeat in
    let bytes = node_bytes (length c.args.value.now) in
    let same : 8 * (3 + c.div_ceil.result) ≡ bytes = omega arith in
    let p = err_from_is_err_and c.from_residual.result c.from_residual.ensures.1 in
    rw (p.1, p.2)
    (λ looks is. turned_down heap.keeps heap.has_none g.met.H.HeapSeat.keeps_none bytes looks c.args.seat.now c.alloc.new.self
    (subst (λ (b : ℕ). heap.has_none c.args.seat.now c.alloc.new.self b looks) same (c.in_err-node.ensures.none looks is)))
