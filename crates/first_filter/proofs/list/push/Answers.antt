use Rattle.std.proofs.Common.{arith}
use Rattle.first_filter.proofs.Kept.{own_others, load_then, led_then, as_before, holds_then, with_node, one_or_other}
use Rattle.first_filter.proofs.list.push.Goals as goal

pub overflow_mul-node : goal.overflow_mul-node
overflow_mul-node g c =
    let short = ((g.met.H.HeapSeat.seat c.make_node.new.heap).placed c.in_ok-node.node c.in_ok-node.ensures.held).short in omega arith

pub encode-requires : goal.encode-requires
encode-requires g c =
    let short = ((g.met.H.HeapSeat.seat c.make_node.new.heap).placed c.in_ok-node.node c.in_ok-node.ensures.held).short in omega arith

-- before the root is set the list is as it was
pub returns-in_err-next-clause-crash : goal.returns-in_err-next-clause-crash
returns-in_err-next-clause-crash g c nodes image holds left =
    let heap = g.met.H.HeapSeat in
    let view = g.H.HeapSeat.view in
    let after = c.load.new.self in
    let keeps = own_others (view c.args.heap.now) (view after) c.load.ensures.unchanged c.load.ensures.counted.goes_on.kinds in
    as_before (view c.args.heap.now) (view after) image nodes (heap.seat c.args.heap.now) (heap.seat after) keeps
    (heap.mixed after image left) (heap.named after image left) (heap.stored_kinds after image left) holds

pub returns-in_err-node-clause-crash : goal.returns-in_err-node-clause-crash
returns-in_err-node-clause-crash g c nodes image holds left =
    let heap = g.met.H.HeapSeat in
    let view = g.H.HeapSeat.view in
    let after = c.make_node.new.heap in
    let keeps = load_then (view c.args.heap.now) (view c.load.new.self) (view after) c.load.ensures.unchanged
    c.load.ensures.counted.goes_on.kinds c.make_node.ensures.others in
    as_before (view c.args.heap.now) (view after) image nodes (heap.seat c.args.heap.now) (heap.seat after) keeps
    (heap.mixed after image left) (heap.named after image left) (heap.stored_kinds after image left) holds

-- once it may be set the list has the node or not
pub returns-in_err-persist-clause-crash : goal.returns-in_err-persist-clause-crash
returns-in_err-persist-clause-crash g c nodes image holds left =
    let heap = g.met.H.HeapSeat in
    let view = g.H.HeapSeat.view in
    let v = view c.args.heap.now in
    let t = view c.load.new.self in
    let r = view c.make_node.new.heap in
    let keeps = load_then v t r c.load.ensures.unchanged c.load.ensures.counted.goes_on.kinds c.make_node.ensures.others in
    let led = led_then v t r nodes c.in_ok-next.next c.load.ensures.unchanged c.in_ok-next.ensures.ok.seen keeps holds in
    let after = c.persist.new.heap in
    one_or_other r (view c.persist.new.heap) c.in_ok-node.node c.in_ok-next.next c.encode.result nodes (heap.seat c.make_node.new.heap)
    (holds_then v r nodes (heap.seat c.args.heap.now) keeps holds) c.in_ok-node.ensures.held led c.in_ok-node.ensures.link c.encode.ensures
    c.persist.ensures.crash c.persist.ensures.calls.goes_on.kinds
    image (heap.seat after) (heap.mixed after image left) (heap.named after image left) (heap.stored_kinds after image left)

pub returns-clause-crash : goal.returns-clause-crash
returns-clause-crash g c nodes image holds left =
    let heap = g.met.H.HeapSeat in
    let view = g.H.HeapSeat.view in
    let v = view c.args.heap.now in
    let t = view c.load.new.self in
    let r = view c.make_node.new.heap in
    let keeps = load_then v t r c.load.ensures.unchanged c.load.ensures.counted.goes_on.kinds c.make_node.ensures.others in
    let led = led_then v t r nodes c.in_ok-next.next c.load.ensures.unchanged c.in_ok-next.ensures.ok.seen keeps holds in
    let after = c.persist.new.heap in
    one_or_other r (view c.persist.new.heap) c.in_ok-node.node c.in_ok-next.next c.encode.result nodes (heap.seat c.make_node.new.heap)
    (holds_then v r nodes (heap.seat c.args.heap.now) keeps holds) c.in_ok-node.ensures.held led c.in_ok-node.ensures.link c.encode.ensures
    c.persist.ensures.crash c.persist.ensures.calls.goes_on.kinds
    image (heap.seat after) (heap.mixed after image left) (heap.named after image left) (heap.stored_kinds after image left)

pub returns-clause-ok : goal.returns-clause-ok
returns-clause-ok g c nodes holds =
    let heap = g.met.H.HeapSeat in
    let view = g.H.HeapSeat.view in
    let v = view c.args.heap.now in
    let t = view c.load.new.self in
    let r = view c.make_node.new.heap in
    let keeps = load_then v t r c.load.ensures.unchanged c.load.ensures.counted.goes_on.kinds c.make_node.ensures.others in
    let led = led_then v t r nodes c.in_ok-next.next c.load.ensures.unchanged c.in_ok-next.ensures.ok.seen keeps holds in
    with_node r (view c.persist.new.heap) c.in_ok-node.node c.in_ok-next.next c.encode.result nodes (heap.seat c.make_node.new.heap)
    (holds_then v r nodes (heap.seat c.args.heap.now) keeps holds) c.in_ok-node.ensures.held led c.in_ok-node.ensures.link c.encode.ensures
    c.persist.ensures.crash c.persist.ensures.calls.goes_on.kinds
    (record { seen = c.in_ok-persist.ensures.ok; left = c.in_ok-persist.ensures.durable })
