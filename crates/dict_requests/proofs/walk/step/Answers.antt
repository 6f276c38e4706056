use Rattle.std.proofs.Common.{Some, ap, ◌∙◌, arith}
use Rattle.heap_seat.specs.View.{word_of}
use Rattle.dict_requests.proofs.WalkLemmas.{null_or_node, node_at, key_loaded}
use Rattle.dict_requests.proofs.walk.step.Goals as goal

pub block_of-requires : goal.block_of-requires
block_of-requires g c =
    let view = g.H.HeapSeat.view in
    null_or_node (view c.args.seat.now) c.args.key (word_of c.args.link) c.requires.walk.0 (g.met.H.HeapSeat.seat c.args.seat.now) c.requires.walk.1
    (view c.follow.new.seat) c.in_ok-word.word c.follow.ensures.quiet.unchanged c.in_ok-word.ensures.ok

pub load-requires : goal.load-requires
load-requires g c =
    let view = g.H.HeapSeat.view in
    let node = node_at (view c.args.seat.now) c.args.key (word_of c.args.link) c.requires.walk.0
    (g.met.H.HeapSeat.seat c.args.seat.now) c.requires.walk.1
    (view c.follow.new.seat) c.in_ok-word.word c.follow.ensures.quiet.unchanged c.in_ok-word.ensures.ok
    (g.met.H.HeapSeat.seat c.follow.new.seat) c.in-Some.node c.in-Some.ensures.some in
    let room = node.room in
    (node.held, omega arith)

pub returns-then-branch-key-clause-ok : goal.returns-then-branch-key-clause-ok
returns-then-branch-key-clause-ok g c =
    let view = g.H.HeapSeat.view in
    let found = key_loaded (view c.args.seat.now) (view c.follow.new.seat) (view c.load.new.self) c.args.key
    (word_of c.args.link) c.in_ok-word.word c.in_ok-load.field-0 c.requires.walk.0 c.in-Some.node
    (g.met.H.HeapSeat.seat c.args.seat.now) (g.met.H.HeapSeat.seat c.follow.new.seat)
    c.requires.walk.1 c.follow.ensures.quiet.unchanged c.in_ok-word.ensures.ok c.in-Some.ensures.some
    c.load.ensures.unchanged c.in_ok-load.ensures.ok in
    let same = c.if-branch-key.true in
    record { goes = found.0; leads = (found.1, found.2 ∙ ap (λ n. Some n) same) }

pub returns-else-branch-key-clause-ok : goal.returns-else-branch-key-clause-ok
returns-else-branch-key-clause-ok g c =
    let view = g.H.HeapSeat.view in
    let found = key_loaded (view c.args.seat.now) (view c.follow.new.seat) (view c.load.new.self) c.args.key
    (word_of c.args.link) c.in_ok-word.word c.in_ok-load.field-0 c.requires.walk.0 c.in-Some.node
    (g.met.H.HeapSeat.seat c.args.seat.now) (g.met.H.HeapSeat.seat c.follow.new.seat)
    c.requires.walk.1 c.follow.ensures.quiet.unchanged c.in_ok-word.ensures.ok c.in-Some.ensures.some
    c.load.ensures.unchanged c.in_ok-load.ensures.ok in
    record { goes = found.0; leads = (found.1, (c.in_ok-load.field-0, found.2, c.if-branch-key.false)) }
