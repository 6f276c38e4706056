use Rattle.std.proofs.Common.{ℕ, ◌+◌, subst, arith}
use Rattle.heap_seat.specs.Words.{MayHaveStored}
use Rattle.dict_model.specs.Nodes.{bucket_of}
use Rattle.dict_model.specs.Requests.{with_key}
use Rattle.dict_requests.specs.Quiet.{FollowsLink}
use Rattle.dict_requests.specs.Trails.{IsDurableAt}
use Rattle.dict_requests.proofs.BringLemmas.{quiet_left, head_left, first_brought, first_is_done, first_reaches}
use Rattle.dict_requests.proofs.bringing.bring_first.Goals as goal

pub returns-in_err-first-clause-crash : goal.returns-in_err-first-clause-crash
returns-in_err-first-clause-crash g c =
    let view = g.H.HeapSeat.view in
    let quiet = c.follow.ensures.quiet in
    λ value node. quiet_left (view c.args.seat.now) (view c.follow.new.seat) (g.met.H.HeapSeat.seat c.args.seat.now)
    (g.met.H.HeapSeat.seat c.follow.new.seat) c.args.key c.args.node c.requires.shard c.requires.loose (let fits = c.requires.node.1.fits in
    omega arith)
    quiet.unchanged quiet.calls.goes_on.kinds (λ map. with_key map c.args.key value)

pub returns-in_err-write_head-clause-crash : goal.returns-in_err-write_head-clause-crash
returns-in_err-write_head-clause-crash g c =
    let view = g.H.HeapSeat.view in
    let quiet = c.follow.ensures.quiet in
    λ value node. head_left (view c.args.seat.now) (view c.follow.new.seat) (g.met.H.HeapSeat.seat c.args.seat.now)
    (g.met.H.HeapSeat.seat c.follow.new.seat) c.args.key c.args.node c.requires.shard c.requires.loose (let fits = c.requires.node.1.fits in
    omega arith)
    quiet.unchanged quiet.calls.goes_on.kinds (view c.write_head.new.seat)
    (g.met.H.HeapSeat.seat c.write_head.new.seat) c.write_head.ensures.within (λ map. with_key map c.args.key value)

pub overflow_mul-node : goal.overflow_mul-node
overflow_mul-node g c = let short = ((g.met.H.HeapSeat.seat c.args.seat.now).placed c.args.node c.requires.loose.held).short in omega arith

pub encode-requires : goal.encode-requires
encode-requires g c = let short = ((g.met.H.HeapSeat.seat c.args.seat.now).placed c.args.node c.requires.loose.held).short in omega arith

pub returns-in_err-persist-clause-crash : goal.returns-in_err-persist-clause-crash
returns-in_err-persist-clause-crash g c =
    let view = g.H.HeapSeat.view in
    let quiet = c.follow.ensures.quiet in
    let v = view c.args.seat.now in
    let t = view c.follow.new.seat in
    let u = view c.write_head.new.seat in
    let w = view c.persist.new.heap in
    let table = c.args.table in
    let bucket = c.bucket_of.ensures in
    let follows = subst (λ (k : ℕ). FollowsLink (table.first_word + k) c.in_ok-first.first v t) bucket c.in_ok-first.ensures.ok in
    let may = subst (λ (k : ℕ). MayHaveStored (table.first_word + k) c.encode.result u w) bucket c.persist.ensures.crash in
    λ value node. first_brought v t (g.met.H.HeapSeat.seat c.args.seat.now)
    (g.met.H.HeapSeat.seat c.follow.new.seat) c.args.key c.args.node c.requires.shard c.requires.loose (let fits = c.requires.node.1.fits in
    omega arith)
    quiet.unchanged quiet.calls.goes_on.kinds u (g.met.H.HeapSeat.seat c.write_head.new.seat)
    c.write_head.ensures.within c.in_ok-first.first c.in_ok-write_head.ensures.ok value node
    table c.requires.missing follows w c.encode.result c.encode.ensures.tagged may c.persist.ensures.calls.goes_on.kinds

pub returns-clause-crash : goal.returns-clause-crash
returns-clause-crash g c =
    let view = g.H.HeapSeat.view in
    let quiet = c.follow.ensures.quiet in
    let v = view c.args.seat.now in
    let t = view c.follow.new.seat in
    let u = view c.write_head.new.seat in
    let w = view c.persist.new.heap in
    let table = c.args.table in
    let bucket = c.bucket_of.ensures in
    let follows = subst (λ (k : ℕ). FollowsLink (table.first_word + k) c.in_ok-first.first v t) bucket c.in_ok-first.ensures.ok in
    let may = subst (λ (k : ℕ). MayHaveStored (table.first_word + k) c.encode.result u w) bucket c.persist.ensures.crash in
    λ value node. first_brought v t (g.met.H.HeapSeat.seat c.args.seat.now)
    (g.met.H.HeapSeat.seat c.follow.new.seat) c.args.key c.args.node c.requires.shard c.requires.loose (let fits = c.requires.node.1.fits in
    omega arith)
    quiet.unchanged quiet.calls.goes_on.kinds u (g.met.H.HeapSeat.seat c.write_head.new.seat)
    c.write_head.ensures.within c.in_ok-first.first c.in_ok-write_head.ensures.ok value node
    table c.requires.missing follows w c.encode.result c.encode.ensures.tagged may c.persist.ensures.calls.goes_on.kinds

pub returns-clause-ok : goal.returns-clause-ok
returns-clause-ok g c =
    let view = g.H.HeapSeat.view in
    let quiet = c.follow.ensures.quiet in
    let v = view c.args.seat.now in
    let t = view c.follow.new.seat in
    let u = view c.write_head.new.seat in
    let w = view c.persist.new.heap in
    let table = c.args.table in
    let bucket = c.bucket_of.ensures in
    let follows = subst (λ (k : ℕ). FollowsLink (table.first_word + k) c.in_ok-first.first v t) bucket c.in_ok-first.ensures.ok in
    let may = subst (λ (k : ℕ). MayHaveStored (table.first_word + k) c.encode.result u w) bucket c.persist.ensures.crash in
    let settled : IsDurableAt w (table.first_word + bucket_of c.args.key) c.encode.result =
    subst (λ (k : ℕ). IsDurableAt w (table.first_word + k) c.encode.result) bucket
    (record { seen = c.in_ok-persist.ensures.ok; left = c.in_ok-persist.ensures.durable }) in
    λ value node. first_is_done v t (g.met.H.HeapSeat.seat c.args.seat.now)
    (g.met.H.HeapSeat.seat c.follow.new.seat) c.args.key c.args.node c.requires.shard c.requires.loose (let fits = c.requires.node.1.fits in
    omega arith)
    quiet.unchanged quiet.calls.goes_on.kinds u (g.met.H.HeapSeat.seat c.write_head.new.seat)
    c.write_head.ensures.within c.in_ok-first.first c.in_ok-write_head.ensures.ok value node
    table c.requires.missing follows w c.encode.result c.encode.ensures.tagged may c.persist.ensures.calls.goes_on.kinds settled

pub returns-clause-exact : goal.returns-clause-exact
returns-clause-exact g c =
    let view = g.H.HeapSeat.view in
    let quiet = c.follow.ensures.quiet in
    let v = view c.args.seat.now in
    let t = view c.follow.new.seat in
    let u = view c.write_head.new.seat in
    let w = view c.persist.new.heap in
    let table = c.args.table in
    let bucket = c.bucket_of.ensures in
    let follows = subst (λ (k : ℕ). FollowsLink (table.first_word + k) c.in_ok-first.first v t) bucket c.in_ok-first.ensures.ok in
    let may = subst (λ (k : ℕ). MayHaveStored (table.first_word + k) c.encode.result u w) bucket c.persist.ensures.crash in
    let settled : IsDurableAt w (table.first_word + bucket_of c.args.key) c.encode.result =
    subst (λ (k : ℕ). IsDurableAt w (table.first_word + k) c.encode.result) bucket
    (record { seen = c.in_ok-persist.ensures.ok; left = c.in_ok-persist.ensures.durable }) in
    λ value node. first_reaches v t (g.met.H.HeapSeat.seat c.args.seat.now)
    (g.met.H.HeapSeat.seat c.follow.new.seat) c.args.key c.args.node c.requires.shard c.requires.loose (let fits = c.requires.node.1.fits in
    omega arith)
    quiet.unchanged quiet.calls.goes_on.kinds u (g.met.H.HeapSeat.seat c.write_head.new.seat)
    c.write_head.ensures.within c.in_ok-first.first c.in_ok-write_head.ensures.ok value node
    table c.requires.missing follows w c.encode.result c.encode.ensures.tagged may c.persist.ensures.calls.goes_on.kinds
    (g.met.H.HeapSeat.seat c.persist.new.heap) settled
