use Rattle.std.proofs.Common.{ℕ, ◌+◌, ◌*◌, length, List, Contains, subst, sym, ◌∙◌, arith}
use Rattle.std.proofs.lemmas.Result.{err_from_is_err_and}
use Rattle.heap_model.specs.declared.block.Block.{Block}
use Rattle.heap_model.specs.Sizes.{span_of}
use Rattle.heap_seat.specs.Words.{MayHaveStored}
use Rattle.heap_seat.proofs.RowLemmas.{row_then, row_more, same_refusals_then}
use Rattle.dict_model.specs.Nodes.{shard_of, bucket_of, value_words, node_bytes}
use Rattle.dict_model.specs.Requests.{with_key}
use Rattle.dict_requests.specs.Quiet.{FollowsLink}
use Rattle.dict_requests.specs.Trails.{IsDurableAt}
use Rattle.dict_requests.proofs.GrownLemmas.{grown_keeps, grown_then}
use Rattle.dict_requests.proofs.ChangeLemmas.{change_none}
use Rattle.dict_requests.proofs.PutLemmas.{has_node}
use Rattle.dict_requests.proofs.FirstLemmas.{put_fails, first_left, first_done, all_first}
use Rattle.dict_requests.proofs.TrailLemmas.{bucket_below}
use Rattle.dict_requests.proofs.TurnedDownLemmas.{turned_down_behind}
use Rattle.dict_requests.proofs.publish.put_first.Goals as goal

pub returns-in_err-first-clause-crash : goal.returns-in_err-first-clause-crash
returns-in_err-first-clause-crash g c =
    let view = g.H.HeapSeat.view in
    let v = view c.args.seat.now in
    let t = view c.follow.new.seat in
    change_none (shard_of c.args.key) (λ map. with_key map c.args.key c.args.value.now) v t
    (grown_keeps v t c.follow.ensures.quiet.unchanged) c.follow.ensures.quiet.calls.goes_on.kinds
    (g.met.H.HeapSeat.seat c.follow.new.seat) c.requires.shard.only

pub returns-in_err-node-clause-crash : goal.returns-in_err-node-clause-crash
returns-in_err-node-clause-crash g c =
    let view = g.H.HeapSeat.view in
    let v = view c.args.seat.now in
    let t = view c.follow.new.seat in
    let u = view c.make_node.new.seat in
    change_none (shard_of c.args.key) (λ map. with_key map c.args.key c.args.value.now) v u
    (grown_then v t u (grown_keeps v t c.follow.ensures.quiet.unchanged) c.make_node.ensures.grown) (c.make_node.ensures.calls.goes_on.kinds
    ∙ c.follow.ensures.quiet.calls.goes_on.kinds) (g.met.H.HeapSeat.seat c.make_node.new.seat) c.requires.shard.only

pub returns-in_err-node-clause-cause : goal.returns-in_err-node-clause-cause
returns-in_err-node-clause-cause g c =
    let view = g.H.HeapSeat.view in
    let v = view c.args.seat.now in
    let t = view c.follow.new.seat in
    let u = view c.make_node.new.seat in
    let p = err_from_is_err_and c.from_residual-in_err-node.result c.from_residual-in_err-node.ensures.1 in
    rw (p.1, p.2)
    (put_fails (node_bytes (length c.args.value.now)) c.in_err-node.field-0.0 v t u c.in_ok-first.ensures.ok.goes.runs c.follow.ensures.quiet.unchanged
    c.follow.ensures.quiet.refusals c.follow.ensures.quiet.calls.few c.in_err-node.ensures.full c.in_err-node.ensures.cause)

pub overflow_mul-node : goal.overflow_mul-node
overflow_mul-node g c = let short = ((g.met.H.HeapSeat.seat c.make_node.new.seat).placed c.in_ok-node.node
    c.in_ok-node.ensures.ok.held).short in omega arith

pub encode-requires : goal.encode-requires
encode-requires g c = let short = ((g.met.H.HeapSeat.seat c.make_node.new.seat).placed c.in_ok-node.node c.in_ok-node.ensures.ok.held).short in
    omega arith

pub persist-requires : goal.persist-requires
persist-requires g c =
    let view = g.H.HeapSeat.view in
    let t = view c.follow.new.seat in
    let held : Contains t.held c.args.table = subst (λ (bs : List Block). Contains bs c.args.table)
    (sym c.follow.ensures.quiet.unchanged.held) c.requires.missing.come.held_table in
    let below = bucket_below c.args.key in
    let size = c.requires.missing.come.size in
    let is = c.bucket_of.ensures in
    (c.make_node.ensures.grown.keeps c.args.table held, omega arith)

pub returns-in_err-persist-clause-crash : goal.returns-in_err-persist-clause-crash
returns-in_err-persist-clause-crash g c =
    let view = g.H.HeapSeat.view in
    let v = view c.args.seat.now in
    let t = view c.follow.new.seat in
    let u = view c.make_node.new.seat in
    let w = view c.persist.new.heap in
    let bucket = c.bucket_of.ensures in
    let follows = subst (λ (k : ℕ). FollowsLink (c.args.table.first_word + k) c.in_ok-first.first v t) bucket c.in_ok-first.ensures.ok in
    let may = subst (λ (k : ℕ). MayHaveStored (c.args.table.first_word + k) c.encode.result u w) bucket c.persist.ensures.crash in
    first_left v t u w (g.met.H.HeapSeat.seat c.follow.new.seat) (g.met.H.HeapSeat.seat c.make_node.new.seat)
    c.args.key c.in_ok-first.first c.encode.result c.args.value.now c.args.table c.in_ok-node.node
    c.requires.shard c.requires.missing (g.met.H.HeapSeat.seat c.args.seat.now) c.follow.ensures.quiet.unchanged follows c.make_node.ensures.grown
    (has_node t u c.in_ok-node.node c.args.key c.in_ok-first.first c.args.value.now c.requires.short
    (λ k less. omega (arith, c.type_inv.value k)) c.in_ok-node.ensures.ok)
    c.encode.ensures.tagged may c.follow.ensures.quiet.calls.goes_on.kinds c.make_node.ensures.calls.goes_on.kinds c.persist.ensures.calls.goes_on.kinds

pub returns-clause-crash : goal.returns-clause-crash
returns-clause-crash g c =
    let view = g.H.HeapSeat.view in
    let v = view c.args.seat.now in
    let t = view c.follow.new.seat in
    let u = view c.make_node.new.seat in
    let w = view c.persist.new.heap in
    let bucket = c.bucket_of.ensures in
    let follows = subst (λ (k : ℕ). FollowsLink (c.args.table.first_word + k) c.in_ok-first.first v t) bucket c.in_ok-first.ensures.ok in
    let may = subst (λ (k : ℕ). MayHaveStored (c.args.table.first_word + k) c.encode.result u w) bucket c.persist.ensures.crash in
    first_left v t u w (g.met.H.HeapSeat.seat c.follow.new.seat) (g.met.H.HeapSeat.seat c.make_node.new.seat)
    c.args.key c.in_ok-first.first c.encode.result c.args.value.now c.args.table c.in_ok-node.node
    c.requires.shard c.requires.missing (g.met.H.HeapSeat.seat c.args.seat.now) c.follow.ensures.quiet.unchanged follows c.make_node.ensures.grown
    (has_node t u c.in_ok-node.node c.args.key c.in_ok-first.first c.args.value.now c.requires.short
    (λ k less. omega (arith, c.type_inv.value k)) c.in_ok-node.ensures.ok)
    c.encode.ensures.tagged may c.follow.ensures.quiet.calls.goes_on.kinds c.make_node.ensures.calls.goes_on.kinds c.persist.ensures.calls.goes_on.kinds

pub returns-clause-ok : goal.returns-clause-ok
returns-clause-ok g c =
    let view = g.H.HeapSeat.view in
    let v = view c.args.seat.now in
    let t = view c.follow.new.seat in
    let u = view c.make_node.new.seat in
    let w = view c.persist.new.heap in
    let bucket = c.bucket_of.ensures in
    let follows = subst (λ (k : ℕ). FollowsLink (c.args.table.first_word + k) c.in_ok-first.first v t) bucket c.in_ok-first.ensures.ok in
    let may = subst (λ (k : ℕ). MayHaveStored (c.args.table.first_word + k) c.encode.result u w) bucket c.persist.ensures.crash in
    let settled : IsDurableAt w (c.args.table.first_word + bucket_of c.args.key) c.encode.result =
    subst (λ (k : ℕ). IsDurableAt w (c.args.table.first_word + k) c.encode.result) bucket
    (record { seen = c.in_ok-persist.ensures.ok; left = c.in_ok-persist.ensures.durable }) in
    first_done v t u w (g.met.H.HeapSeat.seat c.follow.new.seat) (g.met.H.HeapSeat.seat c.make_node.new.seat)
    c.args.key c.in_ok-first.first c.encode.result c.args.value.now c.args.table c.in_ok-node.node
    c.requires.shard c.requires.missing (g.met.H.HeapSeat.seat c.args.seat.now) c.follow.ensures.quiet.unchanged follows c.make_node.ensures.grown
    (has_node t u c.in_ok-node.node c.args.key c.in_ok-first.first c.args.value.now c.requires.short
    (λ k less. omega (arith, c.type_inv.value k)) c.in_ok-node.ensures.ok)
    c.encode.ensures.tagged may c.follow.ensures.quiet.calls.goes_on.kinds c.make_node.ensures.calls.goes_on.kinds
    c.persist.ensures.calls.goes_on.kinds settled

pub returns-in_err-persist-clause-calls : goal.returns-in_err-persist-clause-calls
returns-in_err-persist-clause-calls g c =
    let view = g.H.HeapSeat.view in
    let v = view c.args.seat.now in
    let t = view c.follow.new.seat in
    let u = view c.make_node.new.seat in
    let w = view c.persist.new.heap in
    let n = value_words (length c.args.value.now) in
    let most = span_of (node_bytes (length c.args.value.now)) in
    let a = row_then 2 0 0 (2 * n + 7) 1 most v t u c.follow.ensures.quiet.calls c.make_node.ensures.calls in
    row_more (2 + (2 * n + 7) + 3) (0 + 1 + 0) (0 + most + 0) (2 * n + 12) 1 most v w (omega arith) (omega arith) (omega arith)
    (row_then (2 + (2 * n + 7)) (0 + 1) (0 + most) 3 0 0 v u w a c.persist.ensures.calls)

pub returns-clause-calls : goal.returns-clause-calls
returns-clause-calls g c =
    let view = g.H.HeapSeat.view in
    let v = view c.args.seat.now in
    let t = view c.follow.new.seat in
    let u = view c.make_node.new.seat in
    let w = view c.persist.new.heap in
    let n = value_words (length c.args.value.now) in
    let most = span_of (node_bytes (length c.args.value.now)) in
    let a = row_then 2 0 0 (2 * n + 7) 1 most v t u c.follow.ensures.quiet.calls c.make_node.ensures.calls in
    row_more (2 + (2 * n + 7) + 3) (0 + 1 + 0) (0 + most + 0) (2 * n + 12) 1 most v w (omega arith) (omega arith) (omega arith)
    (row_then (2 + (2 * n + 7)) (0 + 1) (0 + most) 3 0 0 v u w a c.persist.ensures.calls)

pub returns-clause-exact : goal.returns-clause-exact
returns-clause-exact g c =
    let view = g.H.HeapSeat.view in
    let v = view c.args.seat.now in
    let t = view c.follow.new.seat in
    let u = view c.make_node.new.seat in
    let w = view c.persist.new.heap in
    let bucket = c.bucket_of.ensures in
    let follows = subst (λ (k : ℕ). FollowsLink (c.args.table.first_word + k) c.in_ok-first.first v t) bucket c.in_ok-first.ensures.ok in
    let may = subst (λ (k : ℕ). MayHaveStored (c.args.table.first_word + k) c.encode.result u w) bucket c.persist.ensures.crash in
    let settled : IsDurableAt w (c.args.table.first_word + bucket_of c.args.key) c.encode.result =
    subst (λ (k : ℕ). IsDurableAt w (c.args.table.first_word + k) c.encode.result) bucket
    (record { seen = c.in_ok-persist.ensures.ok; left = c.in_ok-persist.ensures.durable }) in
    all_first v t u w (g.met.H.HeapSeat.seat c.follow.new.seat) (g.met.H.HeapSeat.seat c.make_node.new.seat)
    c.args.key c.in_ok-first.first c.encode.result c.args.value.now c.args.table c.in_ok-node.node
    c.requires.shard c.requires.missing (g.met.H.HeapSeat.seat c.args.seat.now) c.follow.ensures.quiet.unchanged follows c.make_node.ensures.grown
    (has_node t u c.in_ok-node.node c.args.key c.in_ok-first.first c.args.value.now c.requires.short
    (λ k less. omega (arith, c.type_inv.value k)) c.in_ok-node.ensures.ok)
    c.encode.ensures.tagged may c.follow.ensures.quiet.calls.goes_on.kinds c.make_node.ensures.calls.goes_on.kinds
    c.persist.ensures.calls.goes_on.kinds (g.met.H.HeapSeat.seat c.persist.new.heap) settled

pub returns-in_err-node-clause-none : goal.returns-in_err-node-clause-none
returns-in_err-node-clause-none g c =
    let heap = g.H.HeapSeat in
    let p = err_from_is_err_and c.from_residual-in_err-node.result c.from_residual-in_err-node.ensures.1 in
    rw (p.1, p.2)
    (λ looks is. turned_down_behind heap.keeps heap.has_none g.met.H.HeapSeat.keeps_row
    (node_bytes (length c.args.value.now)) looks c.args.seat.now c.follow.new.seat c.make_node.new.seat
    c.follow.ensures.kept (c.in_err-node.ensures.none looks is))

pub returns-clause-refusals : goal.returns-clause-refusals
returns-clause-refusals g c =
    let view = g.H.HeapSeat.view in
    let v = view c.args.seat.now in
    let t = view c.follow.new.seat in
    let u = view c.make_node.new.seat in
    let w = view c.persist.new.heap in
    same_refusals_then v u w (same_refusals_then v t u c.follow.ensures.quiet.refusals c.in_ok-node.ensures.ok.refusals) c.persist.ensures.refusals
