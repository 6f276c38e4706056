use Rattle.std.proofs.Common.{ℕ, subst}
use Rattle.heap_model.specs.Geometry.{root_word}
use Rattle.dict_model.specs.Nodes.{shard_of}
use Rattle.dict_requests.specs.Quiet.{FollowsLink}
use Rattle.dict_requests.proofs.SearchLemmas.{root_null_or_held, table_found}
use Rattle.dict_requests.proofs.search.table_of.Goals as goal

pub block_of-requires : goal.block_of-requires
block_of-requires g c =
    let view = g.H.HeapSeat.view in
    let v = view c.args.seat.now in
    let w = view c.follow.new.seat in
    let follows = subst (λ (i : ℕ). FollowsLink (root_word i) c.in_ok-word.word v w) c.shard_of.ensures c.in_ok-word.ensures.ok in
    root_null_or_held v w (shard_of c.args.key) c.in_ok-word.word (g.met.H.HeapSeat.seat c.follow.new.seat)
    c.requires c.follow.ensures.quiet.unchanged c.follow.ensures.quiet.calls.goes_on.kinds follows

pub returns-clause-ok : goal.returns-clause-ok
returns-clause-ok g c =
    let view = g.H.HeapSeat.view in
    let v = view c.args.seat.now in
    let w = view c.follow.new.seat in
    let follows = subst (λ (i : ℕ). FollowsLink (root_word i) c.in_ok-word.word v w) c.shard_of.ensures c.in_ok-word.ensures.ok in
    table_found v w (shard_of c.args.key) c.in_ok-word.word (g.met.H.HeapSeat.seat c.follow.new.seat)
    c.requires c.follow.ensures.quiet.unchanged c.follow.ensures.quiet.calls.goes_on.kinds follows c.block_of.result
    c.block_of.ensures.some c.block_of.ensures.none
