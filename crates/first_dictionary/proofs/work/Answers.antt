use Rattle.std.proofs.Common.{arith}
use Rattle.block_heap.specs.Laws.{seat_law}
use Rattle.block_heap.specs.SeqState.{seat_of}
use Rattle.first_dictionary.proofs.work.Goals as goal

pub put-requires-2-clause-shard : goal.put-requires-2-clause-shard
put-requires-2-clause-shard c =
    let on = c.requests_go_on_from_shard_to_shard.ensures.goes_on in
    let first = on (seat_of c.args.heap.now) (seat_of c.put.new.seat) 1 _ _ (seat_law c.args.heap.now) c.in_ok-put.ensures.crash
    (omega arith) c.requires c.in_ok-put.ensures.ok in
    first.each 2 (omega arith)

pub get-requires-clause-shard : goal.get-requires-clause-shard
get-requires-clause-shard c =
    let on = c.requests_go_on_from_shard_to_shard.ensures.goes_on in
    let first = on (seat_of c.args.heap.now) (seat_of c.put.new.seat) 1 _ _ (seat_law c.args.heap.now) c.in_ok-put.ensures.crash
    (omega arith) c.requires c.in_ok-put.ensures.ok in
    let second = on (seat_of c.put.new.seat) (seat_of c.put-2.new.seat) 2 _ _ (seat_law c.put.new.seat) c.in_ok-put-2.ensures.crash
    (omega arith) first c.in_ok-put-2.ensures.ok in
    second.each 1 (omega arith)

pub del-requires-clause-shard : goal.del-requires-clause-shard
del-requires-clause-shard c =
    let on = c.requests_go_on_from_shard_to_shard.ensures.goes_on in
    let first = on (seat_of c.args.heap.now) (seat_of c.put.new.seat) 1 _ _ (seat_law c.args.heap.now) c.in_ok-put.ensures.crash
    (omega arith) c.requires c.in_ok-put.ensures.ok in
    let second = on (seat_of c.put.new.seat) (seat_of c.put-2.new.seat) 2 _ _ (seat_law c.put.new.seat) c.in_ok-put-2.ensures.crash
    (omega arith) first c.in_ok-put-2.ensures.ok in
    let third = on (seat_of c.put-2.new.seat) (seat_of c.get.new.seat) 1 _ _ (seat_law c.put-2.new.seat) c.get.ensures.crash
    (omega arith) second c.get.ensures.maps in
    third.each 2 (omega arith)

pub put-requires-3-clause-shard : goal.put-requires-3-clause-shard
put-requires-3-clause-shard c =
    let on = c.requests_go_on_from_shard_to_shard.ensures.goes_on in
    let first = on (seat_of c.args.heap.now) (seat_of c.put.new.seat) 1 _ _ (seat_law c.args.heap.now) c.in_ok-put.ensures.crash
    (omega arith) c.requires c.in_ok-put.ensures.ok in
    let second = on (seat_of c.put.new.seat) (seat_of c.put-2.new.seat) 2 _ _ (seat_law c.put.new.seat) c.in_ok-put-2.ensures.crash
    (omega arith) first c.in_ok-put-2.ensures.ok in
    let third = on (seat_of c.put-2.new.seat) (seat_of c.get.new.seat) 1 _ _ (seat_law c.put-2.new.seat) c.get.ensures.crash
    (omega arith) second c.get.ensures.maps in
    let fourth = on (seat_of c.get.new.seat) (seat_of c.del.new.seat) 2 _ _ (seat_law c.get.new.seat) c.in_ok-found.ensures.crash
    (omega arith) third (record { gives = c.in_ok-found.ensures.ok.gives }) in
    fourth.each 1 (omega arith)
