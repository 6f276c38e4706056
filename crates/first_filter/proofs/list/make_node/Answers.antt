use Rattle.std.proofs.Common.{◌≡◌, ◌+◌, refl, subst, arith}
use Rattle.heap_model.specs.Blocks.{IsIn}
use Rattle.heap_seat.proofs.CallerLemmas.{held_in}
use Rattle.first_filter.specs.Lists.{IsKept}
use Rattle.first_filter.proofs.Kept.{two_words, own_others, new_then, beside_store, beside_then}
use Rattle.first_filter.proofs.list.make_node.Goals as goal

pub returns-in_err-node-clause-others : goal.returns-in_err-node-clause-others
returns-in_err-node-clause-others g c =
    own_others (g.H.HeapSeat.view c.args.heap.now) (g.H.HeapSeat.view c.alloc.new.self) c.in_err-node.ensures.unchanged
    c.alloc.ensures.counted.goes_on.kinds

pub returns-in_err-persist-clause-others : goal.returns-in_err-persist-clause-others
returns-in_err-persist-clause-others g c =
    let heap = g.met.H.HeapSeat in
    let view = g.H.HeapSeat.view in
    let node = c.in_ok-node.node in
    let u = view c.alloc.new.self in
    let s = view c.persist.new.heap in
    let two = two_words node.words _ c.in_ok-node.ensures.ok.size refl in
    let one_in : IsIn node (node.first_word + 1) = record { from = omega arith; until = omega arith } in
    let valued = beside_store node (node.first_word + 1) c.args.value u s one_in c.persist.ensures.crash c.persist.ensures.calls.goes_on.kinds in
    new_then _ node (view c.args.heap.now) u s (heap.seat c.args.heap.now) (heap.seat c.alloc.new.self) c.in_ok-node.ensures.ok
    c.alloc.ensures.counted.goes_on.kinds valued

pub returns-in_err-persist-2-clause-others : goal.returns-in_err-persist-2-clause-others
returns-in_err-persist-2-clause-others g c =
    let heap = g.met.H.HeapSeat in
    let view = g.H.HeapSeat.view in
    let node = c.in_ok-node.node in
    let u = view c.alloc.new.self in
    let s = view c.persist.new.heap in
    let two = two_words node.words _ c.in_ok-node.ensures.ok.size refl in
    let one_in : IsIn node (node.first_word + 1) = record { from = omega arith; until = omega arith } in
    let valued = beside_store node (node.first_word + 1) c.args.value u s one_in c.persist.ensures.crash c.persist.ensures.calls.goes_on.kinds in
    let w = view c.persist-2.new.heap in
    let zero_in : IsIn node (node.first_word + 0) = record { from = omega arith; until = omega arith } in
    let linked = beside_then node u s w valued
    (beside_store node (node.first_word + 0) c.args.next s w zero_in c.persist-2.ensures.crash c.persist-2.ensures.calls.goes_on.kinds) in
    new_then _ node (view c.args.heap.now) u w (heap.seat c.args.heap.now) (heap.seat c.alloc.new.self) c.in_ok-node.ensures.ok
    c.alloc.ensures.counted.goes_on.kinds linked

pub returns-clause-others : goal.returns-clause-others
returns-clause-others g c =
    let heap = g.met.H.HeapSeat in
    let view = g.H.HeapSeat.view in
    let node = c.in_ok-node.node in
    let u = view c.alloc.new.self in
    let s = view c.persist.new.heap in
    let two = two_words node.words _ c.in_ok-node.ensures.ok.size refl in
    let one_in : IsIn node (node.first_word + 1) = record { from = omega arith; until = omega arith } in
    let valued = beside_store node (node.first_word + 1) c.args.value u s one_in c.persist.ensures.crash c.persist.ensures.calls.goes_on.kinds in
    let w = view c.persist-2.new.heap in
    let zero_in : IsIn node (node.first_word + 0) = record { from = omega arith; until = omega arith } in
    let linked = beside_then node u s w valued
    (beside_store node (node.first_word + 0) c.args.next s w zero_in c.persist-2.ensures.crash c.persist-2.ensures.calls.goes_on.kinds) in
    new_then _ node (view c.args.heap.now) u w (heap.seat c.args.heap.now) (heap.seat c.alloc.new.self) c.in_ok-node.ensures.ok
    c.alloc.ensures.counted.goes_on.kinds linked

pub returns-clause-held : goal.returns-clause-held
returns-clause-held g c =
    let view = g.H.HeapSeat.view in
    held_in (view c.persist.new.heap) (view c.persist-2.new.heap) c.in_ok-node.node c.persist-2.ensures.crash.held
    (held_in (view c.alloc.new.self) (view c.persist.new.heap) c.in_ok-node.node c.persist.ensures.crash.held c.in_ok-node.ensures.ok.blocks.has)

pub returns-clause-link : goal.returns-clause-link
returns-clause-link g c =
    let w = g.H.HeapSeat.view c.persist-2.new.heap in
    let place : c.in_ok-node.node.first_word + 0 ≡ c.in_ok-node.node.first_word = omega arith in
    subst (λ word. IsKept w word c.args.next) place (record { seen = c.in_ok-persist-2.ensures.ok; left = c.in_ok-persist-2.ensures.durable })
