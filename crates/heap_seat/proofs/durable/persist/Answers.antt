use Rattle.std.proofs.Common.{◌∙◌, sym}
use Rattle.std.proofs.lemmas.Result.{on_ok_weaker}
use Rattle.heap_seat.specs.View.{word_of}
use Rattle.heap_seat.proofs.CallerLemmas.{own_spot, own_same, spot_written, seen_then, store_then, keeps_own_then, publish_settles}
use Rattle.heap_seat.proofs.durable.persist.Goals as goal

pub returns-in_err-write_back-clause-crash : goal.returns-in_err-write_back-clause-crash
returns-in_err-write_back-clause-crash g c =
    let view = g.H.HeapSeat.view in
    store_then (word_of c.args.s) c.args.value (view c.args.heap.now) (view c.store.new.self) (view c.write_back.new.self)
    (own_spot (view c.args.heap.now) c.args.s c.requires) c.store.ensures.crash c.write_back.ensures.unchanged

pub returns-clause-ok : goal.returns-clause-ok
returns-clause-ok g c =
    let view = g.H.HeapSeat.view in
    let word = word_of c.args.s in
    let v = view c.args.heap.now in
    let u = view c.store.new.self in
    let t = view c.write_back.new.self in
    let w = view c.fence.new.self in
    let own = own_same v u word c.store.ensures.crash.held c.store.ensures.crash.roots (own_spot v c.args.s c.requires) in
    let both = keeps_own_then u t w c.write_back.ensures.unchanged c.fence.ensures.unchanged in
    on_ok_weaker c.fence.result (λ _. seen_then u w word c.args.value own both c.in_ok-store.ensures.ok.seen) c.fence.ensures.ok

pub returns-clause-durable : goal.returns-clause-durable
returns-clause-durable g c =
    let view = g.H.HeapSeat.view in
    let word = word_of c.args.s in
    let v = view c.args.heap.now in
    let u = view c.store.new.self in
    let t = view c.write_back.new.self in
    let w = view c.fence.new.self in
    let own = own_same v u word c.store.ensures.crash.held c.store.ensures.crash.roots (own_spot v c.args.s c.requires) in
    let still = own_same u t word c.write_back.ensures.unchanged.held c.write_back.ensures.unchanged.roots own in
    let both = keeps_own_then u t w c.write_back.ensures.unchanged c.fence.ensures.unchanged in
    on_ok_weaker c.fence.result
    (λ fenced.
    let settled = fenced.durable word still (c.in_ok-write_back.ensures.ok.line word (spot_written v c.args.s c.requires)) in
    settled.left ∙ sym settled.seen ∙ seen_then u w word c.args.value own both c.in_ok-store.ensures.ok.seen)
    c.fence.ensures.ok

pub returns-clause-crash : goal.returns-clause-crash
returns-clause-crash g c =
    let view = g.H.HeapSeat.view in
    let v = view c.args.heap.now in
    let u = view c.store.new.self in
    let t = view c.write_back.new.self in
    let w = view c.fence.new.self in
    store_then (word_of c.args.s) c.args.value v u w (own_spot v c.args.s c.requires) c.store.ensures.crash
    (keeps_own_then u t w c.write_back.ensures.unchanged c.fence.ensures.unchanged)

pub returns-clause-settled : goal.returns-clause-settled
returns-clause-settled g c =
    let view = g.H.HeapSeat.view in
    let v = view c.args.heap.now in
    let u = view c.store.new.self in
    let t = view c.write_back.new.self in
    let w = view c.fence.new.self in
    on_ok_weaker c.fence.result
    (publish_settles c.args.s c.args.value v u t w c.requires c.store.ensures.crash c.in_ok-store.ensures.ok c.write_back.ensures.unchanged
    c.in_ok-write_back.ensures.ok)
    c.fence.ensures.ok
