use Rattle.std.proofs.Common.{Option, ℕ, subst}
use Rattle.heap_model.specs.declared.block.Block.{Block}
use Rattle.shard_moves.specs.Inboxes.{TakesNext, TakesFirst}
use Rattle.shard_moves.proofs.ArrivalLemmas.{is_left, on_err_all, stops_before, shard_there, table_there, loose_there, stops_behind, has_arrived, all_there}
use Rattle.shard_moves.proofs.arriving.bring_next.Goals as goal

pub returns-in_err-key-clause-stopped : goal.returns-in_err-key-clause-stopped
returns-in_err-key-clause-stopped g c =
    let view = g.H.HeapSeat.view in
    on_err_all c.from_residual.result
    (stops_before (g.I.Inbox.left c.args.inbox.now) (g.I.Inbox.left c.next.new.self) (view c.args.seat.now) (view c.next.new.seat)
    (g.met.H.HeapSeat.seat c.next.new.seat)
    c.in_err-key.ensures.some c.in_err-key.ensures.back c.requires.tables c.in_err-key.ensures.unchanged
    (c.next.ensures.counted c.in_err-key.ensures.some))

pub bring-requires-clause-shard : goal.bring-requires-clause-shard
bring-requires-clause-shard g c =
    let view = g.H.HeapSeat.view in
    let old = g.I.Inbox.left c.args.inbox.now in
    let new = g.I.Inbox.left c.next.new.self in
    let v = view c.args.seat.now in
    let u = view c.next.new.seat in
    let seat = g.met.H.HeapSeat.seat c.next.new.seat in
    let takes : TakesFirst c.in-Some.key c.in-Some.node old new v u =
    subst (λ (o : Option (ℕ × Block)). TakesNext view o old new c.args.seat.now c.next.new.seat) c.in-Some.is c.in_ok-key.ensures.ok in
    shard_there c.in-Some.key c.in-Some.node old new v u seat takes (c.next.ensures.counted (is_left takes)) c.requires.tables

pub bring-requires-clause-table : goal.bring-requires-clause-table
bring-requires-clause-table g c =
    let view = g.H.HeapSeat.view in
    let old = g.I.Inbox.left c.args.inbox.now in
    let new = g.I.Inbox.left c.next.new.self in
    let v = view c.args.seat.now in
    let u = view c.next.new.seat in
    let seat = g.met.H.HeapSeat.seat c.next.new.seat in
    let takes : TakesFirst c.in-Some.key c.in-Some.node old new v u =
    subst (λ (o : Option (ℕ × Block)). TakesNext view o old new c.args.seat.now c.next.new.seat) c.in-Some.is c.in_ok-key.ensures.ok in
    table_there c.in-Some.key c.in-Some.node old new v u seat takes (c.next.ensures.counted (is_left takes)) c.requires.tables

pub bring-requires-clause-loose : goal.bring-requires-clause-loose
bring-requires-clause-loose g c =
    let view = g.H.HeapSeat.view in
    let old = g.I.Inbox.left c.args.inbox.now in
    let new = g.I.Inbox.left c.next.new.self in
    let v = view c.args.seat.now in
    let u = view c.next.new.seat in
    let seat = g.met.H.HeapSeat.seat c.next.new.seat in
    let takes : TakesFirst c.in-Some.key c.in-Some.node old new v u =
    subst (λ (o : Option (ℕ × Block)). TakesNext view o old new c.args.seat.now c.next.new.seat) c.in-Some.is c.in_ok-key.ensures.ok in
    loose_there c.in-Some.key c.in-Some.node old new v u seat takes (c.next.ensures.counted (is_left takes)) c.requires.tables

pub returns-in_err-bring-clause-stopped : goal.returns-in_err-bring-clause-stopped
returns-in_err-bring-clause-stopped g c =
    let view = g.H.HeapSeat.view in
    let old = g.I.Inbox.left c.args.inbox.now in
    let new = g.I.Inbox.left c.next.new.self in
    let v = view c.args.seat.now in
    let u = view c.next.new.seat in
    let seat = g.met.H.HeapSeat.seat c.next.new.seat in
    let takes : TakesFirst c.in-Some.key c.in-Some.node old new v u =
    subst (λ (o : Option (ℕ × Block)). TakesNext view o old new c.args.seat.now c.next.new.seat) c.in-Some.is c.in_ok-key.ensures.ok in
    on_err_all c.from_residual-in_err-bring.result
    (stops_behind c.in-Some.key c.in-Some.node old new v u seat takes (c.next.ensures.counted (is_left takes)) c.requires.tables
    (view c.bring.new.seat) (c.bring.ensures.crash takes.first.value takes.node_is) c.bring.ensures.calls)

pub returns-clause-ok : goal.returns-clause-ok
returns-clause-ok g c =
    let view = g.H.HeapSeat.view in
    let old = g.I.Inbox.left c.args.inbox.now in
    let new = g.I.Inbox.left c.next.new.self in
    let v = view c.args.seat.now in
    let u = view c.next.new.seat in
    let seat = g.met.H.HeapSeat.seat c.next.new.seat in
    let takes : TakesFirst c.in-Some.key c.in-Some.node old new v u =
    subst (λ (o : Option (ℕ × Block)). TakesNext view o old new c.args.seat.now c.next.new.seat) c.in-Some.is c.in_ok-key.ensures.ok in
    has_arrived c.in-Some.key c.in-Some.node old new v u seat takes (c.next.ensures.counted (is_left takes)) c.requires.tables
    (view c.bring.new.seat) (c.bring.ensures.crash takes.first.value takes.node_is) c.bring.ensures.calls
    c.in_ok-bring.ensures.runs (c.in_ok-bring.ensures.ok takes.first.value takes.node_is)

pub returns-clause-exact : goal.returns-clause-exact
returns-clause-exact g c = λ all.
    let view = g.H.HeapSeat.view in
    let old = g.I.Inbox.left c.args.inbox.now in
    let new = g.I.Inbox.left c.next.new.self in
    let v = view c.args.seat.now in
    let u = view c.next.new.seat in
    let seat = g.met.H.HeapSeat.seat c.next.new.seat in
    let takes : TakesFirst c.in-Some.key c.in-Some.node old new v u =
    subst (λ (o : Option (ℕ × Block)). TakesNext view o old new c.args.seat.now c.next.new.seat) c.in-Some.is c.in_ok-key.ensures.ok in
    c.in_ok-bring.ensures.exact (all_there c.in-Some.key c.in-Some.node old new v u seat takes
    (c.next.ensures.counted (is_left takes)) c.requires.tables all)
