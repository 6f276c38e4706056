use Rattle.std.proofs.Common.{subst, ◌∙◌, arith}
use Rattle.std.proofs.lemmas.Result.{on_ok_weaker}
use Rattle.heap_seat.proofs.RowLemmas.{row_more}
use Rattle.dict_model.specs.Nodes.{shard_of}
use Rattle.dict_model.specs.Requests.{with_key}
use Rattle.dict_requests.specs.declared.search.SearchEnd.{SearchEnd}
use Rattle.dict_requests.specs.Searches.{Searches}
use Rattle.dict_requests.proofs.GrownLemmas.{grown_keeps, gives_grown}
use Rattle.dict_requests.proofs.TrailLemmas.{same_map}
use Rattle.dict_requests.proofs.ChangeLemmas.{changes_after}
use Rattle.dict_requests.proofs.CountLemmas.{moves_few}
use Rattle.dict_requests.proofs.DelLemmas.{shard_still}
use Rattle.dict_requests.proofs.BringLemmas.{quiet_left, loose_still, node_still, all_but_still, bring_after, not_null_still}
use Rattle.dict_requests.proofs.shard.Shard.bring.Goals as goal

pub returns-in_err-place-clause-crash : goal.returns-in_err-place-clause-crash
returns-in_err-place-clause-crash g c =
    let view = g.H.HeapSeat.view in
    let quiet = c.search.ensures.quiet.quiet in
    let v = view c.args.seat.now in
    let u = view c.search.new.seat in
    let seat = g.met.H.HeapSeat.seat c.search.new.seat in
    let kinds = quiet.calls.goes_on.kinds in
    λ value node. quiet_left v u (g.met.H.HeapSeat.seat c.args.seat.now) seat c.args.key c.args.node c.requires.shard c.requires.loose
    (let fits = c.requires.node.1.fits in omega arith)
    quiet.unchanged kinds (λ map. with_key map c.args.key value)

pub bring_over-requires-clause-shard : goal.bring_over-requires-clause-shard
bring_over-requires-clause-shard g c =
    let view = g.H.HeapSeat.view in
    let quiet = c.search.ensures.quiet.quiet in
    let v = view c.args.seat.now in
    let u = view c.search.new.seat in
    let seat = g.met.H.HeapSeat.seat c.search.new.seat in
    let kinds = quiet.calls.goes_on.kinds in
    shard_still v u (shard_of c.args.key) seat quiet.unchanged kinds c.requires.shard

pub bring_over-requires-clause-loose : goal.bring_over-requires-clause-loose
bring_over-requires-clause-loose g c =
    let view = g.H.HeapSeat.view in
    let quiet = c.search.ensures.quiet.quiet in
    let v = view c.args.seat.now in
    let u = view c.search.new.seat in
    let seat = g.met.H.HeapSeat.seat c.search.new.seat in
    let kinds = quiet.calls.goes_on.kinds in
    loose_still v u c.args.node seat quiet.unchanged kinds c.requires.shard.only c.requires.loose

pub bring_over-requires-clause-node : goal.bring_over-requires-clause-node
bring_over-requires-clause-node g c =
    let view = g.H.HeapSeat.view in
    let quiet = c.search.ensures.quiet.quiet in
    let v = view c.args.seat.now in
    let u = view c.search.new.seat in
    let seat = g.met.H.HeapSeat.seat c.search.new.seat in
    let kinds = quiet.calls.goes_on.kinds in
    (c.requires.node.0, node_still v u c.args.node seat quiet.unchanged kinds c.requires.node.0 c.requires.loose.held c.requires.node.1)

pub bring_first-requires-clause-shard : goal.bring_first-requires-clause-shard
bring_first-requires-clause-shard g c =
    let view = g.H.HeapSeat.view in
    let quiet = c.search.ensures.quiet.quiet in
    let v = view c.args.seat.now in
    let u = view c.search.new.seat in
    let seat = g.met.H.HeapSeat.seat c.search.new.seat in
    let kinds = quiet.calls.goes_on.kinds in
    shard_still v u (shard_of c.args.key) seat quiet.unchanged kinds c.requires.shard

pub bring_first-requires-clause-loose : goal.bring_first-requires-clause-loose
bring_first-requires-clause-loose g c =
    let view = g.H.HeapSeat.view in
    let quiet = c.search.ensures.quiet.quiet in
    let v = view c.args.seat.now in
    let u = view c.search.new.seat in
    let seat = g.met.H.HeapSeat.seat c.search.new.seat in
    let kinds = quiet.calls.goes_on.kinds in
    loose_still v u c.args.node seat quiet.unchanged kinds c.requires.shard.only c.requires.loose

pub bring_first-requires-clause-node : goal.bring_first-requires-clause-node
bring_first-requires-clause-node g c =
    let view = g.H.HeapSeat.view in
    let quiet = c.search.ensures.quiet.quiet in
    let v = view c.args.seat.now in
    let u = view c.search.new.seat in
    let seat = g.met.H.HeapSeat.seat c.search.new.seat in
    let kinds = quiet.calls.goes_on.kinds in
    (c.requires.node.0, node_still v u c.args.node seat quiet.unchanged kinds c.requires.node.0 c.requires.loose.held c.requires.node.1)

pub bring_first-requires-clause-missing : goal.bring_first-requires-clause-missing
bring_first-requires-clause-missing g c =
    let view = g.H.HeapSeat.view in
    let quiet = c.search.ensures.quiet.quiet in
    let v = view c.args.seat.now in
    let u = view c.search.new.seat in
    let seat = g.met.H.HeapSeat.seat c.search.new.seat in
    let kinds = quiet.calls.goes_on.kinds in
    let searches = subst (λ (e : SearchEnd). Searches c.args.key e v u) c.in-Missing.is c.in_ok-place.ensures.ok in
    record {
      come = searches.ends.0;
      none = λ map gives. same_map u seat (shard_of c.args.key) map c.requires.shard.map gives
          (gives_grown v u (grown_keeps v u quiet.unchanged) (shard_of c.args.key) c.requires.shard.map c.requires.shard.gives) c.args.key
          ∙ searches.ends.1 c.requires.shard.map c.requires.shard.gives;
    }

pub returns-in-Found-clause-ok : goal.returns-in-Found-clause-ok
returns-in-Found-clause-ok g c =
    let view = g.H.HeapSeat.view in
    let quiet = c.search.ensures.quiet.quiet in
    let v = view c.args.seat.now in
    let u = view c.search.new.seat in
    let seat = g.met.H.HeapSeat.seat c.search.new.seat in
    let kinds = quiet.calls.goes_on.kinds in
    on_ok_weaker c.bring_over.result
    (λ done value node. changes_after (shard_of c.args.key) (λ map. with_key map c.args.key value) v u (view c.bring_over.new.seat)
    (grown_keeps v u quiet.unchanged)
    (done value (node_still v u c.args.node seat quiet.unchanged kinds value c.requires.loose.held node))) c.bring_over.ensures.ok

pub returns-in-Found-clause-exact : goal.returns-in-Found-clause-exact
returns-in-Found-clause-exact g c =
    let view = g.H.HeapSeat.view in
    let quiet = c.search.ensures.quiet.quiet in
    let v = view c.args.seat.now in
    let u = view c.search.new.seat in
    let seat = g.met.H.HeapSeat.seat c.search.new.seat in
    let kinds = quiet.calls.goes_on.kinds in
    on_ok_weaker c.bring_over.result
    (λ exact all. exact c.requires.node.0 (node_still v u c.args.node seat quiet.unchanged kinds c.requires.node.0 c.requires.loose.held
    c.requires.node.1)
    (all_but_still v u c.args.node seat quiet.unchanged kinds all)) c.bring_over.ensures.exact

pub returns-in-Found-clause-crash : goal.returns-in-Found-clause-crash
returns-in-Found-clause-crash g c =
    let view = g.H.HeapSeat.view in
    let quiet = c.search.ensures.quiet.quiet in
    let v = view c.args.seat.now in
    let u = view c.search.new.seat in
    let seat = g.met.H.HeapSeat.seat c.search.new.seat in
    let kinds = quiet.calls.goes_on.kinds in
    λ value node. bring_after v u c.args.node seat quiet.unchanged kinds (shard_of c.args.key) (λ map. with_key map c.args.key value)
    (view c.bring_over.new.seat) c.requires.shard.only c.requires.loose.held
    (c.bring_over.ensures.crash value (node_still v u c.args.node seat quiet.unchanged kinds value c.requires.loose.held node))

pub returns-in-Missing-clause-ok : goal.returns-in-Missing-clause-ok
returns-in-Missing-clause-ok g c =
    let view = g.H.HeapSeat.view in
    let quiet = c.search.ensures.quiet.quiet in
    let v = view c.args.seat.now in
    let u = view c.search.new.seat in
    let seat = g.met.H.HeapSeat.seat c.search.new.seat in
    let kinds = quiet.calls.goes_on.kinds in
    on_ok_weaker c.bring_first.result
    (λ done value node. changes_after (shard_of c.args.key) (λ map. with_key map c.args.key value) v u (view c.bring_first.new.seat)
    (grown_keeps v u quiet.unchanged)
    (done value (node_still v u c.args.node seat quiet.unchanged kinds value c.requires.loose.held node))) c.bring_first.ensures.ok

pub returns-in-Missing-clause-exact : goal.returns-in-Missing-clause-exact
returns-in-Missing-clause-exact g c =
    let view = g.H.HeapSeat.view in
    let quiet = c.search.ensures.quiet.quiet in
    let v = view c.args.seat.now in
    let u = view c.search.new.seat in
    let seat = g.met.H.HeapSeat.seat c.search.new.seat in
    let kinds = quiet.calls.goes_on.kinds in
    on_ok_weaker c.bring_first.result
    (λ exact all. exact c.requires.node.0 (node_still v u c.args.node seat quiet.unchanged kinds c.requires.node.0 c.requires.loose.held
    c.requires.node.1)
    (all_but_still v u c.args.node seat quiet.unchanged kinds all)) c.bring_first.ensures.exact

pub returns-in-Missing-clause-crash : goal.returns-in-Missing-clause-crash
returns-in-Missing-clause-crash g c =
    let view = g.H.HeapSeat.view in
    let quiet = c.search.ensures.quiet.quiet in
    let v = view c.args.seat.now in
    let u = view c.search.new.seat in
    let seat = g.met.H.HeapSeat.seat c.search.new.seat in
    let kinds = quiet.calls.goes_on.kinds in
    λ value node. bring_after v u c.args.node seat quiet.unchanged kinds (shard_of c.args.key) (λ map. with_key map c.args.key value)
    (view c.bring_first.new.seat) c.requires.shard.only c.requires.loose.held
    (c.bring_first.ensures.crash value (node_still v u c.args.node seat quiet.unchanged kinds value c.requires.loose.held node))

pub returns-in-Found-clause-calls : goal.returns-in-Found-clause-calls
returns-in-Found-clause-calls g c =
    let view = g.H.HeapSeat.view in
    moves_few 11 1 (shard_of c.args.key) (view c.args.seat.now) (view c.search.new.seat) (view c.bring_over.new.seat)
    (omega arith) c.search.ensures.quiet c.bring_over.ensures.calls

pub returns-in-Missing-clause-calls : goal.returns-in-Missing-clause-calls
returns-in-Missing-clause-calls g c =
    let view = g.H.HeapSeat.view in
    let u = view c.search.new.seat in
    let w = view c.bring_first.new.seat in
    moves_few 10 1 (shard_of c.args.key) (view c.args.seat.now) u w (omega arith) c.search.ensures.quiet
    (row_more 10 0 0 10 1 0 u w (omega arith) (omega arith) (omega arith) c.bring_first.ensures.calls)

-- a shard with a table ends at no null root
pub unreachable-requires : goal.unreachable-requires
unreachable-requires g c =
    let view = g.H.HeapSeat.view in
    let quiet = c.search.ensures.quiet.quiet in
    let v = view c.args.seat.now in
    let u = view c.search.new.seat in
    let searches = subst (λ (e : SearchEnd). Searches c.args.key e v u) c.in-NoTable.is c.in_ok-place.ensures.ok in
    not_null_still v u c.args.node (g.met.H.HeapSeat.seat c.search.new.seat) quiet.unchanged quiet.calls.goes_on.kinds
    (shard_of c.args.key) c.requires.shard.owned c.requires.table searches.ends.root.seen
