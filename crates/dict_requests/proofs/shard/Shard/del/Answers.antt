use Rattle.std.proofs.Common.{subst, arith}
use Rattle.dict_model.specs.Nodes.{shard_of}
use Rattle.dict_model.specs.Requests.{without_key}
use Rattle.dict_requests.specs.declared.search.SearchEnd.{SearchEnd}
use Rattle.dict_requests.specs.Searches.{Searches}
use Rattle.dict_requests.proofs.GrownLemmas.{grown_keeps}
use Rattle.dict_requests.proofs.ExactCallLemmas.{all_quiet}
use Rattle.dict_requests.proofs.ChangeLemmas.{change_none, change_after}
use Rattle.dict_requests.proofs.DelLemmas.{few_calls, deletes_nothing, deletes_node, shard_still}
use Rattle.dict_requests.proofs.shard.Shard.del.Goals as goal

pub returns-in_err-place-clause-crash : goal.returns-in_err-place-clause-crash
returns-in_err-place-clause-crash g c =
    let view = g.H.HeapSeat.view in
    let v = view c.args.seat.now in
    let u = view c.search.new.seat in
    let keeps = c.search.ensures.quiet.quiet.unchanged in
    let kinds = c.search.ensures.quiet.quiet.calls.goes_on.kinds in
    let seat = g.met.H.HeapSeat.seat c.search.new.seat in
    change_none (shard_of c.args.key) (λ map. without_key map c.args.key) v u (grown_keeps v u keeps) kinds seat c.requires.shard.only

pub remove-requires-clause-shard : goal.remove-requires-clause-shard
remove-requires-clause-shard g c =
    let view = g.H.HeapSeat.view in
    let v = view c.args.seat.now in
    let u = view c.search.new.seat in
    let keeps = c.search.ensures.quiet.quiet.unchanged in
    let kinds = c.search.ensures.quiet.quiet.calls.goes_on.kinds in
    let seat = g.met.H.HeapSeat.seat c.search.new.seat in
    shard_still v u (shard_of c.args.key) seat keeps kinds c.requires.shard

pub returns-in_err-remove-in-Found-clause-crash : goal.returns-in_err-remove-in-Found-clause-crash
returns-in_err-remove-in-Found-clause-crash g c =
    let view = g.H.HeapSeat.view in
    let v = view c.args.seat.now in
    let u = view c.search.new.seat in
    let keeps = c.search.ensures.quiet.quiet.unchanged in
    let kinds = c.search.ensures.quiet.quiet.calls.goes_on.kinds in
    let seat = g.met.H.HeapSeat.seat c.search.new.seat in
    change_after (shard_of c.args.key) (λ map. without_key map c.args.key) v u (view c.remove.new.seat)
    (grown_keeps v u keeps) kinds seat c.requires.shard.only c.remove.ensures.crash

pub returns-in_ok-remove-in-Found-clause-crash : goal.returns-in_ok-remove-in-Found-clause-crash
returns-in_ok-remove-in-Found-clause-crash g c =
    let view = g.H.HeapSeat.view in
    let v = view c.args.seat.now in
    let u = view c.search.new.seat in
    let keeps = c.search.ensures.quiet.quiet.unchanged in
    let kinds = c.search.ensures.quiet.quiet.calls.goes_on.kinds in
    let seat = g.met.H.HeapSeat.seat c.search.new.seat in
    change_after (shard_of c.args.key) (λ map. without_key map c.args.key) v u (view c.remove.new.seat)
    (grown_keeps v u keeps) kinds seat c.requires.shard.only c.remove.ensures.crash

pub returns-in-Missing-clause-crash : goal.returns-in-Missing-clause-crash
returns-in-Missing-clause-crash g c =
    let view = g.H.HeapSeat.view in
    let v = view c.args.seat.now in
    let u = view c.search.new.seat in
    let keeps = c.search.ensures.quiet.quiet.unchanged in
    let kinds = c.search.ensures.quiet.quiet.calls.goes_on.kinds in
    let seat = g.met.H.HeapSeat.seat c.search.new.seat in
    change_none (shard_of c.args.key) (λ map. without_key map c.args.key) v u (grown_keeps v u keeps) kinds seat c.requires.shard.only

pub returns-in-NoTable-clause-crash : goal.returns-in-NoTable-clause-crash
returns-in-NoTable-clause-crash g c =
    let view = g.H.HeapSeat.view in
    let v = view c.args.seat.now in
    let u = view c.search.new.seat in
    let keeps = c.search.ensures.quiet.quiet.unchanged in
    let kinds = c.search.ensures.quiet.quiet.calls.goes_on.kinds in
    let seat = g.met.H.HeapSeat.seat c.search.new.seat in
    change_none (shard_of c.args.key) (λ map. without_key map c.args.key) v u (grown_keeps v u keeps) kinds seat c.requires.shard.only

pub returns-in_ok-remove-in-Found-clause-ok : goal.returns-in_ok-remove-in-Found-clause-ok
returns-in_ok-remove-in-Found-clause-ok g c =
    let view = g.H.HeapSeat.view in
    let v = view c.args.seat.now in
    let u = view c.search.new.seat in
    let keeps = c.search.ensures.quiet.quiet.unchanged in
    let seat = g.met.H.HeapSeat.seat c.search.new.seat in
    let searches = subst (λ (e : SearchEnd). Searches c.args.key e v u) c.in-Found.is c.in_ok-place.ensures.ok in
    deletes_node v u (view c.remove.new.seat) c.args.key c.in-Found.place seat keeps searches.goes.runs searches.ends
    c.in_ok-remove-in-Found.ensures.ok c.in_ok-remove-in-Found.ensures.runs

pub returns-in-Missing-clause-ok : goal.returns-in-Missing-clause-ok
returns-in-Missing-clause-ok g c =
    let view = g.H.HeapSeat.view in
    let v = view c.args.seat.now in
    let u = view c.search.new.seat in
    let keeps = c.search.ensures.quiet.quiet.unchanged in
    let seat = g.met.H.HeapSeat.seat c.search.new.seat in
    let searches = subst (λ (e : SearchEnd). Searches c.args.key e v u) c.in-Missing.is c.in_ok-place.ensures.ok in
    deletes_nothing v u c.args.key keeps searches.goes.runs searches.ends.1

pub returns-in-NoTable-clause-ok : goal.returns-in-NoTable-clause-ok
returns-in-NoTable-clause-ok g c =
    let view = g.H.HeapSeat.view in
    let v = view c.args.seat.now in
    let u = view c.search.new.seat in
    let keeps = c.search.ensures.quiet.quiet.unchanged in
    let seat = g.met.H.HeapSeat.seat c.search.new.seat in
    let searches = subst (λ (e : SearchEnd). Searches c.args.key e v u) c.in-NoTable.is c.in_ok-place.ensures.ok in
    deletes_nothing v u c.args.key keeps searches.goes.runs (λ map gives. searches.ends.empty map gives c.args.key)

pub returns-in-Missing-clause-exact : goal.returns-in-Missing-clause-exact
returns-in-Missing-clause-exact g c =
    let view = g.H.HeapSeat.view in
    let v = view c.args.seat.now in
    let u = view c.search.new.seat in
    let keeps = c.search.ensures.quiet.quiet.unchanged in
    let kinds = c.search.ensures.quiet.quiet.calls.goes_on.kinds in
    let seat = g.met.H.HeapSeat.seat c.search.new.seat in
    all_quiet v u seat keeps kinds

pub returns-in-NoTable-clause-exact : goal.returns-in-NoTable-clause-exact
returns-in-NoTable-clause-exact g c =
    let view = g.H.HeapSeat.view in
    let v = view c.args.seat.now in
    let u = view c.search.new.seat in
    let keeps = c.search.ensures.quiet.quiet.unchanged in
    let kinds = c.search.ensures.quiet.quiet.calls.goes_on.kinds in
    let seat = g.met.H.HeapSeat.seat c.search.new.seat in
    all_quiet v u seat keeps kinds

pub returns-in_ok-remove-in-Found-clause-exact : goal.returns-in_ok-remove-in-Found-clause-exact
returns-in_ok-remove-in-Found-clause-exact g c =
    let view = g.H.HeapSeat.view in
    let v = view c.args.seat.now in
    let u = view c.search.new.seat in
    let keeps = c.search.ensures.quiet.quiet.unchanged in
    let kinds = c.search.ensures.quiet.quiet.calls.goes_on.kinds in
    let seat = g.met.H.HeapSeat.seat c.search.new.seat in
    λ all. c.in_ok-remove-in-Found.ensures.exact (all_quiet v u seat keeps kinds all)

pub returns-in_ok-remove-in-Found-clause-calls : goal.returns-in_ok-remove-in-Found-clause-calls
returns-in_ok-remove-in-Found-clause-calls g c =
    let view = g.H.HeapSeat.view in
    few_calls 7 1 0 0 (shard_of c.args.key) (view c.args.seat.now) (view c.search.new.seat) (view c.remove.new.seat) (omega arith)
    (omega arith) c.search.ensures.quiet c.remove.ensures.calls
