use Rattle.std.proofs.Common.{subst, arith}
use Rattle.dict_model.specs.Nodes.{shard_of}
use Rattle.dict_model.specs.Requests.{without_key}
use Rattle.dict_requests.specs.declared.search.SearchEnd.{SearchEnd}
use Rattle.dict_requests.specs.Searches.{Searches}
use Rattle.dict_requests.proofs.GrownLemmas.{grown_keeps}
use Rattle.dict_requests.proofs.ExactCallLemmas.{all_quiet}
use Rattle.dict_requests.proofs.ChangeLemmas.{change_none, change_after}
use Rattle.dict_requests.proofs.CountLemmas.{moves_few}
use Rattle.dict_requests.proofs.DelLemmas.{shard_still}
use Rattle.dict_requests.proofs.MovedLemmas.{taken_behind, takes_nothing}
use Rattle.dict_requests.proofs.shard.Shard.take.Goals as goal

pub returns-in_err-place-clause-crash : goal.returns-in_err-place-clause-crash
returns-in_err-place-clause-crash g c =
    let view = g.H.HeapSeat.view in
    let v = view c.args.seat.now in
    let u = view c.search.new.seat in
    let quiet = c.search.ensures.quiet.quiet in
    change_none (shard_of c.args.key) (λ map. without_key map c.args.key) v u (grown_keeps v u quiet.unchanged) quiet.calls.goes_on.kinds
    (g.met.H.HeapSeat.seat c.search.new.seat) c.requires.shard.only

pub returns-in-Missing-clause-crash : goal.returns-in-Missing-clause-crash
returns-in-Missing-clause-crash g c =
    let view = g.H.HeapSeat.view in
    let v = view c.args.seat.now in
    let u = view c.search.new.seat in
    let quiet = c.search.ensures.quiet.quiet in
    change_none (shard_of c.args.key) (λ map. without_key map c.args.key) v u (grown_keeps v u quiet.unchanged) quiet.calls.goes_on.kinds
    (g.met.H.HeapSeat.seat c.search.new.seat) c.requires.shard.only

pub returns-in-NoTable-clause-crash : goal.returns-in-NoTable-clause-crash
returns-in-NoTable-clause-crash g c =
    let view = g.H.HeapSeat.view in
    let v = view c.args.seat.now in
    let u = view c.search.new.seat in
    let quiet = c.search.ensures.quiet.quiet in
    change_none (shard_of c.args.key) (λ map. without_key map c.args.key) v u (grown_keeps v u quiet.unchanged) quiet.calls.goes_on.kinds
    (g.met.H.HeapSeat.seat c.search.new.seat) c.requires.shard.only

pub unlink-requires-clause-shard : goal.unlink-requires-clause-shard
unlink-requires-clause-shard g c =
    let view = g.H.HeapSeat.view in
    let quiet = c.search.ensures.quiet.quiet in
    shard_still (view c.args.seat.now) (view c.search.new.seat) (shard_of c.args.key)
    (g.met.H.HeapSeat.seat c.search.new.seat) quiet.unchanged quiet.calls.goes_on.kinds c.requires.shard

pub returns-in_err-unlink-in-Found-clause-crash : goal.returns-in_err-unlink-in-Found-clause-crash
returns-in_err-unlink-in-Found-clause-crash g c =
    let view = g.H.HeapSeat.view in
    let v = view c.args.seat.now in
    let u = view c.search.new.seat in
    let quiet = c.search.ensures.quiet.quiet in
    change_after (shard_of c.args.key) (λ map. without_key map c.args.key) v u (view c.unlink.new.seat)
    (grown_keeps v u quiet.unchanged) quiet.calls.goes_on.kinds (g.met.H.HeapSeat.seat c.search.new.seat)
    c.requires.shard.only c.unlink.ensures.crash

pub returns-in_ok-unlink-in-Found-clause-crash : goal.returns-in_ok-unlink-in-Found-clause-crash
returns-in_ok-unlink-in-Found-clause-crash g c =
    let view = g.H.HeapSeat.view in
    let v = view c.args.seat.now in
    let u = view c.search.new.seat in
    let quiet = c.search.ensures.quiet.quiet in
    change_after (shard_of c.args.key) (λ map. without_key map c.args.key) v u (view c.unlink.new.seat)
    (grown_keeps v u quiet.unchanged) quiet.calls.goes_on.kinds (g.met.H.HeapSeat.seat c.search.new.seat)
    c.requires.shard.only c.unlink.ensures.crash

pub returns-in_ok-unlink-in-Found-clause-ok : goal.returns-in_ok-unlink-in-Found-clause-ok
returns-in_ok-unlink-in-Found-clause-ok g c =
    let view = g.H.HeapSeat.view in
    taken_behind (view c.args.seat.now) (view c.search.new.seat) (view c.unlink.new.seat)
    c.args.key c.in-Found.place.node c.search.ensures.quiet.quiet.unchanged
    c.search.ensures.quiet.quiet.calls.goes_on.kinds (g.met.H.HeapSeat.seat c.search.new.seat) c.requires.shard.only c.in_ok-unlink-in-Found.ensures.ok

pub returns-in-Missing-clause-ok : goal.returns-in-Missing-clause-ok
returns-in-Missing-clause-ok g c =
    let view = g.H.HeapSeat.view in
    let v = view c.args.seat.now in
    let u = view c.search.new.seat in
    let searches = subst (λ (e : SearchEnd). Searches c.args.key e v u) c.in-Missing.is c.in_ok-place.ensures.ok in
    takes_nothing v u c.args.key c.search.ensures.quiet.quiet.unchanged searches.ends.1

pub returns-in-NoTable-clause-ok : goal.returns-in-NoTable-clause-ok
returns-in-NoTable-clause-ok g c =
    let view = g.H.HeapSeat.view in
    let v = view c.args.seat.now in
    let u = view c.search.new.seat in
    let searches = subst (λ (e : SearchEnd). Searches c.args.key e v u) c.in-NoTable.is c.in_ok-place.ensures.ok in
    takes_nothing v u c.args.key c.search.ensures.quiet.quiet.unchanged (λ map gives. searches.ends.empty map gives c.args.key)

pub returns-in-Missing-clause-exact : goal.returns-in-Missing-clause-exact
returns-in-Missing-clause-exact g c =
    let view = g.H.HeapSeat.view in
    let quiet = c.search.ensures.quiet.quiet in
    all_quiet (view c.args.seat.now) (view c.search.new.seat) (g.met.H.HeapSeat.seat c.search.new.seat) quiet.unchanged quiet.calls.goes_on.kinds

pub returns-in-NoTable-clause-exact : goal.returns-in-NoTable-clause-exact
returns-in-NoTable-clause-exact g c =
    let view = g.H.HeapSeat.view in
    let quiet = c.search.ensures.quiet.quiet in
    all_quiet (view c.args.seat.now) (view c.search.new.seat) (g.met.H.HeapSeat.seat c.search.new.seat) quiet.unchanged quiet.calls.goes_on.kinds

pub returns-in_ok-unlink-in-Found-clause-exact : goal.returns-in_ok-unlink-in-Found-clause-exact
returns-in_ok-unlink-in-Found-clause-exact g c =
    let view = g.H.HeapSeat.view in
    let quiet = c.search.ensures.quiet.quiet in
    λ all. c.in_ok-unlink-in-Found.ensures.exact (all_quiet (view c.args.seat.now) (view c.search.new.seat)
    (g.met.H.HeapSeat.seat c.search.new.seat) quiet.unchanged quiet.calls.goes_on.kinds all)

pub returns-in_ok-unlink-in-Found-clause-calls : goal.returns-in_ok-unlink-in-Found-clause-calls
returns-in_ok-unlink-in-Found-clause-calls g c =
    let view = g.H.HeapSeat.view in
    moves_few 7 0 (shard_of c.args.key) (view c.args.seat.now) (view c.search.new.seat) (view c.unlink.new.seat)
    (omega arith) c.search.ensures.quiet c.unlink.ensures.calls
