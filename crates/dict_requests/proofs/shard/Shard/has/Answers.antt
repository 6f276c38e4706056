use Rattle.std.proofs.Common.{subst}
use Rattle.dict_model.specs.Nodes.{shard_of}
use Rattle.dict_requests.specs.declared.search.SearchEnd.{SearchEnd}
use Rattle.dict_requests.specs.Searches.{Searches}
use Rattle.dict_requests.proofs.GrownLemmas.{grown_keeps, gives_grown}
use Rattle.dict_requests.proofs.ExactCallLemmas.{all_quiet}
use Rattle.dict_requests.proofs.ChangeLemmas.{change_none}
use Rattle.dict_requests.proofs.MovedLemmas.{tells_found, tells_missing}
use Rattle.dict_requests.proofs.shard.Shard.has.Goals as goal

pub returns-in_err-search-clause-maps : goal.returns-in_err-search-clause-maps
returns-in_err-search-clause-maps g c =
    let view = g.H.HeapSeat.view in
    let v = view c.args.seat.now in
    let u = view c.search.new.seat in
    let quiet = c.search.ensures.quiet.quiet in
    record { gives = λ map gives. gives_grown v u (grown_keeps v u quiet.unchanged) (shard_of c.args.key) map gives }

pub returns-in_err-search-clause-crash : goal.returns-in_err-search-clause-crash
returns-in_err-search-clause-crash g c = λ after.
    let view = g.H.HeapSeat.view in
    let v = view c.args.seat.now in
    let u = view c.search.new.seat in
    let quiet = c.search.ensures.quiet.quiet in
    change_none (shard_of c.args.key) after v u (grown_keeps v u quiet.unchanged) quiet.calls.goes_on.kinds
    (g.met.H.HeapSeat.seat c.search.new.seat) c.requires.shard.only

pub returns-in_err-search-clause-exact : goal.returns-in_err-search-clause-exact
returns-in_err-search-clause-exact g c =
    let view = g.H.HeapSeat.view in
    let v = view c.args.seat.now in
    let u = view c.search.new.seat in
    let quiet = c.search.ensures.quiet.quiet in
    all_quiet v u (g.met.H.HeapSeat.seat c.search.new.seat) quiet.unchanged quiet.calls.goes_on.kinds

pub returns-in-Found-clause-maps : goal.returns-in-Found-clause-maps
returns-in-Found-clause-maps g c =
    let view = g.H.HeapSeat.view in
    let v = view c.args.seat.now in
    let u = view c.search.new.seat in
    let quiet = c.search.ensures.quiet.quiet in
    record { gives = λ map gives. gives_grown v u (grown_keeps v u quiet.unchanged) (shard_of c.args.key) map gives }

pub returns-in-Found-clause-crash : goal.returns-in-Found-clause-crash
returns-in-Found-clause-crash g c = λ after.
    let view = g.H.HeapSeat.view in
    let v = view c.args.seat.now in
    let u = view c.search.new.seat in
    let quiet = c.search.ensures.quiet.quiet in
    change_none (shard_of c.args.key) after v u (grown_keeps v u quiet.unchanged) quiet.calls.goes_on.kinds
    (g.met.H.HeapSeat.seat c.search.new.seat) c.requires.shard.only

pub returns-in-Found-clause-exact : goal.returns-in-Found-clause-exact
returns-in-Found-clause-exact g c =
    let view = g.H.HeapSeat.view in
    let v = view c.args.seat.now in
    let u = view c.search.new.seat in
    let quiet = c.search.ensures.quiet.quiet in
    all_quiet v u (g.met.H.HeapSeat.seat c.search.new.seat) quiet.unchanged quiet.calls.goes_on.kinds

pub returns-in-Missing-clause-maps : goal.returns-in-Missing-clause-maps
returns-in-Missing-clause-maps g c =
    let view = g.H.HeapSeat.view in
    let v = view c.args.seat.now in
    let u = view c.search.new.seat in
    let quiet = c.search.ensures.quiet.quiet in
    record { gives = λ map gives. gives_grown v u (grown_keeps v u quiet.unchanged) (shard_of c.args.key) map gives }

pub returns-in-Missing-clause-crash : goal.returns-in-Missing-clause-crash
returns-in-Missing-clause-crash g c = λ after.
    let view = g.H.HeapSeat.view in
    let v = view c.args.seat.now in
    let u = view c.search.new.seat in
    let quiet = c.search.ensures.quiet.quiet in
    change_none (shard_of c.args.key) after v u (grown_keeps v u quiet.unchanged) quiet.calls.goes_on.kinds
    (g.met.H.HeapSeat.seat c.search.new.seat) c.requires.shard.only

pub returns-in-Missing-clause-exact : goal.returns-in-Missing-clause-exact
returns-in-Missing-clause-exact g c =
    let view = g.H.HeapSeat.view in
    let v = view c.args.seat.now in
    let u = view c.search.new.seat in
    let quiet = c.search.ensures.quiet.quiet in
    all_quiet v u (g.met.H.HeapSeat.seat c.search.new.seat) quiet.unchanged quiet.calls.goes_on.kinds

pub returns-in-NoTable-clause-maps : goal.returns-in-NoTable-clause-maps
returns-in-NoTable-clause-maps g c =
    let view = g.H.HeapSeat.view in
    let v = view c.args.seat.now in
    let u = view c.search.new.seat in
    let quiet = c.search.ensures.quiet.quiet in
    record { gives = λ map gives. gives_grown v u (grown_keeps v u quiet.unchanged) (shard_of c.args.key) map gives }

pub returns-in-NoTable-clause-crash : goal.returns-in-NoTable-clause-crash
returns-in-NoTable-clause-crash g c = λ after.
    let view = g.H.HeapSeat.view in
    let v = view c.args.seat.now in
    let u = view c.search.new.seat in
    let quiet = c.search.ensures.quiet.quiet in
    change_none (shard_of c.args.key) after v u (grown_keeps v u quiet.unchanged) quiet.calls.goes_on.kinds
    (g.met.H.HeapSeat.seat c.search.new.seat) c.requires.shard.only

pub returns-in-NoTable-clause-exact : goal.returns-in-NoTable-clause-exact
returns-in-NoTable-clause-exact g c =
    let view = g.H.HeapSeat.view in
    let v = view c.args.seat.now in
    let u = view c.search.new.seat in
    let quiet = c.search.ensures.quiet.quiet in
    all_quiet v u (g.met.H.HeapSeat.seat c.search.new.seat) quiet.unchanged quiet.calls.goes_on.kinds

pub returns-in-Found-clause-ok : goal.returns-in-Found-clause-ok
returns-in-Found-clause-ok g c =
    let view = g.H.HeapSeat.view in
    let v = view c.args.seat.now in
    let u = view c.search.new.seat in
    let quiet = c.search.ensures.quiet.quiet in
    let searches = subst (λ (e : SearchEnd). Searches c.args.key e v u) c.in-Found.is c.in_ok-search.ensures.ok in
    tells_found v u c.args.key c.in-Found.field-0 (g.met.H.HeapSeat.seat c.search.new.seat) quiet.unchanged searches.goes.runs searches.ends

pub returns-in-NoTable-clause-ok : goal.returns-in-NoTable-clause-ok
returns-in-NoTable-clause-ok g c =
    let view = g.H.HeapSeat.view in
    let v = view c.args.seat.now in
    let u = view c.search.new.seat in
    let quiet = c.search.ensures.quiet.quiet in
    let searches = subst (λ (e : SearchEnd). Searches c.args.key e v u) c.in-NoTable.is c.in_ok-search.ensures.ok in
    tells_missing v u c.args.key searches.goes.runs (λ map gives. searches.ends.empty map gives c.args.key)
