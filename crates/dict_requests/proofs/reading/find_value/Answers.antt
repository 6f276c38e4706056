use Rattle.std.proofs.Common.{subst}
use Rattle.dict_requests.specs.declared.search.SearchEnd.{SearchEnd}
use Rattle.dict_requests.specs.Searches.{Searches}
use Rattle.dict_model.specs.Nodes.{shard_of}
use Rattle.dict_requests.proofs.GrownLemmas.{grown_keeps, gives_grown}
use Rattle.dict_requests.proofs.RemovalLemmas.{found_held}
use Rattle.dict_requests.proofs.DelLemmas.{found_is}
use Rattle.dict_requests.proofs.GetLemmas.{gets_node, gets_nothing, few_read, few_search}
use Rattle.dict_requests.proofs.reading.find_value.Goals as goal

pub read_value-requires-clause-held : goal.read_value-requires-clause-held
read_value-requires-clause-held g c =
    let view = g.H.HeapSeat.view in
    let v = view c.args.seat.now in
    let u = view c.search.new.seat in
    let searches = subst (λ (e : SearchEnd). Searches c.args.key e v u) c.in-Found.is c.in_ok-place.ensures.ok in
    found_held u c.args.key c.in-Found.place searches.ends

pub read_value-requires-clause-room : goal.read_value-requires-clause-room
read_value-requires-clause-room g c =
    let view = g.H.HeapSeat.view in
    let v = view c.args.seat.now in
    let u = view c.search.new.seat in
    let searches = subst (λ (e : SearchEnd). Searches c.args.key e v u) c.in-Found.is c.in_ok-place.ensures.ok in
    searches.ends.room

pub read_value-requires-clause-node : goal.read_value-requires-clause-node
read_value-requires-clause-node g c =
    let view = g.H.HeapSeat.view in
    let v = view c.args.seat.now in
    let u = view c.search.new.seat in
    let searches = subst (λ (e : SearchEnd). Searches c.args.key e v u) c.in-Found.is c.in_ok-place.ensures.ok in
    let keeps = c.search.ensures.quiet.quiet.unchanged in
    λ image completes.
    (found_is u c.args.key c.in-Found.place (g.met.H.HeapSeat.seat c.search.new.seat) searches.ends c.requires.map
    (gives_grown v u (grown_keeps v u keeps) (shard_of c.args.key) c.requires.map c.requires.gives) image completes).1

pub returns-in_err-place-clause-calls : goal.returns-in_err-place-clause-calls
returns-in_err-place-clause-calls g c = few_search c.args.key (g.H.HeapSeat.view c.args.seat.now)
    (g.H.HeapSeat.view c.search.new.seat) c.search.ensures.quiet

pub returns-in-Missing-clause-calls : goal.returns-in-Missing-clause-calls
returns-in-Missing-clause-calls g c = few_search c.args.key (g.H.HeapSeat.view c.args.seat.now)
    (g.H.HeapSeat.view c.search.new.seat) c.search.ensures.quiet

pub returns-in-NoTable-clause-calls : goal.returns-in-NoTable-clause-calls
returns-in-NoTable-clause-calls g c = few_search c.args.key (g.H.HeapSeat.view c.args.seat.now)
    (g.H.HeapSeat.view c.search.new.seat) c.search.ensures.quiet

pub returns-in_err-read_value-in-Found-clause-calls : goal.returns-in_err-read_value-in-Found-clause-calls
returns-in_err-read_value-in-Found-clause-calls g c =
    let view = g.H.HeapSeat.view in
    let v = view c.args.seat.now in
    let u = view c.search.new.seat in
    let searches = subst (λ (e : SearchEnd). Searches c.args.key e v u) c.in-Found.is c.in_ok-place.ensures.ok in
    few_read v u (view c.read_value.new.seat) c.args.key c.in-Found.place
    (g.met.H.HeapSeat.seat c.search.new.seat) c.search.ensures.quiet searches.ends c.read_value.ensures.quiet

pub returns-in_ok-read_value-in-Found-clause-calls : goal.returns-in_ok-read_value-in-Found-clause-calls
returns-in_ok-read_value-in-Found-clause-calls g c =
    let view = g.H.HeapSeat.view in
    let v = view c.args.seat.now in
    let u = view c.search.new.seat in
    let searches = subst (λ (e : SearchEnd). Searches c.args.key e v u) c.in-Found.is c.in_ok-place.ensures.ok in
    few_read v u (view c.read_value.new.seat) c.args.key c.in-Found.place
    (g.met.H.HeapSeat.seat c.search.new.seat) c.search.ensures.quiet searches.ends c.read_value.ensures.quiet

pub returns-in_ok-read_value-in-Found-clause-ok : goal.returns-in_ok-read_value-in-Found-clause-ok
returns-in_ok-read_value-in-Found-clause-ok g c =
    let view = g.H.HeapSeat.view in
    let v = view c.args.seat.now in
    let u = view c.search.new.seat in
    let searches = subst (λ (e : SearchEnd). Searches c.args.key e v u) c.in-Found.is c.in_ok-place.ensures.ok in
    gets_node v u (view c.read_value.new.seat) c.args.key c.in-Found.place
    (g.met.H.HeapSeat.seat c.search.new.seat) c.search.ensures.quiet.quiet.unchanged searches.ends
    c.in_ok-read_value-in-Found.field-0 c.args.out.now c.read_value.new.out searches.goes.runs c.read_value.ensures.quiet
    c.in_ok-read_value-in-Found.ensures.ok

pub returns-in-Missing-clause-ok : goal.returns-in-Missing-clause-ok
returns-in-Missing-clause-ok g c =
    let view = g.H.HeapSeat.view in
    let v = view c.args.seat.now in
    let u = view c.search.new.seat in
    let searches = subst (λ (e : SearchEnd). Searches c.args.key e v u) c.in-Missing.is c.in_ok-place.ensures.ok in
    gets_nothing v u c.args.key c.args.out.now searches.goes.runs searches.ends.1

pub returns-in-NoTable-clause-ok : goal.returns-in-NoTable-clause-ok
returns-in-NoTable-clause-ok g c =
    let view = g.H.HeapSeat.view in
    let v = view c.args.seat.now in
    let u = view c.search.new.seat in
    let searches = subst (λ (e : SearchEnd). Searches c.args.key e v u) c.in-NoTable.is c.in_ok-place.ensures.ok in
    gets_nothing v u c.args.key c.args.out.now searches.goes.runs (λ map gives. searches.ends.empty map gives c.args.key)
