use Rattle.std.proofs.Common.{Option, subst, ◌∙◌, arith}
use Rattle.std.proofs.lemmas.Result.{err_from_is_err_and}
use Rattle.heap_model.specs.declared.block.Block.{Block}
use Rattle.dict_model.specs.Nodes.{shard_of, table_bytes}
use Rattle.dict_requests.specs.Searches.{FindsTable}
use Rattle.dict_requests.specs.Moving.{for_table}
use Rattle.dict_requests.proofs.GrownLemmas.{grown_keeps, grown_none, gives_grown}
use Rattle.dict_requests.proofs.ExactCallLemmas.{all_quiet}
use Rattle.dict_requests.proofs.TrailLemmas.{same_map}
use Rattle.dict_requests.proofs.ChangeLemmas.{change_none, change_after, changes_after}
use Rattle.dict_requests.proofs.DelLemmas.{shard_still}
use Rattle.dict_requests.proofs.RequestLemmas.{full_keeps, was_null, has_table, still_owned, fails_table}
use Rattle.dict_requests.proofs.TurnedDownLemmas.{turned_down_behind}
use Rattle.dict_requests.proofs.moving.have_table.Goals as goal

pub returns-in_err-table_of-clause-crash : goal.returns-in_err-table_of-clause-crash
returns-in_err-table_of-clause-crash g c =
    let view = g.H.HeapSeat.view in
    let v = view c.args.seat.now in
    let u = view c.table_of.new.seat in
    let grown = grown_keeps v u c.table_of.ensures.quiet.unchanged in
    λ after. change_none (shard_of c.args.key) after v u grown c.table_of.ensures.quiet.calls.goes_on.kinds
    (g.met.H.HeapSeat.seat c.table_of.new.seat) c.requires.only

pub make_table-requires-clause-shard : goal.make_table-requires-clause-shard
make_table-requires-clause-shard g c =
    let view = g.H.HeapSeat.view in
    let v = view c.args.seat.now in
    let u = view c.table_of.new.seat in
    shard_still v u (shard_of c.args.key) (g.met.H.HeapSeat.seat c.table_of.new.seat)
    c.table_of.ensures.quiet.unchanged c.table_of.ensures.quiet.calls.goes_on.kinds c.requires

pub make_table-requires-clause-none : goal.make_table-requires-clause-none
make_table-requires-clause-none g c =
    let view = g.H.HeapSeat.view in
    let v = view c.args.seat.now in
    let u = view c.table_of.new.seat in
    let grown = grown_keeps v u c.table_of.ensures.quiet.unchanged in
    let finds = subst (λ (t : Option Block). FindsTable (shard_of c.args.key) t v u) c.in-None.is c.in_ok-table_of.ensures.ok in
    record {
      root = finds.none.root;
      empty = λ map gives key. same_map u (g.met.H.HeapSeat.seat c.table_of.new.seat) (shard_of c.args.key) map c.requires.map gives
          (gives_grown v u grown (shard_of c.args.key) c.requires.map c.requires.gives) key
          ∙ finds.none.empty c.requires.map c.requires.gives key;
    }

pub returns-in_err-make_table-in-None-clause-exact_full : goal.returns-in_err-make_table-in-None-clause-exact_full
returns-in_err-make_table-in-None-clause-exact_full g c =
    let view = g.H.HeapSeat.view in
    let v = view c.args.seat.now in
    let u = view c.table_of.new.seat in
    let w = view c.make_table.new.seat in
    let p = err_from_is_err_and c.from_residual-in_err-make_table-in-None.result c.from_residual-in_err-make_table-in-None.ensures.1 in
    rw (p.1, p.2)
    (λ looks is all. all_quiet u w (g.met.H.HeapSeat.seat c.make_table.new.seat)
    (full_keeps table_bytes c.in_err-make_table-in-None.field-0.0 u w looks is c.in_err-make_table-in-None.ensures.cause)
    c.make_table.ensures.calls.goes_on.kinds
    (all_quiet v u (g.met.H.HeapSeat.seat c.table_of.new.seat) c.table_of.ensures.quiet.unchanged c.table_of.ensures.quiet.calls.goes_on.kinds all))

pub returns-in_err-make_table-in-None-clause-cause : goal.returns-in_err-make_table-in-None-clause-cause
returns-in_err-make_table-in-None-clause-cause g c =
    let view = g.H.HeapSeat.view in
    let v = view c.args.seat.now in
    let u = view c.table_of.new.seat in
    let w = view c.make_table.new.seat in
    let keeps = c.table_of.ensures.quiet.unchanged in
    let finds = subst (λ (t : Option Block). FindsTable (shard_of c.args.key) t v u) c.in-None.is c.in_ok-table_of.ensures.ok in
    let p = err_from_is_err_and c.from_residual-in_err-make_table-in-None.result c.from_residual-in_err-make_table-in-None.ensures.1 in
    rw (p.1, p.2)
    (fails_table (shard_of c.args.key) c.in_err-make_table-in-None.field-0.0 v u w finds.goes.runs
    (grown_keeps v u keeps) c.table_of.ensures.quiet.refusals c.table_of.ensures.quiet.calls.few
    (still_owned v u (shard_of c.args.key) keeps c.requires.owned) finds.none.root c.in_err-make_table-in-None.ensures.cause)

pub returns-in_err-make_table-in-None-clause-none : goal.returns-in_err-make_table-in-None-clause-none
returns-in_err-make_table-in-None-clause-none g c =
    let heap = g.H.HeapSeat in
    let p = err_from_is_err_and c.from_residual-in_err-make_table-in-None.result c.from_residual-in_err-make_table-in-None.ensures.1 in
    rw (p.1, p.2)
    (λ looks is. turned_down_behind heap.keeps heap.has_none g.met.H.HeapSeat.keeps_row table_bytes looks c.args.seat.now c.table_of.new.seat
    c.make_table.new.seat
    c.table_of.ensures.kept (c.in_err-make_table-in-None.ensures.none looks is))

pub returns-in_err-make_table-in-None-clause-crash : goal.returns-in_err-make_table-in-None-clause-crash
returns-in_err-make_table-in-None-clause-crash g c =
    let view = g.H.HeapSeat.view in
    let v = view c.args.seat.now in
    let u = view c.table_of.new.seat in
    let w = view c.make_table.new.seat in
    let grown = grown_keeps v u c.table_of.ensures.quiet.unchanged in
    λ after. change_after (shard_of c.args.key) after v u w grown c.table_of.ensures.quiet.calls.goes_on.kinds
    (g.met.H.HeapSeat.seat c.table_of.new.seat) c.requires.only
    (c.make_table.ensures.crash after)

pub returns-in_ok-make_table-in-None-clause-crash : goal.returns-in_ok-make_table-in-None-clause-crash
returns-in_ok-make_table-in-None-clause-crash g c =
    let view = g.H.HeapSeat.view in
    let v = view c.args.seat.now in
    let u = view c.table_of.new.seat in
    let w = view c.make_table.new.seat in
    let grown = grown_keeps v u c.table_of.ensures.quiet.unchanged in
    λ after. change_after (shard_of c.args.key) after v u w grown c.table_of.ensures.quiet.calls.goes_on.kinds
    (g.met.H.HeapSeat.seat c.table_of.new.seat) c.requires.only
    (c.make_table.ensures.crash after)

pub returns-in_err-make_table-in-None-clause-taken : goal.returns-in_err-make_table-in-None-clause-taken
returns-in_err-make_table-in-None-clause-taken g c =
    let view = g.H.HeapSeat.view in
    let v = view c.args.seat.now in
    let u = view c.table_of.new.seat in
    let finds = subst (λ (t : Option Block). FindsTable (shard_of c.args.key) t v u) c.in-None.is c.in_ok-table_of.ensures.ok in
    for_table (was_null v u (shard_of c.args.key) c.requires.owned (grown_keeps v u c.table_of.ensures.quiet.unchanged) finds.none.root)
    (let a = c.table_of.ensures.quiet.calls.few in let b = c.make_table.ensures.calls.few in omega arith)

pub returns-in_ok-make_table-in-None-clause-taken : goal.returns-in_ok-make_table-in-None-clause-taken
returns-in_ok-make_table-in-None-clause-taken g c =
    let view = g.H.HeapSeat.view in
    let v = view c.args.seat.now in
    let u = view c.table_of.new.seat in
    let finds = subst (λ (t : Option Block). FindsTable (shard_of c.args.key) t v u) c.in-None.is c.in_ok-table_of.ensures.ok in
    for_table (was_null v u (shard_of c.args.key) c.requires.owned (grown_keeps v u c.table_of.ensures.quiet.unchanged) finds.none.root)
    (let a = c.table_of.ensures.quiet.calls.few in let b = c.make_table.ensures.calls.few in omega arith)

pub returns-in-Some-clause-ok : goal.returns-in-Some-clause-ok
returns-in-Some-clause-ok g c =
    let view = g.H.HeapSeat.view in
    let v = view c.args.seat.now in
    let u = view c.table_of.new.seat in
    record { gives = λ map gives. gives_grown v u (grown_keeps v u c.table_of.ensures.quiet.unchanged) (shard_of c.args.key) map gives }

pub returns-in-Some-clause-exact : goal.returns-in-Some-clause-exact
returns-in-Some-clause-exact g c =
    let view = g.H.HeapSeat.view in
    all_quiet (view c.args.seat.now) (view c.table_of.new.seat) (g.met.H.HeapSeat.seat c.table_of.new.seat)
    c.table_of.ensures.quiet.unchanged c.table_of.ensures.quiet.calls.goes_on.kinds

pub returns-in-Some-clause-crash : goal.returns-in-Some-clause-crash
returns-in-Some-clause-crash g c =
    let view = g.H.HeapSeat.view in
    let v = view c.args.seat.now in
    let u = view c.table_of.new.seat in
    let grown = grown_keeps v u c.table_of.ensures.quiet.unchanged in
    λ after. change_none (shard_of c.args.key) after v u grown c.table_of.ensures.quiet.calls.goes_on.kinds
    (g.met.H.HeapSeat.seat c.table_of.new.seat) c.requires.only

pub returns-in-Some-clause-table : goal.returns-in-Some-clause-table
returns-in-Some-clause-table g c =
    let view = g.H.HeapSeat.view in
    let v = view c.args.seat.now in
    let u = view c.table_of.new.seat in
    let finds = subst (λ (t : Option Block). FindsTable (shard_of c.args.key) t v u) c.in-Some.is c.in_ok-table_of.ensures.ok in
    has_table u u (shard_of c.args.key) c.in-Some.field-0 finds.some.owned finds.some.root (grown_none u)

pub returns-in_ok-make_table-in-None-clause-ok : goal.returns-in_ok-make_table-in-None-clause-ok
returns-in_ok-make_table-in-None-clause-ok g c =
    let view = g.H.HeapSeat.view in
    let v = view c.args.seat.now in
    let u = view c.table_of.new.seat in
    let grown = grown_keeps v u c.table_of.ensures.quiet.unchanged in
    changes_after (shard_of c.args.key) (λ map. map) v u (view c.make_table.new.seat) grown
    (record { gives = c.in_ok-make_table-in-None.ensures.ok.gives })

pub returns-in_ok-make_table-in-None-clause-exact : goal.returns-in_ok-make_table-in-None-clause-exact
returns-in_ok-make_table-in-None-clause-exact g c =
    let view = g.H.HeapSeat.view in
    let v = view c.args.seat.now in
    let u = view c.table_of.new.seat in
    λ all. c.in_ok-make_table-in-None.ensures.exact (all_quiet v u
    (g.met.H.HeapSeat.seat c.table_of.new.seat) c.table_of.ensures.quiet.unchanged c.table_of.ensures.quiet.calls.goes_on.kinds all)

pub returns-in_ok-make_table-in-None-clause-table : goal.returns-in_ok-make_table-in-None-clause-table
returns-in_ok-make_table-in-None-clause-table g c =
    let view = g.H.HeapSeat.view in
    let w = view c.make_table.new.seat in
    let makes = c.in_ok-make_table-in-None.ensures.ok in
    has_table w w (shard_of c.args.key) c.in_ok-make_table-in-None.field-0 makes.missing.come.owned makes.missing.come.root (grown_none w)
