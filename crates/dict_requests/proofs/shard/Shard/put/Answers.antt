use Rattle.std.proofs.Common.{◌+◌, ◌*◌, length, subst, arith}
use Rattle.std.proofs.lemmas.Result.{err_from_is_err_and, on_ok_weaker}
use Rattle.heap_model.specs.Sizes.{span_of}
use Rattle.heap_seat.proofs.RowLemmas.{row_then, row_more, same_refusals_then}
use Rattle.dict_model.specs.Nodes.{shard_of, value_words, node_bytes, table_bytes}
use Rattle.dict_model.specs.Requests.{with_key}
use Rattle.dict_requests.specs.declared.search.SearchEnd.{SearchEnd}
use Rattle.dict_requests.specs.Searches.{Searches}
use Rattle.dict_requests.specs.Puts.{for_node, for_both}
use Rattle.dict_requests.proofs.DelLemmas.{few_calls}
use Rattle.dict_requests.proofs.RequestLemmas.{change_behind, changes_behind, shard_behind}
use Rattle.dict_requests.proofs.TurnedDownLemmas.{last_turned_down, ends_turned_down}
use Rattle.dict_requests.proofs.SearchedLemmas.{searched, search_shard, search_lacks, search_null, search_unchanged, search_change, search_changes, search_all, search_cause, search_cause_of_table, search_cause_behind, full_reaches, ends_reaching}
use Rattle.dict_requests.proofs.shard.Shard.put.Goals as goal

pub returns-in_err-place-clause-crash : goal.returns-in_err-place-clause-crash
returns-in_err-place-clause-crash g c =
    let s = searched c.args.key _ _ c.requires.shard (g.met.H.HeapSeat.seat c.search.new.seat) c.search.ensures.quiet in
    search_unchanged s (λ map. with_key map c.args.key c.args.value.now)

pub put_over-requires-clause-shard : goal.put_over-requires-clause-shard
put_over-requires-clause-shard g c =
    let s = searched c.args.key _ _ c.requires.shard (g.met.H.HeapSeat.seat c.search.new.seat) c.search.ensures.quiet in
    search_shard s

pub put_first-requires-clause-shard : goal.put_first-requires-clause-shard
put_first-requires-clause-shard g c =
    let s = searched c.args.key _ _ c.requires.shard (g.met.H.HeapSeat.seat c.search.new.seat) c.search.ensures.quiet in
    search_shard s

pub make_table-requires-clause-shard : goal.make_table-requires-clause-shard
make_table-requires-clause-shard g c =
    let s = searched c.args.key _ _ c.requires.shard (g.met.H.HeapSeat.seat c.search.new.seat) c.search.ensures.quiet in
    search_shard s

pub put_first-requires-clause-missing : goal.put_first-requires-clause-missing
put_first-requires-clause-missing g c =
    let s = searched c.args.key _ _ c.requires.shard (g.met.H.HeapSeat.seat c.search.new.seat) c.search.ensures.quiet in
    let found = subst (λ (e : SearchEnd). Searches c.args.key e (g.H.HeapSeat.view c.args.seat.now) (g.H.HeapSeat.view c.search.new.seat))
    c.in-Missing.is c.in_ok-place.ensures.ok in
    record { come = found.ends.0; none = search_lacks s c.args.key found.ends.1 }

pub make_table-requires-clause-none : goal.make_table-requires-clause-none
make_table-requires-clause-none g c =
    let s = searched c.args.key _ _ c.requires.shard (g.met.H.HeapSeat.seat c.search.new.seat) c.search.ensures.quiet in
    let found = subst (λ (e : SearchEnd). Searches c.args.key e (g.H.HeapSeat.view c.args.seat.now) (g.H.HeapSeat.view c.search.new.seat))
    c.in-NoTable.is c.in_ok-place.ensures.ok in
    record { root = found.ends.root; empty = λ map gives key. search_lacks s key (λ m has. found.ends.empty m has key) map gives }

pub returns-in_err-table-in-NoTable-clause-cause : goal.returns-in_err-table-in-NoTable-clause-cause
returns-in_err-table-in-NoTable-clause-cause g c =
    let s = searched c.args.key _ _ c.requires.shard (g.met.H.HeapSeat.seat c.search.new.seat) c.search.ensures.quiet in
    let found = subst (λ (e : SearchEnd). Searches c.args.key e (g.H.HeapSeat.view c.args.seat.now) (g.H.HeapSeat.view c.search.new.seat))
    c.in-NoTable.is c.in_ok-place.ensures.ok in
    let p = err_from_is_err_and c.from_residual-in_err-table-in-NoTable.result c.from_residual-in_err-table-in-NoTable.ensures.1 in
    rw (p.1, p.2)
    (search_cause_of_table s (node_bytes (length c.args.value.now)) c.in_err-table-in-NoTable.field-0.0
    (g.H.HeapSeat.view c.make_table.new.seat) found.goes.runs
    found.ends.root c.in_err-table-in-NoTable.ensures.cause)

pub returns-in_err-table-in-NoTable-clause-crash : goal.returns-in_err-table-in-NoTable-clause-crash
returns-in_err-table-in-NoTable-clause-crash g c =
    let s = searched c.args.key _ _ c.requires.shard (g.met.H.HeapSeat.seat c.search.new.seat) c.search.ensures.quiet in
    search_change s (λ map. with_key map c.args.key c.args.value.now) (g.H.HeapSeat.view c.make_table.new.seat)
    (c.make_table.ensures.crash (λ map. with_key map c.args.key c.args.value.now))

pub put_first-requires-in-NoTable-clause-shard : goal.put_first-requires-in-NoTable-clause-shard
put_first-requires-in-NoTable-clause-shard g c =
    let view = g.H.HeapSeat.view in
    let s = searched c.args.key _ _ c.requires.shard (g.met.H.HeapSeat.seat c.search.new.seat) c.search.ensures.quiet in
    shard_behind c.args.key (λ map. with_key map c.args.key c.args.value.now) c.in_ok-table-in-NoTable.table (view c.search.new.seat)
    (view c.make_table.new.seat) (search_shard s) c.in_ok-table-in-NoTable.ensures.ok
    (c.make_table.ensures.crash (λ map. with_key map c.args.key c.args.value.now))

pub returns-in-Found-clause-ok : goal.returns-in-Found-clause-ok
returns-in-Found-clause-ok g c =
    let s = searched c.args.key _ _ c.requires.shard (g.met.H.HeapSeat.seat c.search.new.seat) c.search.ensures.quiet in
    on_ok_weaker c.put_over.result (search_changes s (λ map. with_key map c.args.key c.args.value.now) (g.H.HeapSeat.view c.put_over.new.seat))
    c.put_over.ensures.ok

pub returns-in-Found-clause-cause : goal.returns-in-Found-clause-cause
returns-in-Found-clause-cause g c =
    let s = searched c.args.key _ _ c.requires.shard (g.met.H.HeapSeat.seat c.search.new.seat) c.search.ensures.quiet in
    let found = subst (λ (e : SearchEnd). Searches c.args.key e (g.H.HeapSeat.view c.args.seat.now) (g.H.HeapSeat.view c.search.new.seat))
    c.in-Found.is c.in_ok-place.ensures.ok in
    search_cause s c.put_over.result (node_bytes (length c.args.value.now)) found.ends.table (g.H.HeapSeat.view c.put_over.new.seat)
    found.goes.runs found.ends.come.root c.put_over.ensures.cause

pub returns-in-Found-clause-taken : goal.returns-in-Found-clause-taken
returns-in-Found-clause-taken g c = for_node (let a = c.search.ensures.quiet.quiet.calls.few in let b = c.put_over.ensures.calls.few in omega arith)

pub returns-in-Found-clause-crash : goal.returns-in-Found-clause-crash
returns-in-Found-clause-crash g c =
    let s = searched c.args.key _ _ c.requires.shard (g.met.H.HeapSeat.seat c.search.new.seat) c.search.ensures.quiet in
    search_change s (λ map. with_key map c.args.key c.args.value.now) (g.H.HeapSeat.view c.put_over.new.seat) c.put_over.ensures.crash

pub returns-in-Found-clause-exact : goal.returns-in-Found-clause-exact
returns-in-Found-clause-exact g c =
    let s = searched c.args.key _ _ c.requires.shard (g.met.H.HeapSeat.seat c.search.new.seat) c.search.ensures.quiet in
    on_ok_weaker c.put_over.result (λ exact all. exact (search_all s all)) c.put_over.ensures.exact

pub returns-in-Found-clause-exact_full : goal.returns-in-Found-clause-exact_full
returns-in-Found-clause-exact_full g c =
    let view = g.H.HeapSeat.view in
    let s = searched c.args.key _ _ c.requires.shard (g.met.H.HeapSeat.seat c.search.new.seat) c.search.ensures.quiet in
    ends_reaching c.put_over.result (node_bytes (length c.args.value.now)) (view c.args.seat.now) (view c.search.new.seat)
    (view c.put_over.new.seat) (search_all s) (g.met.H.HeapSeat.seat c.put_over.new.seat) c.put_over.ensures.calls.goes_on.kinds
    c.put_over.ensures.cause

pub returns-in-Found-clause-none : goal.returns-in-Found-clause-none
returns-in-Found-clause-none g c =
    let heap = g.H.HeapSeat in
    ends_turned_down heap.keeps heap.has_none g.met.H.HeapSeat.keeps_row c.put_over.result (node_bytes (length c.args.value.now))
    (heap.view c.search.new.seat)
    (heap.view c.put_over.new.seat) c.args.seat.now c.search.new.seat c.put_over.new.seat c.search.ensures.kept c.put_over.ensures.cause
    c.put_over.ensures.none

pub returns-in-Found-clause-refusals : goal.returns-in-Found-clause-refusals
returns-in-Found-clause-refusals g c =
    let view = g.H.HeapSeat.view in
    on_ok_weaker c.put_over.result (same_refusals_then (view c.args.seat.now) (view c.search.new.seat) (view c.put_over.new.seat)
    c.search.ensures.quiet.quiet.refusals) c.put_over.ensures.refusals

pub returns-in-Missing-clause-ok : goal.returns-in-Missing-clause-ok
returns-in-Missing-clause-ok g c =
    let s = searched c.args.key _ _ c.requires.shard (g.met.H.HeapSeat.seat c.search.new.seat) c.search.ensures.quiet in
    on_ok_weaker c.put_first.result (search_changes s (λ map. with_key map c.args.key c.args.value.now) (g.H.HeapSeat.view c.put_first.new.seat))
    c.put_first.ensures.ok

pub returns-in-Missing-clause-cause : goal.returns-in-Missing-clause-cause
returns-in-Missing-clause-cause g c =
    let s = searched c.args.key _ _ c.requires.shard (g.met.H.HeapSeat.seat c.search.new.seat) c.search.ensures.quiet in
    let found = subst (λ (e : SearchEnd). Searches c.args.key e (g.H.HeapSeat.view c.args.seat.now) (g.H.HeapSeat.view c.search.new.seat))
    c.in-Missing.is c.in_ok-place.ensures.ok in
    search_cause s c.put_first.result (node_bytes (length c.args.value.now)) c.in-Missing.table (g.H.HeapSeat.view c.put_first.new.seat)
    found.goes.runs found.ends.0.root c.put_first.ensures.cause

pub returns-in-Missing-clause-taken : goal.returns-in-Missing-clause-taken
returns-in-Missing-clause-taken g c =
    for_node (let a = c.search.ensures.quiet.quiet.calls.few in let b = c.put_first.ensures.calls.few in omega arith)

pub returns-in-Missing-clause-crash : goal.returns-in-Missing-clause-crash
returns-in-Missing-clause-crash g c =
    let s = searched c.args.key _ _ c.requires.shard (g.met.H.HeapSeat.seat c.search.new.seat) c.search.ensures.quiet in
    search_change s (λ map. with_key map c.args.key c.args.value.now) (g.H.HeapSeat.view c.put_first.new.seat) c.put_first.ensures.crash

pub returns-in-Missing-clause-exact : goal.returns-in-Missing-clause-exact
returns-in-Missing-clause-exact g c =
    let s = searched c.args.key _ _ c.requires.shard (g.met.H.HeapSeat.seat c.search.new.seat) c.search.ensures.quiet in
    on_ok_weaker c.put_first.result (λ exact all. exact (search_all s all)) c.put_first.ensures.exact

pub returns-in-Missing-clause-exact_full : goal.returns-in-Missing-clause-exact_full
returns-in-Missing-clause-exact_full g c =
    let view = g.H.HeapSeat.view in
    let s = searched c.args.key _ _ c.requires.shard (g.met.H.HeapSeat.seat c.search.new.seat) c.search.ensures.quiet in
    ends_reaching c.put_first.result (node_bytes (length c.args.value.now)) (view c.args.seat.now) (view c.search.new.seat)
    (view c.put_first.new.seat) (search_all s) (g.met.H.HeapSeat.seat c.put_first.new.seat) c.put_first.ensures.calls.goes_on.kinds
    c.put_first.ensures.cause

pub returns-in-Missing-clause-none : goal.returns-in-Missing-clause-none
returns-in-Missing-clause-none g c =
    let heap = g.H.HeapSeat in
    ends_turned_down heap.keeps heap.has_none g.met.H.HeapSeat.keeps_row c.put_first.result (node_bytes (length c.args.value.now))
    (heap.view c.search.new.seat)
    (heap.view c.put_first.new.seat) c.args.seat.now c.search.new.seat c.put_first.new.seat c.search.ensures.kept c.put_first.ensures.cause
    c.put_first.ensures.none

pub returns-in-Missing-clause-refusals : goal.returns-in-Missing-clause-refusals
returns-in-Missing-clause-refusals g c =
    let view = g.H.HeapSeat.view in
    on_ok_weaker c.put_first.result (same_refusals_then (view c.args.seat.now) (view c.search.new.seat) (view c.put_first.new.seat)
    c.search.ensures.quiet.quiet.refusals) c.put_first.ensures.refusals

pub returns-in_err-table-in-NoTable-clause-exact_full : goal.returns-in_err-table-in-NoTable-clause-exact_full
returns-in_err-table-in-NoTable-clause-exact_full g c =
    let view = g.H.HeapSeat.view in
    let s = searched c.args.key _ _ c.requires.shard (g.met.H.HeapSeat.seat c.search.new.seat) c.search.ensures.quiet in
    let p = err_from_is_err_and c.from_residual-in_err-table-in-NoTable.result c.from_residual-in_err-table-in-NoTable.ensures.1 in
    rw (p.1, p.2)
    (full_reaches table_bytes (view c.args.seat.now) (view c.search.new.seat) (view c.make_table.new.seat) (search_all s)
    (g.met.H.HeapSeat.seat c.make_table.new.seat) c.make_table.ensures.calls.goes_on.kinds c.in_err-table-in-NoTable.field-0.0
    c.in_err-table-in-NoTable.ensures.cause)

pub returns-in_ok-table-in-NoTable-clause-exact_full : goal.returns-in_ok-table-in-NoTable-clause-exact_full
returns-in_ok-table-in-NoTable-clause-exact_full g c =
    let view = g.H.HeapSeat.view in
    let s = searched c.args.key _ _ c.requires.shard (g.met.H.HeapSeat.seat c.search.new.seat) c.search.ensures.quiet in
    ends_reaching c.put_first-in-NoTable.result (node_bytes (length c.args.value.now)) (view c.args.seat.now) (view c.make_table.new.seat)
    (view c.put_first-in-NoTable.new.seat) (λ all. c.in_ok-table-in-NoTable.ensures.exact (search_all s all))
    (g.met.H.HeapSeat.seat c.put_first-in-NoTable.new.seat)
    c.put_first-in-NoTable.ensures.calls.goes_on.kinds c.put_first-in-NoTable.ensures.cause

pub returns-in_ok-table-in-NoTable-clause-exact : goal.returns-in_ok-table-in-NoTable-clause-exact
returns-in_ok-table-in-NoTable-clause-exact g c =
    let s = searched c.args.key _ _ c.requires.shard (g.met.H.HeapSeat.seat c.search.new.seat) c.search.ensures.quiet in
    on_ok_weaker c.put_first-in-NoTable.result (λ exact all. exact (c.in_ok-table-in-NoTable.ensures.exact (search_all s all)))
    c.put_first-in-NoTable.ensures.exact

pub returns-in_ok-table-in-NoTable-clause-ok : goal.returns-in_ok-table-in-NoTable-clause-ok
returns-in_ok-table-in-NoTable-clause-ok g c =
    let view = g.H.HeapSeat.view in
    let s = searched c.args.key _ _ c.requires.shard (g.met.H.HeapSeat.seat c.search.new.seat) c.search.ensures.quiet in
    on_ok_weaker c.put_first-in-NoTable.result (λ done. search_changes s (λ map. with_key map c.args.key c.args.value.now)
    (view c.put_first-in-NoTable.new.seat)
    (changes_behind c.args.key (λ map. with_key map c.args.key c.args.value.now) c.in_ok-table-in-NoTable.table (view c.search.new.seat)
    (view c.make_table.new.seat)
    (view c.put_first-in-NoTable.new.seat) c.in_ok-table-in-NoTable.ensures.ok done)) c.put_first-in-NoTable.ensures.ok

pub returns-in_ok-table-in-NoTable-clause-cause : goal.returns-in_ok-table-in-NoTable-clause-cause
returns-in_ok-table-in-NoTable-clause-cause g c =
    let view = g.H.HeapSeat.view in
    let s = searched c.args.key _ _ c.requires.shard (g.met.H.HeapSeat.seat c.search.new.seat) c.search.ensures.quiet in
    let found = subst (λ (e : SearchEnd). Searches c.args.key e (g.H.HeapSeat.view c.args.seat.now) (g.H.HeapSeat.view c.search.new.seat))
    c.in-NoTable.is c.in_ok-place.ensures.ok in
    search_cause_behind s c.put_first-in-NoTable.result (node_bytes (length c.args.value.now)) c.in_ok-table-in-NoTable.table
    (view c.make_table.new.seat)
    (view c.put_first-in-NoTable.new.seat) found.goes.runs found.ends.root c.in_ok-table-in-NoTable.ensures.ok c.make_table.ensures.calls.few
    c.put_first-in-NoTable.ensures.cause

pub returns-in_ok-table-in-NoTable-clause-taken : goal.returns-in_ok-table-in-NoTable-clause-taken
returns-in_ok-table-in-NoTable-clause-taken g c =
    let s = searched c.args.key _ _ c.requires.shard (g.met.H.HeapSeat.seat c.search.new.seat) c.search.ensures.quiet in
    let found = subst (λ (e : SearchEnd). Searches c.args.key e (g.H.HeapSeat.view c.args.seat.now) (g.H.HeapSeat.view c.search.new.seat))
    c.in-NoTable.is c.in_ok-place.ensures.ok in
    for_both (search_null s found.ends.root) (let a = c.search.ensures.quiet.quiet.calls.few in
    let b = c.make_table.ensures.calls.few in let d = c.put_first-in-NoTable.ensures.calls.few in omega arith)

pub returns-in_ok-table-in-NoTable-clause-crash : goal.returns-in_ok-table-in-NoTable-clause-crash
returns-in_ok-table-in-NoTable-clause-crash g c =
    let view = g.H.HeapSeat.view in
    let s = searched c.args.key _ _ c.requires.shard (g.met.H.HeapSeat.seat c.search.new.seat) c.search.ensures.quiet in
    search_change s (λ map. with_key map c.args.key c.args.value.now) (view c.put_first-in-NoTable.new.seat)
    (change_behind c.args.key (λ map. with_key map c.args.key c.args.value.now) c.in_ok-table-in-NoTable.table (view c.search.new.seat)
    (view c.make_table.new.seat)
    (view c.put_first-in-NoTable.new.seat) c.in_ok-table-in-NoTable.ensures.ok
    (c.make_table.ensures.crash (λ map. with_key map c.args.key c.args.value.now)) c.put_first-in-NoTable.ensures.crash)

pub returns-in_ok-table-in-NoTable-clause-calls : goal.returns-in_ok-table-in-NoTable-clause-calls
returns-in_ok-table-in-NoTable-clause-calls g c =
    let view = g.H.HeapSeat.view in
    let u = view c.search.new.seat in
    let w = view c.put_first-in-NoTable.new.seat in
    let n = value_words (length c.args.value.now) in
    let most = span_of (node_bytes (length c.args.value.now)) in
    let one = span_of table_bytes in
    let row = row_more (260 + (2 * n + 12)) (1 + 1) (one + most) (272 + 2 * n) 2 (most + one) u w (omega arith) (omega arith) (omega arith)
    (row_then 260 1 one (2 * n + 12) 1 most u (view c.make_table.new.seat) w c.make_table.ensures.calls c.put_first-in-NoTable.ensures.calls) in
    few_calls (272 + 2 * n) 2 (most + one) n (shard_of c.args.key) (view c.args.seat.now) u w (omega arith) (omega arith) c.search.ensures.quiet row

pub returns-in-Found-clause-calls : goal.returns-in-Found-clause-calls
returns-in-Found-clause-calls g c =
    let view = g.H.HeapSeat.view in
    let u = view c.search.new.seat in
    let w = view c.put_over.new.seat in
    let n = value_words (length c.args.value.now) in
    let most = span_of (node_bytes (length c.args.value.now)) in
    let more = most + span_of table_bytes in
    few_calls (2 * n + 13) 2 more n (shard_of c.args.key) (view c.args.seat.now) u w (omega arith) (omega arith) c.search.ensures.quiet
    (row_more (2 * n + 13) 2 most (2 * n + 13) 2 more u w (omega arith) (omega arith) (omega arith) c.put_over.ensures.calls)

pub returns-in_err-table-in-NoTable-clause-taken : goal.returns-in_err-table-in-NoTable-clause-taken
returns-in_err-table-in-NoTable-clause-taken g c =
    let s = searched c.args.key _ _ c.requires.shard (g.met.H.HeapSeat.seat c.search.new.seat) c.search.ensures.quiet in
    let found = subst (λ (e : SearchEnd). Searches c.args.key e (g.H.HeapSeat.view c.args.seat.now) (g.H.HeapSeat.view c.search.new.seat))
    c.in-NoTable.is c.in_ok-place.ensures.ok in
    for_both (search_null s found.ends.root)
    (let a = c.search.ensures.quiet.quiet.calls.few in let b = c.make_table.ensures.calls.few in omega arith)

pub returns-in_err-place-clause-taken : goal.returns-in_err-place-clause-taken
returns-in_err-place-clause-taken g c = for_node (let a = c.search.ensures.quiet.quiet.calls.few in omega arith)

pub returns-in_err-table-in-NoTable-clause-none : goal.returns-in_err-table-in-NoTable-clause-none
returns-in_err-table-in-NoTable-clause-none g c =
    let heap = g.H.HeapSeat in
    let p = err_from_is_err_and c.from_residual-in_err-table-in-NoTable.result c.from_residual-in_err-table-in-NoTable.ensures.1 in
    rw (p.1, p.2)
    (last_turned_down heap.keeps heap.has_none g.met.H.HeapSeat.keeps_row table_bytes c.in_err-table-in-NoTable.field-0.0
    (heap.view c.search.new.seat) (heap.view c.make_table.new.seat) c.args.seat.now c.search.new.seat c.make_table.new.seat c.search.ensures.kept
    c.in_err-table-in-NoTable.ensures.cause c.in_err-table-in-NoTable.ensures.none)

pub returns-in_ok-table-in-NoTable-clause-none : goal.returns-in_ok-table-in-NoTable-clause-none
returns-in_ok-table-in-NoTable-clause-none g c =
    let heap = g.H.HeapSeat in
    let kept = g.met.H.HeapSeat.keeps_row c.args.seat.now c.search.new.seat c.make_table.new.seat c.search.ensures.kept c.make_table.ensures.kept in
    ends_turned_down heap.keeps heap.has_none g.met.H.HeapSeat.keeps_row c.put_first-in-NoTable.result (node_bytes (length c.args.value.now))
    (heap.view c.make_table.new.seat) (heap.view c.put_first-in-NoTable.new.seat) c.args.seat.now c.make_table.new.seat
    c.put_first-in-NoTable.new.seat kept
    c.put_first-in-NoTable.ensures.cause c.put_first-in-NoTable.ensures.none

pub returns-in_ok-table-in-NoTable-clause-refusals : goal.returns-in_ok-table-in-NoTable-clause-refusals
returns-in_ok-table-in-NoTable-clause-refusals g c =
    let view = g.H.HeapSeat.view in
    let v = view c.args.seat.now in
    let y = view c.make_table.new.seat in
    let before = same_refusals_then v (view c.search.new.seat) y c.search.ensures.quiet.quiet.refusals
    c.in_ok-table-in-NoTable.ensures.ok.refusals in
    on_ok_weaker c.put_first-in-NoTable.result (same_refusals_then v y (view c.put_first-in-NoTable.new.seat) before)
    c.put_first-in-NoTable.ensures.refusals
