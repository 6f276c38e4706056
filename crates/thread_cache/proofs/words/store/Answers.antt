use Rattle.seat_costs.proofs.ResultLemmas.{on_ok_then}
use Rattle.thread_cache.proofs.OwnLemmas.{has_stored, may_store_held, store_crash, store_drew}
use Rattle.thread_cache.proofs.words.store.Goals as goal

pub draw_and_store-requires-clause-may : goal.draw_and_store-requires-clause-may
draw_and_store-requires-clause-may g c =
    may_store_held c.args.seat.now.view c.args.word c.args.value c.requires.held c.requires.no_batch c.recall_soundness.ensures

pub returns-clause-stored : goal.returns-clause-stored
returns-clause-stored g c = on_ok_then c.draw_and_store.result
    (has_stored c.args.seat.now.view c.args.word c.args.value c.requires.held c.requires.no_batch c.draw_and_store.new.seat.view)
    c.draw_and_store.ensures.stored

pub returns-clause-crash : goal.returns-clause-crash
returns-clause-crash g c =
    store_crash c.args.seat.now c.draw_and_store.new.seat c.args.word c.args.value c.requires.held c.draw_and_store.result
    c.draw_and_store.ensures.stored c.draw_and_store.ensures.none

pub returns-clause-drew : goal.returns-clause-drew
returns-clause-drew g c =
    store_drew c.args.seat.now.view c.args.word c.args.value c.requires.held c.requires.no_batch c.draw_and_store.new.seat.view
    c.draw_and_store.result c.draw_and_store.ensures.stored c.draw_and_store.ensures.stopped
