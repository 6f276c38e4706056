use Rattle.seat_costs.proofs.ResultLemmas.{on_ok_then}
use Rattle.cache_flush.proofs.GiveLemmas.{last_linked, last_not_held, may_link_last}
use Rattle.cache_flush.proofs.gives.link_last.Goals as goal

pub draw_and_store-requires-clause-may : goal.draw_and_store-requires-clause-may
draw_and_store-requires-clause-may g c =
    may_link_last c.args.seat.now.view c.recall_soundness.ensures c.args.d c.args.class.number c.args.last c.requires.batch c.args.first

pub returns-clause-linked : goal.returns-clause-linked
returns-clause-linked g c = on_ok_then c.draw_and_store.result
    (last_linked c.args.seat.now.view c.recall_soundness.ensures c.args.d c.args.class.number c.args.last c.requires.batch c.args.first
    c.draw_and_store.new.seat.view) c.draw_and_store.ensures.stored

pub returns-clause-row : goal.returns-clause-row
returns-clause-row g c = c.draw_and_store.ensures.not_held
    (last_not_held c.args.seat.now.view c.recall_soundness.ensures c.args.d c.args.class.number c.args.last c.requires.batch)
