use Rattle.seat_costs.proofs.ResultLemmas.{on_ok_then}
use Rattle.cache_fill.proofs.LinkLemmas.{may_link, word_linked, word_not_held}
use Rattle.cache_fill.proofs.cuts.link_block.Goals as goal

pub draw_and_store-requires-clause-may : goal.draw_and_store-requires-clause-may
draw_and_store-requires-clause-may g c = may_link c.args.seat.now.view c.recall_soundness.ensures c.args.word c.requires.from c.requires.until
    c.requires.claimed c.args.value

pub returns-clause-linked : goal.returns-clause-linked
returns-clause-linked g c = on_ok_then c.draw_and_store.result
    (word_linked c.args.seat.now.view c.recall_soundness.ensures c.args.word c.requires.from c.requires.until c.requires.claimed c.args.value
    c.draw_and_store.new.seat.view) c.draw_and_store.ensures.stored

pub returns-clause-row : goal.returns-clause-row
returns-clause-row g c = c.draw_and_store.ensures.not_held
    (word_not_held c.args.seat.now.view c.recall_soundness.ensures c.args.word c.requires.from c.requires.until c.requires.claimed)
