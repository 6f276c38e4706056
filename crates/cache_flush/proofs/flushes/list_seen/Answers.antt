use Rattle.cache_flush.proofs.FlushLemmas.{claim_lists, listed_by}
use Rattle.seat_costs.proofs.ResultLemmas.{on_ok_then}
use Rattle.cache_flush.proofs.flushes.list_seen.Goals as goal

pub push_to-requires-clause-can : goal.push_to-requires-clause-can
push_to-requires-clause-can g c = claim_lists c.args.seat.now.view c.recall_soundness.ensures c.args.class.number c.args.d c.requires.claim
    c.list_for-list.result c.args.anchor c.requires.seen c.requires.low c.list_for-list.ensures.partial c.list_for-list.ensures.other

pub returns-clause-listed : goal.returns-clause-listed
returns-clause-listed g c =
    on_ok_then c.push_to.result (listed_by c.args.seat.now.view c.recall_soundness.ensures c.args.class.number c.args.d c.requires.claim
    c.push_to.new.seat.view c.list_for-list.result c.args.anchor
    c.list_for-list.ensures.partial c.list_for-list.ensures.other) c.push_to.ensures.done
