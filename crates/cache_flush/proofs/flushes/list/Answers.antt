use Rattle.std.proofs.Common.{refl}
use Rattle.seat_costs.proofs.AskedLemmas.{asked_then}
use Rattle.seat_costs.proofs.RowLemmas.{row_then}
use Rattle.superblock_lists.proofs.AnchorLemmas.{claim_look, claim_still}
use Rattle.cache_flush.proofs.FlushLemmas.{listed}
use Rattle.seat_costs.proofs.ResultLemmas.{on_ok_then}
use Rattle.cache_flush.proofs.flushes.list.Goals as goal

pub look_anchor-requires-clause-may : goal.look_anchor-requires-clause-may
look_anchor-requires-clause-may g c = claim_look c.args.seat.now.view c.recall_soundness.ensures c.args.class.number c.args.d c.requires.claim

pub list_seen-requires-clause-claim : goal.list_seen-requires-clause-claim
list_seen-requires-clause-claim g c = claim_still c.args.seat.now.view c.look_anchor.new.seat.view c.args.d c.args.class.number
    c.in_ok-anchor.ensures.seen.parts_are c.requires.claim

pub returns-clause-listed : goal.returns-clause-listed
returns-clause-listed g c =
    on_ok_then c.list_seen.result (listed c.args.seat.now.view c.recall_soundness.ensures c.args.class.number c.args.d c.requires.claim
    c.look_anchor.new.seat.view c.list_seen.new.seat.view c.in_ok-anchor.anchor
    c.in_ok-anchor.ensures.seen (c.in_ok-anchor.ensures.of_class c.requires.claim.claimed) refl refl c.look_anchor.ensures.row.view)
    c.list_seen.ensures.listed

pub returns-clause-row : goal.returns-clause-row
returns-clause-row g c = row_then c.args.seat.now c.look_anchor.new.seat c.list_seen.new.seat c.look_anchor.ensures.row c.list_seen.ensures.row

pub returns-clause-asked : goal.returns-clause-asked
returns-clause-asked g c = asked_then c.look_anchor.ensures.asked c.list_seen.ensures.asked
