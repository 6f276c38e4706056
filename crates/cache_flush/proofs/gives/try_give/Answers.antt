use Rattle.seat_costs.proofs.AskedLemmas.{asked_then}
use Rattle.seat_costs.proofs.RowLemmas.{row_then}
use Rattle.cache_flush.proofs.GiveLemmas.{gives_later}
use Rattle.seat_costs.proofs.ResultLemmas.{if_ok_then}
use Rattle.cache_flush.proofs.gives.try_give.Goals as goal

pub returns-clause-given : goal.returns-clause-given
returns-clause-given g c = let v = c.args.seat.now.view in let t = c.look_anchor.new.seat.view in let w = c.give_looked.new.seat.view in
    let seen = c.in_ok-anchor.ensures.seen in
    if_ok_then c.give_looked.result (λ answer is. gives_later 2 v.batch.linked v t w c.args.d c.args.class.number answer seen.ran seen.room
    seen.parts_are c.look_anchor.ensures.row.view is) c.give_looked.ensures.given

pub returns-clause-row : goal.returns-clause-row
returns-clause-row g c = row_then c.args.seat.now c.look_anchor.new.seat c.give_looked.new.seat c.look_anchor.ensures.row c.give_looked.ensures.row

pub returns-clause-asked : goal.returns-clause-asked
returns-clause-asked g c = asked_then c.look_anchor.ensures.asked c.give_looked.ensures.asked
