use Rattle.std.proofs.Common.{subst}
use Rattle.seat_costs.proofs.AskedLemmas.{asked_then}
use Rattle.seat_costs.proofs.RowLemmas.{row_then}
use Rattle.cache_fill.specs.Takes.{TakesSeen}
use Rattle.superblock_lists.proofs.AnchorLemmas.{claim_still}
use Rattle.cache_fill.proofs.TakeLemmas.{not_taken_later, taken_later}
use Rattle.cache_fill.proofs.takes.try_take.Goals as goal

pub returns-in_err-take_seen-clause-row : goal.returns-in_err-take_seen-clause-row
returns-in_err-take_seen-clause-row g c = row_then c.args.seat.now c.look_anchor.new.seat c.take_seen.new.seat c.look_anchor.ensures.row
    c.take_seen.ensures.row

pub returns-then-branch-clause-row : goal.returns-then-branch-clause-row
returns-then-branch-clause-row g c = row_then c.args.seat.now c.look_anchor.new.seat c.take_seen.new.seat c.look_anchor.ensures.row
    c.take_seen.ensures.row

pub returns-clause-row : goal.returns-clause-row
returns-clause-row g c = row_then c.args.seat.now c.look_anchor.new.seat c.take_seen.new.seat c.look_anchor.ensures.row c.take_seen.ensures.row

pub returns-then-branch-clause-done : goal.returns-then-branch-clause-done
returns-then-branch-clause-done g c = let v = c.args.seat.now.view in let t = c.look_anchor.new.seat.view in
    let w = c.take_seen.new.seat.view in let same = c.in_ok-anchor.ensures.seen.parts_are in
    taken_later v t w c.args.d c.args.class.number same
    (subst (λ won. TakesSeen c.args.d c.args.class.number won t w) c.if-branch.true
    (c.in_ok-take_seen.ensures.done c.args.class.number (claim_still v t c.args.d c.args.class.number same c.requires.claim)))

pub returns-clause-done : goal.returns-clause-done
returns-clause-done g c = let v = c.args.seat.now.view in let t = c.look_anchor.new.seat.view in let w = c.take_seen.new.seat.view in
    let seen = c.in_ok-anchor.ensures.seen in
    not_taken_later v t w c.args.d c.in_ok-anchor.anchor seen c.look_anchor.ensures.row.view
    (subst (λ won. TakesSeen c.args.d c.args.class.number won t w) c.if-branch.false
    (c.in_ok-take_seen.ensures.done c.args.class.number (claim_still v t c.args.d c.args.class.number seen.parts_are c.requires.claim)))

pub returns-in_err-take_seen-clause-asked : goal.returns-in_err-take_seen-clause-asked
returns-in_err-take_seen-clause-asked g c = asked_then c.look_anchor.ensures.asked c.take_seen.ensures.asked

pub returns-then-branch-clause-asked : goal.returns-then-branch-clause-asked
returns-then-branch-clause-asked g c = asked_then c.look_anchor.ensures.asked c.take_seen.ensures.asked

pub returns-clause-asked : goal.returns-clause-asked
returns-clause-asked g c = asked_then c.look_anchor.ensures.asked c.take_seen.ensures.asked
