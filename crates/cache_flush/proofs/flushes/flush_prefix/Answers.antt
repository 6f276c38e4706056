use Rattle.std.proofs.Common.{true, false, subst, arith}
use Rattle.seat_costs.proofs.AskedLemmas.{asked_then}
use Rattle.seat_costs.proofs.RowLemmas.{marks_behind, row_then}
use Rattle.cache_flush.specs.Gives.{HasGiven}
use Rattle.cache_flush.proofs.FlushLemmas.{gave_free, gave_full, given_claimed, given_free, given_listed, lifted_batch, prefix_done, prefix_row}
use Rattle.seat_costs.proofs.ResultLemmas.{on_ok_then}
use Rattle.cache_flush.proofs.flushes.flush_prefix.Goals as goal

pub give-requires-clause-batch : goal.give-requires-clause-batch
give-requires-clause-batch g c =
    lifted_batch c.args.seat.now.view c.lift_prefix.new.seat.view c.recall_soundness.ensures c.args.class.number c.in_ok-prefix.prefix.d
    c.in_ok-prefix.prefix.last c.args.class.is c.in_ok-prefix.ensures.lifted

pub returns-in_err-give-clause-row : goal.returns-in_err-give-clause-row
returns-in_err-give-clause-row g c = record {
  view = prefix_row c.args.seat.now.view c.lift_prefix.new.seat.view c.give.new.seat.view c.recall_soundness.ensures c.args.class.number
      c.in_ok-prefix.prefix.d c.in_ok-prefix.prefix.last c.args.class.is c.requires.no_batch
      c.in_ok-prefix.ensures.lifted c.give.new.seat.view (record {
        draws = omega arith;
        wins = omega arith;
        gives = omega arith;
        cuts = omega arith;
        taken = omega arith;
        moves = omega arith;
      }) c.give.ensures.row.view;
  marks = marks_behind c.args.seat.now c.lift_prefix.new.seat c.give.new.seat c.lift_prefix.ensures.row.view c.lift_prefix.ensures.row.marks
      c.give.ensures.row;
}

pub returns-then-not-branch-clause-row : goal.returns-then-not-branch-clause-row
returns-then-not-branch-clause-row g c = record {
  view = prefix_row c.args.seat.now.view c.lift_prefix.new.seat.view c.give.new.seat.view c.recall_soundness.ensures c.args.class.number
      c.in_ok-prefix.prefix.d c.in_ok-prefix.prefix.last c.args.class.is c.requires.no_batch
      c.in_ok-prefix.ensures.lifted c.give.new.seat.view (record {
        draws = omega arith;
        wins = omega arith;
        gives = omega arith;
        cuts = omega arith;
        taken = omega arith;
        moves = omega arith;
      }) c.give.ensures.row.view;
  marks = marks_behind c.args.seat.now c.lift_prefix.new.seat c.give.new.seat c.lift_prefix.ensures.row.view c.lift_prefix.ensures.row.marks
      c.give.ensures.row;
}

pub returns-then-not-branch-clause-flushed : goal.returns-then-not-branch-clause-flushed
returns-then-not-branch-clause-flushed g c =
    let v = c.args.seat.now.view in let t = c.lift_prefix.new.seat.view in let x = c.give.new.seat.view in
    let given : HasGiven c.in_ok-prefix.prefix.d c.args.class.number false t x =
    subst (λ full. HasGiven c.in_ok-prefix.prefix.d c.args.class.number full t x) c.if-not-branch.true c.in_ok-give.ensures.given in
    prefix_done v t x c.recall_soundness.ensures c.args.class.number c.in_ok-prefix.prefix.d c.in_ok-prefix.prefix.last c.args.class.is
    c.requires.no_batch c.in_ok-prefix.ensures.lifted x (record {
      draws = omega arith;
      wins = omega arith;
      gives = omega arith;
      cuts = omega arith;
      taken = omega arith;
      moves = omega arith;
    }) c.give.ensures.row.view given.going given.gave
    (given_free v t x c.recall_soundness.ensures c.args.class.number c.in_ok-prefix.prefix.d c.in_ok-prefix.prefix.last c.args.class.is
    c.requires.no_batch c.in_ok-prefix.ensures.lifted given)
    (gave_free v t x c.recall_soundness.ensures c.args.class.number c.in_ok-prefix.prefix.d c.in_ok-prefix.prefix.last c.args.class.is
    c.requires.no_batch c.in_ok-prefix.ensures.lifted given)

pub list-requires-clause-claim : goal.list-requires-clause-claim
list-requires-clause-claim g c =
    let v = c.args.seat.now.view in let t = c.lift_prefix.new.seat.view in let x = c.give.new.seat.view in
    given_claimed v t x c.recall_soundness.ensures c.args.class.number c.in_ok-prefix.prefix.d c.in_ok-prefix.prefix.last c.args.class.is
    c.requires.no_batch c.in_ok-prefix.ensures.lifted
    (subst (λ full. HasGiven c.in_ok-prefix.prefix.d c.args.class.number full t x) c.if-not-branch.false c.in_ok-give.ensures.given)

pub list-requires-clause-durable : goal.list-requires-clause-durable
list-requires-clause-durable g c = c.in_ok-give.ensures.given.durable c.if-not-branch.false

pub returns-clause-row : goal.returns-clause-row
returns-clause-row g c = record {
  view = prefix_row c.args.seat.now.view c.lift_prefix.new.seat.view c.give.new.seat.view c.recall_soundness.ensures c.args.class.number
      c.in_ok-prefix.prefix.d c.in_ok-prefix.prefix.last c.args.class.is c.requires.no_batch
      c.in_ok-prefix.ensures.lifted c.list.new.seat.view (record {
        draws = omega arith;
        wins = omega arith;
        gives = omega arith;
        cuts = omega arith;
        taken = omega arith;
        moves = omega arith;
      })
      (row_then c.lift_prefix.new.seat c.give.new.seat c.list.new.seat c.give.ensures.row c.list.ensures.row).view;
  marks = marks_behind c.args.seat.now c.lift_prefix.new.seat c.list.new.seat c.lift_prefix.ensures.row.view c.lift_prefix.ensures.row.marks
      (row_then c.lift_prefix.new.seat c.give.new.seat c.list.new.seat c.give.ensures.row c.list.ensures.row);
}

pub returns-clause-flushed : goal.returns-clause-flushed
returns-clause-flushed g c =
    let v = c.args.seat.now.view in let t = c.lift_prefix.new.seat.view in let x = c.give.new.seat.view in let w = c.list.new.seat.view in
    let given : HasGiven c.in_ok-prefix.prefix.d c.args.class.number true t x =
    subst (λ full. HasGiven c.in_ok-prefix.prefix.d c.args.class.number full t x) c.if-not-branch.false c.in_ok-give.ensures.given in
    on_ok_then c.list.result (λ listed. prefix_done v t x c.recall_soundness.ensures c.args.class.number c.in_ok-prefix.prefix.d
    c.in_ok-prefix.prefix.last c.args.class.is c.requires.no_batch c.in_ok-prefix.ensures.lifted w
    (record { draws = omega arith; wins = omega arith; gives = omega arith; cuts = omega arith; taken = omega arith; moves = omega arith })
    (row_then c.lift_prefix.new.seat c.give.new.seat c.list.new.seat c.give.ensures.row c.list.ensures.row).view listed.by.going
    (let more = c.list.ensures.row.view.passes.more.gives in let gave = given.gave in omega arith)
    (given_listed v t x c.recall_soundness.ensures c.args.class.number c.in_ok-prefix.prefix.d c.in_ok-prefix.prefix.last c.args.class.is
    c.requires.no_batch c.in_ok-prefix.ensures.lifted w given listed)
    (gave_full v t x c.recall_soundness.ensures c.args.class.number c.in_ok-prefix.prefix.d c.in_ok-prefix.prefix.last c.args.class.is
    c.requires.no_batch c.in_ok-prefix.ensures.lifted w given listed)) c.list.ensures.listed

pub returns-in_err-give-clause-asked : goal.returns-in_err-give-clause-asked
returns-in_err-give-clause-asked g c = asked_then c.lift_prefix.ensures.asked c.give.ensures.asked

pub returns-then-not-branch-clause-asked : goal.returns-then-not-branch-clause-asked
returns-then-not-branch-clause-asked g c = asked_then c.lift_prefix.ensures.asked c.give.ensures.asked

pub returns-clause-asked : goal.returns-clause-asked
returns-clause-asked g c = asked_then (asked_then c.lift_prefix.ensures.asked c.give.ensures.asked) c.list.ensures.asked
