use Rattle.std.proofs.Common.{◌+◌, ◌*◌, refl, ap, sym, ◌∙◌, arith}
use Rattle.heap_model.specs.Geometry.{start_word}
use Rattle.heap_model.specs.Sizes.{words_of_class}
use Rattle.heap_model.specs.Words.{anchor_first}
use Rattle.crash_core.proofs.KeptFacts.{unseen_anchor}
use Rattle.seat_state.proofs.DecisionLemmas.{refused}
use Rattle.crash_core.proofs.GiveSteps.{batch_fits}
use Rattle.crash_core.proofs.GiveParts.{give_none, give_apart, give_other, give_full_one, give_linked}
use Rattle.crash_core.proofs.anchor_exchanges.may_give.Goals as goal
use Rattle.crash_core.proofs.StandingLemmas.{seat_is}

pub returns-in_default : goal.returns-in_default
returns-in_default c = λ k views v keeps below at. refused (λ may. unseen_anchor c.args.core.now k views c.args.seat v c.index-notes.result.now
    keeps below at (seat_is c.requires.seat (sym c.index-notes.ensures)) c.in_default.is may.is_seen)

pub returns-then-batch-eq0 : goal.returns-then-batch-eq0
returns-then-batch-eq0 c = λ k views v keeps below at. refused (give_none c.args.core.now k views c.args.seat v c.index-notes.result.now keeps
    below at (seat_is c.requires.seat (sym c.index-notes.ensures)) c.args.d c.if-batch-eq0.true)

pub returns-then-batch-d : goal.returns-then-batch-d
returns-then-batch-d c = λ k views v keeps below at. refused (give_apart c.args.core.now k views c.args.seat v c.index-notes.result.now keeps
    below at (seat_is c.requires.seat (sym c.index-notes.ensures)) c.args.d c.if-batch-d.true)

pub returns-then-seen-d : goal.returns-then-seen-d
returns-then-seen-d c = λ k views v keeps below at. refused (give_other c.args.core.now k views c.args.seat v c.index-notes.result.now keeps
    below at (seat_is c.requires.seat (sym c.index-notes.ensures)) c.args.d c.in-Some.seen c.in-Some.is c.if-seen-d.true)

pub returns-then-anchor_count-eq0 : goal.returns-then-anchor_count-eq0
returns-then-anchor_count-eq0 c = λ k views v keeps below at. (
  λ e. give_full_one c.args.core.now k views c.args.seat v c.index-notes.result.now keeps below at
      (seat_is c.requires.seat (sym c.index-notes.ensures)) c.args.d c.in-Some.seen c.in-Some.is
      c.if-batch-eq0.false (let e = c.if-batch-d.false in omega arith) (let e = c.if-seen-d.false in
      omega arith) (sym c.anchor_count.ensures ∙ c.if-anchor_count-eq0.true),
  λ may. refl,
)

pub first_free-requires : goal.first_free-requires
first_free-requires c = let b = (batch_fits c.args.core.now c.args.seat c.index-notes.result.now c.requires.core c.requires.seat
    (seat_is c.requires.seat (sym c.index-notes.ensures)) c.if-batch-eq0.false).below in let e = c.if-batch-d.false in omega arith

pub overflow_cast-batch : goal.overflow_cast-batch
overflow_cast-batch c = let l = (batch_fits c.args.core.now c.args.seat c.index-notes.result.now c.requires.core c.requires.seat
    (seat_is c.requires.seat (sym c.index-notes.ensures)) c.if-batch-eq0.false).is_class.last in omega arith

pub new-class-requires : goal.new-class-requires
new-class-requires c = (batch_fits c.args.core.now c.args.seat c.index-notes.result.now c.requires.core c.requires.seat
    (seat_is c.requires.seat (sym c.index-notes.ensures)) c.if-batch-eq0.false).is_class

pub next-requires-clause-from : goal.next-requires-clause-from
next-requires-clause-from c = (batch_fits c.args.core.now c.args.seat c.index-notes.result.now c.requires.core c.requires.seat
    (seat_is c.requires.seat (sym c.index-notes.ensures)) c.if-batch-eq0.false).last.0

pub next-requires-clause-until : goal.next-requires-clause-until
next-requires-clause-until c = (batch_fits c.args.core.now c.args.seat c.index-notes.result.now c.requires.core c.requires.seat
    (seat_is c.requires.seat (sym c.index-notes.ensures)) c.if-batch-eq0.false).last.1

pub returns : goal.returns
returns c = λ k views v keeps below at. give_linked c.args.core.now k views c.args.seat v c.index-notes.result.now keeps below at
    (seat_is c.requires.seat (sym c.index-notes.ensures)) c.args.d c.in-Some.seen c.in-Some.is
    c.if-batch-eq0.false (let e = c.if-batch-d.false in omega arith) (let e = c.if-seen-d.false in
    omega arith) (λ none. c.if-anchor_count-eq0.false (c.anchor_count.ensures ∙ none))
    c.next.result c.first_free.result c.next.ensures
    (c.first_free.ensures ∙ ap (λ n. start_word c.args.core.now.geometry.capacity c.args.d + anchor_first c.in-Some.seen.word * words_of_class
    n) c.new-class.ensures)
