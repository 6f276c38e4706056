use Rattle.std.proofs.Common.{arith}
use Rattle.trace_text.proofs.NumberLemmas.{one_number}
use Rattle.trace_text.proofs.ParseStepLemmas.{step_parts}
use Rattle.trace_text.proofs.step.parse_step.Goals as goal

pub returns-in_err-seat-2 : goal.returns-in_err-seat-2
returns-in_err-seat-2 c =
    rw c.from_residual-in_err-seat-2.ensures (λ step is.
    let parts = step_parts c.args.seats c.args.line.now c.in_ok-seat.seat.now c.in_ok-seat.words.now step
    (omega arith) c.in_ok-seat.ensures.some c.in_ok-seat.ensures.first is in
    c.in_err-seat-2.ensures step.0 parts.1)

pub returns-then-seat-seats : goal.returns-then-seat-seats
returns-then-seat-seats c step is =
    let parts = step_parts c.args.seats c.args.line.now c.in_ok-seat.seat.now c.in_ok-seat.words.now step
    (omega arith) c.in_ok-seat.ensures.some c.in_ok-seat.ensures.first is in
    let same = one_number c.in_ok-seat.seat.now step.0 c.in_ok-seat-2.seat parts.1 c.in_ok-seat-2.ensures in
    omega (arith, same, parts.0)

pub returns-in_err-parse_event : goal.returns-in_err-parse_event
returns-in_err-parse_event c =
    rw c.from_residual-in_err-parse_event.ensures (λ step is.
    let parts = step_parts c.args.seats c.args.line.now c.in_ok-seat.seat.now c.in_ok-seat.words.now step
    (omega arith) c.in_ok-seat.ensures.some c.in_ok-seat.ensures.first is in
    c.in_err-parse_event.ensures step.1 parts.2)
