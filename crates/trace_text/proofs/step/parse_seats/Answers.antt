use Rattle.std.proofs.Common.{arith}
use Rattle.trace_text.proofs.NumberLemmas.{one_number}
use Rattle.trace_text.proofs.ParseStepLemmas.{seats_number}
use Rattle.trace_text.proofs.step.parse_seats.Goals as goal
use Rattle.trace_text.proofs.step.parse_seats.Goals.{then-seats-eq0-via-then-seats-eq0, then-seats-eq0-via-else-seats-eq0+then-seats-gt-MOST_SEATS}

pub returns-then-seats-eq0 : goal.returns-then-seats-eq0
returns-then-seats-eq0 c seats is =
    let number = seats_number c.args.line.now c.in_ok-behind.field-0.now seats c.in_ok-behind.ensures is in
    let same = one_number c.in_ok-behind.field-0.now seats c.in_ok-seats.seats number c.in_ok-seats.ensures in
    elim c.then-seats-eq0.branch [
      | then-seats-eq0-via-then-seats-eq0 w ↦ omega (arith, same, is.some)
      | then-seats-eq0-via-else-seats-eq0+then-seats-gt-MOST_SEATS w ↦ omega (arith, same, is.at_most_8)
    ]
