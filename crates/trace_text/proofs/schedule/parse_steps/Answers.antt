use Rattle.std.proofs.Common.{◌+◌, length, ap, rules, arith}
use Rattle.trace_text.specs.Lines.{WritesNothing}
use Rattle.trace_text.specs.Schedule.{IsStepLine}
use Rattle.trace_text.proofs.WrittenLemmas.{line_read, line_outside}
use Rattle.trace_text.proofs.schedule.parse_steps.Goals as goal

pub returns-in_default-parse_step-clause-err : goal.returns-in_default-parse_step-clause-err
returns-in_default-parse_step-clause-err c =
    let outside : WritesNothing (IsStepLine c.args.seats) c.in-Some.line.now = c.in_default-parse_step.ensures in
    record {
      place = c.len.result + 1;
      counted = omega arith;
      first = line_outside (IsStepLine c.args.seats) c.args.text.now c.loop-line.rest.now c.in-Some.after.now c.in-Some.line.now
          c.loop-line.steps.items (c.len.result + 1)
          c.loop-line.invariant.0 c.in-Some.ensures.some outside (search rules);
    }

pub push_reserved-requires : goal.push_reserved-requires
push_reserved-requires c = let cut = ap length c.in-Some.ensures.some in omega (arith, cut, c.loop-line.invariant.1)

pub loop-line-preserved : goal.loop-line-preserved
loop-line-preserved c =
    let is : IsStepLine c.args.seats c.in-Some.line.now c.in-Some-parse_step.step = c.in-Some-parse_step.ensures in
    let read =
    line_read (IsStepLine c.args.seats) c.args.text.now c.loop-line.rest.now c.in-Some.after.now c.in-Some.line.now c.loop-line.steps.items
    c.in-Some-parse_step.step
    c.loop-line.invariant.0 c.in-Some.ensures.some is in
    let cut = ap length c.in-Some.ensures.some in
    (rw c.push_reserved.ensures.items read, omega (arith, cut, c.loop-line.invariant.1, c.push_reserved.ensures.len, c.push_reserved.ensures.capacity))
