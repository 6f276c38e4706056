use Rattle.std.proofs.Common.{◌+◌, length, ap, rules, arith}
use Rattle.trace_text.specs.Trace.{IsLine, IsOutside}
use Rattle.trace_text.proofs.WrittenLemmas.{line_read, line_outside}
use Rattle.trace_text.proofs.trace.parse_trace.Goals as goal

pub returns-in_default-2-clause-err : goal.returns-in_default-2-clause-err
returns-in_default-2-clause-err c =
    let outside : IsOutside c.in-Some.line.now = rw c.in_default-2.is at c.in_ok-request.ensures.ok in
    line_outside IsLine c.args.text.now c.loop-line.rest.now c.in-Some.after.now c.in-Some.line.now c.loop-line.requests.items (c.len.result + 1)
    c.loop-line.invariant.0 c.in-Some.ensures.some outside (search rules)

pub push_reserved-requires : goal.push_reserved-requires
push_reserved-requires c = let cut = ap length c.in-Some.ensures.some in omega (arith, cut, c.loop-line.invariant.1)

pub loop-line-preserved : goal.loop-line-preserved
loop-line-preserved c =
    let is : IsLine c.in-Some.line.now c.in-Some-2.request = rw c.in-Some-2.is at c.in_ok-request.ensures.ok in
    let read =
    line_read IsLine c.args.text.now c.loop-line.rest.now c.in-Some.after.now c.in-Some.line.now c.loop-line.requests.items c.in-Some-2.request
    c.loop-line.invariant.0 c.in-Some.ensures.some is in
    let cut = ap length c.in-Some.ensures.some in
    (rw c.push_reserved.ensures.items read, omega (arith, cut, c.loop-line.invariant.1, c.push_reserved.ensures.len, c.push_reserved.ensures.capacity))
