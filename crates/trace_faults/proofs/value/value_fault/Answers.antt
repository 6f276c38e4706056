use Rattle.std.proofs.Common.{◌≡◌, ◌≤◌, ◌*◌, ◌%◌, length, arith}
use Rattle.trace_text.specs.Trace.{longest_value}
use Rattle.trace_faults.proofs.LineFaultLemmas.{not_decoded}
use Rattle.trace_faults.proofs.value.value_fault.Goals as goal

pub returns : goal.returns
returns c =
    let short : length c.args.word.now ≤ 2 * longest_value = omega (arith, c.if-word.false) in
    let even : length c.args.word.now % 2 ≡ 0 = omega (arith, c.if-word-eq1.false) in
    (short, even, not_decoded c.args.word.now c.requires.some short c.requires.none)
