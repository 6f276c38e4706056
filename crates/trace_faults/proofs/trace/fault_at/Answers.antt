use Rattle.std.proofs.Common.{◌≡◌, ℕ, List, sym, subst, arith}
use Rattle.trace_text.specs.Trace.{IsOutside}
use Rattle.trace_faults.specs.Faults.{IsLineFault}
use Rattle.trace_faults.proofs.PassedLemmas.{IsPassed, one_passed, not_yet_all, line_there}
use Rattle.trace_faults.proofs.trace.fault_at.Goals as goal

pub loop-passed-preserved : goal.loop-passed-preserved
loop-passed-preserved c =
    let so_far = c.loop-passed.invariant in
    let there =
    not_yet_all c.args.text.now c.loop-passed.rest.now c.loop-passed.passed c.args.number so_far.0 c.requires (omega (arith, so_far.1)) in
    (one_passed _ _ _ _ _ so_far.0 (c.first_line.ensures there), omega (arith, c.loop-passed-test.true))

pub fault_of_line-requires : goal.fault_of_line-requires
fault_of_line-requires c =
    let rest = c.loop-passed.rest.now in
    let so_far = c.loop-passed.invariant in
    let last : c.loop-passed.passed ≡ c.args.number = omega (arith, so_far.1, c.loop-passed-test.false) in
    let passed : IsPassed c.args.text.now rest c.args.number = subst (λ (n : ℕ). IsPassed c.args.text.now rest n) last so_far.0 in
    let there = not_yet_all c.args.text.now rest c.args.number c.args.number passed c.requires (omega arith) in
    let same : c.requires.outside ≡ c.first_line-2.result.0.now =
    line_there c.args.text.now rest c.first_line-2.result.0.now c.first_line-2.result.1.now c.args.number passed c.requires (c.first_line-2.ensures there) in
    subst (λ (l : List ℕ). IsOutside l) same c.requires.nothing

pub returns : goal.returns
returns c =
    let rest = c.loop-passed.rest.now in
    let so_far = c.loop-passed.invariant in
    let last : c.loop-passed.passed ≡ c.args.number = omega (arith, so_far.1, c.loop-passed-test.false) in
    let passed : IsPassed c.args.text.now rest c.args.number = subst (λ (n : ℕ). IsPassed c.args.text.now rest n) last so_far.0 in
    let there = not_yet_all c.args.text.now rest c.args.number c.args.number passed c.requires (omega arith) in
    let same : c.requires.outside ≡ c.first_line-2.result.0.now =
    line_there c.args.text.now rest c.first_line-2.result.0.now c.first_line-2.result.1.now c.args.number passed c.requires (c.first_line-2.ensures there) in
    record { first = c.requires; why = subst (λ (l : List ℕ). IsLineFault l c.fault_of_line.result) (sym same) c.fault_of_line.ensures }
