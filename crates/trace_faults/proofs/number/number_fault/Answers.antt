use Rattle.std.proofs.Common.{◌≡◌, get_or, length}
use Rattle.std.specs.Str.Parse.{digits_value}
use Rattle.trace_faults.specs.Faults.{IsNumeral}
use Rattle.trace_faults.proofs.NumberFaultLemmas.{numeral_number, one_long}
use Rattle.trace_faults.proofs.number.number_fault.Goals as goal

pub returns-then-fits-clause-none : goal.returns-then-fits-clause-none
returns-then-fits-clause-none c =
    let word = c.args.word.now in
    let is : IsNumeral word = c.is_numeral.ensures.0 c.if-not-is_numeral.false in
    let alone : get_or word 0 0 ≡ 48 → length word ≡ 1 =
    λ zero. one_long (length word) is.some (λ long. let t = c.begins_with_a_zero.ensures.1 (zero, long) in cc (t, c.if-begins_with_a_zero.false)) in
    (digits_value 10 word, numeral_number word is alone (c.fits.ensures.0 c.if-fits.true))
