use Rattle.std.proofs.Common.{◌<◌, length, inr, sym, ◌∙◌, arith, rules}
use Rattle.hex.proofs.HexLemmas.{decode_of-ok}
use Rattle.trace_text.proofs.WordLemmas.{value_fits}
use Rattle.trace_text.proofs.line.parse_value.Goals as goal

pub returns-then-not-may_be_digits : goal.returns-then-not-may_be_digits
returns-then-not-may_be_digits c = record {
  ok = λ value is. let fits = value_fits c.args.word.now value is in
      cc (sym c.if-not-may_be_digits.true ∙ c.may_be_digits.ensures.1 (fits.0, fits.1));
}

pub returns-in-Ok : goal.returns-in-Ok
returns-in-Ok c =
    let twice = (decode_of-ok c.args.word.now c.in-Ok.value.items c.in-Ok.ensures.ok).2 in
    let some : 0 < length c.args.word.now = search rules in
    record { ok = inr (rw c.from_vec-in-Ok.ensures (c.in-Ok.ensures.ok, omega arith, omega arith)) }
