use Rattle.std.proofs.Common.{ℕ, List}
use Rattle.trace_text.specs.Trace.{IsValue}
use Rattle.trace_text.proofs.WordLemmas.{put_has_space, put_words, put_line}
use Rattle.trace_text.proofs.line.parse_put.Goals as goal

pub returns-in_default : goal.returns-in_default
returns-in_default c = record { ok = put_has_space c.args.words.now c.in_default.ensures.none }

pub returns-in_default-parse_number : goal.returns-in_default-parse_number
returns-in_default-parse_number c = record {
  ok = λ request is.
      let words = put_words c.args.words.now c.in-Some.key.now c.in-Some.value.now request c.in-Some.ensures.some c.in-Some.ensures.first is in
      c.in_default-parse_number.ensures words.0 words.2;
}

pub returns-in_default-2 : goal.returns-in_default-2
returns-in_default-2 c = record {
  ok = λ request is.
      let words = put_words c.args.words.now c.in-Some.key.now c.in-Some.value.now request c.in-Some.ensures.some c.in-Some.ensures.first is in
      let none : (value : List ℕ) → IsValue c.in-Some.value.now value → ⊥ = rw c.in_default-2.is at c.in_ok-value.ensures.ok in
      none words.1 words.3;
}

pub returns : goal.returns
returns c =
    let value : IsValue c.in-Some.value.now c.in-Some-2.value = rw c.in-Some-2.is at c.in_ok-value.ensures.ok in
    record {
      ok = put_line c.args.words.now c.in-Some.key.now c.in-Some.value.now c.in-Some-parse_number.key c.in-Some-2.value c.in-Some.ensures.some
          c.in-Some-parse_number.ensures value;
    }
