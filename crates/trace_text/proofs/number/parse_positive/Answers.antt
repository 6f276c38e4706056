use Rattle.trace_text.proofs.NumberLemmas.{number_reading, number_is_text}
use Rattle.trace_text.proofs.number.parse_positive.Goals as goal

pub returns-in-Ok : goal.returns-in-Ok
returns-in-Ok c =
    rw c.ok.ensures.value (number_reading _ c.args.word.now c.in-Ok.text.now c.parse.result c.in-Ok.ensures.cases.0 c.requires c.parse.ensures.value.0)

pub returns-in-Err : goal.returns-in-Err
returns-in-Err c number is = c.in-Err.ensures.cases.0 (number_is_text c.args.word.now number is)
