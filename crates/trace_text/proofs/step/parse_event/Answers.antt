use Rattle.trace_text.proofs.EventLemmas.{read_alone, read_one, no_one, read_two, no_two}
use Rattle.trace_text.proofs.step.parse_event.Goals as goal

pub returns-in_default : goal.returns-in_default
returns-in_default c = read_alone c.args.words.now c.event_of_none.result c.in_default.ensures.none c.event_of_none.ensures

pub returns-in_err-parse_number : goal.returns-in_err-parse_number
returns-in_err-parse_number c =
    rw c.from_residual.ensures (no_one c.args.words.now c.in-Some.verb.now c.in-Some.rest.now c.in-Some.ensures.some c.in-Some.ensures.first
    c.in_default-split_once.ensures.none c.in_err-parse_number.ensures)

pub returns-in_default-split_once : goal.returns-in_default-split_once
returns-in_default-split_once c =
    read_one c.args.words.now c.in-Some.verb.now c.in-Some.rest.now c.in_ok-parse_number.field-0 c.event_of_one.result c.in-Some.ensures.some
    c.in-Some.ensures.first
    c.in_default-split_once.ensures.none c.in_ok-parse_number.ensures c.event_of_one.ensures

pub returns-in_err-parse_number-2 : goal.returns-in_err-parse_number-2
returns-in_err-parse_number-2 c =
    rw c.from_residual-in_err-parse_number-2.ensures (no_two c.args.words.now c.in-Some.verb.now c.in-Some.rest.now c.in-Some-split_once.first.now
    c.in-Some-split_once.second.now c.in-Some.ensures.some c.in-Some.ensures.first c.in-Some-split_once.ensures.some c.in-Some-split_once.ensures.first
    (λ m n is_m is_n. c.in_err-parse_number-2.ensures m is_m))

pub returns-in_err-parse_number-3 : goal.returns-in_err-parse_number-3
returns-in_err-parse_number-3 c =
    rw c.from_residual-in_err-parse_number-3.ensures (no_two c.args.words.now c.in-Some.verb.now c.in-Some.rest.now c.in-Some-split_once.first.now
    c.in-Some-split_once.second.now c.in-Some.ensures.some c.in-Some.ensures.first c.in-Some-split_once.ensures.some c.in-Some-split_once.ensures.first
    (λ m n is_m is_n. c.in_err-parse_number-3.ensures n is_n))

pub returns : goal.returns
returns c =
    read_two c.args.words.now c.in-Some.verb.now c.in-Some.rest.now c.in-Some-split_once.first.now c.in-Some-split_once.second.now
    c.in_ok-parse_number-2.field-0
    c.in_ok-parse_number-3.field-0 c.event_of_two.result c.in-Some.ensures.some c.in-Some.ensures.first c.in-Some-split_once.ensures.some
    c.in-Some-split_once.ensures.first c.in_ok-parse_number-2.ensures c.in_ok-parse_number-3.ensures c.event_of_two.ensures
