use Rattle.trace_text.proofs.WordLemmas.{move_words}
use Rattle.trace_text.proofs.line.parse_move.Goals as goal

pub returns-in_err-key-2 : goal.returns-in_err-key-2
returns-in_err-key-2 c =
    rw c.from_residual-in_err-key-2.ensures (λ request is.
    let words = move_words c.args.words.now c.in_ok-key.key.now c.in_ok-key.to.now request c.in_ok-key.ensures.some c.in_ok-key.ensures.first is in
    c.in_err-key-2.ensures words.0 words.2)

pub returns-in_err-to : goal.returns-in_err-to
returns-in_err-to c =
    rw c.from_residual-in_err-to.ensures (λ request is.
    let words = move_words c.args.words.now c.in_ok-key.key.now c.in_ok-key.to.now request c.in_ok-key.ensures.some c.in_ok-key.ensures.first is in
    c.in_err-to.ensures words.1 words.3)
