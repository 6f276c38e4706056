use Rattle.std.proofs.Common.{◌≢◌, [], ◌∷◌, ◌∙◌, sym}
use Rattle.std.proofs.lemmas.Bool.Decides.{Decides-eqb}
use Rattle.std.proofs.lemmas.Slice.Eq.{slice_eq-Decides}
use Rattle.trace_text.proofs.NumberLemmas.{zero_is_number, number_begins}
use Rattle.trace_text.proofs.number.parse_number.Goals as goal

pub returns-then-eq : goal.returns-then-eq
returns-then-eq c =
    let is = (slice_eq-Decides Decides-eqb _ _ _ c.eq.ensures).0 c.if-eq.true in
    (zero_is_number.0, is ∙ c.as_slice.ensures ∙ zero_is_number.1)

pub returns-then-not-begins_from_1 : goal.returns-then-not-begins_from_1
returns-then-not-begins_from_1 c number is =
    let other : c.args.word.now ≢ 48 ∷ [] =
    λ zero. let eq = (slice_eq-Decides Decides-eqb _ _ _ c.eq.ensures).1 (zero ∙ sym c.as_slice.ensures) in cc (eq, c.if-eq.false) in
    let begins = c.begins_from_1.ensures.1 (number_begins c.args.word.now number is other) in
    cc (begins, c.if-not-begins_from_1.true)
