use Rattle.std.proofs.Common.{[], ◌∷◌, List, ℕ, refl, sym, ap, arith}
use Rattle.trace_faults.specs.Faults.{words_of}
use Rattle.trace_faults.specs.Verbs.{word_of}
use Rattle.trace_faults.proofs.WordListLemmas.{has_two_words, words_of-one}
use Rattle.trace_faults.proofs.line.fault_of_one.Goals as goal

pub returns-then-has : goal.returns-then-has
returns-then-has c =
    let two = has_two_words c.args.behind.now (c.has.ensures.yes c.if-has.true) in
    (c.args.verb, words_of c.args.behind.now, refl, omega (arith, two, c.requires.one))

pub returns : goal.returns
returns c = (
  c.args.verb,
  c.args.behind.now,
  [],
  ap (λ (l : List (List ℕ)). word_of c.args.verb ∷ l) (words_of-one c.args.behind.now (c.has.ensures.no c.if-has.false)),
  sym c.requires.one,
  c.in-Some.ensures.some,
)
