use Rattle.std.proofs.Common.{◌≡◌, ◌≢◌, ℕ, List, [], ◌∷◌, ◌++◌, codes, Contains, length, refl, sym, ap, subst, ◌∙◌, arith}
use Rattle.trace_text.specs.Trace.{IsOutside}
use Rattle.trace_faults.specs.declared.verb.Verb.{Verb}
use Rattle.trace_faults.specs.declared.verb.Verb.TheVariants.{Put, Move}
use Rattle.trace_faults.specs.Faults.{words_of}
use Rattle.trace_faults.specs.Verbs.{word_of}
use Rattle.trace_faults.proofs.LineFaultLemmas.{last_some, no_value, no_second, is_move}
use Rattle.trace_faults.proofs.WordListLemmas.{has_two_words, words_of-cut, words_of-one}
use Rattle.trace_faults.proofs.line.fault_of_two.Goals as goal

pub returns-in_default : goal.returns-in_default
returns-in_default c =
    let one = ap length (words_of-one c.args.behind.now c.in_default.ensures.none) in
    (c.args.verb, words_of c.args.behind.now, refl, omega (arith, one, c.requires.two))

pub returns-then-has : goal.returns-then-has
returns-then-has c =
    let cut = ap words_of c.in-Some.ensures.some ∙ words_of-cut c.in-Some.key.now c.in-Some.last.now c.in-Some.ensures.first in
    let long = ap length cut in
    let two = has_two_words c.in-Some.last.now (c.has.ensures.yes c.if-has.true) in
    (c.args.verb, words_of c.args.behind.now, refl, omega (arith, long, two, c.requires.two))

pub returns-in-Some-number_fault : goal.returns-in-Some-number_fault
returns-in-Some-number_fault c =
    let key = c.in-Some.key.now in
    let last = c.in-Some.last.now in
    let cut = ap words_of c.in-Some.ensures.some ∙ words_of-cut key last c.in-Some.ensures.first in
    let whole = cut ∙ ap (λ (l : List (List ℕ)). key ∷ l) (words_of-one last (c.has.ensures.no c.if-has.false)) in
    (c.args.verb, key, last ∷ [], ap (λ (l : List (List ℕ)). word_of c.args.verb ∷ l) whole, sym c.requires.two, c.in-Some-number_fault.ensures.some)

pub value_fault-requires-clause-some : goal.value_fault-requires-clause-some
value_fault-requires-clause-some c =
    let key = c.in-Some.key.now in
    let last = c.in-Some.last.now in
    let cut = ap words_of c.in-Some.ensures.some ∙ words_of-cut key last c.in-Some.ensures.first in
    let whole = cut ∙ ap (λ (l : List (List ℕ)). key ∷ l) (words_of-one last (c.has.ensures.no c.if-has.false)) in
    last_some key last (subst (λ (ws : List (List ℕ)). ¬ (Contains ws [])) whole c.requires.no_empty)

pub value_fault-requires-clause-none : goal.value_fault-requires-clause-none
value_fault-requires-clause-none c =
    let number = c.in_default-number_fault.ensures.none in
    let outside = subst (λ (v : Verb). IsOutside (word_of v ++ 32 ∷ c.args.behind.now)) (c.is_put.ensures.0 c.if-is_put.true) c.requires.outside in
    no_value c.args.behind.now c.in-Some.key.now c.in-Some.last.now number.0 c.in-Some.ensures.some number.1 outside

pub returns-then-is_put : goal.returns-then-is_put
returns-then-is_put c =
    let key = c.in-Some.key.now in
    let last = c.in-Some.last.now in
    let cut = ap words_of c.in-Some.ensures.some ∙ words_of-cut key last c.in-Some.ensures.first in
    let whole = cut ∙ ap (λ (l : List (List ℕ)). key ∷ l) (words_of-one last (c.has.ensures.no c.if-has.false)) in
    let number = c.in_default-number_fault.ensures.none in
    let put : c.args.verb ≡ Put = c.is_put.ensures.0 c.if-is_put.true in (
      key,
      last,
      number.0,
      ap (λ (v : Verb). word_of v ∷ words_of c.args.behind.now) put ∙ ap (λ (l : List (List ℕ)). codes "put" ∷ l) whole,
      number.1,
      c.value_fault.ensures,
    )

pub unreachable-requires : goal.unreachable-requires
unreachable-requires c =
    let number = c.in_default-number_fault.ensures.none in
    let to = c.in-None.ensures.none in
    let other : c.args.verb ≢ Put = λ e. let t = c.is_put.ensures.1 e in cc (t, c.if-is_put.false) in
    let move : c.args.verb ≡ Move = is_move c.args.verb c.requires.two other in
    let outside = subst (λ (v : Verb). IsOutside (word_of v ++ 32 ∷ c.args.behind.now)) move c.requires.outside in
    no_second c.args.behind.now c.in-Some.key.now c.in-Some.last.now number.0 c.in-Some.ensures.some number.1 outside to.0 to.1

pub returns : goal.returns
returns c =
    let key = c.in-Some.key.now in
    let last = c.in-Some.last.now in
    let cut = ap words_of c.in-Some.ensures.some ∙ words_of-cut key last c.in-Some.ensures.first in
    let whole = cut ∙ ap (λ (l : List (List ℕ)). key ∷ l) (words_of-one last (c.has.ensures.no c.if-has.false)) in
    let number = c.in_default-number_fault.ensures.none in
    let other : c.args.verb ≢ Put = λ e. let t = c.is_put.ensures.1 e in cc (t, c.if-is_put.false) in
    let move : c.args.verb ≡ Move = is_move c.args.verb c.requires.two other in (
      key,
      last,
      number.0,
      ap (λ (v : Verb). word_of v ∷ words_of c.args.behind.now) move ∙ ap (λ (l : List (List ℕ)). codes "move" ∷ l) whole,
      number.1,
      c.in-Some-number_fault-2.ensures.some,
    )
