use Rattle.std.proofs.Common.{◌≡◌, ◌≢◌, ◌<◌, ℕ, List, [], ◌∷◌, length, Contains, sym, ap, subst, ◌∙◌, rules, arith}
use Rattle.trace_faults.specs.Faults.{words_of}
use Rattle.trace_faults.proofs.WordListLemmas.{words_of-cut, words_of-one, empty_behind, empty_alone, empty_test}
use Rattle.trace_faults.proofs.pieces.has_empty_word.Goals as goal

pub loop-word-preserved : goal.loop-word-preserved
loop-word-preserved c =
    let word = c.in-Some.word.now in
    let after = c.in-Some.after.now in
    let cut : words_of c.loop-word.rest.now ≡ word ∷ words_of after = ap words_of c.in-Some.ensures.some ∙ words_of-cut word after c.in-Some.ensures.first in
    let some : 0 < length word = search rules in
    let other : word ≢ [] = λ e. let none : length word ≡ 0 = ap length e in omega (arith, none, some) in
    let same = empty_behind word (words_of after) other in (
      λ has. same.0 (subst (λ (ws : List (List ℕ)). Contains ws []) cut (c.loop-word.invariant.0 has)),
      λ has. c.loop-word.invariant.1 (subst (λ (ws : List (List ℕ)). Contains ws []) (sym cut) (same.1 has)),
    )

pub returns : goal.returns
returns c =
    let rest = c.loop-word.rest.now in
    let one : words_of rest ≡ rest ∷ [] = words_of-one rest c.in_default.ensures.none in
    let test = empty_test rest c.is_empty-2.result c.is_empty-2.ensures in (
      λ t. c.loop-word.invariant.1 (subst (λ (ws : List (List ℕ)). Contains ws []) (sym one) ((empty_alone rest).1 (test.0 t))),
      λ has. test.1 ((empty_alone rest).0 (subst (λ (ws : List (List ℕ)). Contains ws []) one (c.loop-word.invariant.0 has))),
    )
