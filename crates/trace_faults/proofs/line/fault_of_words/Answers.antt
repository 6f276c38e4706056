use Rattle.std.proofs.Common.{◌≡◌, ℕ, List, [], ◌∷◌, Contains, sym, ap, subst, ◌∙◌}
use Rattle.trace_faults.specs.declared.fault.LineFault.TheVariants.{UnknownWord}
use Rattle.trace_faults.specs.Faults.{words_of, IsWordsFault}
use Rattle.trace_faults.specs.Verbs.{word_of}
use Rattle.trace_faults.proofs.LineFaultLemmas.{unknown}
use Rattle.trace_faults.proofs.WordListLemmas.{words_of-cut, words_of-one, later}
use Rattle.trace_faults.proofs.line.fault_of_words.Goals as goal

pub returns-in_default : goal.returns-in_default
returns-in_default c =
    subst (λ (ws : List (List ℕ)). IsWordsFault ws c.fault_of_word.result) (sym (words_of-one c.args.line.now c.in_default.ensures.none))
    c.fault_of_word.ensures

pub fault_behind-requires-clause-no_empty : goal.fault_behind-requires-clause-no_empty
fault_behind-requires-clause-no_empty c has =
    let word = c.in-Some.word.now in
    let behind = c.in-Some.behind.now in
    let cut : words_of c.args.line.now ≡ word ∷ words_of behind = ap words_of c.in-Some.ensures.some ∙ words_of-cut word behind c.in-Some.ensures.first in
    c.requires.no_empty (subst (λ (ws : List (List ℕ)). Contains ws []) (sym cut) (later word (words_of behind) has))

pub returns-in-Some-verb_of : goal.returns-in-Some-verb_of
returns-in-Some-verb_of c =
    let word = c.in-Some.word.now in
    let behind = c.in-Some.behind.now in
    let cut : words_of c.args.line.now ≡ word ∷ words_of behind = ap words_of c.in-Some.ensures.some ∙ words_of-cut word behind c.in-Some.ensures.first in
    let whole : words_of c.args.line.now ≡ word_of c.in-Some-verb_of.verb ∷ words_of behind =
    cut ∙ ap (λ (w : List ℕ). w ∷ words_of behind) c.in-Some-verb_of.ensures.some in
    subst (λ (ws : List (List ℕ)). IsWordsFault ws c.fault_behind.result) (sym whole) c.fault_behind.ensures

pub returns-in-None : goal.returns-in-None
returns-in-None c =
    let word = c.in-Some.word.now in
    let behind = c.in-Some.behind.now in
    let cut : words_of c.args.line.now ≡ word ∷ words_of behind = ap words_of c.in-Some.ensures.some ∙ words_of-cut word behind c.in-Some.ensures.first in
    subst (λ (ws : List (List ℕ)). IsWordsFault ws UnknownWord) (sym cut) (unknown word (words_of behind) c.in-None.ensures.none)
