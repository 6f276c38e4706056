use Rattle.std.proofs.Common.{◌≡◌, List, ℕ, sym, subst, arith}
use Rattle.std.proofs.lemmas.Grind.{common_steps}
use Rattle.heap_model.specs.Image.{bytes_of_words}
use Rattle.region_header.specs.Words.{AreWordsOf}
use Rattle.region_header.proofs.WordBytes.{words_of_bytes}
use Rattle.region_header.proofs.conversions.words_to_bytes.Goals as goal

pub returns-clause-words : goal.returns-clause-words
returns-clause-words c =
    let words = c.args.words.now in
    let is : c.from_vec.result ≡ bytes_of_words words = grind (arith, common_steps) in
    subst (λ (bytes : List ℕ). AreWordsOf words bytes) (sym is) (words_of_bytes words (λ k below. let fits = c.type_inv.words k in omega (arith, fits)))
