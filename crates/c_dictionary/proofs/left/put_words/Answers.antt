use Rattle.std.proofs.Common.{List, ℕ, sym, subst, arith}
use Rattle.region_header.specs.Words.{AreWordsOf}
use Rattle.region_header.proofs.WordBytes.{words_of_bytes}
use Rattle.c_dictionary.proofs.left.put_words.Goals as goal

pub returns : goal.returns
returns c =
    let words = c.args.words.now in
    subst (λ (bytes : List ℕ). AreWordsOf words bytes) (sym c.write_u64_into.ensures)
    (words_of_bytes words (λ k below. let fits = c.type_inv.words k in omega (arith, fits)))
