use Rattle.std.proofs.Common.{◌≡◌, ◌-◌, ◌*◌, ◌%◌, ap, ◌∙◌, arith}
use Rattle.std.proofs.Math.Nat.{mul-mod_left}
use Rattle.quick_recover.proofs.chains.index_of.Goals as goal
use Rattle.quick_recover.proofs.chains.index_of.Goals.{then-word-start-via-then-word-start, then-word-start-via-else-word-start+then-word-start-ne0}

pub returns-then-word-start-clause-none : goal.returns-then-word-start-clause-none
returns-then-word-start-clause-none c = λ index below at.
    let size = c.block_words-size.ensures.words in
    let start = c.start-start.ensures in
    elim c.then-word-start.branch as (λ _. ⊥) [
      | then-word-start-via-then-word-start w ↦ let less = w.if-word-start.true in omega arith
      | then-word-start-via-else-word-start+then-word-start-ne0 w ↦
          let steps : c.args.word - c.start-start.result ≡ index * c.block_words-size.result = let same = ap (λ n. index * n) size in omega arith in
          w.if-word-start-ne0.true (ap (λ n. n % c.block_words-size.result) steps ∙ mul-mod_left index c.block_words-size.result)
    ]
