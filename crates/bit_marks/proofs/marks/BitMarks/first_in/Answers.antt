use Rattle.std.proofs.Common.{◌≡◌, ◌+◌, ◌*◌, ◌/◌, ◌%◌, Bool, List, false, get_or, nat_eq, ap, sym, ◌∙◌, arith}
use Rattle.std.proofs.lemmas.Nat.Bits.{bit_at-zero}
use Rattle.bit_marks.specs.Marks.{is_one}
use Rattle.bit_marks.proofs.MarkLemmas.{group_mark, mark_of_at, unmarked, word_is}
use Rattle.bit_marks.proofs.marks.BitMarks.first_in.Goals as goal

pub returns-then-group-div_ceil-clause-none : goal.returns-then-group-div_ceil-clause-none
returns-then-group-div_ceil-clause-none c = λ none n here. unmarked c.self.inside.words.items c.self.inside.below n c.args.self.now c.self.view_is
    (λ less. let past = c.if-group-div_ceil.true in let up = c.div_ceil.ensures in absurd (omega arith))

pub returns-then-word-eq0-clause-none : goal.returns-then-word-eq0-clause-none
returns-then-word-eq0-clause-none c = λ none n here. unmarked c.self.inside.words.items c.self.inside.below n c.args.self.now c.self.view_is
    (λ less. let inside = c.self.invariant in
    group_mark c.self.inside.words.items n c.args.group c.index-word.result.now here
    (word_is c.self.inside.words.items c.args.group c.index-word.result.now (omega arith) c.index-word.ensures)
    ∙ ap (λ w. is_one w (n % 64)) c.if-word-eq0.true ∙ ap (λ b. nat_eq b 1) (bit_at-zero (n % 64)))

pub returns-then-n-self-clause-none : goal.returns-then-n-self-clause-none
returns-then-n-self-clause-none c = λ none n here. unmarked c.self.inside.words.items c.self.inside.below n c.args.self.now c.self.view_is
    (λ less. let inside = c.self.invariant in
    group_mark c.self.inside.words.items n c.args.group c.index-word.result.now here
    (word_is c.self.inside.words.items c.args.group c.index-word.result.now (omega arith) c.index-word.ensures)
    ∙ c.lowest_bit.ensures.lowest (n % 64) (let past = c.if-n-self.true in omega arith))

pub returns-clause-some : goal.returns-clause-some
returns-clause-some c =
    let inside = c.self.invariant in let below = c.if-n-self.false in let few = c.lowest_bit.ensures.below in
    let here : (64 * c.args.group + c.lowest_bit.result) / 64 ≡ c.args.group = omega arith in
    let bit : (64 * c.args.group + c.lowest_bit.result) % 64 ≡ c.lowest_bit.result = omega arith in (
      ap (λ (l : List Bool). get_or l (64 * c.args.group + c.lowest_bit.result) false) (sym c.self.view_is)
          ∙ mark_of_at c.self.inside.words.items c.self.inside.below (64 * c.args.group + c.lowest_bit.result) (omega arith)
          ∙ group_mark c.self.inside.words.items (64 * c.args.group + c.lowest_bit.result) c.args.group c.index-word.result.now here
          (word_is c.self.inside.words.items c.args.group c.index-word.result.now (omega arith) c.index-word.ensures)
          ∙ ap (is_one c.index-word.result.now) bit ∙ c.lowest_bit.ensures.one,
      here,
    )
