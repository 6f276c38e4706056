use Rattle.std.proofs.Common.{◌*◌, ◌/◌, ◌%◌, ◌^◌, ◌<◌, Bool, List, false, nat_eq, ap, set, w64, bit_and, ◌∙◌, arith}
use Rattle.std.proofs.lemmas.Nat.Bits.{bit_at_clear_same, bit_at_clear_other}
use Rattle.std.specs.Int.{bit_not}
use Rattle.bit_marks.specs.Marks.{is_one}
use Rattle.bit_marks.proofs.MarkLemmas.{number_below, word_inside, word_is, bit_changed}
use Rattle.bit_marks.proofs.marks.BitMarks.clear.Goals as goal

pub index-requires : goal.index-requires
index-requires c = let i = (word_inside c.self.inside.words.items c.self.inside.below c.args.n
    (number_below c.self.inside.words.items c.self.inside.below c.args.n c.args.self.now c.self.view_is c.requires) c.self.invariant) in omega arith

pub index_mut-requires : goal.index_mut-requires
index_mut-requires c = let i = (word_inside c.self.inside.words.items c.self.inside.below c.args.n
    (number_below c.self.inside.words.items c.self.inside.below c.args.n c.args.self.now c.self.view_is c.requires) c.self.invariant) in omega arith

pub returns : goal.returns
returns c =
    let less = (number_below c.self.inside.words.items c.self.inside.below c.args.n c.args.self.now c.self.view_is c.requires) in
    let inside = word_inside c.self.inside.words.items c.self.inside.below c.args.n less c.self.invariant in
    let within : c.args.n % 64 < 64 = omega arith in
    bit_changed c.self.inside.words.items (bit_and c.index.result.now (bit_not w64 (1 * 2 ^ (c.args.n % 64) % 18446744073709551616)))
    c.args.n c.self.inside.below false less inside
    (ap (λ b. nat_eq b 1) (bit_at_clear_same w64 c.index.result.now (c.args.n % 64) within))
    (λ i low other. ap (λ b. nat_eq b 1) (bit_at_clear_other w64 c.index.result.now (c.args.n % 64) within i low other)
    ∙ ap (λ x. is_one x i) (word_is c.self.inside.words.items (c.args.n / 64) c.index.result.now inside c.index.ensures))
    ∙ ap (λ (l : List Bool). set l c.args.n false) c.self.view_is
