use Rattle.std.proofs.Common.{◌/◌, ◌%◌, Bool, List, false, get_or, ap, sym, ◌∙◌, arith}
use Rattle.bit_marks.specs.Marks.{is_one}
use Rattle.bit_marks.proofs.MarkLemmas.{number_below, word_inside, word_is, mark_of_at}
use Rattle.bit_marks.proofs.marks.BitMarks.get.Goals as goal

pub index-requires : goal.index-requires
index-requires c = let i = (word_inside c.self.inside.words.items c.self.inside.below c.args.n
    (number_below c.self.inside.words.items c.self.inside.below c.args.n c.args.self.now c.self.view_is c.requires) c.self.invariant) in omega arith

pub returns : goal.returns
returns c =
    let less = (number_below c.self.inside.words.items c.self.inside.below c.args.n c.args.self.now c.self.view_is c.requires) in
    c.is_set.ensures ∙ ap (λ x. is_one x (c.args.n % 64)) (word_is c.self.inside.words.items (c.args.n / 64) c.index.result.now
    (word_inside c.self.inside.words.items c.self.inside.below c.args.n less c.self.invariant) c.index.ensures)
    ∙ sym (mark_of_at c.self.inside.words.items c.self.inside.below c.args.n less) ∙ ap (λ (l : List Bool). get_or l c.args.n false) c.self.view_is
