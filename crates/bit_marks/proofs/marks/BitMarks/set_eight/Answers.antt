use Rattle.std.proofs.Common.{◌*◌, ◌/◌, ◌%◌, ◌^◌, List, Bool, length, get_or, false, ap, ◌∙◌, arith}
use Rattle.bit_marks.proofs.MarkLemmas.{number_below, word_is}
use Rattle.bit_marks.proofs.EightLemmas.{eight_there, eight_long, eight_inside, eight_others, mask_fits}
use Rattle.bit_marks.proofs.marks.BitMarks.set_eight.Goals as goal

pub index-requires : goal.index-requires
index-requires c = let i = eight_there c.self.inside.words.items c.self.inside.below c.args.eight c.args.self.now c.self.view_is c.requires
    c.self.invariant in omega arith

pub index_mut-requires : goal.index_mut-requires
index_mut-requires c = let i = eight_there c.self.inside.words.items c.self.inside.below c.args.eight c.args.self.now c.self.view_is c.requires
    c.self.invariant in omega arith

pub returns-clause-len : goal.returns-clause-len
returns-clause-len c = eight_long c.self.inside.words.items c.self.inside.below c.args.eight c.index.result.now
    (255 * 2 ^ (8 * (c.args.eight % 8)) % 18446744073709551616) (eight_there c.self.inside.words.items c.self.inside.below c.args.eight
    c.args.self.now c.self.view_is c.requires c.self.invariant) (mask_fits (c.args.eight % 8) (omega arith))
    (word_is c.self.inside.words.items (c.args.eight / 8) c.index.result.now
    (eight_there c.self.inside.words.items c.self.inside.below c.args.eight c.args.self.now c.self.view_is c.requires c.self.invariant)
    c.index.ensures) ∙ ap (λ (l : List Bool). length l) c.self.view_is

pub returns-clause-inside : goal.returns-clause-inside
returns-clause-inside c = λ n less here. eight_inside c.self.inside.words.items c.self.inside.below c.args.eight c.index.result.now
    (255 * 2 ^ (8 * (c.args.eight % 8)) % 18446744073709551616) (eight_there c.self.inside.words.items c.self.inside.below c.args.eight
    c.args.self.now c.self.view_is c.requires c.self.invariant) (mask_fits (c.args.eight % 8) (omega arith))
    (word_is c.self.inside.words.items (c.args.eight / 8) c.index.result.now
    (eight_there c.self.inside.words.items c.self.inside.below c.args.eight c.args.self.now c.self.view_is c.requires c.self.invariant)
    c.index.ensures) n (number_below c.self.inside.words.items c.self.inside.below n c.args.self.now c.self.view_is less) here

pub returns-clause-others : goal.returns-clause-others
returns-clause-others c = λ n other. eight_others c.self.inside.words.items c.self.inside.below c.args.eight c.index.result.now
    (255 * 2 ^ (8 * (c.args.eight % 8)) % 18446744073709551616) (eight_there c.self.inside.words.items c.self.inside.below c.args.eight
    c.args.self.now c.self.view_is c.requires c.self.invariant) (mask_fits (c.args.eight % 8) (omega arith))
    (word_is c.self.inside.words.items (c.args.eight / 8) c.index.result.now
    (eight_there c.self.inside.words.items c.self.inside.below c.args.eight c.args.self.now c.self.view_is c.requires c.self.invariant)
    c.index.ensures) n other ∙ ap (λ (l : List Bool). get_or l n false) c.self.view_is
