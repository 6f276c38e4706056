use Rattle.std.proofs.Common.{◌≡◌, ◌/◌, ap, ◌∙◌, arith}
use Rattle.heap_model.specs.Sizes.{words_of_class}
use Rattle.heap_model.proofs.SizeLemmas.{two_words}
use Rattle.super_block.proofs.DivisionLemmas.{words_from_size}
use Rattle.super_block.proofs.division.block_words.Goals as goal

pub returns : goal.returns
returns c =
    let same : c.size_of.result / 8 ≡ words_of_class c.args.class.number = ap (λ n. n / 8) c.size_of.ensures
    ∙ words_from_size c.args.class.number c.args.class.is in
    let two = two_words c.args.class.number c.args.class.is in
    record { words = same; some = omega (arith, same, two) }
