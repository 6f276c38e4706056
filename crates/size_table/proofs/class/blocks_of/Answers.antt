use Rattle.std.proofs.Common.{arith}
use Rattle.heap_model.proofs.SizeLemmas.{two_words, size_of-words}
use Rattle.size_table.proofs.class.blocks_of.Goals as goal

pub nonzero_div-result : goal.nonzero_div-result
nonzero_div-result c = omega (arith, two_words c.args.class c.requires, size_of-words c.args.class c.requires, c.size_of.ensures)
