use Rattle.std.proofs.Common.{lt-ltb, arith}
use Rattle.core_model.specs.Cells.{info_cell}
use Rattle.crash_core.proofs.ReadLemmas.{lengths, reads_volatile}
use Rattle.crash_core.proofs.reads.info.Goals as goal

pub index-requires : goal.index-requires
index-requires c = let l = (lengths c.args.core.now c.requires.core).words in let e = c.info.ensures in let d = c.requires.d in omega arith

pub returns : goal.returns
returns c = reads_volatile c.args.core.now (info_cell c.args.d) c.info.result c.index.result.now c.requires.core
    (lt-ltb c.args.d c.args.core.now.geometry.capacity c.requires.d) c.info.ensures c.index.ensures
