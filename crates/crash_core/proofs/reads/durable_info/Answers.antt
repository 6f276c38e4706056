use Rattle.std.proofs.Common.{◌+◌, lt-ltb, arith}
use Rattle.core_model.specs.Cells.{info_cell}
use Rattle.crash_core.proofs.ReadLemmas.{lengths, reads_durable}
use Rattle.crash_core.proofs.reads.durable_info.Goals as goal

pub index-requires : goal.index-requires
index-requires c = let l = (lengths c.args.core.now c.requires.core).words in let e = c.info.ensures in let f = c.length.ensures in
    let d = c.requires.d in omega arith

pub returns : goal.returns
returns c = reads_durable c.args.core.now (info_cell c.args.d) (c.length.result + c.info.result) c.index.result.now c.requires.core
    (lt-ltb c.args.d c.args.core.now.geometry.capacity c.requires.d)
    (let e = c.info.ensures in let f = c.length.ensures in omega arith) c.index.ensures
