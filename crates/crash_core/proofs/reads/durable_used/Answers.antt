use Rattle.std.proofs.Common.{◌+◌, refl, arith}
use Rattle.core_model.specs.Cells.{used_cell}
use Rattle.crash_core.proofs.ReadLemmas.{reads_durable}
use Rattle.crash_core.proofs.reads.durable_used.Goals as goal

pub returns : goal.returns
returns c = reads_durable c.args.core.now used_cell (c.length.result + 8) c.index.result.now c.requires.core refl (let f = c.length.ensures in
    omega arith) c.index.ensures
