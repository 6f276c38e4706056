use Rattle.std.proofs.Common.{refl, le-leb, lt-ltb}
use Rattle.heap_model.specs.Geometry.{start_word, superblocks_end}
use Rattle.core_model.specs.Cells.{data_cell}
use Rattle.core_model.proofs.PlaceLemmas.{and_is}
use Rattle.crash_core.proofs.ReadLemmas.{reads_volatile}
use Rattle.crash_core.proofs.reads.next.Goals as goal

pub returns : goal.returns
returns c = reads_volatile c.args.core.now (data_cell c.args.block) c.args.block c.index.result.now c.requires.core
    (and_is _ _ (le-leb (start_word c.args.core.now.geometry.capacity 0) c.args.block c.requires.from)
    (lt-ltb c.args.block (superblocks_end c.args.core.now.geometry.capacity) c.requires.until)) refl c.index.ensures
