use Rattle.std.proofs.Common.{slice_index}
use Rattle.par_recover.proofs.pass.InPiecesRebuildPass.rebuild_taken.Given as goal

abbrev pub ghost-rebuild_marked : goal.ghost-rebuild_marked
ghost-rebuild_marked g a = slice_index a.words.now
