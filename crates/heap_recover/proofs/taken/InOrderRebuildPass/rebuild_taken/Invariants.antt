use Rattle.std.proofs.Common.{slice_index}
use Rattle.heap_recover.proofs.taken.InOrderRebuildPass.rebuild_taken.Given as goal

abbrev pub ghost-rebuild_taken : goal.ghost-rebuild_taken
ghost-rebuild_taken a = slice_index a.words.now
