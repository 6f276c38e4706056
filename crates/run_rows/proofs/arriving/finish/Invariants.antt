use Rattle.std.proofs.Common.{length}
use Rattle.run_rows.proofs.arriving.finish.Given as goal

abbrev pub ghosts-bring : goal.ghosts-bring
ghosts-bring g a = record { came = length a.came.items }
