use Rattle.run_rows.proofs.RowLemmas.{AreToldOf}
use Rattle.run_rows.proofs.rows.tables_of.Given as goal

abbrev pub invariant-loop-shard : goal.invariant-loop-shard
invariant-loop-shard g l = AreToldOf l.all l.workers l.tables l.shard
