use Rattle.dictionary.proofs.SameLemmas.{map_kept, bad_kept}
use Rattle.dictionary.proofs.laws.recovery_keeps_each_shard.Goals as goal

pub returns-clause-map : goal.returns-clause-map
returns-clause-map c = map_kept

pub returns-clause-bad : goal.returns-clause-bad
returns-clause-bad c = bad_kept
