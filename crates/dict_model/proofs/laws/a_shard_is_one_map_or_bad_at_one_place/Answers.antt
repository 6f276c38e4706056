use Rattle.dict_model.proofs.ShardLemmas.{one_map_of, one_bad_shard, no_bad_shard}
use Rattle.dict_model.proofs.laws.a_shard_is_one_map_or_bad_at_one_place.Goals as goal

pub returns-clause-map : goal.returns-clause-map
returns-clause-map c = one_map_of

pub returns-clause-bad : goal.returns-clause-bad
returns-clause-bad c = one_bad_shard

pub returns-clause-either : goal.returns-clause-either
returns-clause-either c = no_bad_shard
