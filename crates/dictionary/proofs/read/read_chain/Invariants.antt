use Rattle.std.proofs.Common.{◌<◌, ◌-◌, ◌^◌, length, slice_index}
use Rattle.std.specs.BTreeMap.{get, IsOrdered, btree_map_len}
use Rattle.std.specs.Ordering.{nat_cmp}
use Rattle.dict_model.specs.Shards.{LeadsAlone}
use Rattle.dictionary.specs.Reading.{IsMapBefore}
use Rattle.dictionary.proofs.read.read_chain.Given as goal

abbrev pub invariant-loop-node : goal.invariant-loop-node
invariant-loop-node l = record {
  before : IsMapBefore (LeadsAlone (slice_index l.walk.scan.words.now) l.walk.shard)
      (slice_index l.walk.scan.words.now) l.walk.shard l.table l.bucket l.at (get nat_cmp l.map);
  ordered : IsOrdered nat_cmp l.map;
  inside : l.at < length l.walk.scan.words.now;
}

abbrev pub decreases-loop-node : goal.decreases-loop-node
decreases-loop-node l = 2 ^ 63 - btree_map_len l.map
