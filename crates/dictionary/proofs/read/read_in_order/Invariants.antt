use Rattle.std.proofs.Common.{slice_index}
use Rattle.std.specs.BTreeMap.{get, IsOrdered}
use Rattle.std.specs.Ordering.{nat_cmp}
use Rattle.dict_model.specs.Shards.{LeadsAlone}
use Rattle.dictionary.specs.Reading.{IsMapUpTo}
use Rattle.dictionary.proofs.read.read_in_order.Given as goal

abbrev pub invariant-loop-bucket : goal.invariant-loop-bucket
invariant-loop-bucket l = record {
  upto : IsMapUpTo (LeadsAlone (slice_index l.walk.scan.words.now) l.walk.shard)
      (slice_index l.walk.scan.words.now) l.walk.shard l.table l.bucket (get nat_cmp l.map);
  ordered : IsOrdered nat_cmp l.map;
}
