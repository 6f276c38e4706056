use Rattle.std.proofs.Common.{◌≡◌, subst, arith, slice_index}
use Rattle.std.specs.BTreeMap.{get}
use Rattle.std.specs.Ordering.{nat_cmp}
use Rattle.dict_model.specs.Nodes.{buckets}
use Rattle.dict_model.specs.Shards.{LeadsAlone}
use Rattle.dictionary.specs.Reading.{IsMapUpTo}
use Rattle.dictionary.proofs.WalkLemmas.{no_key, map_begins, map_ends}
use Rattle.dictionary.proofs.read.read_in_order.Goals as goal

pub loop-bucket-init : goal.loop-bucket-init
loop-bucket-init c = record {
  upto = map_begins (LeadsAlone (slice_index c.args.walk.now.scan.words.now) c.args.walk.now.shard)
      (slice_index c.args.walk.now.scan.words.now) c.args.walk.now.shard c.args.table (get nat_cmp c.new-map.result)
      (no_key c.new-map.result c.new-map.ensures.empty);
  ordered = c.new-map.ensures.ordered;
}

pub returns-clause-ok : goal.returns-clause-ok
returns-clause-ok c =
    let all : c.loop-bucket.bucket ≡ buckets = omega arith in
    map_ends (LeadsAlone (slice_index c.args.walk.now.scan.words.now) c.args.walk.now.shard)
    (slice_index c.args.walk.now.scan.words.now) c.args.walk.now.shard c.args.table (get nat_cmp c.loop-bucket.map) c.requires.table
    (subst (λ k. IsMapUpTo (LeadsAlone (slice_index c.args.walk.now.scan.words.now) c.args.walk.now.shard)
    (slice_index c.args.walk.now.scan.words.now) c.args.walk.now.shard c.args.table k (get nat_cmp c.loop-bucket.map))
    all c.loop-bucket.invariant.upto)
