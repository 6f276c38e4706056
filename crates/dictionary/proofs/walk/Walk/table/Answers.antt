use Rattle.std.proofs.Common.{◌≡◌, slice_index}
use Rattle.dict_model.specs.Nodes.{buckets}
use Rattle.dict_model.specs.Shards.{LeadsAlone}
use Rattle.dict_model.proofs.ShardLemmas.{alone_once}
use Rattle.dictionary.proofs.LeadLemmas.{not_wanted}
use Rattle.dictionary.proofs.walk.Walk.table.Goals as goal

pub returns-else-block-eq-BUCKETS : goal.returns-else-block-eq-BUCKETS
returns-else-block-eq-BUCKETS c =
    not_wanted (LeadsAlone (slice_index c.args.self.now.scan.words.now) c.args.self.now.shard)
    (alone_once (slice_index c.args.self.now.scan.words.now) c.args.self.now.shard)
    (λ b. b.words ≡ buckets) c.args.word c.in-To.block c.in-To.ensures.0 c.if-block-eq-BUCKETS.false
