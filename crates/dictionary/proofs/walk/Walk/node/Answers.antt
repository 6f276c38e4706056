use Rattle.std.proofs.Common.{slice_index, sym, ◌∙◌}
use Rattle.heap_model.specs.Blocks.{layout_of, IsBlock}
use Rattle.dict_model.specs.Nodes.{IsNode}
use Rattle.dict_model.specs.Shards.{LeadsAlone, LeadsAstray, but}
use Rattle.dict_model.proofs.ShardLemmas.{alone_once}
use Rattle.dictionary.proofs.LeadLemmas.{not_wanted, not_table, astray_more, same_block}
use Rattle.dictionary.proofs.walk.Walk.node.Goals.{else-ne-via-then-ne+else-is_node, else-ne-via-else-ne}
use Rattle.dictionary.proofs.walk.Walk.node.Goals as goal

pub returns-in-Astray : goal.returns-in-Astray
returns-in-Astray c =
    astray_more (LeadsAlone (slice_index c.args.self.now.scan.words.now) c.args.self.now.shard)
    (but c.args.table (LeadsAlone (slice_index c.args.self.now.scan.words.now) c.args.self.now.shard))
    (λ b. IsBlock (layout_of (slice_index c.args.self.now.scan.words.now)) b)
    (IsNode (slice_index c.args.self.now.scan.words.now) c.args.self.now.shard c.args.bucket) c.args.word
    (λ b to is. (to.0, to.0.0.names.block)) c.in-Astray.ensures

pub returns-else-ne : goal.returns-else-ne
returns-else-ne c =
    elim c.else-ne.branch as (λ _. LeadsAstray (but c.args.table (LeadsAlone
    (slice_index c.args.self.now.scan.words.now) c.args.self.now.shard))
    (IsNode (slice_index c.args.self.now.scan.words.now) c.args.self.now.shard c.args.bucket) c.args.word) [
      | else-ne-via-then-ne+else-is_node w ↦
          astray_more (LeadsAlone (slice_index c.args.self.now.scan.words.now) c.args.self.now.shard)
          (but c.args.table (LeadsAlone (slice_index c.args.self.now.scan.words.now) c.args.self.now.shard))
          (IsNode (slice_index c.args.self.now.scan.words.now) c.args.self.now.shard c.args.bucket)
          (IsNode (slice_index c.args.self.now.scan.words.now) c.args.self.now.shard c.args.bucket) c.args.word
          (λ b to is. (to.0, is))
          (not_wanted (LeadsAlone (slice_index c.args.self.now.scan.words.now) c.args.self.now.shard)
          (alone_once (slice_index c.args.self.now.scan.words.now) c.args.self.now.shard)
          (IsNode (slice_index c.args.self.now.scan.words.now) c.args.self.now.shard c.args.bucket) c.args.word c.in-To.block c.in-To.ensures.0
          (w.is_node.ensures.no w.if-is_node.false))
      | else-ne-via-else-ne w ↦
          not_table (LeadsAlone (slice_index c.args.self.now.scan.words.now) c.args.self.now.shard)
          (alone_once (slice_index c.args.self.now.scan.words.now) c.args.self.now.shard)
          (IsNode (slice_index c.args.self.now.scan.words.now) c.args.self.now.shard c.args.bucket)
          c.args.word c.in-To.block c.args.table c.in-To.ensures.0
          (same_block c.in-To.block c.args.table (sym c.ne.ensures ∙ w.if-ne.false))
    ]
