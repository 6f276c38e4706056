use Rattle.std.proofs.Common.{refl, arith, slice_index}
use Rattle.std.specs.BTreeMap.{get}
use Rattle.std.specs.Ordering.{nat_cmp}
use Rattle.dict_model.specs.Shards.{LeadsAlone, in_table}
use Rattle.dict_model.proofs.ShardLemmas.{alone_once}
use Rattle.dictionary.proofs.LeadLemmas.{lies_in}
use Rattle.dictionary.proofs.WalkLemmas.{chain_begins, chain_step, bad_link, bad_key}
use Rattle.dictionary.proofs.read.read_chain.Goals as goal

pub loop-node-init : goal.loop-node-init
loop-node-init c =
    let lies = lies_in c.args.walk.now.scan.words.now c.args.walk.now.scan.directory.now c.args.walk.now.origins.now c.args.table
    c.requires.read c.requires.table.leads_there.0.names.block in
    let size = c.requires.table.size in
    record {
      before = chain_begins (LeadsAlone (slice_index c.args.walk.now.scan.words.now) c.args.walk.now.shard)
          (slice_index c.args.walk.now.scan.words.now) c.args.walk.now.shard c.args.table c.args.bucket
          (get nat_cmp c.args.map.now) c.requires.upto;
      ordered = c.requires.ordered;
      inside = omega arith;
    }

pub returns-in-Astray-clause-err : goal.returns-in-Astray-clause-err
returns-in-Astray-clause-err c = rw (c.fault.ensures) (
  refl,
  in_table c.loop-node.at c.requires.kind (bad_link (LeadsAlone (slice_index c.args.walk.now.scan.words.now) c.args.walk.now.shard)
      (slice_index c.args.walk.now.scan.words.now) c.args.walk.now.shard c.args.table c.args.bucket
      c.loop-node.at (get nat_cmp c.loop-node.map) c.requires.table c.requires.bucket c.loop-node.invariant.before c.in-Astray.ensures),
)

pub returns-then-not-branch-clause-err : goal.returns-then-not-branch-clause-err
returns-then-not-branch-clause-err c = rw (c.fault-then-not-branch.ensures) (
  refl,
  in_table c.loop-node.at c.requires.kind (bad_key (LeadsAlone (slice_index c.args.walk.now.scan.words.now) c.args.walk.now.shard)
      (slice_index c.args.walk.now.scan.words.now) c.args.walk.now.shard c.args.table c.args.bucket
      (alone_once (slice_index c.args.walk.now.scan.words.now) c.args.walk.now.shard)
      c.loop-node.at (get nat_cmp c.loop-node.map) c.in-To.node c.requires.table c.requires.bucket c.loop-node.invariant.before
      c.in-To.ensures.0 c.in-To.ensures.1
      (c.in_ok-add.ensures.known c.if-not-branch.true)),
)

pub loop-node-preserved : goal.loop-node-preserved
loop-node-preserved c =
    let lies = lies_in c.args.walk.now.scan.words.now c.args.walk.now.scan.directory.now c.args.walk.now.origins.now c.in-To.node
    c.requires.read c.in-To.ensures.0.0.0.names.block in
    let fits = c.in-To.ensures.1.fits in
    record {
      before = chain_step (LeadsAlone (slice_index c.args.walk.now.scan.words.now) c.args.walk.now.shard)
          (slice_index c.args.walk.now.scan.words.now) c.args.walk.now.shard c.args.table c.args.bucket
          c.loop-node.at c.loop-node.map c.add.new.map c.in-To.node c.loop-node.invariant.before c.in-To.ensures.0 c.in-To.ensures.1
          (c.in_ok-add.ensures.new c.if-not-branch.false);
      ordered = c.in_ok-add.ensures.ordered;
      inside = omega arith;
    }
