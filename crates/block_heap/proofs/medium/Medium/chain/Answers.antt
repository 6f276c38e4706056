use Rattle.std.proofs.Common.{◌≡◌, ℕ, ◌-◌, arith, subst}
use Rattle.heap_model.specs.Sizes.{blocks_of}
use Rattle.heap_model.proofs.SizeLemmas.{few_blocks, four_blocks}
use Rattle.block_heap.specs.MediumView.{medium_view}
use Rattle.block_heap.specs.Divide.{AreInOneChain}
use Rattle.heap_shape.specs.Effects.{IsInSuperblock}
use Rattle.block_heap.proofs.MediumLemmas.{stores_nothing}
use Rattle.block_heap.proofs.DivideLemmas.{first_inside, chain_more, chain_begins}
use Rattle.block_heap.proofs.medium.Medium.chain.Goals as goal

pub loop-index-init : goal.loop-index-init
loop-index-init g c =
    let view = medium_view c.args.self.now in
    let ends = c.blocks_of-index-end.ensures in
    let few = few_blocks c.args.class.number c.args.class.is in
    record {
      ends = ends;
      few = omega arith;
      chained = chain_begins c.args.geometry.capacity c.args.class.number c.args.d view c.requires.open
          (stores_nothing (IsInSuperblock c.args.geometry.capacity c.args.d) view);
    }

pub store-requires-clause-within : goal.store-requires-clause-within
store-requires-clause-within g c =
    let inside = (first_inside c.args.geometry.capacity c.args.class.number c.args.d
    (c.loop-index.index - 1) c.block_at-before.result.first_word c.args.class.is c.requires.superblock c.block_at-before.ensures.below
    c.block_at-before.ensures.at).1 in
    let long = c.loop-index.invariant.chained.open_still.long in
    omega arith

pub returns-in_err-store-clause-others : goal.returns-in_err-store-clause-others
returns-in_err-store-clause-others g c =
    (chain_more c.args.geometry.capacity c.args.class.number c.args.d c.loop-index.index (medium_view c.args.self.now)
    (medium_view c.loop-index.self) (medium_view c.store.new.self)
    c.block_at-before.result.first_word c.block_at-block.result.first_word c.args.class.is c.requires.superblock
    (omega arith) c.block_at-block.ensures.below
    c.block_at-before.ensures.at c.block_at-block.ensures.at c.loop-index.invariant.chained c.store.ensures.others).0

pub loop-index-preserved : goal.loop-index-preserved
loop-index-preserved g c = record {
  ends = c.loop-index.invariant.ends;
  few = c.loop-index.invariant.few;
  chained = (chain_more c.args.geometry.capacity c.args.class.number c.args.d c.loop-index.index (medium_view c.args.self.now)
      (medium_view c.loop-index.self) (medium_view c.store.new.self)
      c.block_at-before.result.first_word c.block_at-block.result.first_word c.args.class.is c.requires.superblock
      (omega arith) c.block_at-block.ensures.below
      c.block_at-before.ensures.at c.block_at-block.ensures.at c.loop-index.invariant.chained c.store.ensures.others).1 c.in_ok-store.ensures.ok;
}

pub returns-clause-ok : goal.returns-clause-ok
returns-clause-ok g c =
    let four = four_blocks c.args.class.number c.args.class.is in
    let ends = c.loop-index.invariant.ends in
    let e : c.loop-index.index ≡ blocks_of c.args.class.number = omega arith in
    subst (λ (k : ℕ). AreInOneChain c.args.geometry.capacity c.args.class.number c.args.d k (medium_view c.args.self.now)
    (medium_view c.loop-index.self)) e c.loop-index.invariant.chained
