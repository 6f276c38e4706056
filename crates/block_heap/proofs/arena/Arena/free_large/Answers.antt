use Rattle.std.proofs.Common.{◌+◌, ◌/◌, ◌∙◌, arith}
use Rattle.block_heap.specs.Parts.{parts_of}
use Rattle.block_heap.proofs.FreedPartLemmas.{freed_more, freed_leaves_held, freed_takes}
use Rattle.block_heap.proofs.FreeLargeLemmas.{drop_begins, freed_accounted, freed_large, large_behind, large_mark}
use Rattle.block_heap.proofs.arena.Arena.free_large.Goals as goal

pub remove-requires : goal.remove-requires
remove-requires g c = large_mark (parts_of c.args.self.now) c.args.b c.requires.running c.requires.holds c.requires.large

pub superblock_of-first-requires : goal.superblock_of-first-requires
superblock_of-first-requires g c = large_behind (parts_of c.args.self.now) c.args.b c.requires.running c.requires.holds c.requires.large

pub loop-d-init : goal.loop-d-init
loop-d-init g c =
    drop_begins (parts_of c.args.self.now) c.args.b c.requires.running c.requires.holds c.requires.large c.remove.new.self
    c.remove.ensures.held c.remove.ensures.words c.remove.ensures.start c.superblock_of-first.result c.superblock_of-first.ensures

pub split-requires-clause-within : goal.split-requires-clause-within
split-requires-clause-within g c = (c.loop-d.invariant.left c.loop-d.d (omega arith) c.loop-d-test.true).within

pub split-requires-clause-dropped : goal.split-requires-clause-dropped
split-requires-clause-dropped g c = c.loop-d.invariant.left c.loop-d.d (omega arith) c.loop-d-test.true

pub returns-in_err-split-clause-freed : goal.returns-in_err-split-clause-freed
returns-in_err-split-clause-freed g c =
    freed_takes (parts_of c.args.self.now) (parts_of c.split.new.self) c.args.b c.remove.new.self c.requires.holds c.remove.ensures.held
    (c.in_err-split.ensures.held ∙ c.loop-d.invariant.blocks)

pub returns-in_err-split-clause-leaves_held : goal.returns-in_err-split-clause-leaves_held
returns-in_err-split-clause-leaves_held g c =
    freed_leaves_held c.superblock_of-first.result c.loop-d.d (c.superblock_of-first.result + c.args.b.words / 8192) c.remove.new.self
    (parts_of c.args.self.now) (parts_of c.loop-d.self) (parts_of c.split.new.self)
    c.loop-d.invariant c.in_err-split.ensures.held c.in_err-split.ensures.leaves_held

pub loop-d-preserved : goal.loop-d-preserved
loop-d-preserved g c =
    let kept = c.in_ok-split.ensures in
    freed_more c.superblock_of-first.result c.loop-d.d (c.superblock_of-first.result + c.args.b.words / 8192)
    (record (parts_of c.args.self.now) { blocks = c.remove.new.self }) (parts_of c.loop-d.self)
    (parts_of c.split.new.self) c.loop-d-test.true c.loop-d.invariant
    kept.running kept.others kept.gives kept.order kept.runs_within kept.held kept.leaves_held kept.caches kept.taken

pub returns-clause-freed : goal.returns-clause-freed
returns-clause-freed g c =
    freed_takes (parts_of c.args.self.now) (parts_of c.loop-d.self)
    c.args.b c.remove.new.self c.requires.holds c.remove.ensures.held c.loop-d.invariant.blocks

pub returns-clause-accounted : goal.returns-clause-accounted
returns-clause-accounted g c =
    freed_accounted (parts_of c.args.self.now) c.args.b c.requires.running c.requires.holds c.requires.large c.remove.new.self
    c.remove.ensures.held c.remove.ensures.words c.remove.ensures.start c.superblock_of-first.result c.loop-d.d (parts_of c.loop-d.self)
    c.superblock_of-first.ensures (let past = c.loop-d-test.false in omega arith) c.loop-d.invariant

pub returns-clause-order : goal.returns-clause-order
returns-clause-order g c =
    freed_large (parts_of c.args.self.now) c.args.b c.requires.running c.requires.holds c.requires.large c.remove.new.self
    c.remove.ensures.held c.remove.ensures.words c.remove.ensures.start c.superblock_of-first.result c.loop-d.d (parts_of c.loop-d.self)
    c.superblock_of-first.ensures (let past = c.loop-d-test.false in omega arith) c.loop-d.invariant
