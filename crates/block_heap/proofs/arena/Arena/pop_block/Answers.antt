use Rattle.std.proofs.Common.{refl, arith}
use Rattle.block_heap.specs.MediumView.{medium_view}
use Rattle.block_heap.specs.Parts.{parts_of}
use Rattle.block_heap.proofs.SmallLemmas.{read_cache}
use Rattle.block_heap.proofs.CachedBlockLemmas.{first_cached, first_below, first_mark, popped_block, popped_leaves_held}
use Rattle.block_heap.proofs.arena.Arena.pop_block.Goals as goal

pub load-requires-clause-within : goal.load-requires-clause-within
load-requires-clause-within g c =
    let p = parts_of c.args.self.now in
    let is = read_cache p c.args.class.number c.index-cache.result.now c.args.class.is c.requires.running c.index-cache.ensures in
    let front = first_cached p c.args.class.number c.args.class.is c.requires.running c.index-cache.result.now is c.requires.some in
    let below = first_below p c.args.class.number front.d c.index-cache.result.now.first c.args.class.is c.requires.running front.within
    front.is_first in
    let words = c.requires.running.words_open.long in
    omega arith

pub add-requires : goal.add-requires
add-requires g c =
    let p = parts_of c.args.self.now in
    let is = read_cache p c.args.class.number c.index-cache.result.now c.args.class.is c.requires.running c.index-cache.ensures in
    let front = first_cached p c.args.class.number c.args.class.is c.requires.running c.index-cache.result.now is c.requires.some in
    first_mark p c.args.class.number front.d c.index-cache.result.now.first c.args.class.is c.requires.running front.within front.is_first
    c.args.self.now.held refl
    refl

pub at-requires : goal.at-requires
at-requires g c =
    let p = parts_of c.args.self.now in
    let is = read_cache p c.args.class.number c.index-cache.result.now c.args.class.is c.requires.running c.index-cache.ensures in
    let front = first_cached p c.args.class.number c.args.class.is c.requires.running c.index-cache.result.now is c.requires.some in
    first_mark p c.args.class.number front.d c.index-cache.result.now.first c.args.class.is c.requires.running front.within front.is_first
    c.add.new.self
    c.add.ensures.start c.add.ensures.words

pub returns-clause-ok : goal.returns-clause-ok
returns-clause-ok g c =
    let p = parts_of c.args.self.now in
    let is = read_cache p c.args.class.number c.index-cache.result.now c.args.class.is c.requires.running c.index-cache.ensures in
    popped_block p c.args.class.number c.args.class.is c.requires.running c.index-cache.result.now is c.requires.some
    (medium_view c.load.new.self) c.in_ok-next.next c.add.new.self
    c.in_ok-next.ensures.ok c.load.ensures.unchanged c.add.ensures.held c.add.ensures.words c.add.ensures.start c.at.result c.at.ensures

pub returns-clause-leaves_held : goal.returns-clause-leaves_held
returns-clause-leaves_held g c =
    let p = parts_of c.args.self.now in
    let is = read_cache p c.args.class.number c.index-cache.result.now c.args.class.is c.requires.running c.index-cache.ensures in
    popped_leaves_held p c.args.class.number c.args.class.is c.requires.running c.index-cache.result.now is c.requires.some
    (medium_view c.load.new.self) c.in_ok-next.next c.add.new.self
    c.in_ok-next.ensures.ok c.load.ensures.unchanged c.add.ensures.held c.add.ensures.words c.add.ensures.start
