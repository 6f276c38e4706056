use Rattle.std.proofs.Common.{refl, ◌∙◌, sym, arith}
use Rattle.heap_model.proofs.SizeLemmas.{few_blocks}
use Rattle.block_heap.specs.MediumView.{medium_view}
use Rattle.block_heap.specs.Parts.{parts_of}
use Rattle.block_heap.proofs.SmallLemmas.{read_cache}
use Rattle.block_heap.proofs.FreeLemmas.{held_mark, held_below, taken_back, freed_leaves_held, count_short, freed_running, freed_accounted, freed_short, flushed_short, flushed_held, flushed_serve, flushed_runs_within}
use Rattle.block_heap.proofs.FreedLemmas.{frees_below, frees_at}
use Rattle.block_heap.proofs.arena.Arena.free_small.Goals as goal

pub remove-requires : goal.remove-requires
remove-requires g c =
    let p = parts_of c.args.self.now in
    held_mark p c.args.class.number c.args.class.is c.requires.running c.args.b c.requires.holds c.requires.size

pub store-requires-clause-within : goal.store-requires-clause-within
store-requires-clause-within g c =
    let p = parts_of c.args.self.now in
    let below = held_below p c.args.class.number c.args.class.is c.requires.running c.args.b c.requires.holds c.requires.size
    in let words = c.requires.running.words_open.long in omega arith

pub returns-in_err-store-clause-freed : goal.returns-in_err-store-clause-freed
returns-in_err-store-clause-freed g c =
    let p = parts_of c.args.self.now in
    taken_back p c.args.class.number c.args.class.is c.requires.running c.args.b c.requires.holds c.requires.size
    c.remove.new.self c.remove.ensures.held c.remove.ensures.words c.remove.ensures.start

pub returns-in_err-store-clause-leaves_held : goal.returns-in_err-store-clause-leaves_held
returns-in_err-store-clause-leaves_held g c =
    let p = parts_of c.args.self.now in
    freed_leaves_held p c.args.class.number c.args.class.is c.requires.running c.args.b c.requires.holds c.requires.size
    c.remove.new.self c.remove.ensures.held c.remove.ensures.words c.remove.ensures.start _ refl refl refl c.store.ensures.others

pub overflow_add-cache : goal.overflow_add-cache
overflow_add-cache g c =
    let p = parts_of c.args.self.now in
    let is = read_cache p c.args.class.number c.index-cache.result.now c.args.class.is c.requires.running c.index-cache.ensures in
    let few = few_blocks c.args.class.number c.args.class.is in
    let short = count_short p c.args.class.number c.args.class.is c.requires.running c.args.b c.requires.holds c.requires.size
    c.remove.new.self c.remove.ensures.held c.remove.ensures.words c.remove.ensures.start
    c.index-cache.result.now is (medium_view c.store.new.self) c.in_ok-store.ensures.ok c.store.ensures.others c.requires.short in
    omega arith

pub overflow_add-cache-2 : goal.overflow_add-cache-2
overflow_add-cache-2 g c =
    let p = parts_of c.args.self.now in
    let is = read_cache p c.args.class.number c.index-cache.result.now c.args.class.is c.requires.running c.index-cache.ensures in
    let few = few_blocks c.args.class.number c.args.class.is in
    let short = count_short p c.args.class.number c.args.class.is c.requires.running c.args.b c.requires.holds c.requires.size
    c.remove.new.self c.remove.ensures.held c.remove.ensures.words c.remove.ensures.start
    c.index-cache.result.now is (medium_view c.store.new.self) c.in_ok-store.ensures.ok c.store.ensures.others c.requires.short in
    omega arith

pub flush-requires : goal.flush-requires
flush-requires g c =
    let p = parts_of c.args.self.now in
    let is = read_cache p c.args.class.number c.index-cache.result.now c.args.class.is c.requires.running c.index-cache.ensures in
    freed_running p c.args.class.number c.args.class.is c.requires.running c.args.b c.requires.holds c.requires.size
    c.remove.new.self c.remove.ensures.held c.remove.ensures.words c.remove.ensures.start
    c.index-cache.result.now is (medium_view c.store.new.self) c.in_ok-store.ensures.ok c.store.ensures.others c.requires.short

pub returns-in_err-flush-clause-freed : goal.returns-in_err-flush-clause-freed
returns-in_err-flush-clause-freed g c =
    let p = parts_of c.args.self.now in
    let is = read_cache p c.args.class.number c.index-cache.result.now c.args.class.is c.requires.running c.index-cache.ensures in
    flushed_held p c.args.class.number c.args.class.is c.requires.running c.args.b c.requires.holds c.requires.size
    c.remove.new.self c.remove.ensures.held c.remove.ensures.words c.remove.ensures.start
    c.index-cache.result.now is (medium_view c.store.new.self) c.in_ok-store.ensures.ok c.store.ensures.others c.requires.short
    (parts_of c.flush.new.self) c.flush.ensures.held

pub returns-in_err-flush-clause-leaves_held : goal.returns-in_err-flush-clause-leaves_held
returns-in_err-flush-clause-leaves_held g c =
    let p = parts_of c.args.self.now in
    let is = read_cache p c.args.class.number c.index-cache.result.now c.args.class.is c.requires.running c.index-cache.ensures in
    flushed_serve p c.args.class.number c.args.class.is c.requires.running c.args.b c.requires.holds c.requires.size
    c.remove.new.self c.remove.ensures.held c.remove.ensures.words c.remove.ensures.start
    c.index-cache.result.now is (medium_view c.store.new.self) c.in_ok-store.ensures.ok c.store.ensures.others c.requires.short
    (parts_of c.flush.new.self) c.flush.ensures.held c.flush.ensures.leaves_held

pub returns-in_ok-flush-clause-freed : goal.returns-in_ok-flush-clause-freed
returns-in_ok-flush-clause-freed g c =
    let p = parts_of c.args.self.now in
    let is = read_cache p c.args.class.number c.index-cache.result.now c.args.class.is c.requires.running c.index-cache.ensures in
    flushed_held p c.args.class.number c.args.class.is c.requires.running c.args.b c.requires.holds c.requires.size
    c.remove.new.self c.remove.ensures.held c.remove.ensures.words c.remove.ensures.start
    c.index-cache.result.now is (medium_view c.store.new.self) c.in_ok-store.ensures.ok c.store.ensures.others c.requires.short
    (parts_of c.flush.new.self) c.flush.ensures.held

pub returns-in_ok-flush-clause-leaves_held : goal.returns-in_ok-flush-clause-leaves_held
returns-in_ok-flush-clause-leaves_held g c =
    let p = parts_of c.args.self.now in
    let is = read_cache p c.args.class.number c.index-cache.result.now c.args.class.is c.requires.running c.index-cache.ensures in
    flushed_serve p c.args.class.number c.args.class.is c.requires.running c.args.b c.requires.holds c.requires.size
    c.remove.new.self c.remove.ensures.held c.remove.ensures.words c.remove.ensures.start
    c.index-cache.result.now is (medium_view c.store.new.self) c.in_ok-store.ensures.ok c.store.ensures.others c.requires.short
    (parts_of c.flush.new.self) c.flush.ensures.held c.flush.ensures.leaves_held

pub returns-in_ok-flush-clause-short : goal.returns-in_ok-flush-clause-short
returns-in_ok-flush-clause-short g c =
    let p = parts_of c.args.self.now in
    let is = read_cache p c.args.class.number c.index-cache.result.now c.args.class.is c.requires.running c.index-cache.ensures in
    flushed_short p c.args.class.number c.args.class.is c.requires.running c.args.b c.requires.holds c.requires.size
    c.remove.new.self c.remove.ensures.held c.remove.ensures.words c.remove.ensures.start
    c.index-cache.result.now is (medium_view c.store.new.self) c.in_ok-store.ensures.ok c.store.ensures.others c.requires.short
    (parts_of c.flush.new.self) c.in_ok-flush.ensures.keeps c.in_ok-flush.ensures.empty

pub returns-in_ok-flush-clause-runs_within : goal.returns-in_ok-flush-clause-runs_within
returns-in_ok-flush-clause-runs_within g c =
    let p = parts_of c.args.self.now in
    let is = read_cache p c.args.class.number c.index-cache.result.now c.args.class.is c.requires.running c.index-cache.ensures in
    flushed_runs_within p c.args.class.number c.args.class.is c.requires.running c.args.b c.requires.holds c.requires.size
    c.remove.new.self c.remove.ensures.held c.remove.ensures.words c.remove.ensures.start
    c.index-cache.result.now is (medium_view c.store.new.self) c.in_ok-store.ensures.ok c.store.ensures.others c.requires.short
    (parts_of c.flush.new.self) c.in_ok-flush.ensures.running c.flush.ensures.leaves_held.as_allocator.stores.drawn c.flush.ensures.few

pub returns-else-cache-blocks_of-clause-running : goal.returns-else-cache-blocks_of-clause-running
returns-else-cache-blocks_of-clause-running g c =
    let p = parts_of c.args.self.now in
    let is = read_cache p c.args.class.number c.index-cache.result.now c.args.class.is c.requires.running c.index-cache.ensures in
    freed_running p c.args.class.number c.args.class.is c.requires.running c.args.b c.requires.holds c.requires.size
    c.remove.new.self c.remove.ensures.held c.remove.ensures.words c.remove.ensures.start
    c.index-cache.result.now is (medium_view c.store.new.self) c.in_ok-store.ensures.ok c.store.ensures.others c.requires.short

pub returns-else-cache-blocks_of-clause-short : goal.returns-else-cache-blocks_of-clause-short
returns-else-cache-blocks_of-clause-short g c =
    let p = parts_of c.args.self.now in
    let is = read_cache p c.args.class.number c.index-cache.result.now c.args.class.is c.requires.running c.index-cache.ensures in
    freed_short p c.args.class.number c.args.class.is c.requires.running c.args.b c.requires.holds c.requires.size
    c.remove.new.self c.remove.ensures.held c.remove.ensures.words c.remove.ensures.start
    c.index-cache.result.now is (medium_view c.store.new.self) c.in_ok-store.ensures.ok c.store.ensures.others c.requires.short
    (λ e. c.if-cache-blocks_of.false (e ∙ sym c.blocks_of.ensures))

pub returns-else-cache-blocks_of-clause-freed : goal.returns-else-cache-blocks_of-clause-freed
returns-else-cache-blocks_of-clause-freed g c =
    let p = parts_of c.args.self.now in
    taken_back p c.args.class.number c.args.class.is c.requires.running c.args.b c.requires.holds c.requires.size
    c.remove.new.self c.remove.ensures.held c.remove.ensures.words c.remove.ensures.start

pub returns-else-cache-blocks_of-clause-leaves_held : goal.returns-else-cache-blocks_of-clause-leaves_held
returns-else-cache-blocks_of-clause-leaves_held g c =
    let p = parts_of c.args.self.now in
    freed_leaves_held p c.args.class.number c.args.class.is c.requires.running c.args.b c.requires.holds c.requires.size
    c.remove.new.self c.remove.ensures.held c.remove.ensures.words c.remove.ensures.start _ refl refl refl c.store.ensures.others

pub returns-in_ok-flush-clause-accounted : goal.returns-in_ok-flush-clause-accounted
returns-in_ok-flush-clause-accounted g c = λ before.
    let p = parts_of c.args.self.now in
    let is = read_cache p c.args.class.number c.index-cache.result.now c.args.class.is c.requires.running c.index-cache.ensures in
    c.in_ok-flush.ensures.keeps.accounted (freed_accounted p c.args.class.number c.args.class.is c.requires.running c.args.b c.requires.holds
    c.requires.size
    c.remove.new.self c.remove.ensures.held c.remove.ensures.words c.remove.ensures.start
    c.index-cache.result.now is (medium_view c.store.new.self) c.in_ok-store.ensures.ok c.store.ensures.others c.requires.short before)

pub returns-else-cache-blocks_of-clause-accounted : goal.returns-else-cache-blocks_of-clause-accounted
returns-else-cache-blocks_of-clause-accounted g c =
    let p = parts_of c.args.self.now in
    let is = read_cache p c.args.class.number c.index-cache.result.now c.args.class.is c.requires.running c.index-cache.ensures in
    freed_accounted p c.args.class.number c.args.class.is c.requires.running c.args.b c.requires.holds c.requires.size
    c.remove.new.self c.remove.ensures.held c.remove.ensures.words c.remove.ensures.start
    c.index-cache.result.now is (medium_view c.store.new.self) c.in_ok-store.ensures.ok c.store.ensures.others c.requires.short

pub returns-in_ok-flush-clause-order : goal.returns-in_ok-flush-clause-order
returns-in_ok-flush-clause-order g c =
    let p = parts_of c.args.self.now in
    let is = read_cache p c.args.class.number c.index-cache.result.now c.args.class.is c.requires.running c.index-cache.ensures in
    frees_at p c.args.class.number c.args.class.is c.requires.running c.args.b c.requires.holds c.requires.size
    c.remove.new.self c.remove.ensures.held c.remove.ensures.words c.remove.ensures.start
    c.index-cache.result.now is (medium_view c.store.new.self) c.in_ok-store.ensures.ok c.store.ensures.others c.requires.short
    (parts_of c.flush.new.self) (c.if-cache-blocks_of.true ∙ c.blocks_of.ensures) c.in_ok-flush.ensures.order

pub returns-else-cache-blocks_of-clause-order : goal.returns-else-cache-blocks_of-clause-order
returns-else-cache-blocks_of-clause-order g c =
    let p = parts_of c.args.self.now in
    let is = read_cache p c.args.class.number c.index-cache.result.now c.args.class.is c.requires.running c.index-cache.ensures in
    frees_below p c.args.class.number c.args.class.is c.requires.running c.args.b c.requires.holds c.requires.size
    c.remove.new.self c.remove.ensures.held c.remove.ensures.words c.remove.ensures.start
    c.index-cache.result.now is (medium_view c.store.new.self) c.in_ok-store.ensures.ok c.store.ensures.others c.requires.short
    (λ e. c.if-cache-blocks_of.false (e ∙ sym c.blocks_of.ensures))
