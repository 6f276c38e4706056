use Rattle.std.proofs.Common.{◌≡◌, ap, arith}
use Rattle.std.proofs.lemmas.Result.{err_from_is_err_and}
use Rattle.block_heap.specs.MediumView.{medium_view}
use Rattle.block_heap.specs.declared.cache.Cache.{Cache}
use Rattle.block_heap.specs.Parts.{parts_of, cache_at}
use Rattle.block_heap.proofs.SmallLemmas.{read_cache}
use Rattle.block_heap.proofs.FlushedLemmas.{flushed_leaves_held, flushed_more, prefix_stops_within, give_stops_within, give_leaves_held}
use Rattle.block_heap.proofs.ReturnedLemmas.{flushes_all}
use Rattle.block_heap.proofs.arena.Arena.flush.Goals as goal

pub returns-in_err-prefix-clause-stopped : goal.returns-in_err-prefix-clause-stopped
returns-in_err-prefix-clause-stopped g c =
    let stops_within = prefix_stops_within c.args.class.number (parts_of c.args.self.now) (parts_of c.loop-class.self)
    (medium_view c.longest_prefix.new.self.medium) c.in_err-prefix.field-0.0.step c.loop-class.invariant c.args.class.is c.requires
    c.in_err-prefix.ensures.stopped in
    let p = err_from_is_err_and c.from_residual.result c.from_residual.ensures.1 in
    rw (p.1, p.2) stops_within

pub returns-in_err-prefix-clause-leaves_held : goal.returns-in_err-prefix-clause-leaves_held
returns-in_err-prefix-clause-leaves_held g c = flushed_leaves_held c.args.class.number (parts_of c.args.self.now) (parts_of c.loop-class.self)
    (parts_of c.longest_prefix.new.self) c.loop-class.invariant c.longest_prefix.ensures.leaves_held

pub loop-class-preserved : goal.loop-class-preserved
loop-class-preserved g c =
    flushed_more c.args.class.number (parts_of c.args.self.now) (parts_of c.loop-class.self)
    (parts_of c.longest_prefix.new.self) c.in_ok-prefix.prefix c.loop-class.invariant
    c.in_ok-prefix.ensures.ok c.in_ok-prefix.ensures.running c.in_ok-prefix.ensures.keeps c.longest_prefix.ensures.caches
    c.in_ok-prefix.ensures.runs_within c.longest_prefix.ensures.held
    c.longest_prefix.ensures.leaves_held c.longest_prefix.ensures.taken
    (parts_of c.give.new.self) c.in_ok-give.ensures.running c.in_ok-give.ensures.gives c.in_ok-give.ensures.runs_within c.give.ensures.held
    c.give.ensures.leaves_held
    c.give.ensures.taken c.args.class.is c.requires c.in_ok-prefix.ensures.words c.in_ok-prefix.ensures.longest c.in_ok-give.ensures.order
    c.in_ok-give.ensures.in_front

pub returns-in_err-give-clause-stopped : goal.returns-in_err-give-clause-stopped
returns-in_err-give-clause-stopped g c =
    let stops_within = give_stops_within c.args.class.number (parts_of c.args.self.now) (parts_of c.loop-class.self)
    (parts_of c.longest_prefix.new.self) c.in_ok-prefix.prefix c.loop-class.invariant
    c.in_ok-prefix.ensures.ok c.in_ok-prefix.ensures.running c.in_ok-prefix.ensures.keeps c.longest_prefix.ensures.caches
    c.in_ok-prefix.ensures.runs_within
    c.longest_prefix.ensures.held c.longest_prefix.ensures.leaves_held c.longest_prefix.ensures.taken
    (medium_view c.give.new.self.medium) c.in_err-give.field-0.0.step c.args.class.is c.requires c.in_err-give.ensures.stopped in
    let p = err_from_is_err_and c.from_residual-in_err-give.result c.from_residual-in_err-give.ensures.1 in
    rw (p.1, p.2) stops_within

pub returns-in_err-give-clause-leaves_held : goal.returns-in_err-give-clause-leaves_held
returns-in_err-give-clause-leaves_held g c =
    give_leaves_held c.args.class.number (parts_of c.args.self.now) (parts_of c.loop-class.self)
    (parts_of c.longest_prefix.new.self) c.in_ok-prefix.prefix c.loop-class.invariant
    c.in_ok-prefix.ensures.ok c.in_ok-prefix.ensures.running c.in_ok-prefix.ensures.keeps c.longest_prefix.ensures.caches
    c.in_ok-prefix.ensures.runs_within c.longest_prefix.ensures.held
    c.longest_prefix.ensures.leaves_held c.longest_prefix.ensures.taken
    (parts_of c.give.new.self) c.give.ensures.leaves_held

pub returns-clause-order : goal.returns-clause-order
returns-clause-order g c =
    let q = parts_of c.loop-class.self in
    let read = read_cache q c.args.class.number c.index.result.now c.args.class.is c.loop-class.invariant.running c.index.ensures in
    let count : c.index.result.now.count ≡ (cache_at q.caches c.args.class.number).count = ap (λ (x : Cache). x.count) read in
    let past = c.loop-class-test.false in
    flushes_all c.args.class.number (parts_of c.args.self.now) q c.args.class.is c.requires c.loop-class.invariant.running
    c.loop-class.invariant.held c.loop-class.invariant.order c.loop-class.invariant.keeps (omega arith)
