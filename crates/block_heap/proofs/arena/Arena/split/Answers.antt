use Rattle.block_heap.specs.Parts.{parts_of}
use Rattle.block_heap.specs.MediumView.{medium_view}
use Rattle.std.proofs.lemmas.Result.{on_ok_weaker}
use Rattle.block_heap.proofs.FreeLargePartLemmas.{anchor_leaves_held, split_leaves_held, split_running, split_others, split_gives, split_frees}
use Rattle.block_heap.proofs.arena.Arena.split.Goals as goal

pub returns-in_err-store-clause-leaves_held : goal.returns-in_err-store-clause-leaves_held
returns-in_err-store-clause-leaves_held g c =
    anchor_leaves_held (parts_of c.args.self.now) c.args.d c.anchor.result (medium_view c.store.new.self) (medium_view c.store.new.self)
    c.requires.running c.requires.dropped c.anchor.ensures c.store.ensures.others

pub returns-clause-leaves_held : goal.returns-clause-leaves_held
returns-clause-leaves_held g c =
    split_leaves_held (parts_of c.args.self.now) c.args.d c.anchor.result (medium_view c.store.new.self) (medium_view c.push.new.self)
    c.requires.running c.requires.dropped c.anchor.ensures c.store.ensures.others c.push.ensures.others

pub returns-clause-running : goal.returns-clause-running
returns-clause-running g c =
    on_ok_weaker c.push.result
    (split_running (parts_of c.args.self.now) c.args.d c.anchor.result (medium_view c.store.new.self) (medium_view c.push.new.self)
    c.requires.running c.requires.dropped c.anchor.ensures c.store.ensures.others c.push.ensures.others c.in_ok-store.ensures.ok)
    c.push.ensures.ok

pub returns-clause-others : goal.returns-clause-others
returns-clause-others g c =
    on_ok_weaker c.push.result
    (split_others (parts_of c.args.self.now) c.args.d c.anchor.result (medium_view c.store.new.self) (medium_view c.push.new.self)
    c.requires.running c.requires.dropped c.anchor.ensures c.store.ensures.others c.push.ensures.others c.in_ok-store.ensures.ok)
    c.push.ensures.ok

pub returns-clause-gives : goal.returns-clause-gives
returns-clause-gives g c =
    on_ok_weaker c.push.result
    (split_gives (parts_of c.args.self.now) c.args.d c.anchor.result (medium_view c.store.new.self) (medium_view c.push.new.self)
    c.requires.running c.requires.dropped c.anchor.ensures c.store.ensures.others c.push.ensures.others c.in_ok-store.ensures.ok)
    c.push.ensures.ok

pub returns-clause-order : goal.returns-clause-order
returns-clause-order g c =
    on_ok_weaker c.push.result
    (split_frees (parts_of c.args.self.now) c.args.d c.anchor.result (medium_view c.store.new.self) (medium_view c.push.new.self)
    c.requires.running c.requires.dropped c.anchor.ensures c.store.ensures.others c.push.ensures.others c.in_ok-store.ensures.ok)
    c.push.ensures.ok
