use Rattle.std.proofs.Common.{◌≤◌, sym, subst, arith}
use Rattle.std.proofs.lemmas.Result.{err_from_is_err_and}
use Rattle.block_heap.specs.Parts.{parts_of}
use Rattle.block_heap.specs.Steps.{used_up}
use Rattle.block_heap.proofs.PartialLemmas.{walk_begins, walk_leaves_held, walk_stops_within, walk_runs_within, walk_refilling, walk_more, walk_left, walk_takes, walk_nothing, walk_finds}
use Rattle.block_heap.proofs.arena.Arena.take_partial.Goals as goal

pub loop-init : goal.loop-init
loop-init g c =
    walk_begins c.args.class.number (parts_of c.args.self.now) c.args.class.is c.requires.running c.requires.empty

pub returns-in_err-take_first-clause-stopped : goal.returns-in_err-take_first-clause-stopped
returns-in_err-take_first-clause-stopped g c =
    let told = err_from_is_err_and c.from_residual.result c.from_residual.ensures.1 in
    rw (told.1, told.2)
    (walk_stops_within c.args.class.number (parts_of c.args.self.now) (parts_of c.loop.self)
    (parts_of c.take_first.new.self) c.args.class.is c.loop.invariant
    c.take_first.ensures.leaves_held c.take_first.ensures.held c.take_first.ensures.taken
    c.in_err-take_first.field-0.0.step c.in_err-take_first.ensures.stopped)

pub returns-in_err-take_first-clause-leaves_held : goal.returns-in_err-take_first-clause-leaves_held
returns-in_err-take_first-clause-leaves_held g c =
    walk_leaves_held c.args.class.number (parts_of c.args.self.now) (parts_of c.loop.self)
    (parts_of c.take_first.new.self) c.args.class.is c.loop.invariant
    c.take_first.ensures.leaves_held c.take_first.ensures.held c.take_first.ensures.taken

pub returns-in-Blocks-clause-refilling : goal.returns-in-Blocks-clause-refilling
returns-in-Blocks-clause-refilling g c =
    walk_refilling c.args.class.number (parts_of c.args.self.now) (parts_of c.loop.self)
    (parts_of c.take_first.new.self) c.args.class.is c.loop.invariant
    c.take_first.ensures.leaves_held c.take_first.ensures.held c.take_first.ensures.taken c.in_ok-take_first.ensures.refilling
    c.in_ok-take_first.ensures.runs_within

pub returns-in-Blocks-clause-runs_within : goal.returns-in-Blocks-clause-runs_within
returns-in-Blocks-clause-runs_within g c =
    walk_runs_within c.args.class.number (parts_of c.args.self.now) (parts_of c.loop.self)
    (parts_of c.take_first.new.self) c.args.class.is c.loop.invariant
    c.take_first.ensures.leaves_held c.take_first.ensures.held c.take_first.ensures.taken c.in_ok-take_first.ensures.refilling
    c.in_ok-take_first.ensures.runs_within

pub returns-in-Blocks-clause-leaves_held : goal.returns-in-Blocks-clause-leaves_held
returns-in-Blocks-clause-leaves_held g c =
    walk_leaves_held c.args.class.number (parts_of c.args.self.now) (parts_of c.loop.self)
    (parts_of c.take_first.new.self) c.args.class.is c.loop.invariant
    c.take_first.ensures.leaves_held c.take_first.ensures.held c.take_first.ensures.taken

pub loop-preserved : goal.loop-preserved
loop-preserved g c =
    walk_more c.args.class.number (parts_of c.args.self.now) (parts_of c.loop.self) (parts_of c.take_first.new.self) c.args.class.is c.loop.invariant
    c.take_first.ensures.leaves_held c.take_first.ensures.held c.take_first.ensures.taken c.in_ok-take_first.ensures.refilling
    c.in_ok-take_first.ensures.runs_within
    c.in_ok-take_first.field-0 c.in-Recycled.is c.in_ok-take_first.ensures.ok c.in_ok-take_first.ensures.order c.in_ok-take_first.ensures.left

pub returns-in-Nothing-clause-refilling : goal.returns-in-Nothing-clause-refilling
returns-in-Nothing-clause-refilling g c =
    walk_refilling c.args.class.number (parts_of c.args.self.now) (parts_of c.loop.self)
    (parts_of c.take_first.new.self) c.args.class.is c.loop.invariant
    c.take_first.ensures.leaves_held c.take_first.ensures.held c.take_first.ensures.taken c.in_ok-take_first.ensures.refilling
    c.in_ok-take_first.ensures.runs_within

pub returns-in-Nothing-clause-runs_within : goal.returns-in-Nothing-clause-runs_within
returns-in-Nothing-clause-runs_within g c =
    walk_runs_within c.args.class.number (parts_of c.args.self.now) (parts_of c.loop.self)
    (parts_of c.take_first.new.self) c.args.class.is c.loop.invariant
    c.take_first.ensures.leaves_held c.take_first.ensures.held c.take_first.ensures.taken c.in_ok-take_first.ensures.refilling
    c.in_ok-take_first.ensures.runs_within

pub returns-in-Nothing-clause-leaves_held : goal.returns-in-Nothing-clause-leaves_held
returns-in-Nothing-clause-leaves_held g c =
    walk_leaves_held c.args.class.number (parts_of c.args.self.now) (parts_of c.loop.self)
    (parts_of c.take_first.new.self) c.args.class.is c.loop.invariant
    c.take_first.ensures.leaves_held c.take_first.ensures.held c.take_first.ensures.taken

pub returns-in-Blocks-clause-left : goal.returns-in-Blocks-clause-left
returns-in-Blocks-clause-left g c =
    walk_left c.args.class.number (parts_of c.args.self.now) (parts_of c.loop.self) (parts_of c.take_first.new.self) c.args.class.is c.loop.invariant
    c.take_first.ensures.leaves_held c.take_first.ensures.held c.take_first.ensures.taken 1 c.in_ok-take_first.field-0 c.in_ok-take_first.ensures.left
    (subst (λ found. 1 ≤ used_up found) (sym c.in-Blocks.is) (omega arith))

pub returns-in-Nothing-clause-left : goal.returns-in-Nothing-clause-left
returns-in-Nothing-clause-left g c =
    walk_left c.args.class.number (parts_of c.args.self.now) (parts_of c.loop.self) (parts_of c.take_first.new.self) c.args.class.is c.loop.invariant
    c.take_first.ensures.leaves_held c.take_first.ensures.held c.take_first.ensures.taken 0 c.in_ok-take_first.field-0 c.in_ok-take_first.ensures.left
    (subst (λ found. 0 ≤ used_up found) (sym c.in-Nothing.is) (omega arith))

pub returns-in-Blocks-clause-order : goal.returns-in-Blocks-clause-order
returns-in-Blocks-clause-order g c =
    walk_takes c.args.class.number (parts_of c.args.self.now) (parts_of c.loop.self) (parts_of c.take_first.new.self) c.args.class.is c.loop.invariant
    c.take_first.ensures.leaves_held c.take_first.ensures.held c.take_first.ensures.taken c.in_ok-take_first.field-0 c.in-Blocks.is
    c.in_ok-take_first.ensures.order

pub returns-in-Nothing-clause-order : goal.returns-in-Nothing-clause-order
returns-in-Nothing-clause-order g c =
    walk_nothing c.args.class.number (parts_of c.args.self.now) (parts_of c.loop.self) (parts_of c.take_first.new.self) c.args.class.is c.loop.invariant
    c.take_first.ensures.leaves_held c.take_first.ensures.held c.take_first.ensures.taken c.in_ok-take_first.field-0 c.in-Nothing.is
    c.in_ok-take_first.ensures.ok

pub returns-in-Nothing-clause-ok : goal.returns-in-Nothing-clause-ok
returns-in-Nothing-clause-ok g c =
    walk_finds c.args.class.number (parts_of c.args.self.now) (parts_of c.loop.self) (parts_of c.take_first.new.self) c.args.class.is c.loop.invariant
    c.take_first.ensures.leaves_held c.take_first.ensures.held c.take_first.ensures.taken c.in_ok-take_first.field-0 c.in-Nothing.is
    c.in_ok-take_first.ensures.ok
