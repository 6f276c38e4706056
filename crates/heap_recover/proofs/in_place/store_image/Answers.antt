use Rattle.std.proofs.Common.{◌/◌, length, slice_index, refl}
use Rattle.std.proofs.lemmas.Result.{on_ok_weaker, IfErr-weaker}
use Rattle.line_memory.specs.declared.memory.Stopped.{Stopped}
use Rattle.line_memory.specs.Crash.{AddsNothing}
use Rattle.line_memory.specs.Steps.{RefusesBy}
use Rattle.line_memory.proofs.CallerLemmas.{at_both, fence_adds, refused_adds}
use Rattle.heap_recover.specs.InPlace.{IsStoppedAt, steps_between}
use Rattle.heap_recover.proofs.InPlaceLemmas.{adds_between, fence_cut, fence_stores, fence_drew, fence_within}
use Rattle.heap_recover.specs.InOrder.{steps_in, IsCutOffIn}
use Rattle.heap_recover.proofs.OrderLemmas.{fence_behind, fence_refused}
use Rattle.heap_recover.proofs.in_place.store_image.Goals as goal

pub returns-clause-ok : goal.returns-clause-ok
returns-clause-ok g c =
    let view = g.M.LineMemory.view in
    let u = view c.store_differences.new.memory in
    let w = view c.fence.new.self in
    on_ok_weaker c.fence.result (fence_stores c.args.old.now c.args.new.now (length c.args.old.now)
    (length c.args.old.now) u c.in_ok-store_differences.ensures.ok w
    refl refl c.requires.lengths (g.met.M.LineMemory.sound c.fence.new.self)) c.fence.ensures.ok

pub returns-clause-between : goal.returns-clause-between
returns-clause-between g c =
    let view = g.M.LineMemory.view in
    let u = view c.store_differences.new.memory in
    let w = view c.fence.new.self in
    let adds : AddsNothing u w = at_both c.fence.result (AddsNothing u w) (on_ok_weaker c.fence.result (fence_adds _ u w) c.fence.ensures.ok)
    (IfErr-weaker c.fence.result (λ (e : Stopped). RefusesBy (g.M.LineMemory.draws c.store_differences.new.memory c.fence.new.self) e.step u w)
    (λ _. AddsNothing u w) (λ e refuses. refused_adds _ e.step u w refuses) c.fence.ensures.stopped) in
    adds_between c.args.old.now c.args.new.now (length c.args.old.now) (length c.args.old.now) u c.in_ok-store_differences.ensures.ok w adds

pub returns-clause-drew : goal.returns-clause-drew
returns-clause-drew g c =
    let view = g.M.LineMemory.view in
    let u = view c.store_differences.new.memory in
    let w = view c.fence.new.self in
    on_ok_weaker c.fence.result (fence_drew (steps_between (slice_index c.args.old.now) (slice_index c.args.new.now) (length c.args.old.now))
    (view c.args.memory.now) u w
    c.in_ok-store_differences.ensures.drawn) c.fence.ensures.ok

pub returns-clause-within : goal.returns-clause-within
returns-clause-within g c =
    let view = g.M.LineMemory.view in
    let u = view c.store_differences.new.memory in
    let w = view c.fence.new.self in
    on_ok_weaker c.fence.result (fence_within (view c.args.memory.now) u w c.store_differences.ensures.budget) c.fence.ensures.ok

pub returns-clause-stopped : goal.returns-clause-stopped
returns-clause-stopped g c =
    let view = g.M.LineMemory.view in
    let v = view c.args.memory.now in
    let u = view c.store_differences.new.memory in
    let w = view c.fence.new.self in
    let steps = steps_between (slice_index c.args.old.now) (slice_index c.args.new.now) (length c.args.old.now) in
    IfErr-weaker c.fence.result (λ (e : Stopped). RefusesBy (g.M.LineMemory.draws c.store_differences.new.memory c.fence.new.self) e.step u w)
    (λ (e : Stopped). IsStoppedAt c.args.old.now c.args.new.now steps e.step v w)
    (λ e refuses. fence_cut c.args.old.now c.args.new.now e.step v u w c.in_ok-store_differences.ensures.ok refuses
    c.store_differences.ensures.budget c.in_ok-store_differences.ensures.going
    (g.met.M.LineMemory.sound c.store_differences.new.memory) (g.met.M.LineMemory.sound c.fence.new.self)
    c.in_ok-store_differences.ensures.drawn) c.fence.ensures.stopped

pub returns-clause-steps : goal.returns-clause-steps
returns-clause-steps g c =
    let view = g.M.LineMemory.view in
    let numbers = g.M.LineMemory.draws in
    let steps = steps_in (slice_index c.args.old.now) (slice_index c.args.new.now) (length c.args.old.now / 8) in
    on_ok_weaker c.fence.result (fence_behind view numbers steps c.args.memory.now c.store_differences.new.memory c.fence.new.self
    c.in_ok-store_differences.ensures.steps)
    c.fence.ensures.ok

pub returns-clause-first_steps : goal.returns-clause-first_steps
returns-clause-first_steps g c =
    let view = g.M.LineMemory.view in
    let numbers = g.M.LineMemory.draws in
    let u = c.store_differences.new.memory in
    let w = c.fence.new.self in
    let steps = steps_in (slice_index c.args.old.now) (slice_index c.args.new.now) (length c.args.old.now / 8) in
    IfErr-weaker c.fence.result (λ (e : Stopped). RefusesBy (numbers u w) e.step (view u) (view w))
    (λ (e : Stopped). IsCutOffIn view numbers steps e.step c.args.memory.now w)
    (λ e refuses. fence_refused view numbers steps e.step c.args.memory.now u w c.in_ok-store_differences.ensures.steps refuses) c.fence.ensures.stopped
