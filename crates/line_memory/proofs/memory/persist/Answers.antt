use Rattle.std.proofs.lemmas.Result.{on_ok_weaker, IfErr-weaker}
use Rattle.line_memory.specs.Crash.{AddsNothing}
use Rattle.line_memory.proofs.CallerLemmas.{adds_may_store, may_store_then, store_may_store, adds_then, write_back_adds, fence_adds, refused_adds, at_both}
use Rattle.line_memory.proofs.memory.persist.Goals as goal

pub returns-in_err-store-clause-crash : goal.returns-in_err-store-clause-crash
returns-in_err-store-clause-crash g c =
    let view = g.M.LineMemory.view in
    adds_may_store c.args.word c.args.value _ (view c.store.new.self)
    (refused_adds _ _ (view c.args.memory.now) (view c.store.new.self) c.in_err-store.ensures.stopped)

pub returns-in_err-write_back-clause-crash : goal.returns-in_err-write_back-clause-crash
returns-in_err-write_back-clause-crash g c =
    let view = g.M.LineMemory.view in
    may_store_then c.args.word c.args.value _ (view c.store.new.self) (view c.write_back.new.self)
    (store_may_store _ c.args.word c.args.value (view c.args.memory.now) (view c.store.new.self) c.requires c.in_ok-store.ensures.ok)
    (refused_adds _ _ (view c.store.new.self) (view c.write_back.new.self) c.in_err-write_back.ensures.stopped)

pub returns-clause-crash : goal.returns-clause-crash
returns-clause-crash g c =
    let view = g.M.LineMemory.view in
    let v = view c.store.new.self in
    let u = view c.write_back.new.self in
    let w = view c.fence.new.self in
    let fenced =
    at_both c.fence.result (AddsNothing u w) (on_ok_weaker c.fence.result (fence_adds _ u w) c.fence.ensures.ok)
    (IfErr-weaker c.fence.result _ _ (λ e. refused_adds _ e.step u w) c.fence.ensures.stopped)
    in
    may_store_then c.args.word c.args.value (view c.args.memory.now) v w
    (store_may_store _ c.args.word c.args.value (view c.args.memory.now) v c.requires c.in_ok-store.ensures.ok)
    (adds_then v u w (write_back_adds _ _ v u c.in_ok-write_back.ensures.ok) fenced)
