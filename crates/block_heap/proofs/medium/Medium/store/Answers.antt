use Rattle.line_memory.specs.Plain.{view_of}
use Rattle.line_memory.proofs.CallerLemmas.{store_may_store}
use Rattle.block_heap.proofs.MediumLemmas.{store_is, refused_stores, none_may, at_err}
use Rattle.block_heap.proofs.medium.Medium.store.Goals as goal

pub returns-clause-others : goal.returns-clause-others
returns-clause-others g c = (store_is _ c.args.word c.args.value (view_of c.args.self.now.memory) (view_of c.store.new.self) c.in_ok-store.ensures.ok).1

pub returns-clause-crash : goal.returns-clause-crash
returns-clause-crash g c = store_may_store _ c.args.word c.args.value (view_of c.args.self.now.memory)
    (view_of c.store.new.self) c.requires.within c.in_ok-store.ensures.ok

pub returns-in_err-store-clause-crash : goal.returns-in_err-store-clause-crash
returns-in_err-store-clause-crash g c =
    none_may c.args.word c.args.value (view_of c.args.self.now.memory) (view_of c.store.new.self)
    (refused_stores _ _ (view_of c.args.self.now.memory) (view_of c.store.new.self) c.in_err-store.ensures.stopped)

pub returns-clause-ok : goal.returns-clause-ok
returns-clause-ok g c = (store_is _ c.args.word c.args.value (view_of c.args.self.now.memory) (view_of c.store.new.self) c.in_ok-store.ensures.ok).0

pub returns-in_err-store-clause-refused : goal.returns-in_err-store-clause-refused
returns-in_err-store-clause-refused g c =
    at_err c.from_residual.result _ (refused_stores _ _ (view_of c.args.self.now.memory) (view_of c.store.new.self) c.in_err-store.ensures.stopped)
