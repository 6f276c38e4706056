use Rattle.std.proofs.Common.{◌≡◌, ℕ}
use Rattle.block_heap.specs.MediumView.{medium_view}
use Rattle.block_heap.proofs.MediumLemmas.{stores_then, stores_none, may_then}
use Rattle.block_heap.proofs.medium.Medium.persist.Goals as goal

pub returns-clause-others : goal.returns-clause-others
returns-clause-others g c =
    let v = medium_view c.args.self.now in
    let u = medium_view c.store.new.self in
    let t = medium_view c.write_back.new.self in
    let w = medium_view c.fence.new.self in
    let to = λ (other : ℕ). other ≡ c.args.word in
    stores_then to v u w c.store.ensures.others
    (stores_then to u t w (stores_none to u t c.write_back.ensures.unchanged) (stores_none to t w c.fence.ensures.unchanged))

pub returns-in_err-write_back-clause-crash : goal.returns-in_err-write_back-clause-crash
returns-in_err-write_back-clause-crash g c =
    may_then c.args.word c.args.value (medium_view c.args.self.now) (medium_view c.store.new.self)
    (medium_view c.write_back.new.self) c.store.ensures.crash c.write_back.ensures.unchanged

pub returns-clause-crash : goal.returns-clause-crash
returns-clause-crash g c =
    let v = medium_view c.args.self.now in
    let u = medium_view c.store.new.self in
    let t = medium_view c.write_back.new.self in
    may_then c.args.word c.args.value v t (medium_view c.fence.new.self)
    (may_then c.args.word c.args.value v u t c.store.ensures.crash c.write_back.ensures.unchanged) c.fence.ensures.unchanged
