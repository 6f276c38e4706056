use Rattle.std.proofs.Common.{◌≡◌, ℕ, ◌∙◌, inl, inr, subst}
use Rattle.std.proofs.lemmas.Result.{on_ok_weaker, IfErr-weaker}
use Rattle.block_heap.specs.MediumView.{medium_view}
use Rattle.block_heap.specs.Medium.{IsPersisted}
use Rattle.block_heap.specs.Divide.{IsDivideWord}
use Rattle.heap_shape.specs.Effects.{IsInSuperblock}
use Rattle.block_heap.proofs.MediumLemmas.{stores_then, stores_more}
use Rattle.block_heap.proofs.DivideLemmas.{divided, divide_stops_within}
use Rattle.block_heap.proofs.medium.Medium.divide.Given.{Over}
use Rattle.block_heap.proofs.medium.Medium.divide.Goals as goal

pub returns-in_err-chain-clause-others : goal.returns-in_err-chain-clause-others
returns-in_err-chain-clause-others g c =
    let v = medium_view c.args.self.now in
    let u = medium_view c.persist.new.self in
    let t = medium_view c.chain.new.self in
    let to = IsDivideWord c.args.geometry.capacity c.args.d in
    stores_then to v u t (stores_more (λ (word : ℕ). word ≡ c.info.result) to v u (λ word e. inr (inl (e ∙ c.info.ensures))) c.persist.ensures.others)
    (stores_more (IsInSuperblock c.args.geometry.capacity c.args.d) to u t (λ word h. inl h) c.chain.ensures.others)

-- the info is that of the class
persisted : (g : Over) (c : goal.After-store g) → IsPersisted c.info.result c.args.class.number (medium_view c.args.self.now)
    (medium_view c.persist.new.self)
persisted g c = subst (λ word. IsPersisted c.info.result word (medium_view c.args.self.now) (medium_view c.persist.new.self))
    c.pack.ensures c.in_ok-persist.ensures.ok

pub returns-clause-ok : goal.returns-clause-ok
returns-clause-ok g c =
    on_ok_weaker c.store.result
    (divided c.args.geometry.capacity c.args.class.number c.args.d (medium_view c.args.self.now) (medium_view c.persist.new.self)
    (medium_view c.chain.new.self) (medium_view c.store.new.self)
    c.info.result c.anchor.result c.pack-2.result c.args.class.is c.requires.superblock c.requires.open c.info.ensures c.anchor.ensures c.pack-2.ensures
    (persisted g c) c.persist.ensures.others c.in_ok-chain.ensures.ok c.store.ensures.others)
    c.store.ensures.ok

pub returns-clause-stopped : goal.returns-clause-stopped
returns-clause-stopped g c =
    IfErr-weaker c.store.result _ _
    (λ e. divide_stops_within c.args.geometry.capacity c.args.class.number c.args.d (medium_view c.args.self.now)
    (medium_view c.persist.new.self) (medium_view c.chain.new.self) (medium_view c.store.new.self)
    c.info.result c.anchor.result c.pack-2.result c.args.class.is c.requires.superblock c.requires.open c.info.ensures c.anchor.ensures c.pack-2.ensures
    (persisted g c) c.persist.ensures.others c.in_ok-chain.ensures.ok c.store.ensures.others e.step)
    c.store.ensures.stopped

pub returns-clause-others : goal.returns-clause-others
returns-clause-others g c =
    let v = medium_view c.args.self.now in
    let u = medium_view c.persist.new.self in
    let t = medium_view c.chain.new.self in
    let w = medium_view c.store.new.self in
    let to = IsDivideWord c.args.geometry.capacity c.args.d in
    stores_then to v u w (stores_more (λ (word : ℕ). word ≡ c.info.result) to v u (λ word e. inr (inl (e ∙ c.info.ensures))) c.persist.ensures.others)
    (stores_then to u t w (stores_more (IsInSuperblock c.args.geometry.capacity c.args.d) to u t (λ word h. inl h) c.chain.ensures.others)
    (stores_more (λ (word : ℕ). word ≡ c.anchor.result) to t w (λ word e. inr (inr (e ∙ c.anchor.ensures))) c.store.ensures.others))
