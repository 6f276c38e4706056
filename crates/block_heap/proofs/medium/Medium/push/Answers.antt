use Rattle.std.proofs.Common.{◌≡◌, ℕ, ◌∙◌, inl, inr}
use Rattle.heap_model.specs.Geometry.{head_word}
use Rattle.block_heap.specs.MediumView.{medium_view}
use Rattle.block_heap.specs.Links.{IsPushWord}
use Rattle.block_heap.proofs.MediumLemmas.{stores_then, stores_none, stores_more}
use Rattle.block_heap.proofs.medium.Medium.push.Goals as goal

pub returns-clause-others : goal.returns-clause-others
returns-clause-others g c =
    let v = medium_view c.args.self.now in
    let u = medium_view c.load.new.self in
    let t = medium_view c.store.new.self in
    let w = medium_view c.store-2.new.self in
    let to = IsPushWord c.args.list c.args.d in
    stores_then to v u w (stores_none to v u c.load.ensures.unchanged)
    (stores_then to u t w (stores_more (λ (word : ℕ). word ≡ c.link.result) to u t (λ word e. inr (e ∙ c.link.ensures)) c.store.ensures.others)
    (stores_more (λ (word : ℕ). word ≡ head_word c.args.list) to t w (λ word e. inl e) c.store-2.ensures.others))

pub returns-in_err-store-clause-others : goal.returns-in_err-store-clause-others
returns-in_err-store-clause-others g c =
    let v = medium_view c.args.self.now in
    let u = medium_view c.load.new.self in
    let w = medium_view c.store.new.self in
    let to = IsPushWord c.args.list c.args.d in
    stores_then to v u w (stores_none to v u c.load.ensures.unchanged)
    (stores_more (λ (word : ℕ). word ≡ c.link.result) to u w (λ word e. inr (e ∙ c.link.ensures)) c.store.ensures.others)
