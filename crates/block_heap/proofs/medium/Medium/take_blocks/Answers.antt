use Rattle.std.proofs.Common.{◌≡◌, ℕ, ◌∙◌}
use Rattle.heap_model.specs.Geometry.{anchor_word}
use Rattle.block_heap.specs.MediumView.{medium_view}
use Rattle.block_heap.proofs.MediumLemmas.{stores_then, stores_none, stores_more}
use Rattle.block_heap.proofs.medium.Medium.take_blocks.Goals as goal

pub returns-in_err-store-in-Partial-clause-others : goal.returns-in_err-store-in-Partial-clause-others
returns-in_err-store-in-Partial-clause-others g c =
    let v = medium_view c.args.self.now in
    let u = medium_view c.anchor.new.self in
    let w = medium_view c.store.new.self in
    let to = λ (word : ℕ). word ≡ anchor_word c.args.d in
    stores_then to v u w (stores_none to v u c.anchor.ensures.unchanged)
    (stores_more (λ (word : ℕ). word ≡ c.anchor-in-Partial.result) to u w (λ word e. e ∙ c.anchor-in-Partial.ensures) c.store.ensures.others)
