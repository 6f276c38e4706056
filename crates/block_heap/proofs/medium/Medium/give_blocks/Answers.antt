use Rattle.std.proofs.Common.{◌≡◌, ℕ, ◌∙◌, arith, inl, inr}
use Rattle.heap_model.proofs.SizeLemmas.{few_blocks}
use Rattle.block_heap.specs.MediumView.{medium_view}
use Rattle.block_heap.specs.Batches.{IsGiveWord}
use Rattle.block_heap.proofs.MediumLemmas.{stores_then, stores_none, stores_more}
use Rattle.block_heap.proofs.medium.Medium.give_blocks.Goals as goal

pub given_word-given-requires-clause-max : goal.given_word-given-requires-clause-max
given_word-given-requires-clause-max g c =
    let few = few_blocks c.args.class.number c.args.class.is in
    let is = c.blocks_of.ensures in
    omega arith

pub returns-in_err-store-clause-others : goal.returns-in_err-store-clause-others
returns-in_err-store-clause-others g c =
    let v = medium_view c.args.self.now in
    let u = medium_view c.anchor.new.self in
    let t = medium_view c.link_last.new.self in
    let w = medium_view c.store.new.self in
    let to = IsGiveWord c.args.d c.args.batch in
    stores_then to v u w (stores_none to v u c.anchor.ensures.unchanged)
    (stores_then to u t w (stores_more (λ (word : ℕ). word ≡ c.args.batch.last) to u t (λ word e. inr e) c.link_last.ensures.others)
    (stores_more (λ (word : ℕ). word ≡ c.anchor-2.result) to t w (λ word e. inl (e ∙ c.anchor-2.ensures)) c.store.ensures.others))

pub returns-clause-others : goal.returns-clause-others
returns-clause-others g c =
    let v = medium_view c.args.self.now in
    let u = medium_view c.anchor.new.self in
    let t = medium_view c.link_last.new.self in
    let w = medium_view c.store.new.self in
    let to = IsGiveWord c.args.d c.args.batch in
    stores_then to v u w (stores_none to v u c.anchor.ensures.unchanged)
    (stores_then to u t w (stores_more (λ (word : ℕ). word ≡ c.args.batch.last) to u t (λ word e. inr e) c.link_last.ensures.others)
    (stores_more (λ (word : ℕ). word ≡ c.anchor-2.result) to t w (λ word e. inl (e ∙ c.anchor-2.ensures)) c.store.ensures.others))
