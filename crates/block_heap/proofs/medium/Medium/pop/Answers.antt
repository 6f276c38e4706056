use Rattle.std.proofs.Common.{◌≡◌, ℕ, arith}
use Rattle.heap_model.specs.Geometry.{head_word}
use Rattle.block_heap.specs.MediumView.{medium_view}
use Rattle.block_heap.proofs.MediumLemmas.{stores_then, stores_none}
use Rattle.block_heap.proofs.medium.Medium.pop.Goals as goal

pub returns-in_err-link-clause-others : goal.returns-in_err-link-clause-others
returns-in_err-link-clause-others g c =
    let v = medium_view c.args.self.now in
    let u = medium_view c.load.new.self in
    let t = medium_view c.load-2.new.self in
    stores_none (λ (word : ℕ). word ≡ head_word c.args.list) v t (stores_then (λ _. ⊥) v u t c.load.ensures.unchanged c.load-2.ensures.unchanged)

pub returns-in_err-store-clause-others : goal.returns-in_err-store-clause-others
returns-in_err-store-clause-others g c =
    let v = medium_view c.args.self.now in
    let u = medium_view c.load.new.self in
    let t = medium_view c.load-2.new.self in
    let w = medium_view c.store.new.self in
    let to = λ (word : ℕ). word ≡ head_word c.args.list in
    stores_then to v t w (stores_none to v t (stores_then (λ _. ⊥) v u t c.load.ensures.unchanged c.load-2.ensures.unchanged)) c.store.ensures.others

pub returns-clause-others : goal.returns-clause-others
returns-clause-others g c =
    let v = medium_view c.args.self.now in
    let u = medium_view c.load.new.self in
    let t = medium_view c.load-2.new.self in
    let w = medium_view c.store.new.self in
    let to = λ (word : ℕ). word ≡ head_word c.args.list in
    stores_then to v t w (stores_none to v t (stores_then (λ _. ⊥) v u t c.load.ensures.unchanged c.load-2.ensures.unchanged)) c.store.ensures.others

pub returns-in_default-clause-one_look : goal.returns-in_default-clause-one_look
returns-in_default-clause-one_look g c = λ none.
    let drew = c.in_ok-word.ensures.ok.runs_within.drew in
    let few = c.in_ok-word.ensures.ok.runs_within.few in
    (c.load.ensures.unchanged, omega arith)
