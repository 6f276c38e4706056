use Rattle.std.proofs.Common.{◌≡◌, ◌/◌, Contains, ap, ◌∙◌, subst, sym, arith}
use Rattle.heap_model.specs.declared.block.Block.{Block}
use Rattle.block_heap.specs.Held.{held_of, HasMark, at_mark}
use Rattle.block_heap.specs.Parts.{held_in}
use Rattle.block_heap.specs.SeqState.{SeqState}
use Rattle.block_heap.proofs.BlockMarkLemmas.{begins_mark, begins_block}
use Rattle.block_heap.proofs.seq_seat.SeqHeapHeapSeat.block.Goals as goal

pub at-requires : goal.at-requires
at-requires g c =
    let b : Block = c.requires.0 in
    let holds : Contains (held_of c.self.inside.arena.held) b = subst (λ (s : SeqState). Contains (held_in s.parts) b)
    (sym c.self.view_is) c.requires.1 in
    let at : b.first_word ≡ c.args.offset / 8 = omega (arith, c.requires.2) in
    subst (HasMark c.self.inside.arena.held) at (begins_mark c.self.inside.arena.held b holds)

pub returns-clause-held : goal.returns-clause-held
returns-clause-held g c =
    let b : Block = c.requires.0 in
    let holds : Contains (held_of c.self.inside.arena.held) b = subst (λ (s : SeqState). Contains (held_in s.parts) b)
    (sym c.self.view_is) c.requires.1 in
    let at : b.first_word ≡ c.args.offset / 8 = omega (arith, c.requires.2) in
    let same : c.at.result ≡ b = c.at.ensures ∙ ap (at_mark c.self.inside.arena.held) (sym at) ∙ begins_block c.self.inside.arena.held b holds in
    subst (Contains (held_in c.args.self.now.parts)) (sym same) c.requires.1
