use Rattle.std.proofs.Common.{◌≡◌, ◌∙◌, List, subst, sym}
use Rattle.heap_model.specs.declared.block.Block.{Block}
use Rattle.thread_cache_tests.specs.Holding.{HaveBlocks}
use Rattle.thread_cache_tests.proofs.pairs.play_over.Goals as goal

pub play_with-requires-clause-blocks : goal.play_with-requires-clause-blocks
play_with-requires-clause-blocks c =
    let same : c.in_ok-heap.heap.held ≡ c.deref.result.now = sym (c.deref.ensures.value ∙ c.in_ok-held.ensures.items ∙ c.held.ensures.held) in
    subst (λ (held : List Block). HaveBlocks 2 held c.in_ok-shared.seats.items) same c.in_ok-shared.ensures.blocks
