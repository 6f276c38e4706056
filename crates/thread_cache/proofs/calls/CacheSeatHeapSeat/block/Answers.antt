use Rattle.std.proofs.Common.{subst, sym}
use Rattle.std.specs.Prelude.{Contains}
use Rattle.heap_model.specs.declared.block.Block.{Block}
use Rattle.seat_model.specs.CacheState.{CacheState, held_blocks}
use Rattle.seat_model.proofs.HeldLemmas.{held_is}
use Rattle.seat_model.proofs.ListedBlocks.{listed}
use Rattle.thread_cache.proofs.CallLemmas.{state_is}
use Rattle.thread_cache.proofs.calls.CacheSeatHeapSeat.block.Goals as goal

pub block-requires-clause-held : goal.block-requires-clause-held
block-requires-clause-held g c =
    let b : Block = c.requires.0 in (
      b,
      held_is c.self.inside.seat.view c.recall_soundness.ensures b
          (subst (λ (s : CacheState). Contains (held_blocks s.view) b) (sym (state_is c.self.view_is)) c.requires.1),
      sym c.requires.2,
    )

pub returns-clause-held : goal.returns-clause-held
returns-clause-held g c =
    subst (λ (s : CacheState). Contains (held_blocks s.view) c.block.result) (state_is c.self.view_is)
    (listed c.self.inside.seat.view c.block.result c.block.ensures.held)
