use Rattle.std.proofs.Common.{sym, slice_index, ◌∙◌}
use Rattle.heap_model.specs.declared.block.Block.{Block}
use Rattle.heap_model.specs.Blocks.{layout_of}
use Rattle.heap_model.specs.Reach.{IsReachedIn}
use Rattle.heap_model.specs.Recovered.{IsFreeSuperblock}
use Rattle.heap_at_rest.specs.Orderly.{IsHeldByAnchors}
use Rattle.heap_recover.proofs.AscendingLemmas.{ascending_one}
use Rattle.quick_recover.proofs.laws.what_is_orderly_and_reached_opens_alike.Goals as goal

pub returns : goal.returns
returns c = λ limit words links quick traced orderly same reopened made.
    let image = slice_index words in
    let l = layout_of image in (
      ascending_one (λ (b : Block). b.first_word) (IsHeldByAnchors image) (IsReachedIn image links) quick.heap.held traced.heap.held
          (λ b. (same b).0) (λ b. (same b).1) reopened.held made.held,
      ascending_one (λ d. d) (IsFreeSuperblock l (IsHeldByAnchors image))
          (IsFreeSuperblock l (IsReachedIn image links)) quick.free.items traced.free.items
          (λ d free. record { taken = free.taken; empty = λ b is part. free.empty b ((same b).1 is) part })
          (λ d free. record { taken = free.taken; empty = λ b is part. free.empty b ((same b).0 is) part })
          reopened.free made.free,
      reopened.was ∙ sym (made.was.1 orderly.closed),
    )
