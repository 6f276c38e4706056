use Rattle.heap_model.specs.declared.block.Block.{Block}
use Rattle.heap_model.specs.Blocks.{layout_of}
use Rattle.heap_model.specs.Reach.{IsReachedIn}
use Rattle.heap_model.specs.Recovered.{IsFreeSuperblock}
use Rattle.heap_recover.proofs.AscendingLemmas.{ascending_one}
use Rattle.heap_recover.proofs.laws.recovery_begun_again_gives_the_same.Goals as goal

pub returns : goal.returns
returns c = record {
  held = λ limit bytes image other links alike held again a b.
      ascending_one (λ (b : Block). b.first_word) (IsReachedIn other links) (IsReachedIn image links) again held
      (λ b reached. record { kind = reached.kind; reach = (alike.reach b reached.kind).1 reached.reach })
      (λ b reached. record { kind = reached.kind; reach = (alike.reach b reached.kind).0 reached.reach }) b a;
  free = λ limit bytes image other links alike free again a b.
      ascending_one (λ d. d) (IsFreeSuperblock (layout_of other) (IsReachedIn other links))
      (IsFreeSuperblock (layout_of image) (IsReachedIn image links))
      again free (λ d. (alike.free d).1) (λ d. (alike.free d).0) b a;
}
