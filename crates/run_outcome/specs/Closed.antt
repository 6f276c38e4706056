-- What a run that wasn't stopped leaves for one that opens its image without a trace.
use Rattle.std.specs.Prelude.{◌≡◌, ℕ, ◌*◌, ◌↔◌, Bool, false, Some}
use Rattle.heap_model.specs.declared.block.Block.{Block}
use Rattle.heap_model.specs.Image.{Image}
use Rattle.heap_model.specs.Reach.{IsReachedIn}
use Rattle.dict_model.specs.Links.{dict_links, kind_count}
use Rattle.heap_at_rest.specs.Orderly.{IsHeldByAnchors, IsOrderly}

-- where the run wasn't stopped, anchors and free list of the image left can be relied on, and what they hold is exactly what its roots reach
pub record LeavesOrderly (stopped : Bool) (words_left : ℕ) (left : Image) : Type 0 where
  pub orderly : stopped ≡ false → IsOrderly (Some kind_count) (8 * words_left) left
  pub exact : stopped ≡ false → (b : Block) → IsHeldByAnchors left b ↔ IsReachedIn left dict_links b
