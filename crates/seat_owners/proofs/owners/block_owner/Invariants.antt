use Rattle.std.proofs.Common.{◌<◌, ℕ}
use Rattle.heap_model.specs.Blocks.{IsBlock, layout_of}
use Rattle.heap_model.specs.Header.{kinds_of}
use Rattle.heap_model.specs.Image.{Image}
use Rattle.root_reach.specs.Reaching.{AreOrigins, IsReachedBeside}
use Rattle.dict_model.specs.Links.{dict_links}
use Rattle.seat_owners.proofs.owners.block_owner.Given as goal

abbrev pub invariant-loop-shard : goal.invariant-loop-shard
invariant-loop-shard l = (image : Image) → AreOrigins image (kinds_of image) dict_links l.origins → IsBlock (layout_of image) l.block
    → (shard : ℕ) → shard < l.shard → IsReachedBeside image (kinds_of image) dict_links shard l.block
