-- What the anchors of an image hold.
use Rattle.heap_model.specs.declared.block.Block.{Block}
use Rattle.heap_model.specs.Image.{Image}
use Rattle.heap_model.specs.Blocks.{IsBlock, layout_of}
use Rattle.heap_at_rest.proofs.LayoutLemmas.{class_block}
use Rattle.heap_at_rest.specs.Orderly.{IsHeldByAnchors, in_full, in_partial, as_large}

-- it is a block of the image
pub held_block : (image : Image) (b : Block) → IsHeldByAnchors image b → IsBlock (layout_of image) b
held_block image b (in_full free class d index out is info anchor of) = class_block (layout_of image) class d index b out.taken info is of
held_block image b (in_partial free chain class d index out is info chained of unchained) =
    class_block (layout_of image) class d index b out.taken info is of
held_block image b (as_large free listed large) = large.block
