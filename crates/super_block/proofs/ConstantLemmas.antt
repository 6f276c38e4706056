-- The constants that tell the greatest capacity are the one that the definitions have.
use Rattle.std.proofs.Common.{◌≡◌, ◌*◌, refl}
use Rattle.heap_model.specs.Geometry.{largest_capacity, image_words}
use Rattle.super_block.specs.declared.layout.TheConstants.{LARGEST_CAPACITY, LONGEST_IMAGE}

pub largest_capacity_is : LARGEST_CAPACITY ≡ largest_capacity
unfolding largest_capacity
largest_capacity_is = refl

pub longest_image_is : LONGEST_IMAGE ≡ 8 * image_words largest_capacity
unfolding largest_capacity
longest_image_is = refl
