-- Worked examples: the image that words are opened as, and what faults are told as.
use Rattle.std.specs.Prelude.{◌≡◌, [], ◌∷◌, refl}
use Rattle.heap_recover.specs.declared.fault.RecoverFault.TheVariants.{Outside as OutsideFound}
use Rattle.dictionary.specs.declared.fault.MapFault.TheVariants.{BadShard as NoMap, Memory as NoMemory}
use Rattle.dictionary_heap.specs.Images.{current_image}
use Rattle.dictionary_heap.specs.Faults.{of_recovery, of_maps}
use Rattle.dictionary_heap.specs.declared.fault.OpenFault.TheVariants.{Outside, BadShard, Memory}

-- five words of the old version are read with the new one, and words of the new one as they are
version_of_old : current_image (7 ∷ 1 ∷ 4 ∷ 1 ∷ 9 ∷ []) 1 ≡ 2
version_of_old = refl

word_of_old : current_image (7 ∷ 1 ∷ 4 ∷ 1 ∷ 9 ∷ []) 4 ≡ 9
word_of_old = refl

word_of_new : current_image (7 ∷ 2 ∷ 4 ∷ 1 ∷ 9 ∷ []) 4 ≡ 9
word_of_new = refl

-- a pointer to no block, a shard without a map, and want of memory
root_outside : of_recovery (OutsideFound 40 9) ≡ Outside 40 9
root_outside = refl

shard_three : of_maps (NoMap 3 43) ≡ BadShard 3 43
shard_three = refl

none_left : of_maps NoMemory ≡ Memory
none_left = refl
