use Rattle.std.proofs.Common.{◌≡◌, ℕ, ◌<◌, map, slice_index}
use Rattle.heap_model.specs.Geometry.{fixed_words}
use Rattle.crash_image.specs.Crash.{GivesAll, IsLeft, descriptors_below}
use Rattle.crash_image.proofs.crash.scramble_descriptors.Given as goal

abbrev pub invariant-loop-d : goal.invariant-loop-d
invariant-loop-d g l = IsLeft l.initial.geometry.capacity l.initial.image.items l.image.items
    × ((word : ℕ) → word < fixed_words → slice_index l.image.items word ≡ slice_index l.initial.image.items word)
    × GivesAll g.C.Chance.draw_gives l.initial.scramble (map (slice_index l.image.items) (descriptors_below l.d)) l.scramble
