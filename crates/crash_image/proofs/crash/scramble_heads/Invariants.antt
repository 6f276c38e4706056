use Rattle.std.proofs.Common.{ℕ, map, slice_index}
use Rattle.crash_image.specs.Crash.{GivesAll, IsLeft, heads_below}
use Rattle.crash_image.proofs.crash.scramble_heads.Given as goal

abbrev pub invariant-loop-list : goal.invariant-loop-list
invariant-loop-list g l = ((capacity : ℕ) → IsLeft capacity l.initial.image.items l.image.items)
    × GivesAll g.C.Chance.draw_gives l.initial.scramble (map (slice_index l.image.items) (heads_below l.list)) l.scramble
