use Rattle.std.proofs.Common.{◌≡◌, ◌<◌, ℕ, get_or}
use Rattle.crash_core.specs.Standing.{held_in, no_block, place_for}
use Rattle.crash_core.proofs.accepting.owns_small.Given as goal

abbrev pub invariant-loop-block : goal.invariant-loop-block
invariant-loop-block l = (b : ℕ) → b < l.block → held_in (place_for l.owner (get_or l.core.blocks.items b no_block)) ≡ 0
