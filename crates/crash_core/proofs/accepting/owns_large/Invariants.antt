use Rattle.std.proofs.Common.{◌≡◌, ◌<◌, ℕ, get_or}
use Rattle.seat_state.specs.Superblocks.{count_in, no_superblock, usage_for}
use Rattle.crash_core.proofs.accepting.owns_large.Given as goal

abbrev pub invariant-loop-d : goal.invariant-loop-d
invariant-loop-d l = (e : ℕ) → e < l.d → count_in (usage_for l.owner (get_or l.core.superblocks.items e no_superblock)) ≡ 0
