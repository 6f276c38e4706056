use Rattle.std.proofs.Common.{◌≡◌, ℕ, ◌<◌, get_or, length, vec_len}
use Rattle.seat_state.specs.Superblocks.{usage_for, no_superblock}
use Rattle.seat_index.specs.declared.owned.Ownership.TheVariants.{Nothing}
use Rattle.seat_index.specs.Owned.{ownership_for}
use Rattle.seat_index.proofs.owned_opening.ownerships_of.Given as goal

abbrev pub invariant-loop-i : goal.invariant-loop-i
invariant-loop-i l = record {
  long : vec_len l.ownerships ≡ length l.owners;
  each : (n : ℕ) → n < l.i → get_or l.ownerships.items n Nothing ≡ ownership_for (usage_for l.seat (get_or l.owners n no_superblock));
}
