use Rattle.std.proofs.Common.{◌≤◌}
use Rattle.run_rows.proofs.posts.moves_to.Given as goal

abbrev pub invariant-loop-request : goal.invariant-loop-request
invariant-loop-request l = l.count ≤ l.request-index
