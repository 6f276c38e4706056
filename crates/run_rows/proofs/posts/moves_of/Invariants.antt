use Rattle.std.proofs.Common.{◌≡◌, ◌≤◌, take}
use Rattle.run_rows.proofs.PostLemmas.{moves_among}
use Rattle.run_rows.proofs.posts.moves_of.Given as goal

abbrev pub invariant-loop-request : goal.invariant-loop-request
invariant-loop-request l = (l.count ≡ moves_among l.worker.workers l.worker.number (take l.request-index l.requests)) × (l.count ≤ l.request-index)
