use Rattle.std.proofs.Common.{◌≡◌, ◌≤◌, length}
use Rattle.std.specs.Vec.{vec_capacity}
use Rattle.run_rows.proofs.PostLemmas.{AreOpened}
use Rattle.run_rows.proofs.posts.open_posts.Given as goal

abbrev pub invariant-loop-worker : goal.invariant-loop-worker
invariant-loop-worker g l = record {
  opened : AreOpened l.queues.items l.owners.items;
  queues_long : length l.queues.items ≡ l.worker;
  owners_long : length l.owners.items ≡ l.worker;
  queues_room : l.workers ≤ vec_capacity l.queues;
  owners_room : l.workers ≤ vec_capacity l.owners;
}
