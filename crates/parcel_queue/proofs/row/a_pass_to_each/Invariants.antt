use Rattle.std.proofs.Common.{◌≡◌, ◌≤◌, length}
use Rattle.std.specs.Vec.{vec_capacity, vec_len}
use Rattle.parcel_queue.proofs.HandLemmas.{given, handed}
use Rattle.parcel_queue.proofs.row.a_pass_to_each.Given as goal

abbrev pub invariant-loop-at : goal.invariant-loop-at
invariant-loop-at g l = (l.owners.items ≡ given l.at l.initial.owners.items)
    × (l.passes.items ≡ handed l.at l.initial.owners.items)
    × (vec_len l.passes ≡ l.at)
    × (length l.queues ≤ vec_capacity l.passes)
