use Rattle.std.proofs.Common.{◌-◌}
use Rattle.std.specs.Vec.{vec_capacity, vec_len}
use Rattle.seat_parcels.proofs.BoxLemmas.{new_box}
use Rattle.seat_parcels.proofs.postbox.PostBox.new.Goals as goal

pub invariant_of-result : goal.invariant_of-result
invariant_of-result g c = new_box g.J.HeapOf.table g.Q.QueuesOf.queues c.args.queues.now c.args.passes.items (record {
  queues = c.new.result.queues;
  passes = c.new.result.passes;
  kept = c.args.kept.items;
  spare = vec_capacity c.args.kept - vec_len c.args.kept;
  workers = c.args.workers;
}) c.new.ensures.0 c.new.ensures.1 c.requires.queues c.requires.workers c.requires.each c.requires.passes c.requires.parts c.requires.rightly
    c.requires.kept
