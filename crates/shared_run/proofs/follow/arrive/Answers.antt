use Rattle.shared_run.proofs.FollowLemmas.{arrived_next}
use Rattle.shared_run.proofs.follow.arrive.Goals as goal

pub loop-key-preserved : goal.loop-key-preserved
loop-key-preserved c =
    arrived_next c.args.moved.items c.loop-key.moved.items c.pop_front.new.self.items c.in-Some.key c.in-Some.value c.args.maps.now.items
    c.loop-key.maps.items c.put_in.new.maps.items
    c.in-Some.ensures.items c.loop-key.invariant c.in_ok-put_in.ensures
