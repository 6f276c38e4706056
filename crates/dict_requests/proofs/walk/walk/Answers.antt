use Rattle.heap_seat.specs.View.{word_of}
use Rattle.dict_requests.specs.declared.walk.Next.{Next}
use Rattle.dict_requests.specs.Walks.{StepsAlong}
use Rattle.dict_requests.proofs.CountLemmas.{quiet_walk}
use Rattle.dict_requests.proofs.WalkLemmas.{walking_on, walk_found, walk_missed}
use Rattle.std.proofs.Common.{subst}
use Rattle.dict_requests.proofs.walk.walk.Goals as goal

pub returns-in_err-step-clause-quiet : goal.returns-in_err-step-clause-quiet
returns-in_err-step-clause-quiet g c =
    let view = g.H.HeapSeat.view in
    quiet_walk c.args.key 3 c.args.table c.loop-node.link (view c.args.seat.now) (view c.loop-node.seat) (view c.step.new.seat)
    (g.met.H.HeapSeat.seat c.loop-node.seat)
    c.loop-node.invariant.walking c.step.ensures.quiet

pub returns-in-End-clause-quiet : goal.returns-in-End-clause-quiet
returns-in-End-clause-quiet g c =
    let view = g.H.HeapSeat.view in
    quiet_walk c.args.key 3 c.args.table c.loop-node.link (view c.args.seat.now) (view c.loop-node.seat) (view c.step.new.seat)
    (g.met.H.HeapSeat.seat c.loop-node.seat)
    c.loop-node.invariant.walking c.step.ensures.quiet

pub returns-in-Key-clause-quiet : goal.returns-in-Key-clause-quiet
returns-in-Key-clause-quiet g c =
    let view = g.H.HeapSeat.view in
    quiet_walk c.args.key 3 c.args.table c.loop-node.link (view c.args.seat.now) (view c.loop-node.seat) (view c.step.new.seat)
    (g.met.H.HeapSeat.seat c.loop-node.seat)
    c.loop-node.invariant.walking c.step.ensures.quiet

pub returns-in-End-clause-ok : goal.returns-in-End-clause-ok
returns-in-End-clause-ok g c =
    let view = g.H.HeapSeat.view in
    let v = view c.args.seat.now in
    let u = view c.loop-node.seat in
    let w = view c.step.new.seat in
    let steps = subst (λ (n : Next). StepsAlong c.args.key (word_of c.loop-node.link) n u w) c.in-End.is c.in_ok-step.ensures.ok in
    walk_missed v u w c.args.key c.args.table c.loop-node.link (g.met.H.HeapSeat.seat c.loop-node.seat)
    (g.met.H.HeapSeat.seat c.step.new.seat) c.loop-node.invariant.walking
    c.step.ensures.quiet.unchanged steps

pub returns-in-Key-clause-ok : goal.returns-in-Key-clause-ok
returns-in-Key-clause-ok g c =
    let view = g.H.HeapSeat.view in
    let v = view c.args.seat.now in
    let u = view c.loop-node.seat in
    let w = view c.step.new.seat in
    let steps = subst (λ (n : Next). StepsAlong c.args.key (word_of c.loop-node.link) n u w) c.in-Key.is c.in_ok-step.ensures.ok in
    walk_found v u w c.args.key c.args.table c.loop-node.link (g.met.H.HeapSeat.seat c.loop-node.seat)
    (g.met.H.HeapSeat.seat c.step.new.seat) c.loop-node.invariant.walking
    c.step.ensures.quiet.unchanged c.in-Key.node steps

pub loop-node-preserved : goal.loop-node-preserved
loop-node-preserved g c =
    let view = g.H.HeapSeat.view in
    let v = view c.args.seat.now in
    let u = view c.loop-node.seat in
    let w = view c.step.new.seat in
    let steps = subst (λ (n : Next). StepsAlong c.args.key (word_of c.loop-node.link) n u w) c.in-Other.is c.in_ok-step.ensures.ok in
    record {
      walking = walking_on v u w c.args.key c.args.table c.loop-node.link (g.met.H.HeapSeat.seat c.loop-node.seat)
          (g.met.H.HeapSeat.seat c.step.new.seat) c.loop-node.invariant.walking
          c.step.ensures.quiet.unchanged c.in-Other.node c.step.ensures.quiet steps;
      kept = g.met.H.HeapSeat.keeps_row c.args.seat.now c.loop-node.seat c.step.new.seat c.loop-node.invariant.kept c.step.ensures.kept;
    }
