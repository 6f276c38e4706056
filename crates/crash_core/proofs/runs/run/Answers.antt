use Rattle.std.proofs.Common.{◌+◌, get_or, None, ap, sym, subst, ◌∙◌, arith}
use Rattle.std.proofs.lemmas.List.Elements.{Contains-get_or}
use Rattle.core_model.specs.declared.event.Event.TheVariants.{Tick}
use Rattle.seat_state.proofs.WordLemmas.{entry_is}
use Rattle.crash_core.proofs.RunSteps.{IsRunning, running_on, running_whole}
use Rattle.crash_core.proofs.runs.run.Goals as goal

pub step-requires-clause-seat : goal.step-requires-clause-seat
step-requires-clause-seat c = let s = c.loop-seat.invariant.running.seats in let t = c.loop-seat-test.true in
    let less = c.requires.seats (get_or c.args.events.now c.loop-seat.seat-index (0, Tick None))
    (Contains-get_or c.args.events.now c.loop-seat.seat-index (0, Tick None) t) in omega arith

pub loop-seat-preserved : goal.loop-seat-preserved
loop-seat-preserved c = let s = c.loop-seat.invariant.running.seats in let t = c.loop-seat-test.true in
    let less = c.requires.seats (get_or c.args.events.now c.loop-seat.seat-index (0, Tick None))
    (Contains-get_or c.args.events.now c.loop-seat.seat-index (0, Tick None) t) in
    record {
      running = subst (IsRunning c.args.core.now c.step.new.core _) (sym c.push_reserved.ensures.items)
          (running_on c.args.core.now c.loop-seat.core c.step.new.core c.args.events.now c.loop-seat.answers.items c.loop-seat.seat-index
          (get_or c.args.events.now c.loop-seat.seat-index (0, Tick None)) c.step.result c.loop-seat.invariant.running t
          (entry_is c.args.events.now c.loop-seat.seat-index (get_or c.args.events.now c.loop-seat.seat-index (0, Tick None)) (0, Tick None) t)
          (omega arith) c.step.ensures.follows c.step.ensures.core c.step.ensures.seats);
      count = c.push_reserved.ensures.len ∙ ap (λ n. n + 1) c.loop-seat.invariant.count;
      room = let same = c.push_reserved.ensures.capacity in let room = c.loop-seat.invariant.room in omega arith;
    }

pub returns-clause-runs : goal.returns-clause-runs
returns-clause-runs c = running_whole c.args.core.now c.loop-seat.core c.args.events.now c.loop-seat.answers.items c.loop-seat.seat-index
    c.loop-seat.invariant.running (let t = c.loop-seat-test.false in omega arith)
