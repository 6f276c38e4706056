-- A heap that was recovered can be replayed over, and what that gives is said of the image.
use Rattle.std.proofs.Common.{◌≡◌, ℕ, ◌<◌, List, Option, inr, sym, subst, arith}
use Rattle.std.proofs.lemmas.List.Elements.{All-contains}
use Rattle.heap_recover.specs.declared.answer.Recovered.{Recovered}
use Rattle.image_run.specs.declared.fault.ReplayFault.{ReplayFault}
use Rattle.image_run.specs.declared.fault.ReplayFault.TheVariants.{Outside as OutsideLeft, Memory as ReplayMemory}
use Rattle.core_model.specs.declared.event.Event.{Event}
use Rattle.image_run.specs.Replaying.{CanBeReplayed, StopsReplay}
use Rattle.tool_ports.specs.Contents.{Contents}
use Rattle.trace_text.specs.declared.schedule.Schedule.{Schedule}
use Rattle.trace_text.proofs.ScheduleLemmas.{steps_of_seats}
use Rattle.tool_run.specs.declared.fault.Fault.{Fault}
use Rattle.tool_run.specs.declared.fault.Fault.TheVariants.{Usage, Memory, ReadFault, WriteFault, Absent, Malformed, Outside, BadShard, BadLine, BadStep, TooLong}
use Rattle.tool_command.specs.Command.{replay_image}
use Rattle.tool_run.specs.Inside.{IsReplayFault, IsBeforeReading, RefusesEither, fault_of_replay}
use Rattle.tool_run.specs.Making.{HasHeap, HasSchedule}
use Rattle.tool_run.specs.Recovering.{IsRecoveredHeapOf}

-- a schedule can be replayed
pub can_be_replayed : (left : Option (List ℕ)) (schedule : Schedule) → HasSchedule left schedule → CanBeReplayed schedule.seats schedule.lines.items
can_be_replayed left schedule has = record {
  some = has.is.seats_are.some;
  few = has.is.seats_are.at_most_8;
  below = λ line there. All-contains (λ (step : ℕ × Event). step.0 < schedule.seats) schedule.lines.items line
      (steps_of_seats schedule.seats has.is.further schedule.lines.items has.is.steps_are) there;
}

-- by then the source was read
pub was_read : (contents : Contents) (left : Option (List ℕ)) (name : List ℕ) (seed : ℕ) (B : Type 0) (fault : Fault)
    → IsReplayFault contents left name B fault → IsBeforeReading (replay_image name seed) fault → ⊥
was_read contents left name seed B Usage why before = why
was_read contents left name seed B Memory why before = before
was_read contents left name seed B ReadFault why before = before
was_read contents left name seed B WriteFault why before = why
was_read contents left name seed B Absent why before = why
was_read contents left name seed B (Malformed cause) why before = why
was_read contents left name seed B (Outside at value) why before = before tt
was_read contents left name seed B (BadShard shard at) why before = why
was_read contents left name seed B (BadLine line cause) why before = why
was_read contents left name seed B (BadStep line) why before = before
was_read contents left name seed B TooLong why before = before

module _ (contents : Contents) (name : List ℕ) (recovered : Recovered) (is : IsRecoveredHeapOf contents name recovered) where
  pub heap_of : HasHeap contents name recovered.heap.words recovered.heap.held
  heap_of = record {
    image = record { bytes = is.bytes; is_there = is.is_there; good = is.good; inside = is.inside };
    free = recovered.free.items;
    recovers = is.is.recovers;
    long = let whole = is.formed.length_is in let same = is.long in omega arith;
  }

  -- what was refused once the image was good
  pub refused_later : (left : Option (List ℕ)) (seed : ℕ) (A B : Type 0) (fault cause : Fault) → fault ≡ cause
      → IsReplayFault contents left name B cause
      → RefusesEither (replay_image name seed) contents left A B fault
  refused_later left seed A B fault cause same why =
      inr (inr (record { replays = tt; image = heap_of.image; why = subst (λ (f : Fault). IsReplayFault contents left name B f) (sym same) why }))

  -- and what a replay leaves
  pub replay_fault : (left : Option (List ℕ)) (B : Type 0) (schedule : Schedule) → HasSchedule left schedule → (cause : ReplayFault)
      → StopsReplay recovered.heap.words recovered.heap.held schedule.seats schedule.lines.items cause
      → IsReplayFault contents left name B (fault_of_replay cause)
  replay_fault left B schedule has (OutsideLeft at value) leaves = record {
    words = recovered.heap.words;
    held = recovered.heap.held;
    heap = heap_of;
    schedule = schedule;
    has_schedule = has;
    leaves = leaves;
  }
  replay_fault left B schedule has ReplayMemory leaves = tt
