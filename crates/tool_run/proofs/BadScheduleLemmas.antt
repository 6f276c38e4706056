-- What a replay comes to over a good image, where the source tells that its schedule is refused.
use Rattle.std.proofs.Common.{◌≡◌, ◌⊎◌, ℕ, ◌<◌, List, [], length, Option, Some, inl, inr, sym, subst, arith}
use Rattle.tool_ports.specs.Contents.{Contents}
use Rattle.trace_text.specs.declared.schedule.Schedule.{Schedule}
use Rattle.trace_text.specs.Schedule.{IsSchedule}
use Rattle.trace_text.proofs.ScheduleLemmas.{schedule_or_bad}
use Rattle.tool_command.specs.Command.{Command, drain_image, replay_image, Asks}
use Rattle.tool_run.specs.declared.fault.Fault.{Fault}
use Rattle.tool_run.specs.declared.fault.Fault.TheVariants.{Memory, ReadFault, Outside, BadStep, TooLong}
use Rattle.tool_command.proofs.OneCommandLemmas.{one_command}
use Rattle.tool_run.specs.Inside.{Refuses, IsReplayFault, IsCarriedOut, IsStopped, status_of}
use Rattle.tool_run.specs.Making.{Makes, HasSchedule, longest_trace}
use Rattle.tool_run.specs.CommandUses.{RunsATrace}
use Rattle.tool_run.specs.Outcome.{AsksForReplay, HoldsGood, HoldsBadStep, HoldsTooMuch}
use Rattle.tool_run.specs.Status.{out_of_memory, read_fault}
use Rattle.tool_run.proofs.BadTraceLemmas.{IsRefusal}
use Rattle.tool_run.proofs.CompleteLemmas.{refused}
use Rattle.tool_run.proofs.TraceLemmas.{of_left}

-- the source has left nothing that can be replayed
record HasNoSchedule (left : Option (List ℕ)) : Type 0 where
  none : (schedule : Schedule) → HasSchedule left schedule → ⊥

-- an image that is good is no reason: what is left is want of memory, or a failed get
pub by_image : (contents : Contents) (name : List ℕ) (seed : ℕ) (get_failed : Type 0) (status : ℕ) (fault : Fault) → HoldsGood contents name
    → status ≡ status_of fault
    → Refuses (replay_image name seed) contents get_failed fault → (status ≡ out_of_memory) ⊎ (status ≡ read_fault)
by_image contents name seed get_failed status Memory has is why = inl is
by_image contents name seed get_failed status ReadFault has is why = inr is
by_image contents name seed get_failed status fault has is why =
    elim (refused (drain_image name 1) contents (Some []) ⊥ status has (λ never. never) fault is why) as
    (λ _. (status ≡ out_of_memory) ⊎ (status ≡ read_fault)) [
      | inl e ↦ absurd (omega arith)
      | inr e ↦ inl e
    ]

by_schedule : (contents : Contents) (left : Option (List ℕ)) (name : List ℕ) (read_failed : Type 0) (status : ℕ) (fault : Fault)
    → HasNoSchedule left → status ≡ status_of fault
    → IsReplayFault contents left name read_failed fault → IsRefusal status
by_schedule contents left name read_failed status Memory unfit is why = inr (inl is)
by_schedule contents left name read_failed status ReadFault unfit is why = inr (inr is)
by_schedule contents left name read_failed status (Outside at value) unfit is why = absurd (unfit.none why.schedule why.has_schedule)
by_schedule contents left name read_failed status (BadStep line) unfit is why = inl is
by_schedule contents left name read_failed status TooLong unfit is why = inl is
by_schedule contents left name read_failed status other unfit is why = absurd why

-- a line that tells no step, or too many bytes
bad_step_unfit : (left : Option (List ℕ)) (line : ℕ) → HoldsBadStep left line → HasNoSchedule left
bad_step_unfit left line has = record {
  none = λ schedule is.
      let same : has.text ≡ is.text = of_left (λ all. all ≡ is.text) left has.text has.all is.has_text.all in
      schedule_or_bad has.text schedule line (subst (λ (l : List ℕ). IsSchedule l schedule) (sym same) is.is) has.first;
}

too_much_unfit : (left : Option (List ℕ)) → HoldsTooMuch left → HasNoSchedule left
too_much_unfit left has = record {
  none = λ schedule is.
      let same : has.bytes ≡ is.text = of_left (λ all. all ≡ is.text) left has.bytes has.all is.has_text.all in
      let more : longest_trace < length is.text = subst (λ (l : List ℕ). longest_trace < length l) same has.more in
      let short = is.has_text.short in
      omega arith;
}

module _ (words : List (List ℕ)) (command : Command) (old new : Contents) (left taken taken' : Option (List ℕ)) (status : ℕ)
    (asked : Asks words command) where
  done_unfit : IsCarriedOut command old new left taken taken' → (name : List ℕ) → AsksForReplay words name → HasNoSchedule left → IsRefusal status
  done_unfit is name asks unfit =
      let same : command ≡ replay_image name asks.seed = one_command words command (replay_image name asks.seed) asked asks.asked in
      let made = subst (λ (c : Command). Makes c old left is.image is.text) same is.made in
      absurd (unfit.none made.1.schedule made.1.has_schedule)

  stops_unfit : (store_failed source_failed : Type 0) (faults between : ℕ) (fault : Fault)
      → IsStopped command old new left store_failed source_failed faults between taken taken' fault → status ≡ status_of fault
      → (name : List ℕ) → AsksForReplay words name → HoldsGood old name → HasNoSchedule left → IsRefusal status
  stops_unfit store_failed source_failed faults between fault stopped is name asks has unfit =
      let same : command ≡ replay_image name asks.seed = one_command words command (replay_image name asks.seed) asked asks.asked in
      elim stopped.cause as (λ _. IsRefusal status) [
        | inl (inl why, untouched) ↦ inr (by_image old name asks.seed store_failed status fault has is
            (subst (λ (c : Command). Refuses c old store_failed fault) same why))
        | inl (inr (inl trace), untouched) ↦ absurd (subst RunsATrace same trace.runs)
        | inl (inr (inr replay), untouched) ↦ by_schedule old left _ source_failed status fault unfit is replay.why
        | inr (image, text, made, why) ↦
            let made_here = subst (λ (c : Command). Makes c old left image text) same made in
            absurd (unfit.none made_here.1.schedule made_here.1.has_schedule)
      ]

  pub done_bad_step : IsCarriedOut command old new left taken taken' → (name : List ℕ) (line : ℕ) → AsksForReplay words name
      → HoldsGood old name → HoldsBadStep left line → IsRefusal status
  done_bad_step is name line asks has bad = done_unfit is name asks (bad_step_unfit left line bad)

  pub done_schedule_too_long : IsCarriedOut command old new left taken taken' → (name : List ℕ) → AsksForReplay words name → HoldsGood old name
      → HoldsTooMuch left → IsRefusal status
  done_schedule_too_long is name asks has bad = done_unfit is name asks (too_much_unfit left bad)

  pub stops_bad_step : (store_failed source_failed : Type 0) (faults between : ℕ) (fault : Fault)
      → IsStopped command old new left store_failed source_failed faults between taken taken' fault → status ≡ status_of fault
      → (name : List ℕ) (line : ℕ) → AsksForReplay words name → HoldsGood old name → HoldsBadStep left line → IsRefusal status
  stops_bad_step store_failed source_failed faults between fault stopped is name line asks has bad =
      stops_unfit store_failed source_failed faults between fault stopped is name asks has (bad_step_unfit left line bad)

  pub stops_schedule_too_long : (store_failed source_failed : Type 0) (faults between : ℕ) (fault : Fault)
      → IsStopped command old new left store_failed source_failed faults between taken taken' fault → status ≡ status_of fault
      → (name : List ℕ) → AsksForReplay words name → HoldsGood old name → HoldsTooMuch left → IsRefusal status
  stops_schedule_too_long store_failed source_failed faults between fault stopped is name asks has bad =
      stops_unfit store_failed source_failed faults between fault stopped is name asks has (too_much_unfit left bad)
