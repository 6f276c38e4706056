-- What a run comes to over a good image, where the source tells that its trace is refused.
use Rattle.std.proofs.Common.{◌≡◌, ◌⊎◌, ℕ, ◌<◌, false, List, [], length, Option, Some, inl, inr, sym, subst, arith}
use Rattle.tool_ports.specs.Contents.{Contents}
use Rattle.worker_run.specs.Said.{Line}
use Rattle.trace_text.specs.Trace.{lines_of, AreLines}
use Rattle.trace_text.proofs.ReadingLemmas.{read_or_outside}
use Rattle.tool_command.specs.Command.{Command, show_image, run_image, Asks}
use Rattle.tool_run.specs.declared.fault.Fault.{Fault}
use Rattle.tool_run.specs.declared.fault.Fault.TheVariants.{Memory, ReadFault, BadLine, TooLong}
use Rattle.tool_command.proofs.OneCommandLemmas.{one_command}
use Rattle.tool_run.specs.Inside.{Refuses, IsTraceFault, IsCarriedOut, IsStopped, status_of}
use Rattle.tool_run.specs.Making.{Options, Makes, HasTrace, longest_trace}
use Rattle.tool_run.specs.CommandUses.{ReplaysASchedule}
use Rattle.tool_run.specs.Outcome.{AsksForRun, HoldsMaps, HoldsBadLine, HoldsTooMuch}
use Rattle.tool_run.specs.Status.{out_of_memory, read_fault, bad_trace}
use Rattle.tool_run.proofs.CompleteLemmas.{refused}
use Rattle.tool_run.proofs.TraceLemmas.{of_left}

-- a status of a run over a good image of which no trace can be run
abbrev pub IsRefusal : ℕ → Type 0
IsRefusal status = (status ≡ bad_trace) ⊎ (status ≡ out_of_memory) ⊎ (status ≡ read_fault)

-- the source has left nothing that can be run
record HasNoTrace (left : Option (List ℕ)) : Type 0 where
  none : (trace : List ℕ) (lines : List Line) → HasTrace left trace → AreLines (lines_of trace) lines → ⊥

by_image : (contents : Contents) (name : List ℕ) (options : Options) (get_failed : Type 0) (status : ℕ) (fault : Fault)
    → HoldsMaps contents name → status ≡ status_of fault
    → Refuses (run_image name options) contents get_failed fault → IsRefusal status
by_image contents name options get_failed status Memory has is why = inr (inl is)
by_image contents name options get_failed status ReadFault has is why = inr (inr is)
by_image contents name options get_failed status fault has is why =
    elim (refused (show_image name false false) contents (Some []) ⊥ status has (λ never. never) fault is why) as (λ _. IsRefusal status) [
      | inl e ↦ absurd (omega arith)
      | inr e ↦ inr (inl e)
    ]

by_trace : (left : Option (List ℕ)) (read_failed : Type 0) (status : ℕ) (fault : Fault) → status ≡ status_of fault
    → IsTraceFault left read_failed fault → IsRefusal status
by_trace left read_failed status Memory is why = inr (inl is)
by_trace left read_failed status ReadFault is why = inr (inr is)
by_trace left read_failed status (BadLine line cause) is why = inl is
by_trace left read_failed status TooLong is why = inl is
by_trace left read_failed status other is why = absurd why

-- a run makes nothing then
not_made : (contents : Contents) (name : List ℕ) (options : Options) (left image : Option (List ℕ)) (text : List ℕ) → HasNoTrace left
    → Makes (run_image name options) contents left image text → ⊥
not_made contents name options left image text unfit made = unfit.none made.trace made.lines made.has_trace made.lines_are

-- a line outside the grammar, or too many bytes
bad_line_unfit : (left : Option (List ℕ)) (line : ℕ) → HoldsBadLine left line → HasNoTrace left
bad_line_unfit left line has = record {
  none = λ trace lines is are.
      let same : has.trace ≡ trace = of_left (λ all. all ≡ trace) left has.trace has.all is.all in
      read_or_outside (lines_of has.trace) lines line (subst (λ (l : List ℕ). AreLines (lines_of l) lines) (sym same) are) has.first;
}

too_much_unfit : (left : Option (List ℕ)) → HoldsTooMuch left → HasNoTrace left
too_much_unfit left has = record {
  none = λ trace lines is are.
      let same : has.bytes ≡ trace = of_left (λ all. all ≡ trace) left has.bytes has.all is.all in
      let more : longest_trace < length trace = subst (λ (l : List ℕ). longest_trace < length l) same has.more in
      let short = is.short in
      omega arith;
}

module _ (words : List (List ℕ)) (command : Command) (old new : Contents) (left taken taken' : Option (List ℕ)) (status : ℕ)
    (asked : Asks words command) where
  done_unfit : IsCarriedOut command old new left taken taken' → (name : List ℕ) → AsksForRun words name → HasNoTrace left → IsRefusal status
  done_unfit is name asks unfit =
      let same : command ≡ run_image name asks.options = one_command words command (run_image name asks.options) asked asks.asked in
      absurd (not_made old name asks.options left is.image is.text unfit (subst (λ (c : Command). Makes c old left is.image is.text) same is.made))

  stops_unfit : (store_failed source_failed : Type 0) (faults between : ℕ) (fault : Fault)
      → IsStopped command old new left store_failed source_failed faults between taken taken' fault → status ≡ status_of fault
      → (name : List ℕ) → AsksForRun words name → HoldsMaps old name → HasNoTrace left → IsRefusal status
  stops_unfit store_failed source_failed faults between fault stopped is name asks has unfit =
      let same : command ≡ run_image name asks.options = one_command words command (run_image name asks.options) asked asks.asked in
      elim stopped.cause as (λ _. IsRefusal status) [
        | inl (inl why, untouched) ↦ by_image old name asks.options store_failed status fault has is
            (subst (λ (c : Command). Refuses c old store_failed fault) same why)
        | inl (inr (inl trace), untouched) ↦ by_trace left source_failed status fault is trace.why
        | inl (inr (inr replay), untouched) ↦ absurd (subst ReplaysASchedule same replay.replays)
        | inr (image, text, made, why) ↦
            absurd (not_made old name asks.options left image text unfit (subst (λ (c : Command). Makes c old left image text) same made))
      ]

  pub done_bad_line : IsCarriedOut command old new left taken taken' → (name : List ℕ) (line : ℕ) → AsksForRun words name → HoldsMaps old name
      → HoldsBadLine left line → IsRefusal status
  done_bad_line is name line asks has bad = done_unfit is name asks (bad_line_unfit left line bad)

  pub done_too_long : IsCarriedOut command old new left taken taken' → (name : List ℕ) → AsksForRun words name → HoldsMaps old name
      → HoldsTooMuch left → IsRefusal status
  done_too_long is name asks has bad = done_unfit is name asks (too_much_unfit left bad)

  pub stops_bad_line : (store_failed source_failed : Type 0) (faults between : ℕ) (fault : Fault)
      → IsStopped command old new left store_failed source_failed faults between taken taken' fault → status ≡ status_of fault
      → (name : List ℕ) (line : ℕ) → AsksForRun words name → HoldsMaps old name → HoldsBadLine left line → IsRefusal status
  stops_bad_line store_failed source_failed faults between fault stopped is name line asks has bad =
      stops_unfit store_failed source_failed faults between fault stopped is name asks has (bad_line_unfit left line bad)

  pub stops_too_long : (store_failed source_failed : Type 0) (faults between : ℕ) (fault : Fault)
      → IsStopped command old new left store_failed source_failed faults between taken taken' fault → status ≡ status_of fault
      → (name : List ℕ) → AsksForRun words name → HoldsMaps old name → HoldsTooMuch left → IsRefusal status
  stops_too_long store_failed source_failed faults between fault stopped is name asks has bad =
      stops_unfit store_failed source_failed faults between fault stopped is name asks has (too_much_unfit left bad)
