-- What a replay comes to where the store and the source tell that it leaves a word outside.
use Rattle.std.proofs.Common.{◌≡◌, ◌⊎◌, ℕ, List, length, Option, slice_index, inl, inr, refl, ap, sym, subst, ◌∙◌, arith}
use Rattle.std.proofs.lemmas.Grind.{same_number_lists}
use Rattle.heap_model.specs.declared.block.Block.{Block}
use Rattle.heap_model.specs.Geometry.{image_words}
use Rattle.heap_model.specs.Header.{capacity_of}
use Rattle.tool_run.specs.Making.{image_in}
use Rattle.core_model.specs.declared.event.Event.{Event}
use Rattle.image_run.specs.Reporting.{Recovers}
use Rattle.image_run.proofs.OneRecoveryLemmas.{one_held, one_recovered}
use Rattle.image_run.proofs.OutcomeLemmas.{never_both}
use Rattle.tool_ports.specs.Contents.{Contents}
use Rattle.trace_text.specs.declared.schedule.Schedule.{Schedule}
use Rattle.trace_text.specs.Schedule.{IsSchedule}
use Rattle.trace_text.proofs.ScheduleLemmas.{one_schedule}
use Rattle.tool_command.specs.Command.{Command, replay_image, image_name, Asks}
use Rattle.tool_run.specs.declared.fault.Fault.{Fault}
use Rattle.tool_run.specs.declared.fault.Fault.TheVariants.{Memory, ReadFault, Outside, BadStep, TooLong}
use Rattle.tool_command.proofs.OneCommandLemmas.{one_command}
use Rattle.tool_run.specs.Inside.{Refuses, IsReplayFault, IsCarriedOut, IsStopped, status_of}
use Rattle.tool_run.specs.Making.{Makes, HasHeap, HasSchedule, ReplaysNamed, LeavesOutside}
use Rattle.tool_run.specs.CommandUses.{RunsATrace}
use Rattle.tool_run.specs.Outcome.{AsksForReplay, HoldsGood, HoldsSchedule, HoldsOutsideLeft}
use Rattle.tool_run.specs.Status.{out_of_memory, read_fault, outside}
use Rattle.tool_run.proofs.BadScheduleLemmas.{by_image}
use Rattle.tool_run.proofs.CompleteLemmas.{no_bad_step, not_too_much}
use Rattle.tool_run.proofs.OutsideLemmas.{same_bytes}
use Rattle.tool_run.proofs.TraceLemmas.{of_left}

-- that status, or want of memory, or a failure while something is read
abbrev IsOutsideOr : ℕ → Type 0
IsOutsideOr status = (status ≡ outside) ⊎ (status ≡ out_of_memory) ⊎ (status ≡ read_fault)

-- where the store tells of a name, recovery makes one heap of it
one_heap : (contents : Contents) (name words words' : List ℕ) (held held' : List Block) → HoldsGood contents name
    → HasHeap contents name words held → HasHeap contents name words' held'
    → (words' ≡ words) × (held' ≡ held)
one_heap contents name words words' held held' good is too =
    let bytes : too.image.bytes ≡ is.image.bytes =
    same_bytes contents name name too.image.bytes good.bytes refl too.image.is_there good.held
    ∙ sym (same_bytes contents name name is.image.bytes good.bytes refl is.image.is_there good.held) in
    let recovers : Recovers (image_in is.image.bytes) held' too.free (slice_index words') =
    subst (λ (l : List ℕ). Recovers (image_in l) held' too.free (slice_index words')) bytes too.recovers in
    let long : length words' ≡ length words = let a = is.long in let b = too.long in
    let c = ap (λ (l : List ℕ). image_words (capacity_of (image_in l))) bytes in omega arith in (
      same_number_lists words' words long
          (λ k below. one_recovered (image_in is.image.bytes) (slice_index words)
          (slice_index words') held held' is.free too.free is.recovers recovers k),
      one_held (image_in is.image.bytes) (slice_index words) (slice_index words') held held' is.free too.free is.recovers recovers,
    )

-- where the source tells what it has left, that is one schedule
one_left : (left : Option (List ℕ)) (s s' : Schedule) → HoldsSchedule left → HasSchedule left s → HasSchedule left s' → (s'.seats ≡ s.seats)
    × (s'.lines.items ≡ s.lines.items)
one_left left s s' has is too =
    let text : has.text ≡ is.text = of_left (λ all. all ≡ is.text) left has.text has.all is.has_text.all in
    let text' : has.text ≡ too.text = of_left (λ all. all ≡ too.text) left has.text has.all too.has_text.all in
    one_schedule has.text s' s (subst (λ (l : List ℕ). IsSchedule l s') (sym text') too.is) (subst (λ (l : List ℕ). IsSchedule l s) (sym text) is.is)

-- such a replay leaves the word, so it prints nothing
module _ (contents : Contents) (name : List ℕ) (left : Option (List ℕ)) (at : ℕ) (has : HoldsOutsideLeft contents name left at) where
  leaves_too : (words : List ℕ) (held : List Block) (schedule : Schedule) → HasHeap contents name words held → HasSchedule left schedule
      → LeavesOutside words held schedule.seats schedule.lines.items at has.value
  leaves_too words held schedule heap is =
      let heaps = one_heap contents name has.leaves.words words has.leaves.held held has.image has.leaves.heap heap in
      let schedules = one_left left has.leaves.schedule schedule has.schedule has.leaves.has_schedule is in
      subst (λ (ws : List ℕ). LeavesOutside ws held schedule.seats schedule.lines.items at has.value) (sym heaps.0)
      (subst (λ (bs : List Block). LeavesOutside has.leaves.words bs schedule.seats schedule.lines.items at has.value) (sym heaps.1)
      (subst (λ n. LeavesOutside has.leaves.words has.leaves.held n schedule.lines.items at has.value) (sym schedules.0)
      (subst (λ (ls : List (ℕ × Event)). LeavesOutside has.leaves.words has.leaves.held has.leaves.schedule.seats ls at has.value)
      (sym schedules.1) has.leaves.leaves)))

  none_printed : (text : List ℕ) → ReplaysNamed contents left name text → ⊥
  none_printed text made =
      never_both made.words made.held made.schedule.seats made.schedule.lines.items text at has.value made.replays
      (leaves_too made.words made.held made.schedule made.heap made.has_schedule)

  by_replay : (read_failed : Type 0) (status : ℕ) (fault : Fault) → status ≡ status_of fault
      → IsReplayFault contents left name read_failed fault → IsOutsideOr status
  by_replay read_failed status Memory is why = inr (inl is)
  by_replay read_failed status ReadFault is why = inr (inr is)
  by_replay read_failed status (Outside place value) is why = inl is
  by_replay read_failed status (BadStep line) is why = absurd (no_bad_step left line has.schedule why)
  by_replay read_failed status TooLong is why = absurd (not_too_much left has.schedule why)
  by_replay read_failed status other is why = absurd why

module _ (words : List (List ℕ)) (command : Command) (old new : Contents) (left taken taken' : Option (List ℕ)) (status : ℕ)
    (asked : Asks words command) where
  pub done_outside_left : IsCarriedOut command old new left taken taken' → (name : List ℕ) (at : ℕ) → AsksForReplay words name
      → HoldsOutsideLeft old name left at → IsOutsideOr status
  done_outside_left is name at asks has =
      let same : command ≡ replay_image name asks.seed = one_command words command (replay_image name asks.seed) asked asks.asked in
      let made = subst (λ (c : Command). Makes c old left is.image is.text) same is.made in
      absurd (none_printed old name left at has is.text made.1)

  pub stops_outside_left : (store_failed source_failed : Type 0) (faults between : ℕ) (fault : Fault)
      → IsStopped command old new left store_failed source_failed faults between taken taken' fault → status ≡ status_of fault
      → (name : List ℕ) (at : ℕ) → AsksForReplay words name → HoldsOutsideLeft old name left at → IsOutsideOr status
  stops_outside_left store_failed source_failed faults between fault stopped is name at asks has =
      let same : command ≡ replay_image name asks.seed = one_command words command (replay_image name asks.seed) asked asks.asked in
      elim stopped.cause as (λ _. IsOutsideOr status) [
        | inl (inl why, untouched) ↦ inr (by_image old name asks.seed store_failed status fault has.image is
            (subst (λ (c : Command). Refuses c old store_failed fault) same why))
        | inl (inr (inl trace), untouched) ↦ absurd (subst RunsATrace same trace.runs)
        | inl (inr (inr replay), untouched) ↦
            let why = subst (λ (c : Command). IsReplayFault old left (image_name c) source_failed fault) same replay.why in
            by_replay old name left at has source_failed status fault is why
        | inr (image, text, made, why) ↦
            let made_here = subst (λ (c : Command). Makes c old left image text) same made in
            absurd (none_printed old name left at has text made_here.1)
      ]
