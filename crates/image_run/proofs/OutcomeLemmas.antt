-- A replay has one outcome, but for what a crash leaves at random.
use Rattle.std.proofs.Common.{◌≡◌, ℕ, nat_eq, List, [], ◌++◌, slice_index, ap, sym, subst, ◌∙◌}
use Rattle.heap_model.specs.declared.block.Block.{Block}
use Rattle.heap_model.specs.Geometry.{clean}
use Rattle.heap_model.specs.Image.{Image}
use Rattle.heap_model.specs.Header.{capacity_of, state_of}
use Rattle.heap_model.specs.Blocks.{Layout}
use Rattle.heap_model.specs.Durability.{IsCrashImage}
use Rattle.core_model.specs.declared.answer.StepAnswer.{StepAnswer}
use Rattle.core_model.specs.declared.event.Event.{Event}
use Rattle.core_model.specs.Memory.{memory_of}
use Rattle.core_model.specs.Held.{durable_image}
use Rattle.core_model.specs.Steps.{TableState}
use Rattle.core_model.proofs.OutcomeLemmas.{one_run}
use Rattle.core_model.proofs.AlikeLemmas.{same_layout, same_reach_in, same_outside_in}
use Rattle.heap_recover.proofs.AscendingLemmas.{ascending_one}
use Rattle.trace_text.specs.Answered.{answers_text_of, tickets_line_of}
use Rattle.trace_text.specs.Report.{report_of}
use Rattle.dict_model.specs.Links.{dict_links}
use Rattle.image_run.specs.Reporting.{IsKept, PointsOutside, TellsHeap}
use Rattle.image_run.specs.Replaying.{events_of, last_answers, replay_setup, replay_opening, IsReplayed, Replays, LeavesOutside}

module _ (words : List ℕ) (held : List Block) (seats : ℕ) (lines : List (ℕ × Event)) (answers answers' : List StepAnswer) (tickets tickets' : ℕ)
    (left left' : List ℕ)
    (is : IsReplayed words held seats lines answers tickets left) (too : IsReplayed words held seats lines answers' tickets' left') where
  one : (answers ≡ answers') × (is.state ≡ too.state)
  one = one_run (replay_setup words seats) (replay_opening words held seats) is.state too.state (events_of lines) answers answers' is.runs too.runs

  pub one_answers : answers' ≡ answers
  one_answers = sym one.0

  pub one_tickets : tickets' ≡ tickets
  one_tickets = too.tickets_are ∙ ap (λ (s : TableState). (memory_of (capacity_of (slice_index words)) s.words).drawn) (sym one.1) ∙ sym is.tickets_are

  -- both images are what a crash may leave of one state
  left_too : IsCrashImage (durable_image (capacity_of (slice_index words)) is.state.words) (slice_index left')
  left_too = subst (λ (s : TableState). IsCrashImage (durable_image (capacity_of (slice_index words)) s.words) (slice_index left'))
      (sym one.1) too.left_is

  pub one_outside : (at : ℕ) → PointsOutside (slice_index left) at → PointsOutside (slice_index left') at × (slice_index left' at ≡ slice_index left at)
  one_outside = same_outside_in (durable_image (capacity_of (slice_index words)) is.state.words) (slice_index left)
      (slice_index left') is.left_is left_too dict_links

  -- they are recovered to the same blocks, so the report on them is one
  kept_too : (image other : Image) → IsCrashImage (durable_image (capacity_of (slice_index words)) is.state.words) image
      → IsCrashImage (durable_image (capacity_of (slice_index words)) is.state.words) other → (b : Block) → IsKept image b → IsKept other b
  kept_too image other crash crash' b kept = record {
    kind = kept.kind;
    reach = same_reach_in (durable_image (capacity_of (slice_index words)) is.state.words) image other crash crash' dict_links b kept.kind kept.reach;
  }

  pub one_report : (report report' : List ℕ) → TellsHeap (slice_index left) report → TellsHeap (slice_index left') report' → report' ≡ report
  one_report report report' tells tells' =
      let durable = durable_image (capacity_of (slice_index words)) is.state.words in
      let held : tells'.held ≡ tells.held =
      ascending_one (λ (b : Block). b.first_word) (IsKept (slice_index left')) (IsKept (slice_index left)) tells'.held tells.held
      (kept_too (slice_index left') (slice_index left) left_too is.left_is)
      (kept_too (slice_index left) (slice_index left') is.left_is left_too) tells'.recovered.held_are tells.recovered.held_are in
      let capacity : capacity_of (slice_index left') ≡ capacity_of (slice_index left) =
      ap (λ (l : Layout). l.capacity) (same_layout durable (slice_index left) (slice_index left') is.left_is left_too) in
      let state : state_of (slice_index left') ≡ state_of (slice_index left) = left_too.state ∙ sym is.left_is.state in
      tells'.text_is
      ∙ ap (λ c. report_of c (nat_eq (state_of (slice_index left')) clean) [] tells'.held) capacity
      ∙ ap (λ n. report_of (capacity_of (slice_index left)) (nat_eq n clean) [] tells'.held) state
      ∙ ap (λ (bs : List Block). report_of (capacity_of (slice_index left)) (nat_eq (state_of (slice_index left)) clean) [] bs) held
      ∙ sym tells.text_is

-- so a replay prints one text
pub one_text : (words : List ℕ) (held : List Block) (seats : ℕ) (lines : List (ℕ × Event)) (text text' : List ℕ)
    → Replays words held seats lines text → Replays words held seats lines text' → text' ≡ text
one_text words held seats lines text text' is too =
    let answers = one_answers words held seats lines is.answers too.answers is.tickets too.tickets is.left too.left is.replayed too.replayed in
    let tickets = one_tickets words held seats lines is.answers too.answers is.tickets too.tickets is.left too.left is.replayed too.replayed in
    let report = one_report words held seats lines is.answers too.answers is.tickets too.tickets is.left too.left is.replayed too.replayed
    is.report too.report is.tells too.tells in
    too.text_is
    ∙ ap (λ (l : List StepAnswer). answers_text_of (last_answers lines l) ++ tickets_line_of too.tickets ++ too.report) answers
    ∙ ap (λ n. answers_text_of (last_answers lines is.answers) ++ tickets_line_of n ++ too.report) tickets
    ∙ ap (λ (l : List ℕ). answers_text_of (last_answers lines is.answers) ++ tickets_line_of is.tickets ++ l) report
    ∙ sym is.text_is

-- where a replay leaves a word outside, each image that the crash may leave has it, with its value
pub left_in_each : (words : List ℕ) (held : List Block) (seats : ℕ) (lines : List (ℕ × Event)) (at value : ℕ)
    → LeavesOutside words held seats lines at value
    → (answers : List StepAnswer) (tickets : ℕ) (left : List ℕ) → IsReplayed words held seats lines answers tickets left
    → PointsOutside (slice_index left) at × (slice_index left at ≡ value)
left_in_each words held seats lines at value leaves answers tickets left is =
    let there = one_outside words held seats lines leaves.answers answers leaves.tickets tickets leaves.left left leaves.replayed is at leaves.points in
    (there.0, there.1 ∙ sym leaves.value_is)

-- and no text is printed of it
pub never_both : (words : List ℕ) (held : List Block) (seats : ℕ) (lines : List (ℕ × Event)) (text : List ℕ) (at value : ℕ)
    → Replays words held seats lines text → LeavesOutside words held seats lines at value → ⊥
never_both words held seats lines text at value replays leaves =
    replays.inside at (left_in_each words held seats lines at value leaves replays.answers replays.tickets replays.left replays.replayed).0
